use Rattle.std.proofs.Common.{◌≡◌, ◌∙◌, ap, arith}
use Rattle.parse_expr.specs.Expr.{expr}
use Rattle.parse_expr.proofs.Turns.{deeper}
use Rattle.parse_expr.proofs.grammar.+expr_in.Goals as goal

pub returns-then-room-eq0-clause-reads : goal.returns-then-room-eq0-clause-reads
unfolding expr
returns-then-room-eq0-clause-reads t c _ = let none : c.args.room ≡ 0 = omega arith in ap (λ n. expr n c.args.least c.args.cursor.now) none ∙ c.no_room.ensures

pub returns-clause-reads : goal.returns-clause-reads
unfolding expr
returns-clause-reads t c = rw (deeper (λ n. expr n c.args.least c.args.cursor.now) c.args.room (omega arith)) c.level.ensures.reads
