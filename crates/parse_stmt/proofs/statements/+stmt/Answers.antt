use Rattle.std.proofs.Common.{◌≡◌, ◌∙◌, ap, arith}
use Rattle.parse_expr.proofs.Turns.{deeper}
use Rattle.parse_stmt.specs.Blocks.{stmt}
use Rattle.parse_stmt.proofs.statements.+stmt.Goals as goal

pub returns-then-room-eq0 : goal.returns-then-room-eq0
unfolding stmt
returns-then-room-eq0 t c _ = let none : c.args.room ≡ 0 = omega arith in ap (λ n. stmt 200 n c.args.spot c.args.cursor.now) none ∙ c.no_room.ensures

pub returns : goal.returns
unfolding stmt
returns t c = rw (deeper (λ n. stmt 200 n c.args.spot c.args.cursor.now) c.args.room (omega arith)) c.statement.ensures
