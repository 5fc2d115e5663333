use Rattle.std.proofs.Common.{◌≡◌, ◌≤◌, ◌-◌, length, []}
use Rattle.parse_expr.specs.Expr.{expr, arguments_from}
use Rattle.parse_expr.proofs.grammar.Grammar.some_arguments.Given as goal

abbrev pub invariant-loop-turn : goal.invariant-loop-turn
invariant-loop-turn g l = record {
  reads : arguments_from (expr l.self.room) l.self.room (length l.fn.cursor) [] l.fn.deepest l.fn.cursor ≡ arguments_from (expr l.self.room) l.self.room (l._turn-end - l._turn) l.found l.deepest l.cursor;
  deep : l.deepest ≤ l.self.room;
}
