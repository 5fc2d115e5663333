use Rattle.std.proofs.Common.{◌≡◌, ◌≤◌, ◌+◌, ◌-◌}
use Rattle.parse_expr.specs.Expr.{expr, climb, climb_from}
use Rattle.parse_expr.proofs.grammar.Grammar.climb.Given as goal

abbrev pub invariant-loop-turn : goal.invariant-loop-turn
invariant-loop-turn g l = record {
  reads : climb (expr l.self.room) l.self.room l.least l.fn.first l.fn.cursor ≡ climb_from (expr l.self.room) l.self.room l.least (l._turn-end - l._turn) l.left l.cursor;
  deep : l.left.1 ≤ l.self.room + 1;
}
