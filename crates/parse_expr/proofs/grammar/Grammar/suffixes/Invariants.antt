use Rattle.std.proofs.Common.{◌≡◌, ◌≤◌, ◌+◌, ◌-◌}
use Rattle.parse_expr.specs.Expr.{expr, suffixes, suffixes_from}
use Rattle.parse_expr.proofs.grammar.Grammar.suffixes.Given as goal

abbrev pub invariant-loop-turn : goal.invariant-loop-turn
invariant-loop-turn g l = record {
  reads : suffixes (expr l.self.room) l.self.room l.fn.first l.fn.cursor ≡ suffixes_from (expr l.self.room) l.self.room (l._turn-end - l._turn) l.left l.cursor;
  deep : l.left.1 ≤ l.self.room + 1;
}
