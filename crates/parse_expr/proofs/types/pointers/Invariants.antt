use Rattle.std.proofs.Common.{◌≡◌, length}
use Rattle.parse_expr.specs.Types.{behind_pointers}
use Rattle.parse_expr.proofs.types.pointers.Given as goal

abbrev pub invariant-loop-cursor : goal.invariant-loop-cursor
invariant-loop-cursor l = record {
  behind : behind_pointers l.fn.cursor ≡ behind_pointers l.cursor;
  before : l.before ≡ length l.fn.cursor;
}

abbrev pub decreases-loop-cursor : goal.decreases-loop-cursor
decreases-loop-cursor l = length l.cursor
