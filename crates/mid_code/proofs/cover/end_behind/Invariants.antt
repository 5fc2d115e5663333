use Rattle.std.proofs.Common.{◌≡◌, ◌≤◌, length}
use Rattle.mid_code.specs.Covers.{AreLess, EndBetween}
use Rattle.mid_code.proofs.cover.end_behind.Given as goal

-- the positions from `low` on end
abbrev pub invariant-loop-top : goal.invariant-loop-top
invariant-loop-top l = record {
  long : length l.ends.items ≡ length l.initial.ends.items;
  less : AreLess l.ends.items l.initial.ends.items;
  below : l.low ≤ l.p;
  ends : EndBetween l.ends.items l.low l.p;
}

abbrev pub decreases-loop-top : goal.decreases-loop-top
decreases-loop-top l = l.low
