use Rattle.std.proofs.Common.{◌-◌, ◌≤◌, length}
use Rattle.str_heap.specs.Blocks.{before}
use Rattle.str_heap.proofs.holes.before.Given as goal

abbrev pub invariant-loop-low : goal.invariant-loop-low
invariant-loop-low l = (l.low ≤ before l.place l.holes) × (before l.place l.holes ≤ l.high) × (l.high ≤ length l.holes)

abbrev pub decreases-loop-low : goal.decreases-loop-low
decreases-loop-low l = l.high - l.low
