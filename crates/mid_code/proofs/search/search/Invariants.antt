use Rattle.std.proofs.Common.{◌≡◌, ◌<◌, true, length}
use Rattle.mid_code.specs.Paths.{AreReached, marked, unmarked}
use Rattle.mid_code.proofs.search.search.Given as goal

-- what is marked is reached, and the beginning is marked
abbrev pub invariant-loop-r : goal.invariant-loop-r
invariant-loop-r l = (length l.marks.items ≡ length l.ops) × AreReached l.ops l.r l.marks.items × (0 < length l.ops → marked l.marks.items 0 ≡ true)

abbrev pub decreases-loop-r : goal.decreases-loop-r
decreases-loop-r l = unmarked l.marks.items
