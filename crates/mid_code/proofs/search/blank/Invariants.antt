use Rattle.std.proofs.Common.{◌≡◌, ℕ, false, length}
use Rattle.mid_code.specs.Paths.{marked}
use Rattle.mid_code.proofs.search.blank.Given as goal

abbrev pub invariant-loop-one : goal.invariant-loop-one
invariant-loop-one l = (length l.marks.items ≡ l._one-index) × ((i : ℕ) → marked l.marks.items i ≡ false)
