use Rattle.std.proofs.Common.{◌≡◌, ℕ, ◌<◌, false}
use Rattle.mid_code.specs.Paths.{Grows, IsClosedAt}
use Rattle.mid_code.proofs.search.spread.Given as goal

-- the marks have grown, or none has come and none is missing so far
abbrev pub invariant-loop-i : goal.invariant-loop-i
invariant-loop-i l = Grows l.ops l.r l.initial.marks.items l.marks.items l.changed × (l.changed ≡ false → (k : ℕ) → k < l.i → IsClosedAt l.ops l.r l.marks.items k)
