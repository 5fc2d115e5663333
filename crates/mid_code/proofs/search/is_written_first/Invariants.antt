use Rattle.std.proofs.Common.{ℕ, ◌<◌}
use Rattle.mid_code.specs.Paths.{IsReadAt}
use Rattle.mid_code.proofs.search.is_written_first.Given as goal

-- the register is read at no marked position so far
abbrev pub invariant-loop-i : goal.invariant-loop-i
invariant-loop-i l = (k : ℕ) → k < l.i → IsReadAt l.ops l.r l.marks.items k → ⊥
