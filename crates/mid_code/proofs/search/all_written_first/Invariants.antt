use Rattle.std.proofs.Common.{ℕ, ◌<◌}
use Rattle.mid_code.specs.Covers.{AreSettled, IsCover}
use Rattle.mid_code.proofs.search.all_written_first.Given as goal

-- the reads so far
abbrev pub invariant-loop-i : goal.invariant-loop-i
invariant-loop-i l = record {
  cover : IsCover l.ops l.cover;
  settled : (k : ℕ) → k < l.i → AreSettled l.ops k;
}
