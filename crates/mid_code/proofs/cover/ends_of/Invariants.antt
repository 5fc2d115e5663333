use Rattle.std.proofs.Common.{◌≡◌, length}
use Rattle.mid_code.specs.Covers.{AreAtMost, HasEnds, HaveGaps}
use Rattle.mid_code.proofs.cover.ends_of.Given as goal

-- the jumps to positions so far
abbrev pub invariant-loop-p : goal.invariant-loop-p
invariant-loop-p l = record {
  long : length l.ends.items ≡ length l.ops;
  as_long : length l.gaps.items ≡ length l.ops;
  most : AreAtMost (length l.ops) l.ends.items;
  gaps : HaveGaps l.ends.items l.gaps.items l.p;
  ends : HasEnds l.ops l.ends.items l.p;
}
