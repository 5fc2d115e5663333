use Rattle.std.proofs.Common.{◌≡◌, length}
use Rattle.mid_code.specs.Covers.{HasSources}
use Rattle.mid_code.proofs.cover.sources_of.Given as goal

-- the jumps so far
abbrev pub invariant-loop-i : goal.invariant-loop-i
invariant-loop-i l = record {
  long : length l.sources.items ≡ length l.ops;
  sources : HasSources l.ops l.sources.items l.i;
}
