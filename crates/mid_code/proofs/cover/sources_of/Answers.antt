use Rattle.std.proofs.Common.{◌∙◌}
use Rattle.mid_code.proofs.Covers.{sources_more}
use Rattle.mid_code.proofs.cover.sources_of.Goals as goal

pub loop-i-preserved : goal.loop-i-preserved
loop-i-preserved c = record {
  long = c.note_source.ensures.long ∙ c.loop-i.invariant.long;
  sources = sources_more c.args.ops.now c.loop-i.sources.items c.note_source.new.sources.items c.loop-i.i _ c.loop-i-test.true c.loop-i.invariant.sources c.note_source.ensures.less (λ to target within. c.note_source.ensures.there to target (rw c.loop-i.invariant.long within));
}
