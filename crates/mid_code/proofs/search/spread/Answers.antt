use Rattle.mid_code.proofs.Marks.{spread_more}
use Rattle.mid_code.proofs.search.spread.Goals as goal

pub loop-i-preserved : goal.loop-i-preserved
loop-i-preserved c = spread_more c.args.ops.now c.args.r _ _ _ c.loop-i.changed c.spread_at-more.result c.loop-i.i c.loop-i.invariant.0 c.loop-i.invariant.1 c.spread_at-more.ensures.grows c.spread_at-more.ensures.closed
