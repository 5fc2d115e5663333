use Rattle.mid_code.proofs.Covers.{covered}
use Rattle.mid_code.proofs.cover.is_covered.Goals as goal

pub returns-then-cover : goal.returns-then-cover
returns-then-cover c = λ t. covered c.args.ops.now (c.requires.nested c.if-cover.true) _ c.args.r c.args.i (c.covers.ensures t)
