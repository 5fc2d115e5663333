use Rattle.std.proofs.Common.{arith, refl}
use Rattle.mid_code.proofs.Marks.{inside_op}
use Rattle.mid_code.proofs.Covers.{nested_more}
use Rattle.mid_code.proofs.cover.are_nested.Goals as goal

pub loop-i-preserved : goal.loop-i-preserved
loop-i-preserved c =
    nested_more c.args.ops.now c.args.ends.now.items c.loop-i.i _ c.loop-i-test.true c.requires.most c.requires.ends c.loop-i.invariant (c.if-not-leads_within.ensures refl)

pub returns : goal.returns
returns c = λ t i to op is. c.loop-i.invariant i to op (omega (arith, c.loop-i-test.false, inside_op c.args.ops.now i op is)) is
