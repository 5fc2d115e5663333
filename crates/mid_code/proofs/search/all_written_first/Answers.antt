use Rattle.std.proofs.Common.{refl, arith, below_more}
use Rattle.mid_code.specs.Covers.{AreSettled}
use Rattle.mid_code.proofs.Marks.{inside_op}
use Rattle.mid_code.proofs.Covers.{all_settled}
use Rattle.mid_code.proofs.search.all_written_first.Goals as goal

pub loop-i-preserved : goal.loop-i-preserved
loop-i-preserved c = record {
  cover = c.note_write.ensures;
  settled = below_more (λ k. AreSettled c.args.ops.now k) c.loop-i.i c.loop-i.invariant.settled (c.in_ok-are_settled.ensures.yes c.if-not-branch.false);
}

pub returns : goal.returns
returns c =
    ((λ t. all_settled c.args.ops.now (λ i op is. c.loop-i.invariant.settled i (omega (arith, c.loop-i-test.false, inside_op c.args.ops.now i op is)))), (λ first. refl))
