use Rattle.std.proofs.Common.{refl, sym, length, arith}
use Rattle.mid_code.proofs.Marks.{not_false, inside_op, op_here, each_more}
use Rattle.mid_code.proofs.search.targets_exist.Goals as goal

pub returns-then-not-has_target : goal.returns-then-not-has_target
returns-then-not-has_target c = ((λ f. absurd (not_false (sym f))), (λ all. c.if-not-has_target.ensures.1 (all c.loop-i.i _ (op_here c.args.ops.now c.loop-i.i _ c.loop-i-test.true))))

pub loop-i-preserved : goal.loop-i-preserved
loop-i-preserved c = each_more c.args.ops.now (length c.args.ops.now) c.loop-i.i _ c.loop-i.invariant c.loop-i-test.true (c.if-not-has_target.ensures.0 refl)

pub returns : goal.returns
returns c = ((λ t i op is. c.loop-i.invariant i op (omega (arith, c.loop-i-test.false, inside_op c.args.ops.now i op is)) is), (λ all. refl))
