use Rattle.std.proofs.Common.{refl, sym, arith}
use Rattle.mid_code.proofs.Marks.{not_false, written_first, read_first}
use Rattle.mid_code.proofs.search.is_written_first.Goals as goal

pub returns-then-is_read_at : goal.returns-then-is_read_at
returns-then-is_read_at c = ((λ f. absurd (not_false (sym f))), (λ written. absurd (read_first c.args.ops.now c.args.r _ c.loop-i.i c.in_ok-marks.ensures (c.if-is_read_at.ensures.0 refl) written)))

pub returns : goal.returns
returns c = ((λ t. written_first c.args.ops.now c.args.r _ c.in_ok-marks.ensures (λ i less. c.loop-i.invariant i (omega (arith, c.loop-i-test.false)))), (λ written. refl))
