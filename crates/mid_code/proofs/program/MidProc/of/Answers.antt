use Rattle.mid_code.proofs.Marks.{kept_of}
use Rattle.mid_code.proofs.program.MidProc.of.Goals as goal

pub invariant_of-result : goal.invariant_of-result
invariant_of-result c = kept_of c.args.ops.items c.targets_exist-targets.result c.in_ok-written.written c.requires (rw c.deref.ensures.value at c.targets_exist-targets.ensures) (rw c.deref-2.ensures.value at c.in_ok-written.ensures)
