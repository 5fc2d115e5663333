use Rattle.str_heap.proofs.Live.{assigns, assigned_keeps}
use Rattle.str_heap.proofs.heap.Heap.assign.Goals as goal

pub returns-clause-assigned : goal.returns-clause-assigned
returns-clause-assigned c = assigns _ _ _ _ _ _ c.requires c.in_ok-assigned.ensures.stored c.release.ensures.released

pub returns-clause-kept : goal.returns-clause-kept
returns-clause-kept c = assigned_keeps _ _ _ _ _ _ c.in_ok-assigned.ensures.stored c.release.ensures.released
