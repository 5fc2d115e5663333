use Rattle.rt_threads.proofs.Grown.{new_kept}
use Rattle.rt_threads.proofs.threads.Threads.mutex_create.Goals as goal

pub invariant_of-self-2 : goal.invariant_of-self-2
invariant_of-self-2 c = rw (c.in_ok-id.ensures.ok, c.in-Ok.ensures.items, c.in_ok-reserve.ensures.items) (new_kept _ _ _ _ c.self.invariant)
