use Rattle.rt_threads.proofs.Grown.{created_kept}
use Rattle.rt_threads.proofs.threads.Threads.add_thread.Goals as goal

pub invariant_of-self-2 : goal.invariant_of-self-2
invariant_of-self-2 c =
    rw (c.in_ok-id.ensures.ok, c.in-Ok.ensures.items, c.in_ok-reserve.ensures.items, c.in-Ok-push.ensures.items, c.in_ok-reserve-2.ensures.items, c.count-number.ensures) (created_kept _ _ _ _ _ _ c.self.invariant)
