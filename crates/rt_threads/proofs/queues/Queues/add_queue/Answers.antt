use Rattle.rt_threads.proofs.Moved.{linked_queue, lists_queue}
use Rattle.rt_threads.proofs.queues.Queues.add_queue.Goals as goal

pub invariant_of-self-2 : goal.invariant_of-self-2
invariant_of-self-2 c = rw c.in_ok-push.ensures.items (linked_queue _ _ c.self.invariant)

pub returns-clause-lists : goal.returns-clause-lists
returns-clause-lists c = rw (c.in_ok-push.ensures.items, ← c.self.view_is) (lists_queue _ _)
