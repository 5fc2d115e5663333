use Rattle.std.proofs.Common.{◌∙◌, ap, [], ◌∷◌, ◌++◌}
use Rattle.rt_threads.proofs.Moved.{linked_queue, lists_queue, linked_member, lists_member}
use Rattle.rt_threads.proofs.queues.Queues.add_member.Goals as goal

pub invariant_of-self-2 : goal.invariant_of-self-2
invariant_of-self-2 c = rw (c.in_ok-push.ensures.items, c.in-Ok.ensures.items, c.in_ok-reserve.ensures.items) (linked_queue _ _ (linked_member _ _ c.self.invariant))

pub returns-clause-lists : goal.returns-clause-lists
returns-clause-lists c = rw (c.in_ok-push.ensures.items, c.in-Ok.ensures.items, c.in_ok-reserve.ensures.items, ← c.self.view_is) (lists_queue _ _ ∙ ap (λ z. z ++ [] ∷ []) (lists_member _ _ c.self.invariant))
