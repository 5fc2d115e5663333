use Rattle.rt_threads.proofs.Moved.{push_step}
use Rattle.rt_threads.proofs.queues.Queues.push.Goals as goal

pub link-ends-requires-clause-last : goal.link-ends-requires-clause-last
link-ends-requires-clause-last c = (push_step _ _ _ c.args.member _ _ c.self.view_is c.self.invariant c.requires.queue c.requires.member c.requires.nowhere c.index-ends.ensures).last

pub invariant_of-self : goal.invariant_of-self
invariant_of-self c = rw (c.link-ends.ensures.behind, c.link-ends.ensures.ends) (push_step _ _ _ c.args.member _ _ c.self.view_is c.self.invariant c.requires.queue c.requires.member c.requires.nowhere c.index-ends.ensures).stands

pub returns-clause-lists : goal.returns-clause-lists
returns-clause-lists c = rw (c.link-ends.ensures.behind, c.link-ends.ensures.ends) (push_step _ _ _ c.args.member _ _ c.self.view_is c.self.invariant c.requires.queue c.requires.member c.requires.nowhere c.index-ends.ensures).lists

pub returns-clause-members : goal.returns-clause-members
returns-clause-members c = rw (c.link-ends.ensures.behind) (push_step _ _ _ c.args.member _ _ c.self.view_is c.self.invariant c.requires.queue c.requires.member c.requires.nowhere c.index-ends.ensures).members
