use Rattle.std.proofs.Common.{arith, ◌<◌, length}
use Rattle.rt_threads.proofs.Moved.{pop_within, pop_step}
use Rattle.rt_threads.proofs.queues.Queues.pop.Goals as goal

pub index-second-requires : goal.index-second-requires
index-second-requires c =
    let within : c.in_ok-ends.ends.first < length c.self.inside.behind.items = pop_within _ _ _ _ _ c.self.view_is c.self.invariant c.requires (rw c.in_ok-ends.was at c.index.ensures) in
    omega (arith, within, c.self.inside.behind.ok.0)

pub invariant_of-self : goal.invariant_of-self
invariant_of-self c = rw c.shorten.ensures (pop_step _ _ _ _ _ _ c.self.view_is c.self.invariant c.requires (rw c.in_ok-ends.was at c.index.ensures) c.index-second.ensures).stands

pub returns-clause-first : goal.returns-clause-first
returns-clause-first c = (pop_step _ _ _ _ _ _ c.self.view_is c.self.invariant c.requires (rw c.in_ok-ends.was at c.index.ensures) c.index-second.ensures).first

pub returns-clause-rest : goal.returns-clause-rest
returns-clause-rest c = rw c.shorten.ensures (pop_step _ _ _ _ _ _ c.self.view_is c.self.invariant c.requires (rw c.in_ok-ends.was at c.index.ensures) c.index-second.ensures).lists
