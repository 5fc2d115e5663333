use Rattle.rt_threads.specs.Table.{IsReady}
use Rattle.rt_threads.proofs.Kept.{destroyed_condition_kept}
use Rattle.rt_threads.proofs.threads.Threads.cond_destroy.Goals as goal

pub invariant_of-self : goal.invariant_of-self
invariant_of-self c =
    let ready : IsReady c.self.inside.parts c.args.t = rw c.self.view_is c.requires in
    destroyed_condition_kept _ _ _ _ _ _ _ _ c.destroy_condition.ensures c.self.invariant ready
