use Rattle.rt_threads.specs.Table.{IsReady}
use Rattle.rt_threads.proofs.Kept.{locked_kept}
use Rattle.rt_threads.proofs.threads.Threads.lock.Goals as goal

pub invariant_of-self : goal.invariant_of-self
invariant_of-self c =
    let ready : IsReady c.self.inside.parts c.args.t = rw c.self.view_is c.requires in
    locked_kept _ _ _ _ _ _ _ _ c.lock.ensures c.self.invariant ready
