use Rattle.rt_threads.specs.Table.{IsReady}
use Rattle.rt_threads.proofs.Kept.{unlocked_kept}
use Rattle.rt_threads.proofs.threads.Threads.unlock.Goals as goal

pub invariant_of-self : goal.invariant_of-self
invariant_of-self c =
    let ready : IsReady c.self.inside.parts c.args.t = rw c.self.view_is c.requires in
    unlocked_kept _ _ _ _ _ _ _ _ c.unlock.ensures c.self.invariant ready
