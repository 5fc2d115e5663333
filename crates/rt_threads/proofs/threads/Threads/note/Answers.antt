use Rattle.rt_threads.specs.Table.{IsReady}
use Rattle.rt_threads.proofs.Kept.{kept_ready}
use Rattle.rt_threads.proofs.threads.Threads.note.Goals as goal

pub invariant_of-self : goal.invariant_of-self
invariant_of-self c =
    let ready : IsReady c.self.inside.parts c.args.t = rw c.self.view_is c.requires in
    rw c.set_ready.ensures (kept_ready c.self.inside.parts c.args.t c.args.now _ _ c.self.invariant ready)
