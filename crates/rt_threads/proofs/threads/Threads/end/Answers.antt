use Rattle.rt_threads.specs.Table.{IsReady}
use Rattle.rt_threads.specs.Rows.{goes_on}
use Rattle.rt_threads.proofs.Rising.{numbers_rise}
use Rattle.rt_threads.proofs.Woken.{ended_kept}
use Rattle.rt_threads.proofs.threads.Threads.end.Goals as goal

pub leave-requires : goal.leave-requires
leave-requires c = rw c.self.invariant.rising (numbers_rise goes_on 0 c.self.inside.parts.threads)

pub invariant_of-self : goal.invariant_of-self
invariant_of-self c =
    let ready : IsReady c.self.inside.parts c.args.t = rw c.self.view_is c.requires in
    rw (c.end.ensures, c.leave.ensures) (ended_kept c.self.inside.parts c.args.t c.args.now _ _ c.self.invariant ready)
