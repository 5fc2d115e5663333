use Rattle.rt_threads.specs.Lists.{IsRising}
use Rattle.rt_threads.proofs.Rising.{found_one, found_none}
use Rattle.rt_threads.proofs.threads.leave.Goals as goal

pub returns-in-Ok : goal.returns-in-Ok
returns-in-Ok c =
    let rising : IsRising c.deref.result.now = rw c.deref.ensures.value c.requires in
    rw (c.remove.ensures.items, ← c.deref.ensures.value) (found_one c.deref.result.now c.args.t c.in-Ok.at rising c.in-Ok.ensures.position c.in-Ok.ensures.bound)

pub returns-in_default : goal.returns-in_default
returns-in_default c =
    let rising : IsRising c.deref.result.now = rw c.deref.ensures.value c.requires in
    rw (← c.deref.ensures.value) (found_none c.deref.result.now c.args.t c.in_default.field-0 rising c.in_default.ensures.position)
