use Rattle.std.proofs.Common.{subst, sym}
use Rattle.rt_threads.specs.Standing.{Stands}
use Rattle.rt_threads.proofs.Places.{first_within}
use Rattle.rt_threads.proofs.Standing.{ended_stands}
use Rattle.rt_threads.proofs.parts.Parts.end.Goals as goal

pub set_ready-requires : goal.set_ready-requires
set_ready-requires c =
    rw c.in-Some.ensures.rest (first_within c.set_state.new.self c.in-Some.first _ (subst Stands (sym c.set_state.ensures) (ended_stands c.args.self.now c.args.t c.requires.stands c.requires.ready)) c.in-Some.ensures.first)
