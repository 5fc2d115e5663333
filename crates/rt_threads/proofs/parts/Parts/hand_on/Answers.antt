use Rattle.rt_threads.proofs.Places.{first_within}
use Rattle.rt_threads.proofs.parts.Parts.hand_on.Goals as goal

pub set_ready-requires : goal.set_ready-requires
set_ready-requires c = rw c.in-Some.ensures.rest (first_within _ _ _ c.requires.stands c.in-Some.ensures.first)
