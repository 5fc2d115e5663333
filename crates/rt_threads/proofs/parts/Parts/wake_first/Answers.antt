use Rattle.std.proofs.Common.{arith}
use Rattle.rt_threads.proofs.Places.{first_within, first_leaves, handle_within, condition_named}
use Rattle.rt_threads.proofs.parts.Parts.wake_first.Goals as goal

pub regain-requires-clause-thread : goal.regain-requires-clause-thread
regain-requires-clause-thread c = rw c.in_ok-first.ensures.rest (first_within c.args.self.now c.in_ok-first.first c.args.cond c.requires.stands c.in_ok-first.ensures.first)

pub regain-requires-clause-nowhere : goal.regain-requires-clause-nowhere
regain-requires-clause-nowhere c =
    rw c.in_ok-first.ensures.rest (first_leaves c.args.self.now c.in_ok-first.first c.args.cond c.requires.stands (omega (arith, handle_within c.args.self.now c.args.cond (condition_named _ c.requires.condition), c.requires.stands.ids)) c.in_ok-first.ensures.first)
