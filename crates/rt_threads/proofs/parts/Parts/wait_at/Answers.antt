use Rattle.std.proofs.Common.{ap, ◌∙◌}
use Rattle.rt_threads.specs.Standing.{is_mutex}
use Rattle.rt_threads.proofs.Places.{ready_nowhere, holds_mutex}
use Rattle.rt_threads.proofs.Keeping.{hand_on_stands, hand_on_ready}
use Rattle.rt_threads.proofs.parts.Parts.wait_at.Goals as goal

pub queue-requires-clause-nowhere : goal.queue-requires-clause-nowhere
queue-requires-clause-nowhere c =
    let held = holds_mutex c.handle.result c.args.t c.if-holds.ensures in
    rw c.hand_on.ensures (ready_nowhere _ _ (hand_on_stands c.args.self.now c.args.mutex c.args.now c.requires.stands (ap is_mutex c.handle.ensures ∙ held.0)) (hand_on_ready c.args.self.now c.args.mutex c.args.now c.args.t c.requires.ready))
