use Rattle.std.proofs.Common.{◌≡◌, Ok, subst, sym}
use Rattle.rv_isa.specs.Machine as isa
use Rattle.rv_step.specs.State.{cpu_of}
use Rattle.rv_step.specs.Step.{StepsTo}
use Rattle.rv_step.specs.declared.stop.Stop.TheVariants as stops
use Rattle.rv_step.proofs.Plans.{asked, asks_none}
use Rattle.rv_step.proofs.machine.carry_out.Goals as goal

pub returns-in-Value-clause-steps : goal.returns-in-Value-clause-steps
returns-in-Value-clause-steps g c = λ h e. rw c.in-Value.is (c.put.ensures.steps (g.B.Bus.mem c.args.bus.now))

pub returns-in-Load-clause-steps : goal.returns-in-Load-clause-steps
returns-in-Load-clause-steps g c = λ h e. rw c.in-Load.is (c.load.ensures.steps h e)

pub returns-in-Store-clause-steps : goal.returns-in-Store-clause-steps
returns-in-Store-clause-steps g c = λ h e. rw c.in-Store.is (c.store.ensures.steps h e)

pub returns-in-Jump-clause-steps : goal.returns-in-Jump-clause-steps
returns-in-Jump-clause-steps g c = λ h e. rw c.in-Jump.is (c.jump.ensures.steps h (g.B.Bus.mem c.args.bus.now))

pub returns-in-Call-clause-steps : goal.returns-in-Call-clause-steps
returns-in-Call-clause-steps g c = λ h e.
    let old : isa.Cpu = cpu_of c.args.cpu.now in
    let m = g.B.Bus.mem c.args.bus.now in
    rw c.in-Call.is (subst (λ k. StepsTo (isa.asks h old) old k m m (Ok stops.Call)) (sym c.pass-in-Call.ensures.state) (asked h old m))

pub returns-in-Value-clause-seen : goal.returns-in-Value-clause-seen
returns-in-Value-clause-seen g c = λ h e. rw c.in-Value.is (c.put.ensures.seen (g.B.Bus.at c.args.bus.now) (g.B.Bus.seen c.args.bus.now))

pub returns-in-Load-clause-seen : goal.returns-in-Load-clause-seen
returns-in-Load-clause-seen g c = λ h e. rw c.in-Load.is (c.load.ensures.seen h e)

pub returns-in-Store-clause-seen : goal.returns-in-Store-clause-seen
returns-in-Store-clause-seen g c = λ h e. rw c.in-Store.is (c.store.ensures.seen h e)

pub returns-in-Jump-clause-seen : goal.returns-in-Jump-clause-seen
returns-in-Jump-clause-seen g c = λ h e. rw c.in-Jump.is (c.jump.ensures.seen h (g.B.Bus.at c.args.bus.now) (g.B.Bus.seen c.args.bus.now))

pub returns-in-Call-clause-seen : goal.returns-in-Call-clause-seen
returns-in-Call-clause-seen g c = λ h e. rw c.in-Call.is (asks_none h (cpu_of c.args.cpu.now) (g.B.Bus.at c.args.bus.now) (g.B.Bus.seen c.args.bus.now))
