use Rattle.std.proofs.Common.{◌≡◌, Some, refl}
use Rattle.rv_isa.specs.Machine as isa
use Rattle.rv_step.specs.State.{cpu_of, machine_of}
use Rattle.rv_step.proofs.Plans.{step_is, step_sees, calls_at}
use Rattle.rv_step.proofs.machine.step.Goals as goal

pub returns-in-Some-clause-steps : goal.returns-in-Some-clause-steps
returns-in-Some-clause-steps g c =
    let h : isa.Machine = machine_of c.args.program.now c.args.cpu.now.low in
    let old : isa.Cpu = cpu_of c.args.cpu.now in
    let f : isa.fetched h old.pc ≡ Some c.in-Some.inst = rw (← c.pc.ensures) c.in-Some.ensures.value in
    step_is h old (cpu_of c.carry_out.new.cpu) (g.B.Bus.mem c.args.bus.now) (g.B.Bus.mem c.carry_out.new.bus) c.carry_out.result (isa.fetched h old.pc) c.in-Some.inst c.plan_for-planned.result f c.in-Some.ensures.ranges c.plan_for-planned.ensures (c.carry_out.ensures.steps h refl)

pub returns-in-Some-clause-call : goal.returns-in-Some-clause-call
returns-in-Some-clause-call g c =
    let h : isa.Machine = machine_of c.args.program.now c.args.cpu.now.low in
    let old : isa.Cpu = cpu_of c.args.cpu.now in
    let f : isa.fetched h old.pc ≡ Some c.in-Some.inst = rw (← c.pc.ensures) c.in-Some.ensures.value in
    calls_at old c.carry_out.result (isa.fetched h old.pc) c.in-Some.inst c.plan_for-planned.result f c.plan_for-planned.ensures c.carry_out.ensures.call

pub returns-in-Some-clause-seen : goal.returns-in-Some-clause-seen
returns-in-Some-clause-seen g c =
    let h : isa.Machine = machine_of c.args.program.now c.args.cpu.now.low in
    let old : isa.Cpu = cpu_of c.args.cpu.now in
    let f : isa.fetched h old.pc ≡ Some c.in-Some.inst = rw (← c.pc.ensures) c.in-Some.ensures.value in
    step_sees h old (g.B.Bus.at c.args.bus.now) (g.B.Bus.seen c.args.bus.now) (g.B.Bus.seen c.carry_out.new.bus) c.carry_out.result (isa.fetched h old.pc) c.in-Some.inst c.plan_for-planned.result f c.in-Some.ensures.ranges c.plan_for-planned.ensures (c.carry_out.ensures.seen h refl)
