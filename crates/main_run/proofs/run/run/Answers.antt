use Rattle.std.proofs.Common.{◌≡◌, ◌+◌, suc, Some, None, refl, sym, ◌∙◌, subst, arith}
use Rattle.thread_system.specs.Replay.{Going}
use Rattle.rv_isa.specs.Machine.{machine_step}
use Rattle.rv_step.specs.State.{cpu_of, machine_of}
use Rattle.main_run.specs.Solo.{HasMade, main_cpu, main_machine}
use Rattle.main_run.specs.Entries.{EntryEndsAs}
use Rattle.main_run.proofs.Runs.{made_none, made_more, run_ends}
use Rattle.main_run.proofs.run.run.Goals as goal

pub entries-init : goal.entries-init
entries-init g c =
    let image = c.args.program.now in
    let old = g.K.Sink.written c.args.out.now in
    record {
      made = subst (λ k. HasMade (machine_step (main_machine image)) c.args.turns (main_cpu image) old old c.args.schedule.now.items 0 (Going k)) (sym c.main_thread-cpu.ensures.state) (made_none (machine_step (main_machine image)) c.args.turns (main_cpu image) old c.args.schedule.now.items c.requires);
      within = omega arith;
      low = c.main_thread-cpu.ensures.low;
      told = refl;
      later = omega arith;
    }

pub entries-preserved : goal.entries-preserved
entries-preserved g c =
    let image = c.args.program.now in
    let step = machine_step (main_machine image) in
    let here = cpu_of c.entries.cpu in
    let next = cpu_of c.do_entry.new.cpu in
    let made = subst (λ low. EntryEndsAs (machine_step (machine_of image low)) c.args.turns here next (g.K.Sink.written c.entries.out) (g.K.Sink.written c.do_entry.new.out) (g.K.Sink.faults c.entries.out) (g.K.Sink.faults c.do_entry.new.out) c.entries.schedule.items c.do_entry.new.schedule.items None) c.entries.invariant.low c.in-None.ensures.ends in
    let one : suc c.entries.made ≡ c.entries.made + 1 = omega arith in
    record {
      made = subst (λ n. HasMade step c.args.turns (main_cpu image) (g.K.Sink.written c.args.out.now) (g.K.Sink.written c.do_entry.new.out) c.do_entry.new.schedule.items n (Going next)) one (made_more step c.args.turns (main_cpu image) (g.K.Sink.written c.args.out.now) (g.K.Sink.written c.entries.out) (g.K.Sink.written c.do_entry.new.out) c.entries.schedule.items c.do_entry.new.schedule.items c.entries.made here (Going next) c.entries.invariant.made made);
      within = omega (arith, c.entries-test.true);
      low = c.in-None.ensures.low ∙ c.entries.invariant.low;
      told = c.entries.invariant.told ∙ c.in-None.ensures.told;
      later = omega (arith, c.entries.invariant.later, c.in-None.ensures.later);
    }

pub returns-in-Some-clause-ends : goal.returns-in-Some-clause-ends
returns-in-Some-clause-ends g c =
    let image = c.args.program.now in
    let here = cpu_of c.entries.cpu in
    let next = cpu_of c.do_entry.new.cpu in
    let ends = subst (λ low. EntryEndsAs (machine_step (machine_of image low)) c.args.turns here next (g.K.Sink.written c.entries.out) (g.K.Sink.written c.do_entry.new.out) (g.K.Sink.faults c.entries.out) (g.K.Sink.faults c.do_entry.new.out) c.entries.schedule.items c.do_entry.new.schedule.items (Some c.in-Some.ending)) c.entries.invariant.low c.in-Some.ensures.ends in
    run_ends (machine_step (main_machine image)) c.args.turns (main_cpu image) c.args.entries (g.K.Sink.written c.args.out.now) (g.K.Sink.written c.entries.out) (g.K.Sink.written c.do_entry.new.out) (g.K.Sink.faults c.args.out.now) (g.K.Sink.faults c.entries.out) (g.K.Sink.faults c.do_entry.new.out) c.entries.schedule.items c.do_entry.new.schedule.items c.entries.made here next c.in-Some.ending c.entries-test.true c.entries.invariant.later c.entries.invariant.made ends

pub returns-clause-ends : goal.returns-clause-ends
returns-clause-ends g c =
    let image = c.args.program.now in
    let here = cpu_of c.entries.cpu in
    let all : c.entries.made ≡ c.args.entries = omega (arith, c.entries-test.false, c.entries.invariant.within) in
    (refl, record { state = here; made = subst (λ n. HasMade (machine_step (main_machine image)) c.args.turns (main_cpu image) (g.K.Sink.written c.args.out.now) (g.K.Sink.written c.entries.out) c.entries.schedule.items n (Going here)) all c.entries.invariant.made })
