use Rattle.std.proofs.Common.{◌≡◌, suc, ◌-◌, length, Ok, refl, ap, sym, ◌∙◌, subst, arith}
use Rattle.rv_isa.specs.Machine.{machine_step, line_at}
use Rattle.rv_step.specs.State.{cpu_of, machine_of}
use Rattle.rv_step.specs.Step.{trap_number}
use Rattle.rv_step.specs.declared.stop.Stop.TheVariants as stops
use Rattle.thread_system.specs.Segment.{Spent, Trapped}
use Rattle.main_run.specs.Entries.{call_end}
use Rattle.main_run.proofs.Segments.{Comes, with_stack, onward, turned, spent_at, calling_at, trapped_at, goes_ahead, less_ahead}
use Rattle.main_run.proofs.segment.segment.Goals as goal

pub steps-smaller-in-Next : goal.steps-smaller-in-Next
steps-smaller-in-Next c =
    let image = c.args.program.now in
    let low = c.args.cpu.now.low in
    let here = cpu_of c.steps.cpu in
    let next = cpu_of c.step.new.cpu in
    let done = with_stack image c.steps.cpu.low low here next (Ok stops.Next) c.steps.invariant.low (rw c.in-Next.is at c.in_ok-step.ensures.steps) in
    let ahead = goes_ahead image low here next done in
    less_ahead c.steps.left (length image.code) here.pc next.pc ahead.further ahead.within

pub steps-preserved-in-Next : goal.steps-preserved-in-Next
steps-preserved-in-Next c =
    let image = c.args.program.now in
    let low = c.args.cpu.now.low in
    let here = cpu_of c.steps.cpu in
    let next = cpu_of c.step.new.cpu in
    let done = with_stack image c.steps.cpu.low low here next (Ok stops.Next) c.steps.invariant.low (rw c.in-Next.is at c.in_ok-step.ensures.steps) in
    let step = machine_step (machine_of image low) in
    record {
      leads = λ e s. c.steps.invariant.leads e (onward step c.steps.left here next (step here) e refl done s);
      low = c.in_ok-step.ensures.low ∙ c.steps.invariant.low;
    }

pub steps-preserved : goal.steps-preserved
steps-preserved c =
    let image = c.args.program.now in
    let low = c.args.cpu.now.low in
    let here = cpu_of c.steps.cpu in
    let next = cpu_of c.step.new.cpu in
    let done = with_stack image c.steps.cpu.low low here next (Ok stops.Turn) c.steps.invariant.low (rw c.in-Turn.is at c.in_ok-step.ensures.steps) in
    let step = machine_step (machine_of image low) in
    let one : suc (c.steps.left - 1) ≡ c.steps.left = omega arith in
    record {
      leads = λ e s. c.steps.invariant.leads e (subst (λ t. Comes image low t here e) one (turned step (c.steps.left - 1) here next (step here) e refl done s));
      low = c.in_ok-step.ensures.low ∙ c.steps.invariant.low;
    }

pub returns-in-Call-clause-comes : goal.returns-in-Call-clause-comes
returns-in-Call-clause-comes c =
    let image = c.args.program.now in
    let low = c.args.cpu.now.low in
    let here = cpu_of c.steps.cpu in
    let next = cpu_of c.step.new.cpu in
    let done = with_stack image c.steps.cpu.low low here next (Ok stops.Call) c.steps.invariant.low (rw c.in-Call.is at c.in_ok-step.ensures.steps) in
    let line = c.line_at-line.result in
    let at : line ≡ line_at (machine_of image low) here.pc = c.line_at-line.ensures low ∙ ap (line_at (machine_of image low)) c.pc-pc.ensures in
    c.steps.invariant.leads (call_end next line) (calling_at image low c.steps.left line here next at done)

pub returns-in-Trap-clause-comes : goal.returns-in-Trap-clause-comes
returns-in-Trap-clause-comes c =
    let image = c.args.program.now in
    let low = c.args.cpu.now.low in
    let here = cpu_of c.steps.cpu in
    let next = cpu_of c.step.new.cpu in
    let kind = c.in-Trap.kind in
    let done = with_stack image c.steps.cpu.low low here next (Ok (stops.Trap kind)) c.steps.invariant.low (rw c.in-Trap.is at c.in_ok-step.ensures.steps) in
    let line = c.line_at-line-in-Trap.result in
    let at : line ≡ line_at (machine_of image low) here.pc = c.line_at-line-in-Trap.ensures low ∙ ap (line_at (machine_of image low)) c.pc-pc.ensures in
    c.steps.invariant.leads (Trapped (trap_number kind) line) (trapped_at image low c.steps.left line here next kind at done)

pub returns-then-left-eq0-clause-comes : goal.returns-then-left-eq0-clause-comes
returns-then-left-eq0-clause-comes c =
    let image = c.args.program.now in
    let low = c.args.cpu.now.low in
    let here = cpu_of c.steps.cpu in
    let next = cpu_of c.step.new.cpu in
    let done = with_stack image c.steps.cpu.low low here next (Ok stops.Turn) c.steps.invariant.low (rw c.in-Turn.is at c.in_ok-step.ensures.steps) in
    let line = c.line_at-line-then-left-eq0.result in
    let at : line ≡ line_at (machine_of image low) here.pc = c.line_at-line-then-left-eq0.ensures low ∙ ap (line_at (machine_of image low)) c.pc-pc.ensures in
    let none = c.if-left-eq0.true in
    c.steps.invariant.leads (Spent line) (subst (λ t. Comes image low t here (Spent line)) (sym none) (spent_at image low line here next at done))
