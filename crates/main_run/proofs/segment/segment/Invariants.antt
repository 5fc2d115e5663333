use Rattle.std.proofs.Common.{◌≡◌, length}
use Rattle.thread_system.specs.Segment.{End, Segment}
use Rattle.thread_system.specs.Replay.{nothing}
use Rattle.rv_isa.specs.Machine.{Cpu, machine_step}
use Rattle.rv_step.specs.State.{cpu_of, machine_of}
use Rattle.main_run.proofs.Segments.{left_of}
use Rattle.main_run.proofs.segment.segment.Given as goal

-- what a segment from here comes to, within the turns that are left, that from the beginning comes to
abbrev pub invariant-steps : goal.invariant-steps
invariant-steps l = record {
  leads : (e : End Cpu) → Segment (machine_step (machine_of l.program l.fn.cpu.low)) l.left nothing (cpu_of l.cpu) nothing e → Segment (machine_step (machine_of l.program l.fn.cpu.low)) l.fn.turns nothing (cpu_of l.fn.cpu) nothing e;
  low : l.cpu.low ≡ l.fn.cpu.low;
}

abbrev pub decreases-steps : goal.decreases-steps
decreases-steps l = left_of l.left (length l.program.code) (cpu_of l.cpu).pc
