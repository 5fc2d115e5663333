use Rattle.std.proofs.Common.{◌≡◌, ◌≤◌, ◌-◌}
use Rattle.host_edge.specs.Streams.{SameTelling}
use Rattle.thread_system.specs.Replay.{Going}
use Rattle.rv_isa.specs.Machine.{machine_step}
use Rattle.rv_step.specs.State.{cpu_of, stack_of}
use Rattle.main_run.specs.Solo.{HasMade, main_machine, main_cpu}
use Rattle.main_run.proofs.run.run.Given as goal

-- so many entries were made, and the thread goes on
abbrev pub invariant-entries : goal.invariant-entries
invariant-entries g l = record {
  made : HasMade (machine_step (main_machine l.program)) l.turns (main_cpu l.program) (g.K.Sink.written l.fn.out) (g.K.Sink.written l.out) l.schedule.items l.made (Going (cpu_of l.cpu));
  within : l.made ≤ l.entries;
  low : l.cpu.low ≡ stack_of 0;
  told : SameTelling (g.K.Sink.written l.fn.out) (g.K.Sink.written l.out);
  later : g.K.Sink.faults l.fn.out ≤ g.K.Sink.faults l.out;
}

abbrev pub decreases-entries : goal.decreases-entries
decreases-entries g l = l.entries - l.made
