use Rattle.std.proofs.Common.{◌≡◌, ℕ, List, ◌+◌, ◌*◌, ◌^◌, ap, replicate}
use Rattle.rv_isa.specs.Machine as isa
use Rattle.rv_step.specs.State.{cpu_of, bytes_from, regs_of, stack_of}
use Rattle.rv_step.proofs.State.{started}
use Rattle.rv_step.proofs.cpu.Cpu.new.Goals as goal

abbrev over : ℕ → ℕ → List (List ℕ) → isa.Cpu
over pc low pages = record { pc = pc; regs = regs_of (replicate 32 0); bytes = bytes_from low pages }

pub returns-clause-state : goal.returns-clause-state
returns-clause-state c =
    started (over c.args.pc (stack_of c.args.t) c.new.result) (cpu_of c.set_register.new.self) (cpu_of c.set_register-2.new.self) c.new-2.result c.new-3.result (stack_of c.args.t) (stack_of c.args.t + 2 ^ 32) c.args.pc c.args.param (ap (over c.args.pc (stack_of c.args.t)) c.new.ensures) c.set_register.ensures.state c.set_register-2.ensures.state c.new-2.ensures c.new-3.ensures
