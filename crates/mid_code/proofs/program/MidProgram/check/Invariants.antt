use Rattle.std.proofs.Common.{ℕ, ◌<◌}
use Rattle.mid_code.specs.Operations.{code_of}
use Rattle.mid_code.specs.Flow.{IsSound}
use Rattle.mid_code.proofs.program.MidProgram.check.Given as goal

-- the procedures so far are sound
abbrev pub invariant-loop-p : goal.invariant-loop-p
invariant-loop-p l = (k : ℕ) → k < l.p → IsSound (code_of l.self.procs) k
