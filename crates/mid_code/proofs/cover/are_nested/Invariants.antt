use Rattle.std.proofs.Common.{◌≡◌, ℕ, ◌<◌, ◌≤◌, Some}
use Rattle.mid_code.specs.declared.op.MidOp.{MidOp}
use Rattle.mid_code.specs.Operations.{op_in}
use Rattle.mid_code.specs.Flow.{target_of}
use Rattle.mid_code.specs.Covers.{NoneOver}
use Rattle.mid_code.proofs.cover.are_nested.Given as goal

-- the jumps back so far
abbrev pub invariant-loop-i : goal.invariant-loop-i
invariant-loop-i l = (k to : ℕ) (op : MidOp) → k < l.i → op_in l.ops k ≡ Some op → target_of op ≡ Some to → to ≤ k → NoneOver l.ops to k
