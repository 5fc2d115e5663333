use Rattle.std.proofs.Common.{◌≡◌, ℕ, ◌<◌, length, Some}
use Rattle.mid_code.specs.declared.op.MidOp.{MidOp}
use Rattle.mid_code.specs.Operations.{op_in}
use Rattle.mid_code.specs.Paths.{HasTarget}
use Rattle.mid_code.proofs.search.targets_exist.Given as goal

-- the targets so far exist
abbrev pub invariant-loop-i : goal.invariant-loop-i
invariant-loop-i l = (k : ℕ) (op : MidOp) → k < l.i → op_in l.ops k ≡ Some op → HasTarget (length l.ops) op
