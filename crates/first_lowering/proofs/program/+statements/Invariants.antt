use Rattle.std.proofs.Common.{List, drop}
use Rattle.mid_code.specs.declared.op.LinedOp.{LinedOp}
use Rattle.mid_flow.specs.Emission.{Emits}
use Rattle.first_language.specs.Tree.{block_of}
use Rattle.first_lowering.specs.Lowering.{block}
use Rattle.first_lowering.proofs.program.+statements.Given as goal

-- what the statements that are left are put behind is what all of them are put behind
abbrev pub invariant-put_block-loop-one : goal.invariant-put_block-loop-one
invariant-put_block-loop-one l = (end : List LinedOp) → Emits (block (block_of (drop l.one-index l.body))) l.ops.items end → Emits (block (block_of l.body)) l.initial.ops.items end
