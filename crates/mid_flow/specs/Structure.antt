-- Structured code: operations in the order in which they are carried out, with blocks and loops in place of jumps.
use Rattle.std.specs.Prelude.{ℕ, List, [], ◌∷◌}
use Rattle.mid_code.specs.declared.reg.Reg.{Reg}
use Rattle.mid_code.specs.declared.op.MidOp.{MidOp}

-- Each form has what follows it as its last part; a block has none, since it ends.
pub data Code : Type 0 where
  -- nothing stands so
  Broken : Code
  -- the procedure's list ends
  Nothing : Code
  -- an operation that goes on to the next
  Then : (op : MidOp) (line : ℕ) (rest : Code) → Code
  -- the block where the register isn't 0
  When : (test : Reg) (line : ℕ) (body rest : Code) → Code
  -- the block again and again, until it is left
  Loop : (body rest : Code) → Code
  -- out of the innermost block where the register is 0
  LeaveUnless : (test : Reg) (line : ℕ) (rest : Code) → Code
  -- a loop's block ends: back to its beginning, a turn
  Round : (line : ℕ) → Code
  -- a block ends, and what follows it goes on
  End : Code

-- What encloses the code that a thread stands at, the innermost block first: what goes on behind a block that ends, and
-- a loop besides.
pub data Open : Type 0 where
  After : (rest : Code) → Open
  Looping : (body rest : Code) → Open

-- where a block is left to, and where its loop begins
pub record Spot : Type 0 where
  pub out : ℕ
  pub top : ℕ

abbrev pub spot : ℕ → ℕ → Spot
spot out top = record { out = out; top = top }

-- those of the innermost block
abbrev pub out_of : List Spot → ℕ
out_of [] = 0
out_of (s ∷ ss) = s.out

abbrev pub top_of : List Spot → ℕ
top_of [] = 0
top_of (s ∷ ss) = s.top
