-- That structured code stands at a position of a procedure's list. Jumps may come first wherever code stands, so that
-- positions are named nowhere else.
use Rattle.std.specs.Prelude.{◌≡◌, ℕ, suc, List, [], ◌∷◌, Option, Some, None}
use Rattle.mid_code.specs.declared.reg.Reg.{Reg}
use Rattle.mid_code.specs.declared.op.MidOp.{MidOp}
use Rattle.mid_code.specs.declared.op.MidOp.TheVariants.{Skip, Back, Unless}
use Rattle.mid_code.specs.Operations.{MidCode}
use Rattle.mid_flow.specs.Structure.{Code, Nothing, Then, When, Loop, LeaveUnless, Round, End, Open, After, Looping, Spot, spot, out_of, top_of}

-- the operation at a position, and its line
pub record Here (ops : ℕ → Option MidOp) (lines : ℕ → ℕ) (k : ℕ) (op : MidOp) (line : ℕ) : Type 0 where
  pub op_is : ops k ≡ Some op
  pub line_is : lines k ≡ line

module _ (ops : ℕ → Option MidOp) (lines : ℕ → ℕ) where
  -- from one position to another by jumps ahead alone
  pub data Hops : ℕ → ℕ → Type 0 where
    at : (k : ℕ) → Hops k k
    hop : (k j k' line : ℕ) → Here ops lines k (Skip j) line → Hops j k' → Hops k k'

  -- The code stands at the position, and blocks are left to the spots.
  pub data Lies : List Spot → Code → ℕ → Type 0 where
    nothing_lies : (ss : List Spot) (k : ℕ) → ops k ≡ None → Lies ss Nothing k
    then_lies : (ss : List Spot) (op : MidOp) (line : ℕ) (rest : Code) (k k0 : ℕ) → Hops k k0 → Here ops lines k0 op line → Lies ss rest (suc k0) → Lies ss (Then op line rest) k
    when_lies : (ss : List Spot) (test : Reg) (line : ℕ) (body rest : Code) (k k0 last top : ℕ) → Hops k k0 → Here ops lines k0 (Unless test last) line → Lies (spot last top ∷ ss) body (suc k0) → Lies ss rest last → Lies ss (When test line body rest) k
    loop_lies : (ss : List Spot) (body rest : Code) (k k0 last : ℕ) → Hops k k0 → Lies (spot last k0 ∷ ss) body k0 → Lies ss rest last → Lies ss (Loop body rest) k
    leave_lies : (ss : List Spot) (test : Reg) (line : ℕ) (rest : Code) (k k0 : ℕ) → Hops k k0 → Here ops lines k0 (Unless test (out_of ss)) line → Lies ss rest (suc k0) → Lies ss (LeaveUnless test line rest) k
    round_lies : (ss : List Spot) (line k k0 : ℕ) → Hops k k0 → Here ops lines k0 (Back (top_of ss)) line → Lies ss (Round line) k
    end_lies : (ss : List Spot) (k : ℕ) → Hops k (out_of ss) → Lies ss End k

  -- What follows the open blocks stands at their spots, and so do the loops.
  pub data BlocksLie : List Open → List Spot → Type 0 where
    no_blocks : (ss : List Spot) → BlocksLie [] ss
    after_lies : (rest : Code) (os : List Open) (s : Spot) (ss : List Spot) → Lies ss rest s.out → BlocksLie os ss → BlocksLie (After rest ∷ os) (s ∷ ss)
    looping_lies : (body rest : Code) (os : List Open) (s : Spot) (ss : List Spot) → Lies ss rest s.out → Lies (s ∷ ss) body s.top → BlocksLie os ss → BlocksLie (Looping body rest ∷ os) (s ∷ ss)

-- Code stands at a position of a procedure, with what follows the blocks that are open.
pub record Stands (m : MidCode) (proc : ℕ) (now : Code) (open_blocks : List Open) (pos : ℕ) : Type 0 where
  pub spots : List Spot
  pub lies : Lies (m.op_at proc) (m.line_of proc) spots now pos
  pub blocks : BlocksLie (m.op_at proc) (m.line_of proc) open_blocks spots
