-- What flattening keeps.
use Rattle.std.specs.Prelude.{◌≡◌, ℕ, suc, ◌<◌, ◌≤◌, List, [], ◌∷◌, Option, None}
use Rattle.mid_code.specs.declared.op.MidOp.{MidOp}
use Rattle.mid_code.specs.declared.op.MidOp.TheVariants.{Runtime, Skip, Back, Unless}
use Rattle.mid_code.specs.declared.op.LinedOp.{LinedOp}
use Rattle.mid_code.specs.Flow.{AreLawful}
use Rattle.mid_flow.specs.Structure.{Code, Broken, Nothing, Then, When, Loop, LeaveUnless, Round, End, Spot, out_of, top_of}
use Rattle.mid_flow.specs.Flat.{flat, end_of}
use Rattle.mid_flow.specs.Standing.{Here, Lies}

-- an operation that goes on to the next, and no call that traps
abbrev pub IsStraight : MidOp → Type 0
IsStraight (Runtime number a b c d to) = number < 70
IsStraight (Skip target) = ⊥
IsStraight (Back target) = ⊥
IsStraight (Unless test target) = ⊥
IsStraight op = Unit {0}

-- no part of the code is broken, and jumps are none of its operations
abbrev pub IsWhole : Code → Type 0
IsWhole Broken = ⊥
IsWhole Nothing = ⊥
IsWhole (Then op line rest) = IsStraight op × IsWhole rest
IsWhole (When test line body rest) = IsWhole body × IsWhole rest
IsWhole (Loop body rest) = IsWhole body × IsWhole rest
IsWhole (LeaveUnless test line rest) = IsWhole rest
IsWhole (Round line) = Unit {0}
IsWhole End = Unit {0}

-- the operations stand one after another from a position on, and the list ends behind them
abbrev pub At : (ℕ → Option MidOp) → (ℕ → ℕ) → ℕ → List LinedOp → Type 0
At ops lines k [] = ops k ≡ None
At ops lines k (o ∷ os) = Here ops lines k o.op o.line × At ops lines (suc k) os

abbrev pub FlatLies : Type 0
FlatLies =
    (ops : ℕ → Option MidOp) (lines : ℕ → ℕ) (c : Code) (ss : List Spot) (k : ℕ) (more : List LinedOp)
    → IsWhole c → out_of ss ≡ end_of c k → At ops lines k (flat c ss k more) → Lies ops lines ss c k × At ops lines (end_of c k) more

-- flattened code keeps what lists of operations keep
abbrev pub FlatIsLawful : Type 0
FlatIsLawful =
    (c : Code) (ss : List Spot) (k : ℕ) (more : List LinedOp)
    → IsWhole c → out_of ss ≡ end_of c k → top_of ss ≤ k → AreLawful (end_of c k) more → AreLawful k (flat c ss k more)
