-- That a list of operations was extended by structured code, whatever is to follow it.
use Rattle.std.specs.Prelude.{◌≡◌, ℕ, List, ◌++◌, length}
use Rattle.mid_code.specs.declared.op.LinedOp.{LinedOp}
use Rattle.mid_flow.specs.Structure.{Code, Spot}
use Rattle.mid_flow.specs.Flat.{flat, end_of}

-- The list has one piece more, which is this code in front of any rest, from the position where the piece begins.
pub record Emits (code : Code → Code) (old new : List LinedOp) : Type 0 where
  pub piece : List LinedOp
  pub new_is : new ≡ old ++ piece
  pub flat_is : (rest : Code) (ss : List Spot) (more : List LinedOp) → flat (code rest) ss (length old) more ≡ piece ++ flat rest ss (length new) more
  pub end_is : (rest : Code) → end_of (code rest) (length old) ≡ end_of rest (length new)
