-- Paths through a procedure on which a register isn't written, and the marks by which they are searched.
use Rattle.std.specs.Prelude.{◌≡◌, ℕ, suc, ◌<◌, ◌≤◌, Bool, true, false, not, nat_lt, ◌&&◌, ◌||◌, List, [], ◌∷◌, length, slice_index_or, slice_set, Option, Some, None, IsTrue, ◌↔◌}
use Rattle.mid_code.specs.declared.reg.Reg.{Reg}
use Rattle.mid_code.specs.declared.op.MidOp.{MidOp}
use Rattle.mid_code.specs.declared.op.LinedOp.{LinedOp}
use Rattle.mid_code.specs.Operations.{MidCode, op_in, code_of}
use Rattle.mid_code.specs.Flow.{Among, reads_of, writes_of, nexts_of, target_of, Live, IsSound, AreLawful}

-- the program of one procedure
abbrev pub alone : List LinedOp → MidCode
alone ops = code_of (ops ∷ [])

-- On some path from the beginning to a position the register isn't written.
pub data Unwritten (ops : List LinedOp) (r : Reg) : ℕ → Type 0 where
  begins : Unwritten ops r 0
  comes : (i j : ℕ) (op : MidOp) → op_in ops i ≡ Some op → (writes_of op ≡ Some r → ⊥) → Among j (nexts_of i op) → Unwritten ops r i → Unwritten ops r j

abbrev pub marked : List Bool → ℕ → Bool
marked marks i = slice_index_or marks i false

-- how many positions aren't marked
abbrev pub unmarked : List Bool → ℕ
unmarked [] = 0
unmarked (true ∷ marks) = unmarked marks
unmarked (false ∷ marks) = suc (unmarked marks)

-- a position that can be marked and isn't; and the marks with more of them, one after another
abbrev pub is_new : List Bool → ℕ → Bool
is_new marks j = nat_lt j (length marks) && not (marked marks j)

abbrev pub with_marks : List ℕ → List Bool → List Bool
with_marks [] marks = marks
with_marks (j ∷ js) marks = with_marks js (slice_set marks j true)

abbrev pub any_new : List ℕ → List Bool → Bool
any_new [] marks = false
any_new (j ∷ js) marks = is_new marks j || any_new js (slice_set marks j true)

-- each position that is marked lies on such a path
abbrev pub AreReached : List LinedOp → Reg → List Bool → Type 0
AreReached ops r marks = (i : ℕ) → marked marks i ≡ true → Unwritten ops r i

-- where a path goes on from a marked position is marked too
abbrev pub IsClosedAt : List LinedOp → Reg → List Bool → ℕ → Type 0
IsClosedAt ops r marks i = (op : MidOp) (j : ℕ) → op_in ops i ≡ Some op → marked marks i ≡ true → (writes_of op ≡ Some r → ⊥) → Among j (nexts_of i op) → j < length marks → marked marks j ≡ true

-- there are more marks than before, or none has come
pub record Grows (ops : List LinedOp) (r : Reg) (old new : List Bool) (changed : Bool) : Type 0 where
  pub long : length new ≡ length old
  pub reached : AreReached ops r old → AreReached ops r new
  pub first : marked old 0 ≡ true → marked new 0 ≡ true
  pub most : unmarked new ≤ unmarked old
  pub fewer : changed ≡ true → unmarked new < unmarked old
  pub same : changed ≡ false → new ≡ old

-- no position is marked
pub record IsBlank (ops : List LinedOp) (marks : List Bool) : Type 0 where
  pub long : length marks ≡ length ops
  pub none : (i : ℕ) → marked marks i ≡ false

-- at a marked position the register is read
pub record IsReadAt (ops : List LinedOp) (r : Reg) (marks : List Bool) (i : ℕ) : Type 0 where
  pub op : MidOp
  pub is : op_in ops i ≡ Some op
  pub reads : Among r (reads_of op)
  pub on : marked marks i ≡ true

-- what is marked is what lies on such a path
pub record IsExact (ops : List LinedOp) (r : Reg) (marks : List Bool) : Type 0 where
  pub long : length marks ≡ length ops
  pub sound : AreReached ops r marks
  pub all : (i : ℕ) → i < length ops → Unwritten ops r i → marked marks i ≡ true

-- the register is written before it is read on every path
abbrev pub IsWrittenFirst : List LinedOp → Reg → Type 0
IsWrittenFirst ops r = Live (alone ops) 0 0 r → ⊥

abbrev pub AreWrittenFirst : List LinedOp → Type 0
AreWrittenFirst ops = (r : Reg) → IsWrittenFirst ops r

-- an operation's target, if it has one, is among so many positions
abbrev pub IsBelow : ℕ → Option ℕ → Type 0
IsBelow n None = Unit {0}
IsBelow n (Some t) = t < n

abbrev pub HasTarget : ℕ → MidOp → Type 0
HasTarget n op = IsBelow n (target_of op)

-- every jump's target exists
abbrev pub TargetsExist : List LinedOp → Type 0
TargetsExist ops = (i : ℕ) (op : MidOp) → op_in ops i ≡ Some op → HasTarget (length ops) op

-- What a procedure keeps: its operations are lawful, and it is known whether it is sound.
pub record IsKept (ops : List LinedOp) (sound : Bool) : Type 0 where
  pub lawful : AreLawful 0 ops
  pub sound_is : IsTrue sound ↔ IsSound (alone ops) 0

-- all procedures are sound
abbrev pub AllSound : List (List LinedOp) → Type 0
AllSound procs = (p : ℕ) → p < length procs → IsSound (code_of procs) p
