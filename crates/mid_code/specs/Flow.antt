-- Which registers an operation reads and writes, where it may go on, and which registers are live.
use Rattle.std.specs.Prelude.{◌≡◌, ℕ, suc, ◌<◌, ◌≤◌, ◌⊎◌, List, [], ◌∷◌, Option, Some, None}
use Rattle.mid_code.specs.declared.reg.Reg.{Reg}
use Rattle.mid_code.specs.declared.op.MidOp.{MidOp}
use Rattle.mid_code.specs.declared.op.MidOp.TheVariants.{Const, Copy, Both, Divide, Runtime, Skip, Back, Unless}
use Rattle.mid_code.specs.declared.op.LinedOp.{LinedOp}
use Rattle.mid_code.specs.Operations.{MidCode}

-- x is one of a list
abbrev pub Among : {A : Type 0} → A → List A → Type 0
Among x [] = ⊥
Among x (y ∷ ys) = (x ≡ y) ⊎ Among x ys

-- a register that may be missing, in front of a list
abbrev pub in_front : Option Reg → List Reg → List Reg
in_front None rs = rs
in_front (Some r) rs = r ∷ rs

abbrev pub reads_of : MidOp → List Reg
reads_of (Const to value) = []
reads_of (Copy to from) = from ∷ []
reads_of (Both op to left right) = left ∷ right ∷ []
reads_of (Divide op to left right) = left ∷ right ∷ []
reads_of (Runtime number a b c d to) = in_front a (in_front b (in_front c (in_front d [])))
reads_of (Skip target) = []
reads_of (Back target) = []
reads_of (Unless test target) = test ∷ []

abbrev pub writes_of : MidOp → Option Reg
writes_of (Const to value) = Some to
writes_of (Copy to from) = Some to
writes_of (Both op to left right) = Some to
writes_of (Divide op to left right) = Some to
writes_of (Runtime number a b c d to) = to
writes_of (Skip target) = None
writes_of (Back target) = None
writes_of (Unless test target) = None

-- the position that an operation may jump to
abbrev pub target_of : MidOp → Option ℕ
target_of (Skip target) = Some target
target_of (Back target) = Some target
target_of (Unless test target) = Some target
target_of op = None

-- the positions at which a thread may go on after the operation at position i
abbrev pub nexts_of : ℕ → MidOp → List ℕ
nexts_of i (Skip target) = target ∷ []
nexts_of i (Back target) = target ∷ []
nexts_of i (Unless test target) = target ∷ suc i ∷ []
nexts_of i op = suc i ∷ []

-- A register is live at a position of a procedure: on some path from there it is read before it is written.
pub data Live (m : MidCode) (p : ℕ) : ℕ → Reg → Type 0 where
  reads_now : (i : ℕ) (r : Reg) (op : MidOp) → m.op_at p i ≡ Some op → Among r (reads_of op) → Live m p i r
  reads_later : (i j : ℕ) (r : Reg) (op : MidOp) → m.op_at p i ≡ Some op → Among j (nexts_of i op) → (writes_of op ≡ Some r → ⊥) → Live m p j r → Live m p i r

-- Each register is written before it is read on every path, and every jump's target exists.
pub record IsSound (m : MidCode) (p : ℕ) : Type 0 where
  pub written : (r : Reg) → Live m p 0 r → ⊥
  pub targets : (i t : ℕ) (op : MidOp) → m.op_at p i ≡ Some op → target_of op ≡ Some t → (after : MidOp) × (m.op_at p t ≡ Some after)

-- What lists of operations keep, wherever they come from: a jump without a turn goes ahead, a jump back doesn't, and a
-- runtime call isn't the one that traps.
abbrev pub IsLawful : ℕ → MidOp → Type 0
IsLawful i (Runtime number a b c d to) = number < 70
IsLawful i (Skip target) = i < target
IsLawful i (Back target) = target ≤ i
IsLawful i (Unless test target) = i < target
IsLawful i op = Unit {0}

abbrev pub AreLawful : ℕ → List LinedOp → Type 0
AreLawful i [] = Unit {0}
AreLawful i (o ∷ ops) = IsLawful i o.op × AreLawful (suc i) ops
