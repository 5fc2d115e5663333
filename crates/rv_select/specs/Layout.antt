-- The code of a whole program, one procedure behind the other.
use Rattle.std.specs.Prelude.{◌≡◌, ℕ, zero, suc, ◌+◌, ◌-◌, ◌^◌, ◌<◌, Bool, true, ◌&&◌, nat_lt, List, [], ◌∷◌, ◌++◌, length, map}
use Rattle.mid_code.specs.declared.reg.Reg.{Reg}
use Rattle.mid_code.specs.declared.op.MidOp.{MidOp}
use Rattle.mid_code.specs.declared.op.MidOp.TheVariants.{Skip, Back, Unless}
use Rattle.mid_code.specs.declared.op.LinedOp.{LinedOp}
use Rattle.mid_code.specs.Operations.{ops_of, line_in}
use Rattle.rv_isa.specs.declared.inst.Inst.{Inst}
use Rattle.rv_isa.specs.declared.inst.Inst.TheVariants.{Lui, Add, Sd, Ebreak}
use Rattle.rv_select.specs.declared.lined.LinedInst.{LinedInst}
use Rattle.rv_select.specs.declared.slots.Slots.{Slots}
use Rattle.rv_select.specs.Places.{Place}
use Rattle.rv_select.specs.Slots.{place_of, slots_of, FitFrame}
use Rattle.rv_select.specs.Emission.{op_code}
use Rattle.rv_select.specs.Relation.{Target}
use Rattle.rv_select.specs.Sizes.{size_of}

-- instructions of one line
abbrev pub lined : ℕ → Inst → LinedInst
lined line inst = record { inst = inst; line = line }

abbrev pub placed : ℕ → List Inst → List LinedInst
placed line is = map (lined line) is

-- the instructions of an operation, where registers have slots
abbrev pub op_insts : Slots → (ℕ → ℕ) → ℕ → MidOp → List Inst
op_insts slots start i op = op_code (place_of slots) start i op

-- where each operation begins, in a list that begins at k; behind the last one, where it ends
abbrev pub start_of : (Reg → Place) → ℕ → List LinedOp → ℕ → ℕ
start_of place k [] i = k
start_of place k (o ∷ ops) zero = k
start_of place k (o ∷ ops) (suc i) = start_of place (k + size_of place o.op) ops i

-- The operations from position i on, and an EBREAK, which no thread passes. It has the line of the last operation.
abbrev pub body_code : (Reg → Place) → (ℕ → ℕ) → ℕ → ℕ → List LinedOp → List LinedInst
body_code place start i line [] = placed line (Ebreak ∷ [])
body_code place start i line (o ∷ ops) = placed o.line (op_code place start i o.op) ++ body_code place start (suc i) o.line ops

-- A procedure's entry takes a frame. The main module's takes two, so that an activation that it calls is the second
-- of a thousand.
abbrev pub main_entry : List Inst
main_entry = Lui 7 (2 ^ 20 - 2048) ∷ (Add 2 2 7 ∷ [])

abbrev pub called_entry : List Inst
called_entry = Lui 7 (2 ^ 20 - 1024) ∷ (Add 2 2 7 ∷ (Sd 2 1 0 ∷ []))

abbrev pub entry_code : ℕ → List Inst
entry_code zero = main_entry
entry_code (suc p) = called_entry

-- where the operations of procedure p begin, if its entry begins at k
abbrev pub after_entry : ℕ → ℕ → ℕ
after_entry k p = k + length (entry_code p)

abbrev pub proc_code : ℕ → ℕ → List LinedOp → List LinedInst
proc_code k p ops = placed (line_in ops 0) (entry_code p) ++ body_code (place_of (slots_of ops)) (start_of (place_of (slots_of ops)) (after_entry k p) ops) 0 1 ops

-- the code of the procedures from p on, which begins at k
abbrev pub code_from : ℕ → ℕ → List (List LinedOp) → List LinedInst
code_from k p [] = []
code_from k p (ops ∷ procs) = proc_code k p ops ++ code_from (k + length (proc_code k p ops)) (suc p) procs

-- The code of a program.
abbrev pub selected : List (List LinedOp) → List LinedInst
selected procs = code_from 0 0 procs

-- where each procedure begins
abbrev pub entries_from : ℕ → ℕ → List (List LinedOp) → List ℕ
entries_from k p [] = []
entries_from k p (ops ∷ procs) = k ∷ entries_from (k + length (proc_code k p ops)) (suc p) procs

-- where the operations of each procedure begin
abbrev pub base_from : ℕ → ℕ → List (List LinedOp) → ℕ → ℕ
base_from k p [] q = k
base_from k p (ops ∷ procs) zero = after_entry k p
base_from k p (ops ∷ procs) (suc q) = base_from (k + length (proc_code k p ops)) (suc p) procs q

abbrev pub base_of : List (List LinedOp) → ℕ → ℕ
base_of procs p = base_from 0 0 procs p

abbrev pub target_of_program : List (List LinedOp) → Target
target_of_program procs = record {
  place = λ p. place_of (slots_of (ops_of procs p));
  start = λ p. start_of (place_of (slots_of (ops_of procs p))) (base_of procs p) (ops_of procs p);
}

-- ---- what fits

-- Whether a JAL reaches from one code word to another.
abbrev pub is_near : ℕ → ℕ → Bool
is_near from to = nat_lt to (from + 2 ^ 18) && nat_lt from (to + (2 ^ 18 + 1))

abbrev pub op_reaches : (ℕ → ℕ) → ℕ → MidOp → Bool
op_reaches start i (Skip target) = is_near (start i) (start target)
op_reaches start i (Back target) = is_near (start i) (start target)
op_reaches start i (Unless test target) = is_near (start i) (start target)
op_reaches start i op = true

abbrev pub reaches : (ℕ → ℕ) → ℕ → List LinedOp → Bool
reaches start i [] = true
reaches start i (o ∷ ops) = op_reaches start i o.op && reaches start (suc i) ops

-- The code can be addressed: no jump leads over 2 ^ 18 code words, each procedure's slots fit into a frame, and there
-- are fewer than 2 ^ 30 code words.
pub record FitsProc (k p : ℕ) (ops : List LinedOp) : Type 0 where
  pub slots : FitFrame (slots_of ops)
  pub jumps : reaches (start_of (place_of (slots_of ops)) (after_entry k p) ops) 0 ops ≡ true

abbrev pub FitFrom : ℕ → ℕ → List (List LinedOp) → Type 0
FitFrom k p [] = Unit {0}
FitFrom k p (ops ∷ procs) = FitsProc k p ops × FitFrom (k + length (proc_code k p ops)) (suc p) procs

pub record Fits (procs : List (List LinedOp)) : Type 0 where
  pub words : length (selected procs) < 2 ^ 30
  pub each : FitFrom 0 0 procs
