use Rattle.std.proofs.Common.{◌≡◌, ℕ, zero, suc, ◌+◌, ◌-◌, ◌/◌, ◌%◌, ◌^◌, ◌<◌, ◌≤◌, Bool, true, false, nat_lt, if◌then◌else◌, List, [], ◌∷◌, ◌++◌, length, Option, Some, None, option_and_then, slice_get, refl, ap, arith, subst, min}
use Rattle.std.specs.List.{AllByRecursion}
use Rattle.std.proofs.lemmas.Bool.{ltb-true}
use Rattle.mid_code.specs.declared.reg.Reg.{Reg}
use Rattle.mid_code.specs.declared.op.WordOp.{WordOp}
use Rattle.mid_code.specs.declared.op.WordOp.TheVariants.{Plus, Minus, Times, LessS, AtMostS, Same, Other}
use Rattle.mid_code.specs.declared.op.Division.{Division}
use Rattle.mid_code.specs.declared.op.Division.TheVariants.{DivS, RemS}
use Rattle.mid_code.specs.declared.op.MidOp.{MidOp}
use Rattle.mid_code.specs.declared.op.MidOp.TheVariants.{Const, Copy, Both, Divide, Runtime, Skip, Back, Unless}
use Rattle.mid_code.specs.declared.op.LinedOp.{LinedOp}
use Rattle.mid_code.specs.Flow.{IsLawful, AreLawful}
use Rattle.mid_code.specs.Operations.{line_in}
use Rattle.rv_isa.specs.declared.inst.Inst.{Inst}
use Rattle.rv_isa.specs.declared.inst.Inst.TheVariants.{Ld, Sd, Lui, Add, Jal, Addi, Slli}
use Rattle.rv_isa.specs.Encoding.{word_of, inst_of, IsInst}
use Rattle.rv_isa.proofs.Again.{read_again}
use Rattle.rv_select.specs.declared.lined.LinedInst.{LinedInst}
use Rattle.rv_select.specs.declared.slots.Slots.{Slots}
use Rattle.rv_select.specs.Places.{Place, slot_off, load_code, store_code, fetch_code, keep_code}
use Rattle.rv_select.specs.Slots.{slot_of, last_slot, place_of, slots_of}
use Rattle.rv_select.specs.Emission.{pieces_code, const_code, trap_code, two_code, jump_offset, word_op_code, division_inst, argument_code, answer_code, ask_code, zero_test, op_code}
use Rattle.rv_select.specs.Layout.{placed, start_of, body_code, entry_code, after_entry, proc_code, code_from, selected}
use Rattle.rv_select.specs.Image.{words_of}
use Rattle.rv_select.specs.Laws.{HaveLines}
use Rattle.rv_select.proofs.Lines.{AreNumbered}

-- What is emitted are instructions, and they have lines.

abbrev pub AreInsts : List Inst → Type 0
AreInsts is = AllByRecursion IsInst is

insts_append : (a b : List Inst) → AreInsts a → AreInsts b → AreInsts (a ++ b)
insts_append [] b x y = y
insts_append (i ∷ a) b x y = (x.0, insts_append a b x.1 y)

insts_load : (r off : ℕ) → r < 32 → off < 2 ^ 22 → AreInsts (load_code r off)
insts_load r off low near = by_test (nat_lt off 2048) refl where
  by_test : (t : Bool) → nat_lt off 2048 ≡ t → AreInsts (if t then Ld r 2 off ∷ [] else Lui r ((off + 2048) / 4096) ∷ (Add r r 2 ∷ (Ld r r (off % 4096) ∷ [])))
  by_test true e = let l : off < 2048 = ltb-true off 2048 e in ((low, omega arith, omega arith), tt)
  by_test false e = ((low, omega arith), ((low, low, omega arith), ((low, low, omega arith), tt)))

insts_store : (r off : ℕ) → r < 32 → off < 2 ^ 22 → AreInsts (store_code r off)
insts_store r off low near = by_test (nat_lt off 2048) refl where
  by_test : (t : Bool) → nat_lt off 2048 ≡ t → AreInsts (if t then Sd 2 r off ∷ [] else Lui 7 ((off + 2048) / 4096) ∷ (Add 7 7 2 ∷ (Sd 7 r (off % 4096) ∷ [])))
  by_test true e = let l : off < 2048 = ltb-true off 2048 e in ((omega arith, low, omega arith), tt)
  by_test false e = ((omega arith, omega arith), ((omega arith, omega arith, omega arith), ((omega arith, low, omega arith), tt)))

off_small : (k : ℕ) → slot_off (min k last_slot) < 2 ^ 22
off_small k = omega arith

insts_fetch : (n : Slots) (r : ℕ) (a : Reg) → r < 32 → AreInsts (fetch_code r (place_of n a))
insts_fetch n r a low = insts_load r (slot_off (min (slot_of n a) last_slot)) low (off_small (slot_of n a))

insts_keep : (n : Slots) (r : ℕ) (a : Reg) → r < 32 → AreInsts (keep_code (place_of n a) r)
insts_keep n r a low = insts_store r (slot_off (min (slot_of n a) last_slot)) low (off_small (slot_of n a))

insts_pieces : (pieces r n : ℕ) → r < 32 → AreInsts (pieces_code pieces r n)
insts_pieces zero r n low = ((low, omega arith, omega arith), tt)
insts_pieces (suc pieces) r n low = by_test (nat_lt n 2048) refl (insts_pieces pieces r (n / 2048) low) where
  by_test : (t : Bool) → nat_lt n 2048 ≡ t → AreInsts (pieces_code pieces r (n / 2048)) → AreInsts (if t then Addi r 0 n ∷ [] else pieces_code pieces r (n / 2048) ++ (Slli r r 11 ∷ (Addi r r (n % 2048) ∷ [])))
  by_test true e w = let l : n < 2048 = ltb-true n 2048 e in ((low, omega arith, omega arith), tt)
  by_test false e w = insts_append (pieces_code pieces r (n / 2048)) _ w ((low, low, omega arith), ((low, low, omega arith), tt))

insts_const : (r n : ℕ) → r < 32 → AreInsts (const_code r n)
insts_const r n low = by_test (nat_lt n 2048) refl where
  two_by : (t : Bool) → nat_lt n (2 ^ 31 - 2048) ≡ t → AreInsts (if t then Lui r ((n + 2048) / 4096) ∷ (Addi r r (n % 4096) ∷ []) else pieces_code 5 r n)
  two_by true e = let l : n < 2 ^ 31 - 2048 = ltb-true n (2 ^ 31 - 2048) e in ((low, omega arith), ((low, low, omega arith), tt))
  two_by false e = insts_pieces 5 r n low

  by_test : (t : Bool) → nat_lt n 2048 ≡ t → AreInsts (if t then Addi r 0 n ∷ [] else if nat_lt n (2 ^ 31 - 2048) then Lui r ((n + 2048) / 4096) ∷ (Addi r r (n % 4096) ∷ []) else pieces_code 5 r n)
  by_test true e = let l : n < 2048 = ltb-true n 2048 e in ((low, omega arith, omega arith), tt)
  by_test false e = two_by (nat_lt n (2 ^ 31 - 2048)) refl

insts_two : (n : Slots) (a b : Reg) → AreInsts (two_code (place_of n a) (place_of n b))
insts_two n a b = insts_append (fetch_code 5 (place_of n a)) (fetch_code 6 (place_of n b)) (insts_fetch n 5 a (omega arith)) (insts_fetch n 6 b (omega arith))

insts_word_op : (op : WordOp) → AreInsts (word_op_code op)
insts_word_op Plus = ((omega arith, omega arith, omega arith), tt)
insts_word_op Minus = ((omega arith, omega arith, omega arith), tt)
insts_word_op Times = ((omega arith, omega arith, omega arith), tt)
insts_word_op LessS = ((omega arith, omega arith, omega arith), ((omega arith, omega arith, omega arith), tt))
insts_word_op AtMostS = ((omega arith, omega arith, omega arith), ((omega arith, omega arith, omega arith), tt))
insts_word_op Same = ((omega arith, omega arith, omega arith), ((omega arith, omega arith, omega arith), ((omega arith, omega arith, omega arith), tt)))
insts_word_op Other = ((omega arith, omega arith, omega arith), ((omega arith, omega arith, omega arith), ((omega arith, omega arith, omega arith), tt)))

insts_trap : (kind : ℕ) → kind < 12 → AreInsts (trap_code kind)
insts_trap kind low = ((omega arith, omega arith, omega arith), ((omega arith, omega arith, omega arith), (tt, tt)))

insts_argument : (n : Slots) (r : ℕ) (a : Option Reg) → r < 32 → AreInsts (argument_code (place_of n) r a)
insts_argument n r None low = ((low, omega arith, omega arith), tt)
insts_argument n r (Some a) low = insts_fetch n r a low

insts_answer : (n : Slots) (to : Option Reg) → AreInsts (answer_code (place_of n) to)
insts_answer n None = tt
insts_answer n (Some to) = insts_keep n 10 to (omega arith)

insts_division : (op : Division) → IsInst (division_inst op)
insts_division DivS = (omega arith, omega arith, omega arith)
insts_division RemS = (omega arith, omega arith, omega arith)

jump_small : (from to : ℕ) → jump_offset from to < 2 ^ 20
jump_small from to = omega arith

insts_jump : (from to : ℕ) → AreInsts (Jal 0 (jump_offset from to) ∷ [])
insts_jump from to = ((omega arith, jump_small from to), tt)

insts_op : (n : Slots) (start : ℕ → ℕ) (i : ℕ) (op : MidOp) → IsLawful i op → AreInsts (op_code (place_of n) start i op)
insts_op n start i (Const d v) law = insts_append _ _ (insts_const 5 v (omega arith)) (insts_keep n 5 d (omega arith))
insts_op n start i (Copy d a) law = insts_append _ _ (insts_fetch n 5 a (omega arith)) (insts_keep n 5 d (omega arith))
insts_op n start i (Both op d a b) law = insts_append _ _ (insts_append _ _ (insts_two n a b) (insts_word_op op)) (insts_keep n 5 d (omega arith))
insts_op n start i (Divide op d a b) law =
    let test : AreInsts zero_test = ((omega arith, omega arith, omega arith), insts_trap 3 (omega arith)) in
    insts_append _ _ (insts_append _ _ (insts_two n a b) test) (insts_division op, insts_keep n 5 d (omega arith))
insts_op n start i (Runtime number a b c d to) law =
    let ask : AreInsts (ask_code number) = ((omega arith, omega arith, omega (arith, law)), (tt, tt)) in
    insts_append _ _ (insts_append _ _ (insts_append _ _ (insts_argument n 10 a (omega arith)) (insts_append _ _ (insts_argument n 11 b (omega arith)) (insts_append _ _ (insts_argument n 12 c (omega arith)) (insts_argument n 13 d (omega arith))))) ask) (insts_answer n to)
insts_op n start i (Skip j) law = insts_jump (start i) (start j)
insts_op n start i (Back j) law = insts_jump (start i) (start j)
insts_op n start i (Unless a j) law = insts_append _ _ (insts_fetch n 5 a (omega arith)) ((omega arith, omega arith, omega arith), insts_jump (start i + length (fetch_code 5 (place_of n a)) + 1) (start j))

-- instructions with lines
abbrev pub AreLined : List LinedInst → Type 0
AreLined code = AllByRecursion (λ i. IsInst i.inst) code

lined_append : (a b : List LinedInst) → AreLined a → AreLined b → AreLined (a ++ b)
lined_append [] b x y = y
lined_append (i ∷ a) b x y = (x.0, lined_append a b x.1 y)

lined_placed : (l : ℕ) (is : List Inst) → AreInsts is → AreLined (placed l is)
lined_placed l [] w = tt
lined_placed l (i ∷ is) w = (w.0, lined_placed l is w.1)

lined_body : (n : Slots) (start : ℕ → ℕ) (i line : ℕ) (ops : List LinedOp) → AreLawful i ops → AreLined (body_code (place_of n) start i line ops)
lined_body n start i line [] law = (tt, tt)
lined_body n start i line (o ∷ ops) law = lined_append (placed o.line (op_code (place_of n) start i o.op)) (body_code (place_of n) start (suc i) o.line ops) (lined_placed o.line (op_code (place_of n) start i o.op) (insts_op n start i o.op law.0)) (lined_body n start (suc i) o.line ops law.1)

insts_entry : (p : ℕ) → AreInsts (entry_code p)
insts_entry zero = ((omega arith, omega arith), ((omega arith, omega arith, omega arith), tt))
insts_entry (suc p) = ((omega arith, omega arith), ((omega arith, omega arith, omega arith), ((omega arith, omega arith, omega arith), tt)))

abbrev pub AllLawful : List (List LinedOp) → Type 0
AllLawful procs = AllByRecursion (AreLawful 0) procs

lined_procs : (k p : ℕ) (procs : List (List LinedOp)) → AllLawful procs → AreLined (code_from k p procs)
lined_procs k p [] law = tt
lined_procs k p (ops ∷ procs) law =
    lined_append (proc_code k p ops) (code_from (k + length (proc_code k p ops)) (suc p) procs)
    (lined_append (placed (line_in ops 0) (entry_code p)) _ (lined_placed (line_in ops 0) (entry_code p) (insts_entry p)) (lined_body (slots_of ops) (start_of (place_of (slots_of ops)) (after_entry k p) ops) 0 1 ops law.0))
    (lined_procs (k + length (proc_code k p ops)) (suc p) procs law.1)

pub selected_lined : (procs : List (List LinedOp)) → AllLawful procs → AreLined (selected procs)
selected_lined procs law = lined_procs 0 0 procs law

-- ---- lines

abbrev pub AllHaveLines : List (List LinedOp) → Type 0
AllHaveLines procs = AllByRecursion HaveLines procs

numbered_append : (a b : List LinedInst) → AreNumbered a → AreNumbered b → AreNumbered (a ++ b)
numbered_append [] b x y = y
numbered_append (i ∷ a) b x y = (x.0, numbered_append a b x.1 y)

numbered_placed : (l : ℕ) (is : List Inst) → 1 ≤ l → AreNumbered (placed l is)
numbered_placed l [] some = tt
numbered_placed l (i ∷ is) some = (some, numbered_placed l is some)

numbered_body : (place : Reg → Place) (start : ℕ → ℕ) (i line : ℕ) (ops : List LinedOp) → 1 ≤ line → HaveLines ops → AreNumbered (body_code place start i line ops)
numbered_body place start i line [] some all = (some, tt)
numbered_body place start i line (o ∷ ops) some all = numbered_append (placed o.line (op_code place start i o.op)) (body_code place start (suc i) o.line ops) (numbered_placed o.line (op_code place start i o.op) all.0) (numbered_body place start (suc i) o.line ops all.0 all.1)

first_line : (ops : List LinedOp) → HaveLines ops → 1 ≤ line_in ops 0
first_line [] all = omega arith
first_line (o ∷ ops) all = all.0

numbered_procs : (k p : ℕ) (procs : List (List LinedOp)) → AllHaveLines procs → AreNumbered (code_from k p procs)
numbered_procs k p [] all = tt
numbered_procs k p (ops ∷ procs) all =
    numbered_append (proc_code k p ops) (code_from (k + length (proc_code k p ops)) (suc p) procs)
    (numbered_append (placed (line_in ops 0) (entry_code p)) _ (numbered_placed (line_in ops 0) (entry_code p) (first_line ops all.0)) (numbered_body (place_of (slots_of ops)) (start_of (place_of (slots_of ops)) (after_entry k p) ops) 0 1 ops (omega arith) all.0))
    (numbered_procs (k + length (proc_code k p ops)) (suc p) procs all.1)

pub selected_numbered : (procs : List (List LinedOp)) → AllHaveLines procs → AreNumbered (selected procs)
selected_numbered procs all = numbered_procs 0 0 procs all

-- ---- words

word_there : (code : List LinedInst) (k : ℕ) (i : LinedInst) → slice_get code k ≡ Some i → slice_get (words_of code) k ≡ Some (word_of i.inst)
word_there [] k i is = cc
word_there (x ∷ xs) zero i is = let same : x ≡ i = cc in ap (λ q. Some (word_of q.inst)) same
word_there (x ∷ xs) (suc k) i is = word_there xs k i is

inst_there : (code : List LinedInst) (k : ℕ) (i : LinedInst) → AreLined code → slice_get code k ≡ Some i → IsInst i.inst
inst_there [] k i all is = cc
inst_there (x ∷ xs) zero i all is = let same : x ≡ i = cc in subst (λ q. IsInst q.inst) same all.0
inst_there (x ∷ xs) (suc k) i all is = inst_there xs k i all.1 is

-- the word of an instruction reads as that instruction
pub word_fetched : (code : List LinedInst) (k : ℕ) (i : LinedInst) → AreLined code → slice_get code k ≡ Some i → option_and_then inst_of (slice_get (words_of code) k) ≡ Some i.inst
word_fetched code k i all is = rw (word_there code k i is) (read_again i.inst (inst_there code k i all is))
