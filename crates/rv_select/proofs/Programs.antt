use Rattle.std.proofs.Common.{◌≡◌, ℕ, zero, suc, ◌+◌, ◌-◌, ◌*◌, ◌%◌, ◌^◌, ◌<◌, ◌≤◌, inr, Bool, true, false, ◌&&◌, nat_lt, List, [], ◌∷◌, ◌++◌, length, Some, refl, ap, sym, ◌∙◌, subst, arith, length-append, append_assoc, append-nil}
use Rattle.std.proofs.lemmas.Bool.{ltb-true, ltb-false}
use Rattle.mid_code.specs.declared.reg.Reg.{Reg}
use Rattle.mid_code.specs.declared.op.MidOp.{MidOp}
use Rattle.mid_code.specs.declared.op.MidOp.TheVariants.{Const, Copy, Both, Divide, Runtime, Skip, Back, Unless}
use Rattle.mid_code.specs.declared.op.LinedOp.{LinedOp}
use Rattle.mid_code.specs.Operations.{MidCode, op_in, line_in, ops_of, code_of}
use Rattle.mid_code.specs.Flow.{target_of, Live, reads_now, reads_later, IsLawful, AreLawful}
use Rattle.mid_code.specs.Step.{first_state}
use Rattle.rv_isa.specs.Words.{signed_upper}
use Rattle.rv_isa.specs.Machine.{Cpu, Machine, moves_on}
use Rattle.rv_select.specs.Places.{Place}
use Rattle.rv_select.specs.Slots.{place_of, slots_of, FitFrame}
use Rattle.rv_select.specs.Emission.{op_code}
use Rattle.rv_select.specs.Standing.{StandsAt}
use Rattle.rv_select.specs.Relation.{Target, IsNear, Flows, Selected, CarriesOut}
use Rattle.rv_select.specs.Layout.{placed, start_of, entry_code, after_entry, proc_code, code_from, selected, base_from, base_of, target_of_program, is_near, op_reaches, reaches, FitFrom, Fits}
use Rattle.rv_select.proofs.Straight.{Straight, halts, onward, straight_goes}
use Rattle.rv_select.proofs.Positions.{start_next, start_rising, start_within, placed_length, Has, stands_middle, stands_op, stands_end, body_of, Found, proc_found}
use Rattle.rv_select.proofs.Sizes.{size_is}
use Rattle.rv_select.proofs.Numbering.{has_slot, live_has_slot, places_apart, is_place}

-- The code of a whole program is selected code.

left_is : (a b : Bool) → (a && b) ≡ true → a ≡ true
left_is true b e = refl
left_is false b e = e

right_is : (a b : Bool) → (a && b) ≡ true → b ≡ true
right_is true b e = e
right_is false b e = cc

near_is : (from to : ℕ) → is_near from to ≡ true → IsNear from to
near_is from to e = record {
  ahead = ltb-true to (from + 2 ^ 18) (left_is (nat_lt to (from + 2 ^ 18)) (nat_lt from (to + (2 ^ 18 + 1))) e);
  behind = let l : from < to + (2 ^ 18 + 1) = ltb-true from (to + (2 ^ 18 + 1)) (right_is (nat_lt to (from + 2 ^ 18)) (nat_lt from (to + (2 ^ 18 + 1))) e) in omega arith;
}

op_near : (start : ℕ → ℕ) (i j : ℕ) (op : MidOp) → op_reaches start i op ≡ true → target_of op ≡ Some j → IsNear (start i) (start j)
op_near start i j (Const d n) e t = cc
op_near start i j (Copy d a) e t = cc
op_near start i j (Both op d a b) e t = cc
op_near start i j (Divide op d a b) e t = cc
op_near start i j (Runtime n a b c d to) e t = cc
op_near start i j (Skip k) e t = let same : k ≡ j = cc in subst (λ q. IsNear (start i) (start q)) same (near_is (start i) (start k) e)
op_near start i j (Back k) e t = let same : k ≡ j = cc in subst (λ q. IsNear (start i) (start q)) same (near_is (start i) (start k) e)
op_near start i j (Unless a k) e t = let same : k ≡ j = cc in subst (λ q. IsNear (start i) (start q)) same (near_is (start i) (start k) e)

ops_near : (start : ℕ → ℕ) (n : ℕ) (ops : List LinedOp) → reaches start n ops ≡ true → (i j : ℕ) (op : MidOp) → op_in ops i ≡ Some op → target_of op ≡ Some j → IsNear (start (n + i)) (start j)
ops_near start n [] e i j op is t = cc
ops_near start n (o ∷ ops) e zero j op is t =
    let same : o.op ≡ op = cc in
    let place : n + 0 ≡ n = omega arith in
    let first : op_reaches start n o.op ≡ true = left_is (op_reaches start n o.op) (reaches start (suc n) ops) e in
    rw place (op_near start n j op (rw same at first) t)
ops_near start n (o ∷ ops) e (suc i) j op is t =
    let place : suc n + i ≡ n + suc i = omega arith in
    rw (← place) (ops_near start (suc n) ops (right_is (op_reaches start n o.op) (reaches start (suc n) ops) e) i j op is t)

ops_lawful : (n : ℕ) (ops : List LinedOp) → AreLawful n ops → (i : ℕ) (op : MidOp) → op_in ops i ≡ Some op → IsLawful (n + i) op
ops_lawful n [] law i op is = cc
ops_lawful n (o ∷ ops) law zero op is =
    let same : o.op ≡ op = cc in
    let place : n + 0 ≡ n = omega arith in
    rw (place, ← same) law.0
ops_lawful n (o ∷ ops) law (suc i) op is =
    let place : suc n + i ≡ n + suc i = omega arith in
    rw (← place) (ops_lawful (suc n) ops law.1 i op is)

-- a procedure fits, by where its operations begin
record FitsAt (base : ℕ) (ops : List LinedOp) : Type 0 where
  slots : FitFrame (slots_of ops)
  jumps : reaches (start_of (place_of (slots_of ops)) base ops) 0 ops ≡ true

fits_proc : (k p : ℕ) (procs : List (List LinedOp)) (q : ℕ) → FitFrom k p procs → q < length procs → FitsAt (base_from k p procs q) (ops_of procs q)
fits_proc k p [] q fit lt = absurd (omega arith)
fits_proc k p (ops ∷ procs) zero fit lt = record { slots = fit.0.slots; jumps = fit.0.jumps }
fits_proc k p (ops ∷ procs) (suc q) fit lt = fits_proc (k + length (proc_code k p ops)) (suc p) procs q fit.1 (omega arith)

from_zero : (i : ℕ) → 0 + i ≡ i
from_zero i = omega arith

-- the operations of a procedure that isn't there
no_ops : (procs : List (List LinedOp)) (p : ℕ) → length procs ≤ p → ops_of procs p ≡ []
no_ops [] p le = refl
no_ops (ops ∷ procs) zero le = absurd (omega arith)
no_ops (ops ∷ procs) (suc p) le = no_ops procs p (omega arith)

-- the end of a procedure's code lies within the program's
base_within : (k p : ℕ) (procs : List (List LinedOp)) (q : ℕ) → k + length (code_from k p procs) < 2 ^ 30 → (i : ℕ) → start_of (place_of (slots_of (ops_of procs q))) (base_from k p procs q) (ops_of procs q) i < 2 ^ 30
base_within k p [] q small i = omega arith
base_within k p (ops ∷ procs) zero small i =
    let rest = code_from (k + length (proc_code k p ops)) (suc p) procs in
    let place = place_of (slots_of ops) in
    let base = after_entry k p in
    let e : length (proc_code k p ops ++ rest) ≡ length (proc_code k p ops) + length rest = length-append _ _ in
    let f : length (proc_code k p ops) ≡ length (placed (line_in ops 0) (entry_code p)) + length (body_of base ops) = length-append _ _ in
    let g : length (placed (line_in ops 0) (entry_code p)) ≡ length (entry_code p) = placed_length (line_in ops 0) (entry_code p) in
    let l : start_of place base ops i < base + length (body_of base ops) = start_within place (start_of place base ops) base 0 1 ops i in
    omega arith
base_within k p (ops ∷ procs) (suc q) small i =
    let rest = code_from (k + length (proc_code k p ops)) (suc p) procs in
    let e : length (proc_code k p ops ++ rest) ≡ length (proc_code k p ops) + length rest = length-append _ _ in
    base_within (k + length (proc_code k p ops)) (suc p) procs q (omega arith) i

module _ (h : Machine) (procs : List (List LinedOp)) (has : Has h (selected procs)) (fits : Fits procs) (lawful : (p : ℕ) → AreLawful 0 (ops_of procs p)) (end : h.low + 2 ^ 32 ≤ 2 ^ 63) where
  abbrev m : MidCode
  m = code_of procs

  abbrev t : Target
  t = target_of_program procs

  abbrev place_in : ℕ → Reg → Place
  place_in p = place_of (slots_of (ops_of procs p))

  found : (p : ℕ) → p < length procs → Found (selected procs) (base_of procs p) (ops_of procs p)
  found p lt = proc_found (selected procs) [] [] 0 0 procs p (sym (append-nil (selected procs))) refl lt

  -- an operation is one of a procedure that is there
  there : (p i : ℕ) (op : MidOp) → m.op_at p i ≡ Some op → p < length procs
  there p i op is = by_test (nat_lt p (length procs)) refl where
    by_test : (t : Bool) → nat_lt p (length procs) ≡ t → p < length procs
    by_test true e = ltb-true p (length procs) e
    by_test false e = let l : length procs ≤ p = ltb-false p (length procs) e in none_there (ops_of procs p) (no_ops procs p l) is where
      none_there : (ops : List LinedOp) → ops ≡ [] → op_in ops i ≡ Some op → p < length procs
      none_there [] e is = cc
      none_there (o ∷ ops) e is = cc

  op_stands : (p i : ℕ) (op : MidOp) → m.op_at p i ≡ Some op → StandsAt h (m.line_of p i) (t.start p i) (op_code (t.place p) (t.start p) i op)
  op_stands p i op is =
      let f = found p (there p i op is) in
      subst (λ n. StandsAt h (m.line_of p i) (t.start p i) (op_code (t.place p) (t.start p) n op)) (from_zero i) (stands_op h (selected procs) f.before f.behind (place_in p) (t.start p) (base_of procs p) 0 1 (ops_of procs p) has f.is f.at i op is)

  op_next : (p i : ℕ) (op : MidOp) → m.op_at p i ≡ Some op → t.start p (suc i) ≡ t.start p i + length (op_code (t.place p) (t.start p) i op)
  op_next p i op is = start_next (place_in p) (base_of procs p) (ops_of procs p) i op is ∙ ap (λ n. t.start p i + n) (sym (size_is (place_in p) (t.start p) i op))

  op_flows : (p i : ℕ) (op : MidOp) → m.op_at p i ≡ Some op → Flows t (Live m) p i op
  op_flows p i op is = record {
    reads = λ r among. reads_now i r op is among;
    keeps = λ j goes r other later. reads_later i j r op is goes other later;
    apart = λ d r writes later other. places_apart (slots_of (ops_of procs p)) r d (fits_proc 0 0 procs p fits.each (there p i op is)).slots (live_has_slot m p (ops_of procs p) (λ k. refl) (suc i) r later) (has_slot (ops_of procs p) i op d is (inr writes)) other;
    written = λ d writes. is_place (slots_of (ops_of procs p)) d;
  }

  op_is_near : (p i j : ℕ) (op : MidOp) → m.op_at p i ≡ Some op → target_of op ≡ Some j → IsNear (t.start p i) (t.start p j)
  op_is_near p i j op is to =
      subst (λ n. IsNear (t.start p n) (t.start p j)) (from_zero i) (ops_near (t.start p) 0 (ops_of procs p) (fits_proc 0 0 procs p fits.each (there p i op is)).jumps i j op is to)

  -- all that the simulation asks for
  pub is_selected : Selected h m t (Live m)
  is_selected = record {
    stands = op_stands;
    next = op_next;
    rising = λ p i j le. start_rising (place_in p) (base_of procs p) (ops_of procs p) i j le;
    within = λ p i. base_within 0 0 procs p (omega (arith, fits.words)) i;
    ends = λ p i lt is. let f = found p lt in stands_end h (selected procs) f.before f.behind (place_in p) (t.start p) (base_of procs p) 0 1 (ops_of procs p) has f.is f.at i is;
    lawful = λ p i op is. subst (λ n. IsLawful n op) (from_zero i) (ops_lawful 0 (ops_of procs p) (lawful p) i op is);
    near = op_is_near;
    places = λ p i r live. is_place (slots_of (ops_of procs p)) r;
    flows = op_flows;
    end = end;
  }

entry_is : (stack low : ℕ) → stack ≡ low + 2 ^ 32 → low + 2 ^ 32 ≤ 2 ^ 63 → (stack + signed_upper (2 ^ 20 - 2048) % 2 ^ 64) % 2 ^ 64 ≡ low + 2 ^ 22 * (999 + 23)
entry_is stack low is end = omega arith

-- the main module's entry
entry_stands : (h : Machine) (ops : List LinedOp) (procs : List (List LinedOp)) → Has h (selected (ops ∷ procs)) → StandsAt h (line_in ops 0) 0 (entry_code 0)
entry_stands h ops procs has =
    let enters = placed (line_in ops 0) (entry_code 0) in
    let body = body_of (after_entry 0 0) ops in
    let rest = code_from (0 + length (proc_code 0 0 ops)) 1 procs in
    stands_middle h (selected (ops ∷ procs)) [] (body ++ rest) (line_in ops 0) 0 (entry_code 0) has (append_assoc enters body rest) refl

first_by : (h : Machine) (ops : List LinedOp) (procs : List (List LinedOp)) (c : Cpu) → Has h (selected (ops ∷ procs)) → h.low + 2 ^ 32 ≤ 2 ^ 63 → ((r : Reg) → Live (code_of (ops ∷ procs)) 0 0 r → ⊥) → c.pc ≡ 0 → c.regs 2 ≡ h.low + 2 ^ 32
    → CarriesOut h (code_of (ops ∷ procs)) (target_of_program (ops ∷ procs)) (Live (code_of (ops ∷ procs))) first_state c
first_by h ops procs c has end none at stack =
    let c1 : Cpu = moves_on c 7 (signed_upper (2 ^ 20 - 2048)) in
    let c2 : Cpu = moves_on c1 2 (c1.regs 2 + c1.regs 7) in
    let run : Straight h (entry_code 0) c c2 = onward _ _ c c1 c2 refl refl (onward _ _ c1 c2 c2 refl refl (halts c2)) in
    let goes = straight_goes h (line_in ops 0) 0 (entry_code 0) c c2 (at ∙ omega arith) (entry_stands h ops procs has) run in (
      c2,
      goes.by,
      record {
        at = goes.to ∙ ap (λ n. 4 * n) (begins ops);
        there = omega arith;
        frame = entry_is (c.regs 2) h.low stack end;
        vals = λ r live. absurd (none r live);
        small = λ r. omega arith;
        few = omega arith;
        args = λ i lt. absurd (omega arith);
        callers = tt;
        roomy = omega arith;
      },
    ) where
      begins : (ops : List LinedOp) → 0 + length (entry_code 0) ≡ start_of (place_of (slots_of ops)) (after_entry 0 0) ops 0
      begins [] = refl
      begins (o ∷ ops) = refl

-- A thread of the main module begins as middle code's.
pub starts : (h : Machine) (procs : List (List LinedOp)) (c : Cpu) → 1 ≤ length procs → Has h (selected procs) → h.low + 2 ^ 32 ≤ 2 ^ 63 → ((r : Reg) → Live (code_of procs) 0 0 r → ⊥) → c.pc ≡ 0 → c.regs 2 ≡ h.low + 2 ^ 32
    → CarriesOut h (code_of procs) (target_of_program procs) (Live (code_of procs)) first_state c
starts h [] c some has end none at stack = absurd (omega arith)
starts h (ops ∷ procs) c some has end none at stack = first_by h ops procs c has end none at stack
