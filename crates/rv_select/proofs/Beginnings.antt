use Rattle.std.proofs.Common.{◌≡◌, ℕ, zero, suc, ◌+◌, ◌<◌, List, [], ◌∷◌, ◌++◌, length, get_or, refl, ap, ◌∙◌, arith, append_assoc, length-append, Result, Ok, Err, OnOk}
use Rattle.std.specs.Bool.{IsTrue}
use Rattle.mid_code.specs.declared.reg.Reg.{Reg}
use Rattle.mid_code.specs.declared.op.LinedOp.{LinedOp}
use Rattle.mid_code.specs.Operations.{line_in}
use Rattle.rv_select.specs.declared.lined.LinedInst.{LinedInst}
use Rattle.rv_select.specs.declared.starts.Starts.{Starts}
use Rattle.rv_select.specs.declared.slots.Slots.{Slots}
use Rattle.rv_select.specs.Places.{Place}
use Rattle.rv_select.specs.Slots.{place_of, slots_of, FitFrame}
use Rattle.rv_select.specs.Sizes.{size_of}
use Rattle.rv_select.specs.Layout.{start_of, body_code, placed, entry_code, main_entry, called_entry, after_entry, proc_code, code_from, entries_from, reaches, FitsProc, FitFrom}
use Rattle.rv_select.specs.Starts.{start_at, starts_from, end_from}

-- The list of starts says where operations begin.

start_found : (place : Reg → Place) (k : ℕ) (ops : List LinedOp) (i : ℕ) → get_or (starts_from place k ops) i (end_from place k ops) ≡ start_of place k ops i
start_found place k [] i = refl
start_found place k (o ∷ ops) zero = refl
start_found place k (o ∷ ops) (suc i) = start_found place (k + size_of place o.op) ops i

starts_at : (place : Reg → Place) (k : ℕ) (ops : List LinedOp) (s : Starts) (i : ℕ) → s.places.items ≡ starts_from place k ops → s.end ≡ end_from place k ops → start_at s i ≡ start_of place k ops i
starts_at place k ops s i places end = rw (places, end) (start_found place k ops i)

pub starts_are : (place : Reg → Place) (k : ℕ) (ops : List LinedOp) (s : Starts) → s.places.items ≡ starts_from place k ops → s.end ≡ end_from place k ops → start_at s ≡ start_of place k ops
starts_are place k ops s places end = λ i. λ x. starts_at place k ops s x places end i

-- every procedure but the main module is called
pub called_is : (p : ℕ) → 0 < p → entry_code p ≡ called_entry
called_is zero some = absurd (omega arith)
called_is (suc p) some = refl

pub main_is : (p : ℕ) → p ≡ 0 → entry_code p ≡ main_entry
main_is p e = rw e refl

-- the code of a procedure, put together
pub proc_is : (old mid new : List LinedInst) (k p : ℕ) (ops : List LinedOp) (s : Starts) → mid ≡ old ++ placed (line_in ops 0) (entry_code p) → new ≡ mid ++ body_code (place_of (slots_of ops)) (start_at s) 0 1 ops
    → s.places.items ≡ starts_from (place_of (slots_of ops)) (after_entry k p) ops → s.end ≡ end_from (place_of (slots_of ops)) (after_entry k p) ops → new ≡ old ++ proc_code k p ops
proc_is old mid new k p ops s front back places end =
    let same = starts_are (place_of (slots_of ops)) (after_entry k p) ops s places end in
    let enters = placed (line_in ops 0) (entry_code p) in
    back ∙ ap (λ f. mid ++ body_code (place_of (slots_of ops)) f 0 1 ops) same ∙ ap (λ q. q ++ body_code (place_of (slots_of ops)) (start_of (place_of (slots_of ops)) (after_entry k p) ops) 0 1 ops) front ∙ append_assoc old enters _

pub proc_ok : {A E : Type 0} (r : Result A E) (old mid new : List LinedInst) (p base : ℕ) (slots : Slots) (ops : List LinedOp) (s : Starts) → slots ≡ slots_of ops → base ≡ after_entry (length old) p → mid ≡ old ++ placed (line_in ops 0) (entry_code p)
    → s.places.items ≡ starts_from (place_of slots) base ops → s.end ≡ end_from (place_of slots) base ops → OnOk r (new ≡ mid ++ body_code (place_of slots) (start_at s) 0 1 ops) → OnOk r (new ≡ old ++ proc_code (length old) p ops)
proc_ok (Ok x) old mid new p base slots ops s are at front places end back =
    proc_is old mid new (length old) p ops s front (rw are at back) (rw (are, at) at places) (rw (are, at) at end)
proc_ok (Err x) old mid new p base slots ops s are at front places end back = tt

pub fits_ok : {A E : Type 0} (r : Result A E) (k p base : ℕ) (slots : Slots) (ops : List LinedOp) (s : Starts) → slots ≡ slots_of ops → base ≡ after_entry k p → FitFrame slots
    → s.places.items ≡ starts_from (place_of slots) base ops → s.end ≡ end_from (place_of slots) base ops → OnOk r (IsTrue (reaches (start_at s) 0 ops)) → OnOk r (FitsProc k p ops)
fits_ok (Ok x) k p base slots ops s are at fit places end jumps =
    let same = starts_are (place_of slots) base ops s places end in
    record { slots = rw are at fit; jumps = rw (same, are, at) at jumps }
fits_ok (Err x) k p base slots ops s are at fit places end jumps = tt

-- one more procedure
module _ (code new : List LinedInst) (p q : ℕ) (ops : List LinedOp) (all rest : List (List LinedOp)) (first : all ≡ ops ∷ rest) (is : new ≡ code ++ proc_code (length code) p ops) (next : q ≡ suc p) where
  longer : length new ≡ length code + length (proc_code (length code) p ops)
  longer = ap length is ∙ length-append code (proc_code (length code) p ops)

  pub code_more : (whole : List LinedInst) → code ++ code_from (length code) p all ≡ whole → new ++ code_from (length new) q rest ≡ whole
  code_more whole before =
      rw (longer, next, is) (append_assoc code (proc_code (length code) p ops) _ ∙ rw first at before)

  pub entries_more : (entries more : List ℕ) (k : ℕ) (whole : List ℕ) → more ≡ entries ++ k ∷ [] → k ≡ length code → entries ++ entries_from (length code) p all ≡ whole → more ++ entries_from (length new) q rest ≡ whole
  entries_more entries more k whole added at before =
      rw (longer, next, added, at) (append_assoc entries (length code ∷ []) _ ∙ rw first at before)

  pub fits_more : (Whole : Type 0) → FitsProc (length code) p ops → (FitFrom (length code) p all → Whole) → FitFrom (length new) q rest → Whole
  fits_more Whole fits before left = (rw first at before) (fits, rw (longer, next) at left)
