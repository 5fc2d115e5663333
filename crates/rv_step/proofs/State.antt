use Rattle.std.proofs.Common.{◌≡◌, ℕ, zero, suc, ◌+◌, ◌-◌, ◌%◌, ◌^◌, ◌<◌, ◌≤◌, Bool, true, false, not, ◌&&◌, ◌==◌, nat_lt, List, [], ◌∷◌, get_or, replicate, refl, ap, sym, ◌∙◌, arith, if◌then◌else◌, Result, Ok, Err, OnOk}
use Rattle.std.proofs.lemmas.Bool.{lt-ltb, le-ltb}
use Rattle.rv_isa.specs.Words.{loaded, stored}
use Rattle.rv_step.specs.Pages.{byte_at, IsStored, SameBytes}
use Rattle.rv_step.proofs.Bytes.{by_places, loaded_same, stored_moved, stored_elsewhere}
use Rattle.rv_isa.specs.Machine as isa
use Rattle.rv_step.specs.State.{bytes_from, regs_of}

-- A thread at its start.

zeros : (n q : ℕ) → ◌≡◌ {A = ℕ} (get_or (replicate n 0) q 0) 0
zeros zero q = refl
zeros (suc n) zero = refl
zeros (suc n) (suc q) = zeros n q

either : (t : Bool) → ◌≡◌ {A = ℕ} (if t then 0 else 0) 0
either true = refl
either false = refl

abbrev pub set_in : isa.Cpu → ℕ → ℕ → isa.Cpu
set_in k r v = record { pc = k.pc; regs = isa.with_reg k.regs r v; bytes = k.bytes }

abbrev pub blank : ℕ → isa.Cpu
blank pc = record { pc = pc; regs = λ q. 0; bytes = λ q. 0 }

pub started : (a b d : isa.Cpu) (r s low e pc param : ℕ) → a ≡ record { pc = pc; regs = regs_of (replicate 32 0); bytes = bytes_from low [] } → b ≡ set_in a r e → d ≡ set_in b s param → r ≡ 2 → s ≡ 10 → d ≡ set_in (set_in (blank pc) 2 e) 10 param
started a b d r s low e pc param ea eb ed er es =
    let start : a ≡ blank pc = ea ∙ (λ i. record { pc = pc; regs = λ q. zeros 32 q i; bytes = λ q. either (not (nat_lt q low) && nat_lt q (low + 2 ^ 32)) i }) in
    ed ∙ ap (λ n. set_in b n param) es ∙ ap (λ k. set_in k 10 param) (eb ∙ ap (λ n. set_in a n e) er ∙ ap (λ k. set_in k 2 e) start)

-- what is put into a register is put modulo 2 ^ 64
pub put_low : (regs : ℕ → ℕ) (r v : ℕ) → isa.with_reg regs r (v % 2 ^ 64) ≡ isa.with_reg regs r v
put_low regs zero v = refl
put_low regs (suc r) v = let e : v % 2 ^ 64 % 2 ^ 64 ≡ v % 2 ^ 64 = omega arith in λ i. λ q. if q == suc r then e i else regs q

-- the bytes of the own stack by address
bytes_inside : (low : ℕ) (pages : List (List ℕ)) (a : ℕ) → low ≤ a → a < low + 2 ^ 32 → bytes_from low pages a ≡ byte_at pages (a - low)
bytes_inside low pages a l h = rw (le-ltb a low l, lt-ltb a (low + 2 ^ 32) h) refl

bytes_below : (low : ℕ) (pages : List (List ℕ)) (a : ℕ) → a < low → bytes_from low pages a ≡ 0
bytes_below low pages a h = rw (lt-ltb a low h) refl

bytes_above : (low : ℕ) (pages : List (List ℕ)) (a : ℕ) → low + 2 ^ 32 ≤ a → bytes_from low pages a ≡ 0
bytes_above low pages a h = rw (le-ltb a low (omega arith), le-ltb a (low + 2 ^ 32) h) refl

pub loaded_from : (low : ℕ) (pages : List (List ℕ)) (a w : ℕ) → low ≤ a → a + w ≤ low + 2 ^ 32 → loaded (byte_at pages) (a - low) w ≡ loaded (bytes_from low pages) a w
loaded_from low pages a w l h = loaded_same (byte_at pages) (bytes_from low pages) (a - low) a w (λ i u.
    let e : a - low + i ≡ a + i - low = omega arith in
    rw e (sym (bytes_inside low pages (a + i) (omega arith) (omega arith))))

stored_at : (low : ℕ) (old new : List (List ℕ)) (a w v : ℕ) → low ≤ a → a + w ≤ low + 2 ^ 32 → IsStored old new (a - low) w v → (q : ℕ) → bytes_from low new q ≡ stored (bytes_from low old) a w v q
stored_at low old new a w v l h done q = by_places (bytes_from low new q ≡ stored (bytes_from low old) a w v q) q low (low + 2 ^ 32) (omega arith)
    (λ u. bytes_below low new q u ∙ sym (bytes_below low old q u) ∙ sym (stored_elsewhere (bytes_from low old) a w v q (λ x y. omega arith)))
    (λ u t. bytes_inside low new q u t ∙ done (q - low) (omega arith) ∙ stored_moved (byte_at old) (bytes_from low old) (a - low) a w v (q - low) q (sym (bytes_inside low old q u t)) (omega arith))
    (λ u. bytes_above low new q u ∙ sym (bytes_above low old q u) ∙ sym (stored_elsewhere (bytes_from low old) a w v q (λ x y. omega arith)))

pub stored_from : (low : ℕ) (old new : List (List ℕ)) (a w v : ℕ) → low ≤ a → a + w ≤ low + 2 ^ 32 → IsStored old new (a - low) w v → bytes_from low new ≡ stored (bytes_from low old) a w v
stored_from low old new a w v l h done = λ i. λ q. stored_at low old new a w v l h done q i

same_at : (low : ℕ) (old new : List (List ℕ)) → SameBytes old new → (q : ℕ) → bytes_from low new q ≡ bytes_from low old q
same_at low old new same q = by_places (bytes_from low new q ≡ bytes_from low old q) q low (low + 2 ^ 32) (omega arith)
    (λ u. bytes_below low new q u ∙ sym (bytes_below low old q u))
    (λ u t. bytes_inside low new q u t ∙ same (q - low) (omega arith) ∙ sym (bytes_inside low old q u t))
    (λ u. bytes_above low new q u ∙ sym (bytes_above low old q u))

pub same_from : (low : ℕ) (old new : List (List ℕ)) → SameBytes old new → bytes_from low new ≡ bytes_from low old
same_from low old new same = λ i. λ q. same_at low old new same q i

abbrev pub over : ℕ → List ℕ → (ℕ → ℕ) → isa.Cpu
over pc regs bytes = record { pc = pc; regs = regs_of regs; bytes = bytes }

pub put_stored : {A E : Type 0} (pc : ℕ) (regs : List ℕ) (low : ℕ) (old new : List (List ℕ)) (a w v : ℕ) (r : Result A E) → low ≤ a → a + w ≤ low + 2 ^ 32 → OnOk r (IsStored old new (a - low) w v)
    → OnOk r (over pc regs (bytes_from low new) ≡ over pc regs (stored (bytes_from low old) a w v))
put_stored pc regs low old new a w v (Ok x) l h done = ap (over pc regs) (stored_from low old new a w v l h done)
put_stored pc regs low old new a w v (Err x) l h done = tt
