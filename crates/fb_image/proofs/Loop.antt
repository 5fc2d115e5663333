-- Reading items one after the other, as a loop does.
use Rattle.std.proofs.Common.{◌≡◌, ℕ, suc, ◌-◌, ◌+◌, ◌≤◌, ◌<◌, List, [], ◌∷◌, ◌++◌, Result, Ok, Err, refl, sym, ap, ◌∙◌, append_assoc, arith}
use Rattle.std.proofs.lemmas.List.{append-nil}
use Rattle.fb_image.specs.declared.fault.ReadErr.{ReadErr}
use Rattle.fb_image.specs.declared.fault.ReadErr.TheVariants as read_errs
use Rattle.fb_image.specs.Answers.{Fails}
use Rattle.fb_image.specs.Reading.{Fault, ◌>>=◌, many_at}

-- what was read before, and what is still read
abbrev pub with_front : {A : Type 0} → List A → Result (List A × List ℕ) Fault → Result (List A × List ℕ) Fault
with_front front read = read >>= λ x. Ok (front ++ x.0, x.1)

regroup : {A : Type 0} (front : List A) (x : A) (read : Result (List A × List ℕ) Fault) → with_front front (read >>= λ others. Ok (x ∷ others.0, others.1)) ≡ with_front (front ++ x ∷ []) read
regroup {A} front x (Ok others) = ap (λ (xs : List A). Ok (xs, others.1)) (simp append_assoc)
regroup front x (Err f) = refl

pub goes_on : {A : Type 0} (item : ℕ → List ℕ → Result (A × List ℕ) Fault) (next : A → ℕ) (front : List A) (count i low : ℕ) (bytes : List ℕ) (x : A) (after : List ℕ) (pushed : List A) (low' : ℕ) (total : Result (List A × List ℕ) Fault)
    → i < count → item low bytes ≡ Ok (x, after) → pushed ≡ front ++ x ∷ [] → low' ≡ next x → with_front front (many_at item next low (count - i) bytes) ≡ total
    → with_front pushed (many_at item next low' (count - (i + 1)) after) ≡ total
unfolding many_at
goes_on item next front count i low bytes x after pushed low' total lt h more step so_far =
    let k : count - i ≡ suc (count - (i + 1)) = omega arith in
    let one : with_front front (many_at item next low (count - i) bytes) ≡ with_front (front ++ x ∷ []) (many_at item next (next x) (count - (i + 1)) after) = rw (k, h) (regroup front x (many_at item next (next x) (count - (i + 1)) after)) in
    rw (more, step) (sym one ∙ so_far)

pub ends : {A : Type 0} (item : ℕ → List ℕ → Result (A × List ℕ) Fault) (next : A → ℕ) (e : ReadErr) (front : List A) (count i low : ℕ) (bytes : List ℕ) (total : Result (List A × List ℕ) Fault)
    → i < count → Fails e (item low bytes) → with_front front (many_at item next low (count - i) bytes) ≡ total → Fails e total
unfolding many_at
ends item next read_errs.NoMemory front count i low bytes total lt h so_far = tt
ends item next (read_errs.At left why) front count i low bytes total lt h so_far =
    let k : count - i ≡ suc (count - (i + 1)) = omega arith in
    let one : with_front front (many_at item next low (count - i) bytes) ≡ Err (record { left = left; why = why }) = rw (k, h) refl in
    sym so_far ∙ one

pub is_done : {A : Type 0} (item : ℕ → List ℕ → Result (A × List ℕ) Fault) (next : A → ℕ) (front : List A) (count i low : ℕ) (bytes : List ℕ) (total : Result (List A × List ℕ) Fault)
    → count ≤ i → with_front front (many_at item next low (count - i) bytes) ≡ total → total ≡ Ok (front, bytes)
unfolding many_at
is_done {A} item next front count i low bytes total le so_far =
    let k : count - i ≡ 0 = omega arith in
    let one : with_front front (many_at item next low (count - i) bytes) ≡ Ok (front, bytes) = rw k (ap (λ (xs : List A). Ok (xs, bytes)) (append-nil front)) in
    sym so_far ∙ one
