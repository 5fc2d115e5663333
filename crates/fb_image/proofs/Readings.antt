-- The laws of reading.
use Rattle.std.proofs.Common.{◌≡◌, ℕ, suc, ◌-◌, Bool, false, cond, eqb, inl, inr, List, [], ◌∷◌, ◌++◌, length, Result, Ok, Err, refl, sym, ap, ◌∙◌, arith}
use Rattle.std.specs.Prelude.{IfOk, OnOk, MatchResult}
use Rattle.std.proofs.lemmas.Bool.{cases_Bool, eqb-true}
use Rattle.std.proofs.lemmas.List.{append-nil, length-append}
use Rattle.fb_base.specs.declared.ending.ImageWhy.TheVariants.{Extra}
use Rattle.fb_image.specs.declared.fault.ImageErr.{ImageErr}
use Rattle.fb_image.specs.declared.fault.ImageErr.TheVariants as errors
use Rattle.fb_image.specs.declared.image.ImageParts.{ImageParts}
use Rattle.fb_image.specs.Answers.{FaultAt, placed, image_of, Reads}
use Rattle.fb_image.specs.Format.{IsImage}
use Rattle.fb_image.specs.Reading.{Fault, broken, parts_of}
use Rattle.fb_image.specs.Spelling.{AreBytes, spelling}
use Rattle.fb_image.proofs.Exact.{parts_take, parts_again}

placed_ok : (size : ℕ) (r : Result ImageParts Fault) (p : ImageParts) → placed size r ≡ Ok p → r ≡ Ok p
placed_ok size (Ok q) p e = cc
placed_ok size (Err f) p e = absurd cc

pub found : (bytes : List ℕ) (p : ImageParts) → AreBytes bytes → image_of bytes ≡ Ok p → IsImage p × (bytes ≡ spelling p)
found bytes p fits e = parts_take bytes p fits (placed_ok (length bytes) (parts_of bytes) p e)

parts_are : (p : ImageParts) → IsImage p → parts_of (spelling p) ≡ Ok p
parts_are p image = ap parts_of (sym (append-nil (spelling p))) ∙ parts_again p [] image

pub again : (p : ImageParts) → IsImage p → image_of (spelling p) ≡ Ok p
again p image = ap (placed (length (spelling p))) (parts_are p image)

same_ok : (p q : ImageParts) (r : Result ImageParts FaultAt) → r ≡ Ok p → r ≡ Ok q → p ≡ q
same_ok p q r e f = cc

pub one : (p q : ImageParts) → IsImage p → IsImage q → spelling p ≡ spelling q → p ≡ q
one p q first second e = same_ok p q (image_of (spelling p)) (again p first) (ap image_of e ∙ again q second)

not_none : (n : ℕ) → eqb (suc n) 0 ≡ false
not_none n =
    elim (cases_Bool (eqb (suc n) 0)) [
      | inl is ↦ absurd (omega (arith, eqb-true _ _ is))
      | inr is ↦ is
    ]

abbrev too_much : ℕ → Result ImageParts FaultAt
too_much n = Err (record { at = n; why = Extra })

pub extra : (p : ImageParts) (b : ℕ) (more : List ℕ) → IsImage p → image_of (spelling p ++ b ∷ more) ≡ Err (record { at = length (spelling p); why = Extra })
extra p b more image =
    let size = length (spelling p ++ b ∷ more) in
    let place : size - suc (length more) ≡ length (spelling p) = omega (arith, length-append (spelling p) (b ∷ more)) in
    let parts : parts_of (spelling p ++ b ∷ more) ≡ broken Extra (b ∷ more) = parts_again p (b ∷ more) image ∙ ap (λ (t : Bool). cond t (Ok p) (broken Extra (b ∷ more))) (not_none (length more)) in
    let read : image_of (spelling p ++ b ∷ more) ≡ too_much (size - suc (length more)) = ap (placed size) parts in
    read ∙ ap too_much place

pub is_found : (bytes : List ℕ) (r : Result ImageParts ImageErr) → AreBytes bytes → Reads r (image_of bytes) → IfOk r (λ p. IsImage p × (bytes ≡ spelling p))
is_found bytes (Ok p) fits read = found bytes p fits read
is_found bytes (Err e) fits read = tt

reads_only : (r : Result ImageParts ImageErr) (p : ImageParts) (read : Result ImageParts FaultAt) → read ≡ Ok p → Reads r read → MatchResult r (λ q. q ≡ p) (λ e. e ≡ errors.NoMemory)
reads_only (Ok q) p read is e = same_ok q p read e is
reads_only (Err errors.NoMemory) p read is e = refl
reads_only (Err (errors.At at why)) p read is e = absurd cc

pub is_only : (bytes : List ℕ) (r : Result ImageParts ImageErr) (p : ImageParts) → IsImage p → bytes ≡ spelling p → Reads r (image_of bytes) → MatchResult r (λ q. q ≡ p) (λ e. e ≡ errors.NoMemory)
is_only bytes r p image e read = reads_only r p (image_of bytes) (ap image_of e ∙ again p image) read

pub is_again : {E : Type 0} (r : Result (List ℕ) E) (p : ImageParts) → OnOk r (IsImage p) → IfOk r (λ text. text ≡ spelling p) → IfOk r (λ text. image_of text ≡ Ok p)
is_again (Ok text) p image is = ap image_of is ∙ again p image
is_again (Err e) p image is = tt
