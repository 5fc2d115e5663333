-- Where a text stands in a string first.
use Rattle.std.proofs.Common.{◌≡◌, ℕ, zero, suc, ◌+◌, ◌-◌, ◌<◌, eqb, eqb-true, eq-eqb, Bool, true, false, cond, ◌&&◌, List, [], ◌∷◌, length, get_or, drop, refl, ap, sym, ◌∙◌, arith, zero-add}
use Rattle.std.proofs.lemmas.Bool.{false≢true}
use Rattle.memchr.specs.Find.{OccursAt}
use Rattle.text_functions.specs.Functions.{begins_with, first_place, find, is_below_one}

by_test : {X : Type 0} (t : Bool) → (t ≡ true → X) → (t ≡ false → X) → X
by_test true y n = y refl
by_test false y n = n refl

both_true : (a b : Bool) → (a && b) ≡ true → (a ≡ true) × (b ≡ true)
both_true true b e = (refl, e)
both_true false b e = absurd (false≢true e)

begins_more : (x y : ℕ) (s t : List ℕ) → x ≡ y → OccursAt s t 0 → OccursAt (x ∷ s) (y ∷ t) 0
begins_more x y s t same rest = record { fits = omega (arith, rest.fits); reads = λ j h. ap (λ i. get_or (x ∷ s) i 0) (zero-add j) ∙ reads j h } where
  reads : (j : ℕ) → j < length (y ∷ t) → get_or (x ∷ s) j 0 ≡ get_or (y ∷ t) j 0
  reads zero h = same
  reads (suc j) h = ap (λ i. get_or s i 0) (sym (zero-add j)) ∙ rest.reads j (omega arith)

begins_occurs : (s t : List ℕ) → begins_with s t ≡ true → OccursAt s t 0
begins_occurs s [] e = record { fits = omega arith; reads = λ j h. absurd (omega arith) }
begins_occurs [] (y ∷ t) e = absurd (false≢true e)
begins_occurs (x ∷ s) (y ∷ t) e =
    let parts = both_true (eqb x y) (begins_with s t) e in
    begins_more x y s t (eqb-true x y parts.0) (begins_occurs s t parts.1)

occurs_begins : (s t : List ℕ) → OccursAt s t 0 → begins_with s t ≡ true
occurs_begins s [] o = refl
occurs_begins [] (y ∷ t) o = absurd (omega (arith, o.fits))
occurs_begins (x ∷ s) (y ∷ t) o =
    let first : get_or (x ∷ s) (0 + 0) 0 ≡ y = o.reads 0 (omega arith) in
    let same : x ≡ y = ap (λ i. get_or (x ∷ s) i 0) (sym (zero-add 0)) ∙ first in
    let rest : OccursAt s t 0 = record { fits = omega (arith, o.fits); reads = λ j h. ap (λ i. get_or s i 0) (zero-add j) ∙ sym (ap (λ i. get_or (x ∷ s) i 0) (zero-add (suc j))) ∙ o.reads (suc j) (omega arith) } in
    ap (λ b. b && begins_with s t) (eq-eqb x y same) ∙ occurs_begins s t rest

-- a place is one further in a string that has one byte more before it
occurs_later : (x : ℕ) (s t : List ℕ) (k : ℕ) → OccursAt s t k → OccursAt (x ∷ s) t (suc k)
occurs_later x s t k o = record {
  fits = omega (arith, o.fits);
  reads = λ j h. let e : suc k + j ≡ suc (k + j) = omega arith in ap (λ i. get_or (x ∷ s) i 0) e ∙ o.reads j h;
}

occurs_earlier : (x : ℕ) (s t : List ℕ) (k : ℕ) → OccursAt (x ∷ s) t (suc k) → OccursAt s t k
occurs_earlier x s t k o = record {
  fits = omega (arith, o.fits);
  reads = λ j h. let e : suc k + j ≡ suc (k + j) = omega arith in ap (λ i. get_or (x ∷ s) i 0) (sym e) ∙ o.reads j h;
}

pub first_none : (at : ℕ) (s t : List ℕ) → ((k : ℕ) → OccursAt s t k → ⊥) → first_place at s t ≡ 0
first_none at [] t none = refl
first_none at (x ∷ s) t none =
    by_test (begins_with (x ∷ s) t)
    (λ b. absurd (none 0 (begins_occurs (x ∷ s) t b)))
    (λ b. ap (λ c. cond c at (first_place (at + 1) s t)) b ∙ first_none (at + 1) s t (λ k o. none (suc k) (occurs_later x s t k o)))

pub first_some : (at : ℕ) (s t : List ℕ) (k : ℕ) → 0 < length t → OccursAt s t k → ((j : ℕ) → j < k → OccursAt s t j → ⊥) → first_place at s t ≡ at + k
first_some at [] t k some o before = absurd (omega (arith, o.fits))
first_some at (x ∷ s) t zero some o before = ap (λ c. cond c at (first_place (at + 1) s t)) (occurs_begins (x ∷ s) t o) ∙ omega arith
first_some at (x ∷ s) t (suc k) some o before =
    by_test (begins_with (x ∷ s) t)
    (λ b. absurd (before 0 (omega arith) (begins_occurs (x ∷ s) t b)))
    (λ b. ap (λ c. cond c at (first_place (at + 1) s t)) b ∙ first_some (at + 1) s t k some (occurs_earlier x s t k o) (λ j h p. before (suc j) (omega arith) (occurs_later x s t j p)) ∙ omega arith)

pub find_in : (i : ℕ) (s t : List ℕ) → eqb (length t) 0 ≡ false → is_below_one i ≡ false → find i s t ≡ first_place i (drop (i - 1) s) t
find_in i s [] some above = absurd (false≢true (sym some))
find_in i s (y ∷ t) some above = ap (λ b. cond b 0 (first_place i (drop (i - 1) s) (y ∷ t))) above

pub find_below : (i : ℕ) (s t : List ℕ) → is_below_one i ≡ true → find i s t ≡ 0
find_below i s [] below = refl
find_below i s (y ∷ t) below = ap (λ b. cond b 0 (first_place i (drop (i - 1) s) (y ∷ t))) below

pub find_empty : (i : ℕ) (s t : List ℕ) → eqb (length t) 0 ≡ true → find i s t ≡ 0
find_empty i s [] e = refl
find_empty i s (y ∷ t) e = absurd (let z : length (y ∷ t) ≡ 0 = eqb-true _ _ e in omega arith)
