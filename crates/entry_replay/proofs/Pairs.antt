use Rattle.std.proofs.Common.{◌≡◌, ℕ, zero, suc, List, [], ◌∷◌, ◌++◌, length, slice_get, slice_set, Option, Some, None, is_some, true≢false, refl, sym, ap, subst}
use Rattle.entry_replay.specs.Laws.{Paired}
use Rattle.entry_replay.proofs.Touched.{same_some}

-- Lists of threads that are related one by one.

-- a thread of a number in the second list, or in the first
pub record There {A B : Type 0} (R : ℕ → A → B → Type 0) (ys : List B) (t : ℕ) (a : A) : Type 0 where
  pub state : B
  pub is : slice_get ys t ≡ Some state
  pub related : R t a state

pub record Back {A B : Type 0} (R : ℕ → A → B → Type 0) (xs : List A) (t : ℕ) (b : B) : Type 0 where
  pub state : A
  pub is : slice_get xs t ≡ Some state
  pub related : R t state b

pub nothing_there : {A : Type 0} (a : A) → ◌≡◌ {A = Option A} None (Some a) → ⊥
nothing_there a e = true≢false (sym (ap is_some e))

pub paired_at : {A B : Type 0} (R : ℕ → A → B → Type 0) (xs : List A) (ys : List B) (t : ℕ) (a : A) → Paired R xs ys → slice_get xs t ≡ Some a → There R ys t a
paired_at R [] ys t a p e = absurd (nothing_there a e)
paired_at R (x ∷ xs) [] t a p e = absurd p
paired_at R (x ∷ xs) (y ∷ ys) zero a p e = record { state = y; is = refl; related = subst (λ z. R zero z y) (same_some x a e) p.0 }
paired_at R (x ∷ xs) (y ∷ ys) (suc t) a p e =
    let w = paired_at (λ n. R (suc n)) xs ys t a p.1 e in
    record { state = w.state; is = w.is; related = w.related }

pub paired_back : {A B : Type 0} (R : ℕ → A → B → Type 0) (xs : List A) (ys : List B) (t : ℕ) (b : B) → Paired R xs ys → slice_get ys t ≡ Some b → Back R xs t b
paired_back R xs [] t b p e = absurd (nothing_there b e)
paired_back R [] (y ∷ ys) t b p e = absurd p
paired_back R (x ∷ xs) (y ∷ ys) zero b p e = record { state = x; is = refl; related = subst (λ z. R zero x z) (same_some y b e) p.0 }
paired_back R (x ∷ xs) (y ∷ ys) (suc t) b p e =
    let w = paired_back (λ n. R (suc n)) xs ys t b p.1 e in
    record { state = w.state; is = w.is; related = w.related }

-- a thread of both goes on
pub paired_set : {A B : Type 0} (R : ℕ → A → B → Type 0) (xs : List A) (ys : List B) (t : ℕ) (a : A) (b : B) → R t a b → Paired R xs ys → Paired R (slice_set xs t a) (slice_set ys t b)
paired_set R [] [] t a b r p = p
paired_set R [] (y ∷ ys) t a b r p = absurd p
paired_set R (x ∷ xs) [] t a b r p = absurd p
paired_set R (x ∷ xs) (y ∷ ys) zero a b r p = (r, p.1)
paired_set R (x ∷ xs) (y ∷ ys) (suc t) a b r p = (p.0, paired_set (λ n. R (suc n)) xs ys t a b r p.1)

-- one more thread in both
pub paired_more : {A B : Type 0} (R : ℕ → A → B → Type 0) (xs : List A) (ys : List B) (a : A) (b : B) → R (length xs) a b → Paired R xs ys → Paired R (xs ++ a ∷ []) (ys ++ b ∷ [])
paired_more R [] [] a b r p = (r, tt)
paired_more R [] (y ∷ ys) a b r p = absurd p
paired_more R (x ∷ xs) [] a b r p = absurd p
paired_more R (x ∷ xs) (y ∷ ys) a b r p = (p.0, paired_more (λ n. R (suc n)) xs ys a b r p.1)

pub paired_length : {A B : Type 0} (R : ℕ → A → B → Type 0) (xs : List A) (ys : List B) → Paired R xs ys → length xs ≡ length ys
paired_length R [] [] p = refl
paired_length R [] (y ∷ ys) p = absurd p
paired_length R (x ∷ xs) [] p = absurd p
paired_length R (x ∷ xs) (y ∷ ys) p = ap suc (paired_length (λ n. R (suc n)) xs ys p.1)
