-- Each item that is read keeps its rule and is spelled so, and each that keeps its rule is read again; so are lists of them.
use Rattle.std.proofs.Common.{◌≡◌, ℕ, zero, suc, List, [], ◌∷◌, ◌++◌, length, Result, Ok, refl, ap, subst, ◌∙◌, append_assoc}
use Rattle.std.specs.List.{flat_map, AllByRecursion}
use Rattle.std.proofs.lemmas.List.Concat.{flat_map-cons}
use Rattle.fb_image.specs.Format.{AllAlong}
use Rattle.fb_image.specs.Reading.{Fault, ◌>>=◌, many_at}
use Rattle.fb_image.proofs.Words.{IsBytes, bind_ok, ok_is, Takes, Takes-then}

pub record IsExact {A : Type 0} (item : ℕ → List ℕ → Result (A × List ℕ) Fault) (spell : A → List ℕ) (rule : ℕ → A → Type 0) : Type 0 where
  pub takes : (low : ℕ) (bytes : List ℕ) (x : A × List ℕ) → IsBytes bytes → item low bytes ≡ Ok x → Takes bytes (spell x.0) x.1 × rule low x.0
  pub again : (low : ℕ) (x : A) (rest : List ℕ) → rule low x → item low (spell x ++ rest) ≡ Ok (x, rest)

-- so many items that were read
pub record TakesMany {A : Type 0} (spell : A → List ℕ) (rule : ℕ → A → Type 0) (next : A → ℕ) (low n : ℕ) (bytes : List ℕ) (xs : List A) (rest : List ℕ) : Type 0 where
  pub takes : Takes bytes (flat_map spell xs) rest
  pub count : length xs ≡ n
  pub rules : AllAlong rule next low xs

pub many_takes : {A : Type 0} (item : ℕ → List ℕ → Result (A × List ℕ) Fault) (spell : A → List ℕ) (rule : ℕ → A → Type 0) → IsExact item spell rule → (next : A → ℕ) (low n : ℕ) (bytes : List ℕ) (x : List A × List ℕ)
    → IsBytes bytes → many_at item next low n bytes ≡ Ok x → TakesMany spell rule next low n bytes x.0 x.1
unfolding many_at
many_takes {A} item spell rule exact next low zero bytes x fits e =
    subst (λ (y : List A × List ℕ). TakesMany spell rule next low 0 bytes y.0 y.1) (ok_is ([], bytes) x e) (record { takes = record { parts = refl; rest_fits = fits }; count = refl; rules = tt })
many_takes {A} item spell rule exact next low (suc n) bytes x fits e =
    let a = bind_ok (item low bytes) (λ first. many_at item next (next first.0) n first.1 >>= λ others. Ok (first.0 ∷ others.0, others.1)) x e in
    let b = bind_ok (many_at item next (next a.0.0) n a.0.1) (λ others. Ok (a.0.0 ∷ others.0, others.1)) x a.2 in
    let first = exact.takes low bytes a.0 fits a.1 in
    let second = many_takes item spell rule exact next (next a.0.0) n a.0.1 b.0 first.0.rest_fits b.1 in
    let both = Takes-then bytes (spell a.0.0) a.0.1 (flat_map spell b.0.0) b.0.1 first.0 second.takes in
    let made : List A × List ℕ = (a.0.0 ∷ b.0.0, b.0.1) in
    subst (λ (y : List A × List ℕ). TakesMany spell rule next low (suc n) bytes y.0 y.1) (ok_is made x b.2) (record { takes = rw flat_map-cons both; count = ap suc second.count; rules = (first.1, second.rules) })

pub many_again : {A : Type 0} (item : ℕ → List ℕ → Result (A × List ℕ) Fault) (spell : A → List ℕ) (rule : ℕ → A → Type 0) → IsExact item spell rule → (next : A → ℕ) (low : ℕ) (xs : List A) (rest : List ℕ)
    → AllAlong rule next low xs → many_at item next low (length xs) (flat_map spell xs ++ rest) ≡ Ok (xs, rest)
unfolding many_at
many_again item spell rule exact next low [] rest rules = refl
many_again item spell rule exact next low (x ∷ xs) rest rules =
    let regrouped : flat_map spell (x ∷ xs) ++ rest ≡ spell x ++ (flat_map spell xs ++ rest) = ap (λ (t : List ℕ). t ++ rest) (flat_map-cons spell x xs) ∙ append_assoc (spell x) (flat_map spell xs) rest in
    ap (many_at item next low (suc (length xs))) regrouped ∙ rw (exact.again low x (flat_map spell xs ++ rest) rules.0, many_again item spell rule exact next (next x) xs rest rules.1) refl

-- rules of each item alone
pub each_from_along : {A : Type 0} (P : A → Type 0) (next : A → ℕ) (low : ℕ) (xs : List A) → AllAlong (λ _ x. P x) next low xs → AllByRecursion P xs
each_from_along P next low [] rules = tt
each_from_along P next low (x ∷ xs) rules = (rules.0, each_from_along P next (next x) xs rules.1)

pub along_from_each : {A : Type 0} (P : A → Type 0) (next : A → ℕ) (low : ℕ) (xs : List A) → AllByRecursion P xs → AllAlong (λ _ x. P x) next low xs
along_from_each P next low [] rules = tt
along_from_each P next low (x ∷ xs) rules = (rules.0, along_from_each P next (next x) xs rules.1)

pub along_weaker : {A : Type 0} (P Q : ℕ → A → Type 0) (next : A → ℕ) → ((low : ℕ) (x : A) → P low x → Q low x) → (low : ℕ) (xs : List A) → AllAlong P next low xs → AllAlong Q next low xs
along_weaker P Q next f low [] rules = tt
along_weaker P Q next f low (x ∷ xs) rules = (f low x rules.0, along_weaker P Q next f (next x) xs rules.1)

pub along_both : {A : Type 0} (P : ℕ → A → Type 0) (Q : A → Type 0) (next : A → ℕ) (low : ℕ) (xs : List A) → AllAlong P next low xs → AllByRecursion Q xs → AllAlong (λ l x. P l x × Q x) next low xs
along_both P Q next low [] rules each = tt
along_both P Q next low (x ∷ xs) rules each = ((rules.0, each.0), along_both P Q next (next x) xs rules.1 each.1)
