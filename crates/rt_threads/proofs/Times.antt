use Rattle.std.proofs.Common.{◌≡◌, ◌≢◌, ℕ, zero, suc, ◌+◌, ◌==◌, ◌<◌, ◌≤◌, List, [], ◌∷◌, ◌++◌, length, if◌then◌else◌, sym, zero-add, arith, eq-eqb, ne_eqb, eqb-true, refl, ap, true, false}
use Rattle.std.proofs.lemmas.Bool.{cond_both, eqb-false}
use Rattle.rt_threads.specs.Lists.{times}

-- How often a member stands in a queue, as the queue changes.

pub times-append : (t : ℕ) (xs ys : List ℕ) → times t (xs ++ ys) ≡ times t xs + times t ys
times-append t [] ys = sym (zero-add (times t ys))
times-append t (x ∷ xs) ys = omega (arith, times-append t xs ys)

pub times_here : (t x : ℕ) (xs : List ℕ) → x ≡ t → times t (x ∷ xs) ≡ 1 + times t xs
times_here t x xs e = let is : (x == t) ≡ true = eq-eqb x t e in rw is refl

pub times_there : (t x : ℕ) (xs : List ℕ) → (x ≡ t → ⊥) → times t (x ∷ xs) ≡ times t xs
times_there t x xs ne = let is : (x == t) ≡ false = ne_eqb x t ne in rw is (zero-add (times t xs))

pub times_push_same : (t : ℕ) (xs : List ℕ) → times t (xs ++ t ∷ []) ≡ times t xs + 1
times_push_same t xs = omega (arith, times-append t xs (t ∷ []), times_here t t [] refl)

pub times_push_other : (t x : ℕ) (xs : List ℕ) → (x ≡ t → ⊥) → times t (xs ++ x ∷ []) ≡ times t xs
times_push_other t x xs ne = omega (arith, times-append t xs (x ∷ []), times_there t x [] ne)

-- the queue without one member
abbrev pub without : ℕ → List ℕ → List ℕ
without n [] = []
without n (x ∷ xs) = if x == n then without n xs else x ∷ without n xs

times_without : (x n : ℕ) (q : List ℕ) → times x (without n q) ≤ times x q
times_without x n [] = omega arith
times_without x n (y ∷ q) =
    cond_both (y == n) (without n q) (y ∷ without n q) (λ z. times x z ≤ times x (y ∷ q)) (λ _. omega (arith, times_without x n q)) (λ _. omega (arith, times_without x n q))

times_without_same : (n : ℕ) (q : List ℕ) → times n (without n q) ≡ 0
times_without_same n [] = refl
times_without_same n (y ∷ q) =
    cond_both (y == n) (without n q) (y ∷ without n q) (λ z. times n z ≡ 0) (λ _. times_without_same n q) (λ e. omega (arith, times_there n y (without n q) (eqb-false y n e), times_without_same n q))

length_without : (n : ℕ) (q : List ℕ) → length (without n q) + times n q ≡ length q
length_without n [] = refl
length_without n (y ∷ q) =
    cond_both (y == n) (without n q) (y ∷ without n q) (λ z. length z + times n (y ∷ q) ≡ length (y ∷ q))
    (λ e. omega (arith, times_here n y q (eqb-true y n e), length_without n q))
    (λ e. omega (arith, times_there n y q (eqb-false y n e), length_without n q))

-- A queue of members below a number, in which each stands once at most, is no longer than that number.
pub spread : (n : ℕ) (q : List ℕ) → ((x : ℕ) → times x q ≤ 1) → ((x : ℕ) → 0 < times x q → x < n) → length q ≤ n
spread zero [] once within = omega arith
spread zero (y ∷ q) once within = let k : 0 < times y (y ∷ q) = omega (arith, times_here y y q refl) in absurd (omega (arith, within y k))
spread (suc n) q once within =
    let few = spread n (without n q) (λ x. omega (arith, times_without x n q, once x)) (λ x h. let k : 0 < times x q = omega (arith, times_without x n q) in let ne : x ≢ n = λ e. omega (arith, times_without_same n q, ap (λ z. times z (without n q)) e) in omega (arith, within x k)) in
    omega (arith, few, once n, length_without n q)
