-- How many strings begin.
use Rattle.std.proofs.Common.{◌≡◌, ℕ, zero, suc, ◌+◌, ◌<◌, ◌≤◌, ltb, List, [], ◌∷◌, ◌++◌, length, get_or, set, replicate, refl, ap, arith, lt-ltb}
use Rattle.str_heap.specs.Sound.{count_of}
use Rattle.str_heap.proofs.Runs.{by_test}

pub count-le : (xs : List ℕ) → count_of xs ≤ length xs
count-le [] = omega arith
count-le (x ∷ xs) = by_test (ltb 0 x) (λ t. rw t (omega (arith, count-le xs))) (λ t. rw t (omega (arith, count-le xs)))

pub count-begun : (xs : List ℕ) (k n : ℕ) → k < length xs → get_or xs k 0 ≡ 0 → 0 < n → count_of (set xs k n) ≡ count_of xs + 1
count-begun [] k n lt none some = absurd (omega arith)
count-begun (x ∷ xs) zero n lt none some = rw (lt-ltb 0 n some, none) (omega arith)
count-begun (x ∷ xs) (suc k) n lt none some =
    let r = count-begun xs k n (omega arith) none some in
    by_test (ltb 0 x) (λ t. rw t (omega arith)) (λ t. rw t (omega arith))

pub count-ended : (xs : List ℕ) (k : ℕ) → 0 < get_or xs k 0 → count_of (set xs k 0) + 1 ≡ count_of xs
count-ended [] k some = absurd (omega arith)
count-ended (x ∷ xs) zero some = rw (lt-ltb 0 x some) (omega arith)
count-ended (x ∷ xs) (suc k) some =
    let r = count-ended xs k some in
    by_test (ltb 0 x) (λ t. rw t (omega arith)) (λ t. rw t (omega arith))

pub count-grown : (xs : List ℕ) (m : ℕ) → count_of (xs ++ replicate m 0) ≡ count_of xs
count-grown [] zero = refl
count-grown [] (suc m) = count-grown [] m
count-grown (x ∷ xs) m = by_test (ltb 0 x) (λ t. rw t (ap suc (count-grown xs m))) (λ t. rw t (count-grown xs m))
