use Rattle.std.proofs.Common.{◌≡◌, ℕ, zero, suc, ◌+◌, ◌==◌, ◌<◌, ◌≤◌, Bool, true, false, cond, not, ◌||◌, List, [], ◌∷◌, ◌++◌, length, get_or, set, refl, ap, sym, ◌∙◌, arith, inl, inr, count_by, filter, eq-eqb, ne_eqb, add-zero}
use Rattle.std.specs.List.{list_any}
use Rattle.std.proofs.lemmas.Bool.{cases_Bool, cond_both, or_parts}
use Rattle.std.proofs.lemmas.List.Sums.{sum_by-set, sum_by-cons, sum_by_push, get_or-le-sum_by, count_by-le-length}
use Rattle.std.proofs.lemmas.List.{length-set}
use Rattle.rt_threads.specs.declared.kinds.State.{State}
use Rattle.rt_threads.specs.declared.kinds.Thread.{Thread}
use Rattle.rt_threads.specs.Lists.{one_if}
use Rattle.rt_threads.specs.Rows.{numbers}

-- Counting threads, and listing their numbers.

pub ones : (a b : Bool) → a ≡ b → one_if a ≡ one_if b
ones a b e = ap one_if e

pub numbers_set : (test : State → Bool) (n : ℕ) (threads : List Thread) (t : ℕ) (thread d : Thread) → t < length threads → test thread.state ≡ test (get_or threads t d).state → numbers test n (set threads t thread) ≡ numbers test n threads
numbers_set test n [] t thread d h same = refl
numbers_set test n (x ∷ xs) zero thread d h same = ap (λ z. cond z (n ∷ numbers test (n + 1) xs) (numbers test (n + 1) xs)) same
numbers_set test n (x ∷ xs) (suc t) thread d h same = ap (λ (z : List ℕ). cond (test x.state) (n ∷ z) z) (numbers_set test (n + 1) xs t thread d (omega arith) same)

pub numbers_push : (test : State → Bool) (n : ℕ) (threads : List Thread) (thread : Thread) → test thread.state ≡ true → numbers test n (threads ++ thread ∷ []) ≡ numbers test n threads ++ (n + length threads) ∷ []
numbers_push test n [] thread passes = rw (passes, add-zero) refl
numbers_push test n (x ∷ xs) thread passes =
    let next : numbers test (n + 1) (xs ++ thread ∷ []) ≡ numbers test (n + 1) xs ++ (n + length (x ∷ xs)) ∷ [] = numbers_push test (n + 1) xs thread passes ∙ ap (λ z. numbers test (n + 1) xs ++ z ∷ []) (omega arith) in
    rw next (elim (test x.state) as (λ b. cond b (n ∷ (numbers test (n + 1) xs ++ (n + length (x ∷ xs)) ∷ [])) (numbers test (n + 1) xs ++ (n + length (x ∷ xs)) ∷ []) ≡ cond b (n ∷ numbers test (n + 1) xs) (numbers test (n + 1) xs) ++ (n + length (x ∷ xs)) ∷ []) [ true ↦ refl | false ↦ refl ])

-- numbers from a number on are not below it
filter_above : (test : State → Bool) (n t : ℕ) (threads : List Thread) → t < n → filter (λ x. not (x == t)) (numbers test n threads) ≡ numbers test n threads
filter_above test n t [] h = refl
filter_above test n t (x ∷ xs) h =
    let rest = filter_above test (n + 1) t xs (omega arith) in
    cond_both (test x.state) (n ∷ numbers test (n + 1) xs) (numbers test (n + 1) xs) (λ z. filter (λ y. not (y == t)) z ≡ z)
    (λ _. rw (ne_eqb n t (λ e. omega arith)) (ap (λ (z : List ℕ). n ∷ z) rest)) (λ _. rest)

-- the numbers once one thread doesn't pass any more
pub numbers_leave : (test : State → Bool) (n : ℕ) (threads : List Thread) (t : ℕ) (thread : Thread) → t < length threads → test thread.state ≡ false → numbers test n (set threads t thread) ≡ filter (λ x. not (x == n + t)) (numbers test n threads)
numbers_leave test n [] t thread h fails = refl
numbers_leave test n (x ∷ xs) zero thread h fails =
    let rest : filter (λ y. not (y == n + zero)) (numbers test (n + 1) xs) ≡ numbers test (n + 1) xs = filter_above test (n + 1) (n + zero) xs (omega arith) in
    let here : (n == n + zero) ≡ true = eq-eqb n (n + zero) (omega arith) in
    rw fails (cond_both (test x.state) (n ∷ numbers test (n + 1) xs) (numbers test (n + 1) xs) (λ z. numbers test (n + 1) xs ≡ filter (λ y. not (y == n + zero)) z)
    (λ _. rw here (sym rest)) (λ _. sym rest))
numbers_leave test n (x ∷ xs) (suc t) thread h fails =
    let e : n + 1 + t ≡ n + suc t = omega arith in
    let rest : numbers test (n + 1) (set xs t thread) ≡ filter (λ y. not (y == n + suc t)) (numbers test (n + 1) xs) = numbers_leave test (n + 1) xs t thread (omega arith) fails ∙ ap (λ z. filter (λ y. not (y == z)) (numbers test (n + 1) xs)) e in
    let here : (n == n + suc t) ≡ false = ne_eqb n (n + suc t) (λ e. omega arith) in
    rw rest (elim (test x.state) as (λ b. cond b (n ∷ filter (λ y. not (y == n + suc t)) (numbers test (n + 1) xs)) (filter (λ y. not (y == n + suc t)) (numbers test (n + 1) xs)) ≡ filter (λ y. not (y == n + suc t)) (cond b (n ∷ numbers test (n + 1) xs) (numbers test (n + 1) xs))) [ true ↦ rw here refl | false ↦ refl ])

pub length_numbers : (test : State → Bool) (n : ℕ) (threads : List Thread) → length (numbers test n threads) ≡ count_by (λ (x : Thread). test x.state) threads
length_numbers test n [] = refl
length_numbers test n (x ∷ xs) =
    let rest = length_numbers test (n + 1) xs in
    sym (sum_by-cons (λ (y : Thread). cond (test y.state) 1 0) x xs ∙ sym (elim (test x.state) as (λ b. length (cond b (n ∷ numbers test (n + 1) xs) (numbers test (n + 1) xs)) ≡ cond b 1 0 + count_by (λ (y : Thread). test y.state) xs) [ true ↦ omega (arith, rest) | false ↦ omega (arith, rest) ]))

-- the numbers of fewer threads, out of those of more
pub numbers_filter : (few many : State → Bool) (p : ℕ → Bool) (n : ℕ) (threads : List Thread) (d : Thread) → ((s : State) → few s ≡ true → many s ≡ true) → ((k : ℕ) → k < length threads → p (n + k) ≡ few (get_or threads k d).state) → filter p (numbers many n threads) ≡ numbers few n threads
numbers_filter few many p n [] d all is = refl
numbers_filter few many p n (x ∷ xs) d all is =
    let rest : filter p (numbers many (n + 1) xs) ≡ numbers few (n + 1) xs = numbers_filter few many p (n + 1) xs d all (λ k h. ap p (omega arith) ∙ is (suc k) (omega arith)) in
    let here : p n ≡ few x.state = ap p (omega arith) ∙ is 0 (omega arith) in
    elim (cases_Bool (few x.state)) [
      | inl e ↦ rw (e, all x.state e, here, e, rest) refl
      | inr e ↦ rw e (cond_both (many x.state) (n ∷ numbers many (n + 1) xs) (numbers many (n + 1) xs) (λ z. filter p z ≡ numbers few (n + 1) xs) (λ _. rw (here, e) rest) (λ _. rest))
    ]

pub count_set : (p : Thread → Bool) (threads : List Thread) (t : ℕ) (thread d : Thread) → t < length threads → count_by p (set threads t thread) + cond (p (get_or threads t d)) 1 0 ≡ count_by p threads + cond (p thread) 1 0
count_set p threads t thread d h = sum_by-set (λ x. cond (p x) 1 0) threads t thread d h

pub count_push : (p : Thread → Bool) (threads : List Thread) (thread : Thread) → count_by p (threads ++ thread ∷ []) ≡ count_by p threads + cond (p thread) 1 0
count_push p threads thread = sum_by_push (λ x. cond (p x) 1 0) threads thread

pub count_has : (p : Thread → Bool) (threads : List Thread) (t : ℕ) (d : Thread) → t < length threads → cond (p (get_or threads t d)) 1 0 ≤ count_by p threads
count_has p threads t d h = get_or-le-sum_by (λ x. cond (p x) 1 0) threads t d h

-- one that doesn't pass is not counted
pub count_lacks : (p : Thread → Bool) (threads : List Thread) (t : ℕ) (d passes : Thread) → t < length threads → p (get_or threads t d) ≡ false → p passes ≡ true → count_by p threads + 1 ≤ length threads
count_lacks p threads t d passes h fails is =
    omega (arith, count_set p threads t passes d h, count_by-le-length p (set threads t passes), length-set threads t passes, ones (p (get_or threads t d)) false fails, ones (p passes) true is)

pub any_count : (p : Thread → Bool) (threads : List Thread) → list_any p threads ≡ not (count_by p threads == 0)
any_count p [] = refl
any_count p (x ∷ xs) =
    let rest = any_count p xs in
    let sum : count_by p (x ∷ xs) ≡ cond (p x) 1 0 + count_by p xs = sum_by-cons (λ y. cond (p y) 1 0) x xs in
    elim (cases_Bool (p x)) [
      | inl e ↦ let ne : (count_by p (x ∷ xs) == 0) ≡ false = ne_eqb (count_by p (x ∷ xs)) 0 (λ f. omega (arith, sum, ones (p x) true e)) in
          ap (λ z. z || list_any p xs) e ∙ sym (ap not ne)
      | inr e ↦ let same : count_by p xs ≡ count_by p (x ∷ xs) = omega (arith, sum, ones (p x) false e) in
          ap (λ z. z || list_any p xs) e ∙ (rest ∙ ap (λ (z : ℕ). not (z == 0)) same)
    ]

pub any_none : {X : Type 0} (p : X → Bool) (xs : List X) (d : X) → list_any p xs ≡ false → p d ≡ false → (k : ℕ) → p (get_or xs k d) ≡ false
any_none p [] d fails past k = past
any_none p (x ∷ xs) d fails past zero = (or_parts (p x) (list_any p xs) fails).0
any_none p (x ∷ xs) d fails past (suc k) = any_none p xs d (or_parts (p x) (list_any p xs) fails).1 past k
