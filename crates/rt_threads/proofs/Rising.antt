use Rattle.std.proofs.Common.{◌≡◌, ◌≢◌, ℕ, zero, suc, ◌+◌, ◌==◌, ◌<◌, ◌≤◌, Bool, true, false, not, List, [], ◌∷◌, length, get_or, filter, remove, refl, ap, sym, arith, inl, inr, eq-eqb, ne_eqb, Ok, Err, nat_cmp}
use Rattle.std.specs.List.Sorted.{IsBinarySearchResult}
use Rattle.std.proofs.lemmas.List.Sorted.{searched}
use Rattle.std.proofs.lemmas.Bool.{cond_both, cases_lt}
use Rattle.rt_threads.specs.declared.kinds.State.{State}
use Rattle.rt_threads.specs.declared.kinds.Thread.{Thread}
use Rattle.rt_threads.specs.Lists.{IsRising}
use Rattle.rt_threads.specs.Rows.{numbers}

-- Rising numbers, and one of them taken out.

tail_rising : (x : ℕ) (xs : List ℕ) → IsRising (x ∷ xs) → IsRising xs
tail_rising x xs r = λ i j h l. r (suc i) (suc j) (omega arith) (omega arith)

pub filter_others : (t : ℕ) (xs : List ℕ) → ((k : ℕ) → k < length xs → get_or xs k 0 ≢ t) → filter (λ y. not (y == t)) xs ≡ xs
filter_others t [] n = refl
filter_others t (x ∷ xs) n =
    let other : (x == t) ≡ false = ne_eqb x t (n 0 (omega arith)) in
    rw other (ap (λ (z : List ℕ). x ∷ z) (filter_others t xs (λ k h. n (suc k) (omega arith))))

pub filter_one : (t : ℕ) (xs : List ℕ) (i : ℕ) → IsRising xs → i < length xs → get_or xs i 0 ≡ t → remove xs i ≡ filter (λ y. not (y == t)) xs
filter_one t [] i r h is = absurd (omega arith)
filter_one t (x ∷ xs) zero r h is =
    let here : (x == t) ≡ true = eq-eqb x t is in
    rw here (sym (filter_others t xs (λ k l e. omega (arith, is, e, r 0 (suc k) (omega arith) (omega arith)))))
filter_one t (x ∷ xs) (suc i) r h is =
    let other : (x == t) ≡ false = ne_eqb x t (λ e. omega (arith, is, e, r 0 (suc i) (omega arith) h)) in
    rw other (ap (λ (z : List ℕ). x ∷ z) (filter_one t xs i (tail_rising x xs r) (omega arith) is))

not_falling : (xs : List ℕ) → IsRising xs → (i j : ℕ) → i ≤ j → j < length xs → get_or xs i 0 ≤ get_or xs j 0
not_falling xs r i j h l = elim (cases_lt i j) [
  | inl b ↦ omega (arith, r i j b l)
  | inr b ↦ let e : i ≡ j = omega arith in omega (arith, ap (λ (z : ℕ). get_or xs z 0) e)
]

-- what a search for a number found
pub found_one : (xs : List ℕ) (t i : ℕ) → IsRising xs → IsBinarySearchResult (λ y. nat_cmp y t) xs (Ok i) → i < length xs → remove xs i ≡ filter (λ y. not (y == t)) xs
found_one xs t i r s h = filter_one t xs i r h (searched xs t (Ok i) s (not_falling xs r)).1

pub found_none : (xs : List ℕ) (t i : ℕ) → IsRising xs → IsBinarySearchResult (λ y. nat_cmp y t) xs (Err i) → xs ≡ filter (λ y. not (y == t)) xs
found_none xs t i r s =
    let f = searched xs t (Err i) s (not_falling xs r) in
    sym (filter_others t xs (λ k h e. elim (cases_lt k i) [
      | inl b ↦ omega (arith, e, f.1 k b)
      | inr b ↦ omega (arith, e, f.2 k b h)
    ]))

-- numbers of threads rise
first_above : (n : ℕ) (xs : List ℕ) → ((k : ℕ) → k < length xs → n ≤ get_or xs k 0) → (k : ℕ) → k < length (n ∷ xs) → n ≤ get_or (n ∷ xs) k 0
first_above n xs above zero h = omega arith
first_above n xs above (suc k) h = above k (omega arith)

numbers_above : (test : State → Bool) (n : ℕ) (threads : List Thread) (k : ℕ) → k < length (numbers test n threads) → n ≤ get_or (numbers test n threads) k 0
numbers_above test n [] k = λ h. absurd (omega arith)
numbers_above test n (x ∷ xs) k =
    cond_both (test x.state) (n ∷ numbers test (n + 1) xs) (numbers test (n + 1) xs) (λ z. k < length z → n ≤ get_or z k 0)
    (λ _ h. first_above n (numbers test (n + 1) xs) (λ i l. omega (arith, numbers_above test (n + 1) xs i l)) k h) (λ _ h. omega (arith, numbers_above test (n + 1) xs k h))

front_rises : (n : ℕ) (xs : List ℕ) → IsRising xs → ((k : ℕ) → k < length xs → n < get_or xs k 0) → IsRising (n ∷ xs)
front_rises n xs r above zero zero h l = absurd (omega arith)
front_rises n xs r above zero (suc j) h l = above j (omega arith)
front_rises n xs r above (suc i) zero h l = absurd (omega arith)
front_rises n xs r above (suc i) (suc j) h l = r i j (omega arith) (omega arith)

pub numbers_rise : (test : State → Bool) (n : ℕ) (threads : List Thread) → IsRising (numbers test n threads)
numbers_rise test n [] = λ i j h l. absurd (omega arith)
numbers_rise test n (x ∷ xs) =
    cond_both (test x.state) (n ∷ numbers test (n + 1) xs) (numbers test (n + 1) xs) IsRising
    (λ _. front_rises n (numbers test (n + 1) xs) (numbers_rise test (n + 1) xs) (λ k h. omega (arith, numbers_above test (n + 1) xs k h))) (λ _. numbers_rise test (n + 1) xs)
