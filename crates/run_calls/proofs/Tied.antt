use Rattle.std.proofs.Common.{◌≡◌, ◌≢◌, ℕ, zero, suc, ◌+◌, ◌-◌, ◌==◌, Bool, true, false, ◌&&◌, if◌then◌else◌, List, [], ◌∷◌, length, get_or, Option, Some, None, true≢false, refl, sym, ap, ◌∙◌, arith}
use Rattle.std.specs.List.{sum_by}
use Rattle.std.specs.Option.{option_map}
use Rattle.std.proofs.lemmas.Bool.{eq-eqb}
use Rattle.std.proofs.lemmas.List.Sums.{sum_by-append}
use Rattle.places.specs.Place.{Head, Place, size_of}
use Rattle.places.specs.Memory.{Places, place_at, size_at, live_size, next_number, head_at, number_of, offset_of, starts_at, place_of}
use Rattle.places.proofs.Changed.{at_some}
use Rattle.run_calls.specs.Seen.{Seen, starting, seen_of}

-- Facts for what is seen of places.

-- two of which all is seen alike are the same
pub same_seen : (s t : Seen) → s.next ≡ t.next → s.used ≡ t.used → ((n : ℕ) → s.heads n ≡ t.heads n) → ((q : ℕ) → s.live q ≡ t.live q) → ((q : ℕ) → s.bytes q ≡ t.bytes q) → ((q : ℕ) → s.strings q ≡ t.strings q) → s ≡ t
same_seen s t next used heads live bytes strings = λ i. record { next = next i; used = used i; heads = λ n. heads n i; live = λ q. live q i; bytes = λ q. bytes q i; strings = λ q. strings q i }

-- by a test, and by two tests together
pub by_test : {A : Type 0} (b : Bool) (x y z : A) → (b ≡ true → x ≡ y) → (b ≡ false → x ≡ z) → x ≡ (if b then y else z)
by_test true x y z k l = k refl
by_test false x y z k l = l refl

pub by_tests : {A : Type 0} (b c : Bool) (x y z : A) → (b ≡ true → c ≡ true → x ≡ y) → (b ≡ true → c ≡ false → x ≡ z) → (b ≡ false → x ≡ z) → x ≡ (if b && c then y else z)
by_tests true true x y z k l m = k refl refl
by_tests true false x y z k l m = l refl refl
by_tests false c x y z k l m = m refl

pub other_number : (a b : ℕ) → (a == b) ≡ false → a ≢ b
other_number a b e f = true≢false (sym (eq-eqb a b f) ∙ e)

-- ---- the bytes of all places together

-- sums over lists that agree
sums_alike : {A : Type 0} (f : A → ℕ) (d : A) (xs ys : List A) → length xs ≡ length ys → ((i : ℕ) → f (get_or xs i d) ≡ f (get_or ys i d)) → sum_by f xs ≡ sum_by f ys
sums_alike f d [] [] n e = refl
sums_alike f d [] (y ∷ ys) n e = absurd (none_is n) where
  none_is : 0 ≡ suc (length ys) → ⊥
  none_is s = omega (arith, s)
sums_alike f d (x ∷ xs) [] n e = absurd (none_is n) where
  none_is : suc (length xs) ≡ 0 → ⊥
  none_is s = omega (arith, s)
sums_alike f d (x ∷ xs) (y ∷ ys) n e =
    let rest = sums_alike f d xs ys (omega (arith, n)) (λ k. e (suc k)) in
    sum_by-append f (x ∷ []) xs ∙ (λ i. 0 + e zero i + rest i) ∙ sym (sum_by-append f (y ∷ []) ys)

abbrev pub size_by_head : Option Head → ℕ
size_by_head None = 0
size_by_head (Some h) = size_of h

size_is : (x : Option Place) → size_at x ≡ size_by_head (option_map (λ p. p.head) x)
size_is None = refl
size_is (Some p) = refl

-- places of the same sizes have as many bytes together
pub same_used : (m after : Places) → next_number after ≡ next_number m → ((n : ℕ) → size_by_head (head_at after n) ≡ size_by_head (head_at m n)) → live_size after ≡ live_size m
same_used m after next sizes = sums_alike size_at None after m (omega (arith, next)) at where
  at : (i : ℕ) → size_at (get_or after i None) ≡ size_at (get_or m i None)
  at i =
      let k : i + 1 - 1 ≡ i = omega arith in
      ap (λ j. size_at (get_or after j None)) (sym k)
      ∙ ap size_at (sym (at_some after (i + 1) (omega arith)))
      ∙ size_is (place_at after (i + 1))
      ∙ sizes (i + 1)
      ∙ sym (size_is (place_at m (i + 1)))
      ∙ ap size_at (at_some m (i + 1) (omega arith))
      ∙ ap (λ j. size_at (get_or m j None)) k

-- ---- where places begin

pub starting_is : (m : Places) (heap : List (List ℕ)) (a : ℕ) → starting (seen_of m heap) a ≡ option_map (λ p. p.head) (starts_at m a)
starting_is m heap a = by_start (offset_of a == 0) where
  by_start : (b : Bool) → (if b then head_at m (number_of a) else None) ≡ option_map (λ (p : Place). p.head) (if b then place_of m a else None)
  by_start true = refl
  by_start false = refl
