-- How many numbers below a bound pass a test.
use Rattle.std.proofs.Common.{◌≡◌, ℕ, zero, suc, ◌<◌, ◌≤◌, Bool, true, false, ◌⊎◌, inl, inr, refl, arith}
use Rattle.std.proofs.Common.{below_more}
use Rattle.type_table.specs.Plans.{one, count}

-- what passes the first test passes the second one
abbrev pub Passes : (ℕ → Bool) → (ℕ → Bool) → Type 0
Passes f g = (t : ℕ) → f t ≡ true → g t ≡ true

one_le : (a b : Bool) → (a ≡ true → b ≡ true) → one a ≤ one b
one_le true true h = omega arith
one_le true false h = let e : false ≡ true = h refl in absurd (cc)
one_le false b h = omega arith

pub count_le : (f g : ℕ → Bool) → Passes f g → (n : ℕ) → count f n ≤ count g n
count_le f g h zero = omega arith
count_le f g h (suc n) = omega (arith, count_le f g h n, one_le (f n) (g n) (h n))

same_or_more : (a b : Bool) → (a ≡ true → b ≡ true) → (b ≡ true → a ≡ true) ⊎ (one a < one b)
same_or_more true b h = inl (λ e. refl)
same_or_more false true h = inr (omega arith)
same_or_more false false h = inl (λ e. e)

-- where fewer don't pass the first test, the same do
abbrev pub SameOrFewer : (ℕ → Bool) → (ℕ → Bool) → ℕ → Type 0
SameOrFewer f g n = ((t : ℕ) → t < n → g t ≡ true → f t ≡ true) ⊎ (count f n < count g n)

one_further : (f g : ℕ → Bool) → Passes f g → (n : ℕ) → SameOrFewer f g n → (g n ≡ true → f n ≡ true) ⊎ (one (f n) < one (g n)) → SameOrFewer f g (suc n)
one_further f g h n (inl same) (inl here) = inl (λ t below e. below_more (λ k. g k ≡ true → f k ≡ true) n same here t (omega arith) e)
one_further f g h n (inl same) (inr more) = inr (omega (arith, count_le f g h n))
one_further f g h n (inr fewer) step = inr (omega (arith, one_le (f n) (g n) (h n)))

pub same_or_fewer : (f g : ℕ → Bool) → Passes f g → (n : ℕ) → SameOrFewer f g n
same_or_fewer f g h zero = inl (λ t below e. absurd (omega arith))
same_or_fewer f g h (suc n) = one_further f g h n (same_or_fewer f g h n) (same_or_more (f n) (g n) (h n))

fewer_by : (f g : ℕ → Bool) (m n : ℕ) → m < n → f m ≡ false → g m ≡ true → SameOrFewer f g n → count f n < count g n
fewer_by f g m n below out in_it (inl same) = let e : f m ≡ true = same m below in_it in absurd (cc)
fewer_by f g m n below out in_it (inr fewer) = fewer

-- where one number passes the second test alone, fewer pass the first one
pub fewer : (f g : ℕ → Bool) → Passes f g → (m n : ℕ) → m < n → f m ≡ false → g m ≡ true → count f n < count g n
fewer f g h m n below out in_it = fewer_by f g m n below out in_it (same_or_fewer f g h n)

one_at_most : (a : Bool) → one a ≤ 1
one_at_most true = omega arith
one_at_most false = omega arith

pub at_most : (f : ℕ → Bool) (n : ℕ) → count f n ≤ n
at_most f zero = omega arith
at_most f (suc n) = omega (arith, at_most f n, one_at_most (f n))

-- where one number doesn't pass, not all do
pub not_all : (f : ℕ → Bool) (m n : ℕ) → m < n → f m ≡ false → count f n < n
not_all f m n below out = omega (arith, fewer f (λ t. true) (λ t e. refl) m n below out refl, at_most (λ t. true) n)
