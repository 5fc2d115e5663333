-- The choice among candidates by their sums.
use Rattle.std.specs.Prelude.{◌≡◌, ℕ, zero, suc, ◌<◌, ◌≤◌, Option, Some, None, List, [], ◌∷◌}
use Rattle.overload_pick.specs.declared.answer.Pick.{Pick}
use Rattle.overload_pick.specs.declared.answer.Pick.TheVariants.{One, Nobody, Tie}

-- the sum of the candidate of a number, counted from 0; None where it doesn't fit, or there is none of this number
abbrev pub sum_at : List (Option ℕ) → ℕ → Option ℕ
sum_at [] number = None
sum_at (sum ∷ sums) zero = sum
sum_at (sum ∷ sums) (suc number) = sum_at sums number

-- a candidate fits with this sum, and none fits with less
pub record IsLeast (sums : List (Option ℕ)) (number sum : ℕ) : Type 0 where
  pub fits : sum_at sums number ≡ Some sum
  pub least : (other larger : ℕ) → sum_at sums other ≡ Some larger → sum ≤ larger

-- a candidate alone has the least sum
pub record IsAlone (sums : List (Option ℕ)) (number : ℕ) : Type 0 where
  pub sum : ℕ
  pub is_least : IsLeast sums number sum
  pub alone : (other : ℕ) → sum_at sums other ≡ Some sum → other ≡ number

-- two candidates have the least sum, and are the first two that have it
pub record AreFirst (sums : List (Option ℕ)) (first second : ℕ) : Type 0 where
  pub sum : ℕ
  pub rising : first < second
  pub is_least : IsLeast sums first sum
  pub also : sum_at sums second ≡ Some sum
  pub none_before : (other : ℕ) → other < second → sum_at sums other ≡ Some sum → other ≡ first

-- no candidate fits
abbrev pub NoneFits : List (Option ℕ) → Type 0
NoneFits sums = (number : ℕ) → sum_at sums number ≡ None

abbrev pub IsPick : List (Option ℕ) → Pick → Type 0
IsPick sums (One number) = IsAlone sums number
IsPick sums Nobody = NoneFits sums
IsPick sums (Tie first second) = AreFirst sums first second

-- it is the answer, and there is no other
pub record IsThePick (sums : List (Option ℕ)) (answer : Pick) : Type 0 where
  pub is : IsPick sums answer
  pub only : (other : Pick) → IsPick sums other → other ≡ answer
