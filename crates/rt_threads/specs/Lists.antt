use Rattle.std.specs.Prelude.{◌≡◌, ℕ, ◌+◌, ◌<◌, ◌==◌, Bool, List, length, [], ◌∷◌, Option, Some, None, if◌then◌else◌, slice_index_or}

-- queues by number, the first of each first, and how many members there are to stand in them
pub record Lists : Type 0 where
  pub lists : List (List ℕ)
  pub members : ℕ

abbrev pub one_if : Bool → ℕ
one_if b = if b then 1 else 0

-- how often a member stands in a queue
abbrev pub times : ℕ → List ℕ → ℕ
times t [] = 0
times t (x ∷ xs) = one_if (x == t) + times t xs

-- the one that stands first
abbrev pub first_of : List ℕ → Option ℕ
first_of [] = None
first_of (x ∷ xs) = Some x

abbrev pub StandsNowhere : ℕ → List (List ℕ) → Type 0
StandsNowhere t lists = (k : ℕ) → times t (slice_index_or lists k []) ≡ 0

-- each number is above those before it
abbrev pub IsRising : List ℕ → Type 0
IsRising xs = (i j : ℕ) → i < j → j < length xs → slice_index_or xs i 0 < slice_index_or xs j 0
