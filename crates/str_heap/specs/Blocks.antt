-- The free blocks of an arena.
use Rattle.std.specs.Prelude.{◌≡◌, ℕ, suc, ◌+◌, ◌<◌, ◌≤◌, ◌^◌, nat_lt, nat_le, Bool, true, false, not, ◌&&◌, ◌||◌, if◌then◌else◌, List, [], ◌∷◌, length, Option, Some, None, option_map}
use Rattle.str_heap.specs.declared.holes.Hole.{Hole}

-- runs of free blocks, and how many of them stand without more memory
pub record Spans : Type 0 where
  pub spans : List Hole
  pub room : ℕ

-- the runs lie in order from low on, none is empty, and no two touch
abbrev pub IsSpaced : ℕ → List Hole → Type 0
IsSpaced low [] = Unit {0}
IsSpaced low (hole ∷ holes) = (low ≤ hole.place) × (0 < hole.size) × (hole.place + hole.size < 2 ^ 63) × IsSpaced (hole.place + hole.size + 1) holes

-- whether a block is one of the n from a place on
abbrev pub within : ℕ → ℕ → ℕ → Bool
within place n b = nat_le place b && nat_lt b (place + n)

-- whether a block is free
abbrev pub is_free : List Hole → ℕ → Bool
is_free [] b = false
is_free (hole ∷ holes) b = within hole.place hole.size b || is_free holes b

-- n blocks from a place on are free
abbrev pub AreFree : ℕ → ℕ → List Hole → Type 0
AreFree n place holes = (b : ℕ) → within place n b ≡ true → is_free holes b ≡ true

-- how many runs begin before a place
abbrev pub before : ℕ → List Hole → ℕ
before place [] = 0
before place (hole ∷ holes) = if nat_lt hole.place place then suc (before place holes) else 0

-- the index of the first run with n blocks
abbrev pub fit_at : ℕ → List Hole → Option ℕ
fit_at n [] = None
fit_at n (hole ∷ holes) = if nat_le n hole.size then Some 0 else option_map suc (fit_at n holes)

-- n blocks from a place on, which were free, are free no more
pub record Removes (n place : ℕ) (old new : List Hole) : Type 0 where
  pub spaced : IsSpaced 0 new
  pub shorter : length new ≤ length old
  pub here : AreFree n place old
  pub free : (b : ℕ) → is_free new b ≡ (is_free old b && not (within place n b))
  pub small : place + n < 2 ^ 63

-- n blocks from a place on, none of which was free, are free
pub record Adds (n place : ℕ) (old new : List Hole) : Type 0 where
  pub spaced : IsSpaced 0 new
  pub longer : length new ≤ length old + 1
  pub free : (b : ℕ) → is_free new b ≡ (is_free old b || within place n b)
