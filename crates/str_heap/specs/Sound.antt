-- What a heap keeps: the lengths of its strings by the block where they begin, their bytes, and the free blocks.
use Rattle.std.specs.Prelude.{◌≡◌, ℕ, suc, ◌+◌, ◌*◌, ◌<◌, ◌≤◌, nat_lt, ◌&&◌, ◌⊎◌, not, true, false, if◌then◌else◌, List, [], ◌∷◌, ◌++◌, length, slice_index, take, drop, replicate}
use Rattle.str_heap.specs.Blocks.{Spans, is_free, within}
use Rattle.str_heap.specs.Payloads.{blocks}

-- a string begins at a block
abbrev pub Begins : List ℕ → ℕ → Type 0
Begins lengths k = 0 < slice_index lengths k

-- the block behind it
abbrev pub end_of : List ℕ → ℕ → ℕ
end_of lengths k = k + blocks (slice_index lengths k)

-- how many strings begin
abbrev pub count_of : List ℕ → ℕ
count_of [] = 0
count_of (n ∷ lengths) = if nat_lt 0 n then suc (count_of lengths) else count_of lengths

pub record IsSound (lengths arena : List ℕ) (holes : Spans) (live : ℕ) : Type 0 where
  pub sized : length arena ≡ 16 * length lengths
  -- no two strings overlap, and each lies within the arena
  pub apart : (j k : ℕ) → j < k → Begins lengths j → Begins lengths k → end_of lengths j ≤ k
  pub inside : (k : ℕ) → Begins lengths k → end_of lengths k ≤ length lengths
  -- a block is free exactly where it is no string's
  pub unshared : (k b : ℕ) → Begins lengths k → k ≤ b → b < end_of lengths k → is_free holes.spans b ≡ false
  pub known : (b : ℕ) → is_free holes.spans b ≡ true → b < length lengths
  pub covered : (b : ℕ) → b < length lengths → is_free holes.spans b ≡ false → (k : ℕ) × Begins lengths k × (k ≤ b) × (b < end_of lengths k)
  -- each string has room for the run of free blocks that it may leave
  pub counted : live ≡ count_of lengths
  pub roomy : length holes.spans + live ≤ holes.room

-- n blocks from a place on are free, or behind the arena
abbrev pub AreOpen : ℕ → ℕ → List ℕ → Spans → Type 0
AreOpen n place lengths holes = (b : ℕ) → within place n b ≡ true → (is_free holes.spans b ≡ true) ⊎ (length lengths ≤ b)

-- n blocks from the first place on that has so many are taken for a string, out of the free ones or behind them
pub record Finds (n place : ℕ) (lengths arena : List ℕ) (holes : Spans) (lengths' arena' : List ℕ) (holes' : Spans) : Type 0 where
  pub more : (m : ℕ) × (lengths' ≡ lengths ++ replicate m 0)
  pub sized : length arena' ≡ 16 * length lengths'
  pub kept : (a m : ℕ) → a + m ≤ length arena → take m (drop a arena') ≡ take m (drop a arena)
  pub inside : place + n ≤ length lengths'
  pub fewer : length holes'.spans ≤ length holes.spans
  pub room : holes.room ≤ holes'.room
  pub here : AreOpen n place lengths holes
  pub first : (p : ℕ) → AreOpen n p lengths holes → place ≤ p
  pub free : (b : ℕ) → is_free holes'.spans b ≡ (is_free holes.spans b && not (within place n b))
  pub whole : (b : ℕ) → length lengths ≤ b → b < length lengths' → within place n b ≡ true
