use Rattle.std.specs.Prelude.{◌≡◌, ℕ, ◌+◌, ◌-◌, ◌/◌, ◌%◌, ◌^◌, ◌<◌, ◌≤◌, Bool, true, false, List, [], get_or, length}
use Rattle.rv_isa.specs.Words.{stored}

-- A stack of 2 ^ 32 bytes, zero until written. It is kept as pages of 2 ^ 16 bytes, the one with the highest
-- addresses first, and of each page the bytes up to the last one that was written: what isn't there is zero.

-- the byte of a page at a place
abbrev pub byte_in : List ℕ → ℕ → ℕ
byte_in page k = get_or page k 0

-- where the page of an offset stands in the list
abbrev pub page_index : ℕ → ℕ
page_index o = 65535 - o / 2 ^ 16

abbrev pub page_of : List (List ℕ) → ℕ → List ℕ
page_of pages o = get_or pages (page_index o) []

-- the byte at an offset from the stack's first address
abbrev pub byte_at : List (List ℕ) → ℕ → ℕ
byte_at pages o = byte_in (page_of pages o) (o % 2 ^ 16)

-- How many bytes of an offset's page are kept.
abbrev pub kept : List (List ℕ) → ℕ → ℕ
kept pages o = length (page_of pages o)

-- Every byte of the one is that of the other.
abbrev pub SameBytes : List (List ℕ) → List (List ℕ) → Type 0
SameBytes old new = (q : ℕ) → q < 2 ^ 32 → byte_at new q ≡ byte_at old q

-- At least as many bytes are kept as before.
abbrev pub KeepsMore : List (List ℕ) → List (List ℕ) → Type 0
KeepsMore old new = (q : ℕ) → kept old q ≤ kept new q

-- The bytes are those before, with a value stored among them.
abbrev pub IsStored : List (List ℕ) → List (List ℕ) → (o width value : ℕ) → Type 0
IsStored old new o width value = (q : ℕ) → q < 2 ^ 32 → byte_at new q ≡ stored (byte_at old) o width value q
