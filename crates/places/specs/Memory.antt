-- The memory that all threads share: places by number, and what stands at an address.
use Rattle.std.specs.Prelude.{ℕ, zero, suc, ◌+◌, ◌-◌, ◌*◌, ◌/◌, ◌%◌, ◌^◌, ◌==◌, Bool, true, false, ◌&&◌, ◌||◌, if◌then◌else◌, List, [], length, slice_index_or, slice_set, Option, Some, None}
use Rattle.std.specs.List.{sum_by}
use Rattle.std.specs.Option.{option_map, option_and_then}
use Rattle.thread_system.specs.Memory.{next_address}
use Rattle.places.specs.declared.kinds.Cell.{Cell}
use Rattle.places.specs.Place.{Head, Place, size_of, byte_in, is_live_in, cell_in}

-- Places by number: the first place has number 1, and a number whose place was freed has none. The map ends with the
-- last number that was given.
abbrev pub Places : Type 0
Places = List (Option Place)

abbrev pub no_places : Places
no_places = []

-- The number that the next place gets. No number is given twice.
abbrev pub next_number : Places → ℕ
next_number m = length m + 1

abbrev pub place_at : Places → ℕ → Option Place
place_at m n = if n == 0 then None else slice_index_or m (n - 1) None

abbrev pub with_place : ℕ → Option Place → Places → Places
with_place n p m = slice_set m (n - 1) p

abbrev pub size_at : Option Place → ℕ
size_at None = 0
size_at (Some p) = size_of p.head

-- The bytes of all live places together.
abbrev pub live_size : Places → ℕ
live_size m = sum_by size_at m

-- An address is a place's number times 2 ^ 32 and the offset of a byte.
abbrev pub address : ℕ → ℕ → ℕ
address n o = n * 2 ^ 32 + o

abbrev pub number_of : ℕ → ℕ
number_of a = a / 2 ^ 32

abbrev pub offset_of : ℕ → ℕ
offset_of a = a % 2 ^ 32

-- the place of an address
abbrev pub place_of : Places → ℕ → Option Place
place_of m a = place_at m (number_of a)

-- The byte at an address, if it may be accessed: it is live and no cell's.
abbrev pub byte_at : Places → ℕ → Option ℕ
byte_at m a = option_and_then (λ p. byte_in p (offset_of a)) (place_of m a)

-- The cell that begins at an address.
abbrev pub cell_at : Places → ℕ → Option Cell
cell_at m a = option_and_then (λ p. cell_in p (offset_of a)) (place_of m a)

-- whether there is a place, and it says so of its byte
abbrev pub tells : (Place → ℕ → Bool) → ℕ → Option Place → Bool
tells test o None = false
tells test o (Some p) = test p o

-- Whether the byte at an address is live: its place has it, and it isn't closed.
abbrev pub is_live : Places → ℕ → Bool
is_live m a = tells is_live_in (offset_of a) (place_of m a)

-- What is known of the place with a number besides its contents.
abbrev pub head_at : Places → ℕ → Option Head
head_at m n = option_map (λ p. p.head) (place_at m n)

-- The place that begins at an address.
abbrev pub starts_at : Places → ℕ → Option Place
starts_at m a = if offset_of a == 0 then place_of m a else None

-- Whether each of so many bytes, from an address on, passes a test.
abbrev pub each_byte : (ℕ → Bool) → ℕ → ℕ → Bool
each_byte test a zero = true
each_byte test a (suc len) = test a && each_byte test (next_address a) len

-- Whether an address is one of so many, from one on.
abbrev pub is_among : ℕ → ℕ → ℕ → Bool
is_among a zero q = false
is_among a (suc len) q = q == a || is_among (next_address a) len q
