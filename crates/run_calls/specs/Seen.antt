use Rattle.std.specs.Prelude.{ℕ, ◌+◌, ◌-◌, ◌%◌, ◌==◌, nat_lt, Bool, true, false, not, ◌&&◌, if◌then◌else◌, List, [], slice_index_or, Option, Some, None}
use Rattle.std.specs.Option.{option_map}
use Rattle.thread_system.specs.Memory.{Memory}
use Rattle.places.specs.Place.{Head, size_of, cell_over}
use Rattle.places.specs.Memory.{Places, next_number, live_size, address, number_of, offset_of, head_at, is_live, byte_at, is_among}
use Rattle.places.specs.Calls.{new_byte, new_cell, marked_dying}
use Rattle.text_calls.specs.Strings.{CellState, no_cell, cell_state_of, strings_of}

-- What is seen of the memory that all threads share, by number and by address. Two memories that are kept in different
-- ways are the same where the same is seen of them.
pub record Seen : Type 0 where
  -- the number that the next place gets
  pub next : ℕ
  -- how many bytes all places have together
  pub used : ℕ
  -- what is known of the place of a number
  pub heads : ℕ → Option Head
  -- whether the byte at an address is live; those of cells are among them
  pub live : ℕ → Bool
  -- the byte at an address, if it may be accessed
  pub bytes : Memory
  -- the string of the cell that begins at an address
  pub strings : ℕ → CellState

-- what is seen of places, and of a heap with the strings of their cells
abbrev pub seen_of : Places → List (List ℕ) → Seen
seen_of m heap = record { next = next_number m; used = live_size m; heads = head_at m; live = is_live m; bytes = byte_at m; strings = strings_of m heap }

-- no place, and the first one gets number 1
abbrev pub nothing_seen : Seen
nothing_seen = record { next = 1; used = 0; heads = λ n. None; live = λ q. false; bytes = λ q. None; strings = λ q. no_cell }

-- what is known of the place that begins at an address
abbrev pub starting : Seen → ℕ → Option Head
starting s a = if offset_of a == 0 then s.heads (number_of a) else None

-- whether an address is one of a place of so many bytes
abbrev pub in_place : ℕ → ℕ → ℕ → Bool
in_place n size q = number_of q == n && nat_lt (offset_of q) size

-- One more place: its bytes are live and 0, and its cells aren't alive.
abbrev pub placed : Head → Seen → Seen
placed h s = record {
  next = s.next + 1;
  used = s.used + size_of h;
  heads = λ n. if n == s.next then Some h else s.heads n;
  live = λ q. if in_place s.next (size_of h) q then true else s.live q;
  bytes = λ q. if in_place s.next (size_of h) q then new_byte h (offset_of q) else s.bytes q;
  strings = λ q. if in_place s.next (size_of h) q then cell_state_of [] (new_cell h (offset_of q)) else s.strings q;
}

-- The place of a number is gone, with its bytes and strings.
abbrev pub unplaced : ℕ → Head → Seen → Seen
unplaced n h s = record {
  next = s.next;
  used = s.used - size_of h;
  heads = λ k. if k == n then None else s.heads k;
  live = λ q. if in_place n (size_of h) q then false else s.live q;
  bytes = λ q. if in_place n (size_of h) q then None else s.bytes q;
  strings = λ q. if in_place n (size_of h) q then no_cell else s.strings q;
}

-- The place of a number is going to be freed.
abbrev pub with_dying : ℕ → Head → Seen → Seen
with_dying n h s = record s { heads = λ k. if k == n then Some (marked_dying h) else s.heads k }

-- where the cell begins that has the byte at an offset of a place
abbrev pub cell_start : Head → ℕ → Option ℕ
cell_start h o = option_map (λ k. o - o % h.shape.size + slice_index_or h.shape.cells k 0) (cell_over h.shape.cells (o % h.shape.size))

abbrev pub is_held : Option CellState → Bool
is_held None = false
is_held (Some no_cell) = false
is_held (Some CellState.dead) = false
is_held (Some (CellState.holds s)) = true

abbrev pub may_close_in : Seen → ℕ → Option Head → Bool
may_close_in s a None = false
may_close_in s a (Some h) = nat_lt (offset_of a) (size_of h) && not (is_held (option_map (λ o. s.strings (address (number_of a) o)) (cell_start h (offset_of a))))

-- A byte may be closed if there is a place that has it, and it isn't one of an alive cell.
abbrev pub may_close : Seen → ℕ → Bool
may_close s a = may_close_in s a (s.heads (number_of a))

-- So many bytes, from an address on, are closed.
abbrev pub with_closed : ℕ → ℕ → Seen → Seen
with_closed a len s = record s {
  live = λ q. if is_among a len q then false else s.live q;
  bytes = λ q. if is_among a len q then None else s.bytes q;
}

abbrev pub with_strings : (ℕ → CellState) → Seen → Seen
with_strings strings s = record s { strings = strings }
