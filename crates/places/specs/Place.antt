-- One place of a memory, by the offsets of its bytes.
use Rattle.std.specs.Prelude.{ℕ, zero, suc, ◌+◌, ◌-◌, ◌*◌, ◌/◌, ◌%◌, ◌==◌, nat_lt, nat_le, Bool, true, false, not, ◌&&◌, if◌then◌else◌, List, length, replicate, slice_get, slice_index_or, slice_set, is_none, Option, Some, None}
use Rattle.std.specs.List.{list_any, position}
use Rattle.std.specs.Option.{option_map, option_and_then}
use Rattle.fb_base.specs.declared.shape.Shape.{Shape}
use Rattle.places.specs.declared.kinds.Form.{Form}
use Rattle.places.specs.declared.kinds.Cell.{Cell}

-- What is known of a place besides its contents.
pub record Head : Type 0 where
  pub shape : Shape
  -- how many elements of this shape it has, one after another
  pub count : ℕ
  pub form : Form
  -- whether it is going to be freed
  pub dying : Bool

pub record Place : Type 0 where
  pub head : Head
  -- by offset; those of its cells are never seen
  pub bytes : List ℕ
  -- by offset, whether the byte is closed
  pub closed : List Bool
  -- its string cells: those of the first element, then those of the next
  pub cells : List Cell

-- How many bytes a place has.
abbrev pub size_of : Head → ℕ
size_of h = h.shape.size * h.count

-- Which of the cells that begin at these offsets has a byte; a cell has 24 bytes.
abbrev pub cell_over : List ℕ → ℕ → Option ℕ
cell_over cells o = position (λ c. nat_le c o && nat_lt (o - c) 24) cells

-- Which cell of a place has a byte: each element has the cells of the shape.
abbrev pub cell_number : Head → ℕ → Option ℕ
cell_number h o = option_map (λ k. o / h.shape.size * length h.shape.cells + k) (cell_over h.shape.cells (o % h.shape.size))

abbrev pub cell_with : Place → ℕ → Option Cell
cell_with p o = option_and_then (λ k. slice_get p.cells k) (cell_number p.head o)

-- whether a cell begins at an offset
abbrev pub begins_cell : Head → ℕ → Bool
begins_cell h o = list_any (λ c. c == o % h.shape.size) h.shape.cells

-- The cell that begins at an offset.
abbrev pub cell_in : Place → ℕ → Option Cell
cell_in p o = if begins_cell p.head o then cell_with p o else None

abbrev pub is_alive : Option Cell → Bool
is_alive None = false
is_alive (Some cell) = cell.alive

-- A byte is live if the place has it and it isn't closed; those of cells are among them.
abbrev pub is_live_in : Place → ℕ → Bool
is_live_in p o = nat_lt o (size_of p.head) && not (slice_index_or p.closed o true)

-- The byte at an offset, if it may be accessed: it is live and no cell's.
abbrev pub byte_in : Place → ℕ → Option ℕ
byte_in p o = if is_live_in p o && is_none (cell_number p.head o) then slice_get p.bytes o else None

-- A byte may be closed if the place has it and it isn't one of an alive cell.
abbrev pub may_close_in : Place → ℕ → Bool
may_close_in p o = nat_lt o (size_of p.head) && not (is_alive (cell_with p o))

-- the cell of a place at its beginning
abbrev pub dead_cell : Cell
dead_cell = record { alive = false; desc = record { place = 0; length = 0; size = 0 } }

-- A place at its beginning: its bytes are 0, none is closed and no cell is alive.
abbrev pub fresh : Head → Place
fresh h = record {
  head = h;
  bytes = replicate (size_of h) 0;
  closed = replicate (size_of h) false;
  cells = replicate (h.count * length h.shape.cells) dead_cell;
}

abbrev pub with_byte_in : ℕ → ℕ → Place → Place
with_byte_in o byte p = record p { bytes = slice_set p.bytes o byte }

abbrev pub with_closed_in : ℕ → Place → Place
with_closed_in o p = record p { closed = slice_set p.closed o true }

-- So many bytes, from an offset on, are those of a value, the lowest first.
abbrev pub with_number : ℕ → ℕ → ℕ → List ℕ → List ℕ
with_number o zero value bytes = bytes
with_number o (suc width) value bytes = slice_set (with_number (o + 1) width (value / 256) bytes) o (value % 256)

abbrev pub puts_in : ℕ → ℕ → ℕ → Place → Place
puts_in o width value p = record p { bytes = with_number o width value p.bytes }

-- So many flags, from one on, are set.
abbrev pub with_flags : ℕ → ℕ → List Bool → List Bool
with_flags i zero flags = flags
with_flags i (suc n) flags = with_flags (i + 1) n (slice_set flags i true)

abbrev pub closes_in : ℕ → ℕ → Place → Place
closes_in o len p = record p { closed = with_flags o len p.closed }

-- with another cell in place of the one that has this byte
abbrev pub with_cell_in : ℕ → Cell → Place → Option Place
with_cell_in o cell p = option_map (λ k. record p { cells = slice_set p.cells k cell }) (cell_number p.head o)

-- The first of so many numbers, from one on, that passes a test.
abbrev pub first_from : (ℕ → Bool) → ℕ → ℕ → Option ℕ
first_from test o zero = None
first_from test o (suc n) = if test o then Some o else first_from test (o + 1) n

-- The number that so many bytes spell, the lowest first.
abbrev pub number_in : List ℕ → ℕ → ℕ → ℕ
number_in bytes o zero = 0
number_in bytes o (suc width) = slice_index_or bytes o 0 + 256 * number_in bytes (o + 1) width
