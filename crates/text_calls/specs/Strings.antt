-- The strings of a run, as its calls see them: at each address no cell, a cell that isn't alive, or an alive one with its
-- bytes.
use Rattle.std.specs.Prelude.{◌≡◌, ◌≢◌, ℕ, ◌<◌, Bool, true, false, if◌then◌else◌, List, length, Option, Some, None}
use Rattle.places.specs.declared.kinds.Cell.{Cell}
use Rattle.places.specs.Memory.{Places, cell_at}
use Rattle.str_heap.specs.Payloads.{bytes_at, bytes_of, IsLive, IsApart}

pub data CellState : Type 0 where
  no_cell : CellState
  dead : CellState
  holds : List ℕ → CellState

-- an alive cell has the bytes of its descriptor
abbrev pub cell_state_of : List (List ℕ) → Option Cell → CellState
cell_state_of heap None = no_cell
cell_state_of heap (Some cell) = if cell.alive then holds (bytes_of heap cell.desc) else dead

unfoldable pub strings_of : Places → List (List ℕ) → ℕ → CellState
strings_of m heap a = cell_state_of heap (cell_at m a)

-- whether there is a cell that isn't alive
abbrev pub is_dead : CellState → Bool
is_dead no_cell = false
is_dead dead = true
is_dead (holds s) = false

-- the bytes of an alive cell
abbrev pub text_of : CellState → Option (List ℕ)
text_of no_cell = None
text_of dead = None
text_of (holds s) = Some s

-- Each alive cell has a live descriptor, and no two cells that aren't empty one and the same. An empty string's
-- descriptor is live where its length and size are 0.
pub record AreKept (m : Places) (heap : List (List ℕ)) : Type 0 where
  pub live : (a : ℕ) (cell : Cell) → cell_at m a ≡ Some cell → cell.alive ≡ true → IsLive heap cell.desc
  pub apart : (a b : ℕ) (x y : Cell) → a ≢ b → cell_at m a ≡ Some x → cell_at m b ≡ Some y → x.alive ≡ true → y.alive ≡ true → IsApart x.desc y.desc

-- an alive cell has the string that begins at a block of the heap
pub record Uses (m : Places) (place : ℕ) : Type 0 where
  pub at : ℕ
  pub cell : Cell
  pub is : cell_at m at ≡ Some cell
  pub alive : cell.alive ≡ true
  pub some : 0 < cell.desc.length
  pub here : cell.desc.place ≡ place

-- no string of the heap is lost
abbrev pub AllUsed : Places → List (List ℕ) → Type 0
AllUsed m heap = (place : ℕ) → 0 < length (bytes_at heap place) → Uses m place
