-- What a call comes to, and what the strings are afterwards.
use Rattle.std.specs.Prelude.{◌≡◌, ℕ, ◌<◌, ◌==◌, Bool, true, false, if◌then◌else◌, List, length, slice_set}
use Rattle.text_calls.specs.declared.outcome.Outcome.{Outcome}
use Rattle.text_calls.specs.declared.outcome.Outcome.TheVariants.{Trapped, Gives, Makes, Sets, Puts, Drops}
use Rattle.text_calls.specs.Strings.{CellState, no_cell, dead, holds}

abbrev pub is_trap : Outcome → Bool
is_trap (Trapped kind) = true
is_trap (Gives number) = false
is_trap (Makes cell bytes) = false
is_trap (Sets cell bytes) = false
is_trap (Puts cell index byte) = false
is_trap (Drops cell) = false

-- the result of the call; 0 where it names none
abbrev pub result_of : Outcome → ℕ
result_of (Trapped kind) = 0
result_of (Gives number) = number
result_of (Makes cell bytes) = 0
result_of (Sets cell bytes) = 0
result_of (Puts cell index byte) = 0
result_of (Drops cell) = 0

-- the strings with another state of the cell at an address
abbrev pub with_cell_state : ℕ → CellState → (ℕ → CellState) → ℕ → CellState
with_cell_state cell state strings a = if a == cell then state else strings a

-- a string in which one byte is another
abbrev pub with_byte : ℕ → ℕ → CellState → CellState
with_byte index byte no_cell = no_cell
with_byte index byte dead = dead
with_byte index byte (holds s) = holds (slice_set s index byte)

-- the strings after a call
abbrev pub after : Outcome → (ℕ → CellState) → ℕ → CellState
after (Trapped kind) strings = strings
after (Gives number) strings = strings
after (Makes cell bytes) strings = with_cell_state cell (holds bytes) strings
after (Sets cell bytes) strings = with_cell_state cell (holds bytes) strings
after (Puts cell index byte) strings = with_cell_state cell (with_byte index byte (strings cell)) strings
after (Drops cell) strings = with_cell_state cell dead strings

-- there is an alive cell
abbrev pub IsAlive : CellState → Type 0
IsAlive state = (s : List ℕ) × (state ≡ holds s)

-- What a call comes to fits the strings: only a cell that isn't alive becomes alive, and only an alive one changes.
abbrev pub Fits : (ℕ → CellState) → Outcome → Type 0
Fits strings (Trapped kind) = Unit {0}
Fits strings (Gives number) = Unit {0}
Fits strings (Makes cell bytes) = strings cell ≡ dead
Fits strings (Sets cell bytes) = IsAlive (strings cell)
Fits strings (Puts cell index byte) = (s : List ℕ) × (strings cell ≡ holds s) × (index < length s)
Fits strings (Drops cell) = IsAlive (strings cell)
