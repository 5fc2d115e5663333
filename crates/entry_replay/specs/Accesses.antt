use Rattle.std.specs.Prelude.{ℕ, zero, suc, ◌/◌, ◌%◌, ◌==◌, Bool, true, false, ◌||◌, if◌then◌else◌, List, [], ◌∷◌, Option, Some, None}
use Rattle.thread_system.specs.Memory.{Memory, next_address, read, with_byte}

-- What a run does to the memory that all threads share, byte by byte, and which of these bytes another thread's entry
-- touched meanwhile.

-- One byte is accessed, at a line. It is looked at, unless it is a byte of a cell that a call names.
pub record Access : Type 0 where
  pub addr : ℕ
  pub line : ℕ
  pub looked : Bool

-- One byte is written.
pub record Store : Type 0 where
  pub addr : ℕ
  pub byte : ℕ

-- so many addresses from one on; after the last address comes address 0
abbrev pub addresses : ℕ → ℕ → List ℕ
addresses a zero = []
addresses a (suc width) = a ∷ addresses (next_address a) width

-- these bytes are looked at, at a line
abbrev pub at_line : ℕ → List ℕ → List Access
at_line line [] = []
at_line line (a ∷ others) = record { addr = a; line = line; looked = true } ∷ at_line line others

-- these are bytes of the cells that a call at a line names
abbrev pub at_cells : ℕ → List ℕ → List Access
at_cells line [] = []
at_cells line (a ∷ others) = record { addr = a; line = line; looked = false } ∷ at_cells line others

-- a value is written in so many bytes from an address on, the lowest byte first
abbrev pub stores_of : ℕ → ℕ → ℕ → List Store
stores_of a zero value = []
stores_of a (suc width) value = record { addr = a; byte = value % 256 } ∷ stores_of (next_address a) width (value / 256)

-- the memory after these were done, the first of the list first
abbrev pub with_stores : List Store → Memory → Memory
with_stores [] m = m
with_stores (x ∷ w) m = with_stores w (with_byte m x.addr x.byte)

-- whether a byte is among those that were written
abbrev pub among : List Store → ℕ → Bool
among [] a = false
among (x ∷ w) a = (a == x.addr) || among w a

-- no byte is touched
abbrev pub untouched : ℕ → Bool
untouched a = false

-- the first access to a touched byte
abbrev pub raced_in : (ℕ → Bool) → List Access → Option Access
raced_in touched [] = None
raced_in touched (x ∷ xs) = if touched x.addr then Some x else raced_in touched xs

-- What becomes of an access: it races, at its first touched byte; or it isn't allowed; or it finds a value. One that
-- has a touched byte races, whether it is allowed or not.
pub data Verdict : Type 0 where
  Races : (access : Access) → Verdict
  Misses : Verdict
  Finds : (value : ℕ) → Verdict

abbrev pub found : Option ℕ → Verdict
found None = Misses
found (Some value) = Finds value

abbrev pub tried : Option Access → Option ℕ → Verdict
tried None value = found value
tried (Some access) value = Races access

-- the verdict on so many bytes from an address on
abbrev pub tries : (ℕ → Bool) → Memory → ℕ → ℕ → ℕ → Verdict
tries touched m addr width line = tried (raced_in touched (at_line line (addresses addr width))) (read m addr width)
