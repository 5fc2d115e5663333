-- How a call answers, by what it makes of a memory: what is refused changes nothing.
use Rattle.std.specs.Prelude.{◌≡◌, ℕ, ◌⊎◌, Option, Some, None, Result, Ok, Err, is_some, true, false}
use Rattle.places.specs.declared.kinds.MakeErr.{MakeErr}
use Rattle.places.specs.declared.kinds.MakeErr.TheVariants.{NoMemory, PlaceLimit}
use Rattle.thread_system.specs.Memory.{read}
use Rattle.places.specs.declared.kinds.Cell.{Cell}
use Rattle.places.specs.Place.{Place, byte_in, cell_in, may_close_in, puts_in, closes_in, with_cell_in}
use Rattle.places.specs.Memory.{Places, each_byte}

-- The widths of an access in bytes.
abbrev pub IsWidth : ℕ → Type 0
IsWidth width = (width ≡ 1) ⊎ (width ≡ 2) ⊎ (width ≡ 4) ⊎ (width ≡ 8)

-- A call that may be refused, and gives nothing else.
abbrev pub Does : {A E : Type 0} → Option Places → Places → Places → Result A E → Type 0
Does next old new (Ok done) = next ≡ Some new
Does next old new (Err e) = (next ≡ None) × (new ≡ old)

-- A call that may be refused, and gives a number.
abbrev pub Gives : {E : Type 0} → Option (ℕ × Places) → Places → Places → Result ℕ E → Type 0
Gives next old new (Ok number) = next ≡ Some (number, new)
Gives next old new (Err e) = (next ≡ None) × (new ≡ old)

-- The same of a call that is refused with None.
abbrev pub Sets : {A : Type 0} → Option Places → Places → Places → Option A → Type 0
Sets next old new (Some done) = next ≡ Some new
Sets next old new None = (next ≡ None) × (new ≡ old)

-- Want of memory is answered only where the limit allows the place.
abbrev pub Makes : Option (ℕ × Places) → Places → Places → Result ℕ MakeErr → Type 0
Makes next old new (Ok address) = next ≡ Some (address, new)
Makes next old new (Err PlaceLimit) = (next ≡ None) × (new ≡ old)
Makes next old new (Err NoMemory) = (is_some next ≡ true) × (new ≡ old)

-- The same of one place: a write of so many bytes of a value, and a cell set.
abbrev pub Writes : {A : Type 0} → (o width value : ℕ) → Place → Place → Option A → Type 0
Writes o width value old new (Some done) = (is_some (read (byte_in old) o width) ≡ true) × (new ≡ puts_in o width value old)
Writes o width value old new None = (is_some (read (byte_in old) o width) ≡ false) × (new ≡ old)

abbrev pub SetsCell : {A : Type 0} → ℕ → Cell → Place → Place → Option A → Type 0
SetsCell o cell old new (Some done) = (is_some (cell_in old o) ≡ true) × (with_cell_in o cell old ≡ Some new)
SetsCell o cell old new None = (is_some (cell_in old o) ≡ false) × (new ≡ old)

abbrev pub Closes : {A E : Type 0} → (o len : ℕ) → Place → Place → Result A E → Type 0
Closes o len old new (Ok done) = (each_byte (may_close_in old) o len ≡ true) × (new ≡ closes_in o len old)
Closes o len old new (Err e) = (each_byte (may_close_in old) o len ≡ false) × (new ≡ old)
