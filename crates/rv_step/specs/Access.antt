use Rattle.std.specs.Prelude.{◌≡◌, ℕ, ◌⊎◌, List, [], ◌∷◌, ◌++◌, Option, Some, None, is_some, Result, Ok, Err}
use Rattle.thread_system.specs.Memory.{Memory, read, write}
use Rattle.rv_step.specs.declared.bus.BusErr.{BusErr}
use Rattle.rv_step.specs.declared.bus.BusErr.TheVariants as faults

-- The widths of an access in bytes.
abbrev pub IsWidth : ℕ → Type 0
IsWidth width = (width ≡ 1) ⊎ (width ≡ 2) ⊎ (width ≡ 4) ⊎ (width ≡ 8)

-- What a load from a memory answers: the number that the bytes spell, the lowest first; Unmapped exactly where one
-- of them isn't there.
abbrev pub IsLoad : Memory → ℕ → ℕ → Result ℕ BusErr → Type 0
IsLoad m addr width (Ok value) = read m addr width ≡ Some value
IsLoad m addr width (Err faults.Unmapped) = read m addr width ≡ None
IsLoad m addr width (Err faults.NoMemory) = Unit {0}

-- What a store answers, and the memory after it: only these bytes are changed, and none after an error.
abbrev pub IsStore : {A : Type 0} → Memory → Memory → (addr width value : ℕ) → Result A BusErr → Type 0
IsStore m after addr width value (Ok done) = write m addr width value ≡ Some after
IsStore m after addr width value (Err faults.Unmapped) = (write m addr width value ≡ None) × (after ≡ m)
IsStore m after addr width value (Err faults.NoMemory) = after ≡ m

-- An access to memory: a load of so many bytes, or a store of a value in them, with the place of its instruction.
pub data Access : Type 0 where
  Got : (addr width at : ℕ) → Access
  Put : (addr width value at : ℕ) → Access

-- the accesses before and after one more, where they are told
abbrev pub Adds : Access → Option (List Access) → Option (List Access) → Type 0
Adds access None after = after ≡ None
Adds access (Some before) after = after ≡ Some (before ++ access ∷ [])

-- What is seen of an access: it stands last, also where it isn't allowed. After want of memory it may or may not.
abbrev pub Sees : {A : Type 0} → Access → Option (List Access) → Option (List Access) → Result A BusErr → Type 0
Sees access before after (Ok done) = Adds access before after
Sees access before after (Err faults.Unmapped) = Adds access before after
Sees access before after (Err faults.NoMemory) = is_some after ≡ is_some before
