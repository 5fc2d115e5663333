-- What a load of a file answers.
use Rattle.std.specs.Prelude.{◌≡◌, ℕ, ◌<◌, ◌≤◌, List, length, None, Some, ⊤, Option, Result, Ok, Err, Bool, true, false}
use Rattle.std.specs.FinMap.{get}
use Rattle.host_edge.specs.declared.store.Loaded.{Loaded}
use Rattle.host_edge.specs.declared.store.Loaded.TheVariants.{Bytes, Absent, TooLong}
use Rattle.host_edge.specs.declared.store.LoadErr.{LoadErr}
use Rattle.host_edge.specs.declared.store.LoadErr.TheVariants as errors
use Rattle.host_edge.specs.Faults.{Rose}
use Rattle.host_edge.specs.Files.{FileMap}

-- a load under this name with this limit: the file's bytes, that there is none, or that it is longer
abbrev pub IsLoaded : Option FileMap → List ℕ → ℕ → Loaded → Type 0
IsLoaded None name limit (Bytes bytes) = length bytes ≤ limit
IsLoaded None name limit Absent = ⊤
IsLoaded None name limit TooLong = ⊤
IsLoaded (Some held) name limit (Bytes bytes) = (get held name ≡ Some bytes) × (length bytes ≤ limit)
IsLoaded (Some held) name limit Absent = get held name ≡ None
IsLoaded (Some held) name limit TooLong = (bytes : List ℕ) × (get held name ≡ Some bytes) × (limit < length bytes)

-- a load that failed has a fault for its cause; want of memory has none
abbrev pub IsLoadCause : ℕ → ℕ → LoadErr → Type 0
IsLoadCause before now errors.Failed = Rose before now
IsLoadCause before now errors.NoMemory = ⊤

-- whether a load failed
abbrev pub load_fails : Result Loaded LoadErr → Bool
load_fails (Ok loaded) = false
load_fails (Err errors.Failed) = true
load_fails (Err errors.NoMemory) = false
