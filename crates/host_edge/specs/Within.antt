-- What reading a file to its end within a limit finds, where the bytes that the file has left are known.
use Rattle.std.specs.Prelude.{◌≡◌, ℕ, ◌<◌, ◌≤◌, List, length, None, Some, ⊤, Option}
use Rattle.std.specs.Io.KnownBytes.{Consumes}
use Rattle.host_edge.specs.declared.store.Loaded.{Loaded}
use Rattle.host_edge.specs.declared.store.Loaded.TheVariants.{Bytes, Absent, TooLong}

-- all the bytes, which are within the limit, or that they are more
abbrev pub IsReadWithin : Option (List ℕ) → ℕ → Loaded → Type 0
IsReadWithin known limit Absent = ⊥
IsReadWithin None limit (Bytes bytes) = length bytes ≤ limit
IsReadWithin None limit TooLong = ⊤
IsReadWithin (Some all) limit (Bytes bytes) = (bytes ≡ all) × (length bytes ≤ limit)
IsReadWithin (Some all) limit TooLong = limit < length all

-- some bytes were taken, and at most so many
abbrev pub TakesAtMost : Option (List ℕ) → Option (List ℕ) → ℕ → Type 0
TakesAtMost old new most = (bytes : List ℕ) × (length bytes ≤ most) × Consumes old new bytes
