use Rattle.std.specs.Prelude.{◌≡◌, ℕ, suc, Bool, List, [], ◌++◌}
use Rattle.thread_system.specs.Effect.{Effect, Silent, Reads, Writes, Turn}
use Rattle.thread_system.specs.Memory.{Memory}
use Rattle.entry_replay.specs.Accesses.{Access, Store, Finds, addresses, at_line, stores_of, with_stores, tries}
use Rattle.entry_replay.specs.Runs.{End, Runs}

-- How a run goes ahead, step by step: what a loop over steps keeps.

-- After these accesses and stores, with so many turns left, a run that began with so many turns, on this memory and in
-- this state, is here: whatever follows from here is the rest of it.
pub record Leads {S : Type 0} (step : S → Effect S) (cells : ℕ → List ℕ → List ℕ) (touched : ℕ → Bool) (turns : ℕ) (m : Memory) (s : S) (front : List Access) (stored : List Store) (left : ℕ) (here : S) : Type 0 where
  pub leads : (later : List Access) (w : List Store) (e : End S) → Runs step cells touched left (with_stores stored m) here later w e → Runs step cells touched turns m s (front ++ later) (stored ++ w) e

-- A run is at its beginning, and goes on by a silent step, a turn, a read or a write.
abbrev pub BeginsThere : Type 0 → Type 0
BeginsThere S = (step : S → Effect S) (cells : ℕ → List ℕ → List ℕ) (touched : ℕ → Bool) (turns : ℕ) (m : Memory) (s : S) → Leads step cells touched turns m s [] [] turns s

abbrev pub PastSilent : Type 0 → Type 0
PastSilent S = (step : S → Effect S) (cells : ℕ → List ℕ → List ℕ) (touched : ℕ → Bool) (turns : ℕ) (m : Memory) (s : S) (front : List Access) (stored : List Store) (left : ℕ) (here next : S) → Leads step cells touched turns m s front stored left here → step here ≡ Silent next → Leads step cells touched turns m s front stored left next

abbrev pub PastTurn : Type 0 → Type 0
PastTurn S = (step : S → Effect S) (cells : ℕ → List ℕ → List ℕ) (touched : ℕ → Bool) (turns : ℕ) (m : Memory) (s : S) (front : List Access) (stored : List Store) (left : ℕ) (here next : S) (line : ℕ) → Leads step cells touched turns m s front stored (suc left) here → step here ≡ Turn line next → Leads step cells touched turns m s front stored left next

abbrev pub PastRead : Type 0 → Type 0
PastRead S = (step : S → Effect S) (cells : ℕ → List ℕ → List ℕ) (touched : ℕ → Bool) (turns : ℕ) (m : Memory) (s : S) (front : List Access) (stored : List Store) (left : ℕ) (here : S) (addr width line value : ℕ) (next : ℕ → S) → Leads step cells touched turns m s front stored left here → step here ≡ Reads addr width line next → tries touched (with_stores stored m) addr width line ≡ Finds value → Leads step cells touched turns m s (front ++ at_line line (addresses addr width)) stored left (next value)

abbrev pub PastWrite : Type 0 → Type 0
PastWrite S = (step : S → Effect S) (cells : ℕ → List ℕ → List ℕ) (touched : ℕ → Bool) (turns : ℕ) (m : Memory) (s : S) (front : List Access) (stored : List Store) (left : ℕ) (here : S) (addr width value line old : ℕ) (next : S) → Leads step cells touched turns m s front stored left here → step here ≡ Writes addr width value line next → tries touched (with_stores stored m) addr width line ≡ Finds old → Leads step cells touched turns m s (front ++ at_line line (addresses addr width)) (stored ++ stores_of addr width value) left next
