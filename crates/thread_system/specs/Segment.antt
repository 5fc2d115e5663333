use Rattle.std.specs.Prelude.{◌≡◌, ℕ, zero, suc, List, Some, None}
use Rattle.thread_system.specs.Effect.{Effect, Silent, Reads, Writes, Turn, Calls, Traps}
use Rattle.thread_system.specs.Memory.{Memory, read, write}

-- the kind of the trap at an access that isn't allowed
abbrev pub bad_pointer : ℕ
bad_pointer = 1

-- What ends a segment: the next runtime call, with what the thread goes on as once it is answered; a trap; or
-- one turn above the limit, which isn't done.
pub data End (S : Type 0) : Type 0 where
  Calling : (number : ℕ) (args : List ℕ) (line : ℕ) (next : ℕ → S) → End S
  Trapped : (kind line : ℕ) → End S
  Spent : (line : ℕ) → End S

-- Within so many turns, from a state and a memory the thread comes to this memory and this end.
pub data Segment {S : Type 0} (step : S → Effect S) : ℕ → Memory → S → Memory → End S → Type 0 where
  goes_on : (turns : ℕ) (m after : Memory) (s next : S) (e : End S) → step s ≡ Silent next → Segment step turns m next after e → Segment step turns m s after e
  reads : (turns : ℕ) (m after : Memory) (s : S) (addr width line value : ℕ) (next : ℕ → S) (e : End S) → step s ≡ Reads addr width line next → read m addr width ≡ Some value → Segment step turns m (next value) after e → Segment step turns m s after e
  reads_badly : (turns : ℕ) (m : Memory) (s : S) (addr width line : ℕ) (next : ℕ → S) → step s ≡ Reads addr width line next → read m addr width ≡ None → Segment step turns m s m (Trapped bad_pointer line)
  writes : (turns : ℕ) (m written after : Memory) (s : S) (addr width value line : ℕ) (next : S) (e : End S) → step s ≡ Writes addr width value line next → write m addr width value ≡ Some written → Segment step turns written next after e → Segment step turns m s after e
  writes_badly : (turns : ℕ) (m : Memory) (s : S) (addr width value line : ℕ) (next : S) → step s ≡ Writes addr width value line next → write m addr width value ≡ None → Segment step turns m s m (Trapped bad_pointer line)
  takes_turn : (turns : ℕ) (m after : Memory) (s : S) (line : ℕ) (next : S) (e : End S) → step s ≡ Turn line next → Segment step turns m next after e → Segment step (suc turns) m s after e
  lacks_turn : (m : Memory) (s : S) (line : ℕ) (next : S) → step s ≡ Turn line next → Segment step zero m s m (Spent line)
  calls : (turns : ℕ) (m : Memory) (s : S) (number : ℕ) (args : List ℕ) (line : ℕ) (next : ℕ → S) → step s ≡ Calls number args line next → Segment step turns m s m (Calling number args line next)
  traps : (turns : ℕ) (m : Memory) (s : S) (kind line : ℕ) → step s ≡ Traps kind line → Segment step turns m s m (Trapped kind line)
