use Rattle.std.specs.Prelude.{◌≡◌, ℕ, zero, suc, List, [], ◌++◌, Bool, Some, None}
use Rattle.thread_system.specs.Effect.{Effect, Silent, Reads, Writes, Turn, Calls, Traps}
use Rattle.thread_system.specs.Memory.{Memory}
use Rattle.thread_system.specs.Segment.{bad_pointer}
use Rattle.entry_replay.specs.Accesses.{Access, Store, Races, Misses, Finds, addresses, at_line, at_cells, stores_of, with_stores, raced_in, tries}

-- What ends a run of a thread: its next runtime call, with what it goes on as once the call is answered; a trap; one
-- turn above the limit, which isn't done; or an access to a touched byte.
pub data End (S : Type 0) : Type 0 where
  Calling : (number : ℕ) (args : List ℕ) (line : ℕ) (next : ℕ → S) → End S
  Trapped : (kind line : ℕ) → End S
  Spent : (line : ℕ) → End S
  Raced : (access : Access) → End S

-- From a state, on a memory of which some bytes are touched, a thread comes within so many turns to this end. On the way
-- it accesses these bytes in order, and does these stores in order. The bytes of an access that isn't allowed, or that
-- races, stand last. `cells` are the bytes that a call accesses before it is made.
--
-- One family for four things. With the bytes that were touched since the thread's start, on the present memory, it is
-- the run of an entry; with no byte touched it is what a worker records, the thread's own segment, and the segment of a
-- thread that is alone.
pub data Runs {S : Type 0} (step : S → Effect S) (cells : ℕ → List ℕ → List ℕ) (touched : ℕ → Bool) : ℕ → Memory → S → List Access → List Store → End S → Type 0 where
  goes_on : (turns : ℕ) (m : Memory) (s next : S) (acc : List Access) (w : List Store) (e : End S) → step s ≡ Silent next → Runs step cells touched turns m next acc w e → Runs step cells touched turns m s acc w e
  reads : (turns : ℕ) (m : Memory) (s : S) (addr width line value : ℕ) (next : ℕ → S) (acc : List Access) (w : List Store) (e : End S) → step s ≡ Reads addr width line next → tries touched m addr width line ≡ Finds value → Runs step cells touched turns m (next value) acc w e → Runs step cells touched turns m s (at_line line (addresses addr width) ++ acc) w e
  reads_badly : (turns : ℕ) (m : Memory) (s : S) (addr width line : ℕ) (next : ℕ → S) → step s ≡ Reads addr width line next → tries touched m addr width line ≡ Misses → Runs step cells touched turns m s (at_line line (addresses addr width)) [] (Trapped bad_pointer line)
  reads_raced : (turns : ℕ) (m : Memory) (s : S) (addr width line : ℕ) (next : ℕ → S) (x : Access) → step s ≡ Reads addr width line next → tries touched m addr width line ≡ Races x → Runs step cells touched turns m s (at_line line (addresses addr width)) [] (Raced x)
  writes : (turns : ℕ) (m : Memory) (s : S) (addr width value line old : ℕ) (next : S) (acc : List Access) (w : List Store) (e : End S) → step s ≡ Writes addr width value line next → tries touched m addr width line ≡ Finds old → Runs step cells touched turns (with_stores (stores_of addr width value) m) next acc w e → Runs step cells touched turns m s (at_line line (addresses addr width) ++ acc) (stores_of addr width value ++ w) e
  writes_badly : (turns : ℕ) (m : Memory) (s : S) (addr width value line : ℕ) (next : S) → step s ≡ Writes addr width value line next → tries touched m addr width line ≡ Misses → Runs step cells touched turns m s (at_line line (addresses addr width)) [] (Trapped bad_pointer line)
  writes_raced : (turns : ℕ) (m : Memory) (s : S) (addr width value line : ℕ) (next : S) (x : Access) → step s ≡ Writes addr width value line next → tries touched m addr width line ≡ Races x → Runs step cells touched turns m s (at_line line (addresses addr width)) [] (Raced x)
  takes_turn : (turns : ℕ) (m : Memory) (s : S) (line : ℕ) (next : S) (acc : List Access) (w : List Store) (e : End S) → step s ≡ Turn line next → Runs step cells touched turns m next acc w e → Runs step cells touched (suc turns) m s acc w e
  lacks_turn : (m : Memory) (s : S) (line : ℕ) (next : S) → step s ≡ Turn line next → Runs step cells touched zero m s [] [] (Spent line)
  calls : (turns : ℕ) (m : Memory) (s : S) (number : ℕ) (args : List ℕ) (line : ℕ) (next : ℕ → S) → step s ≡ Calls number args line next → raced_in touched (at_cells line (cells number args)) ≡ None → Runs step cells touched turns m s (at_cells line (cells number args)) [] (Calling number args line next)
  calls_raced : (turns : ℕ) (m : Memory) (s : S) (number : ℕ) (args : List ℕ) (line : ℕ) (next : ℕ → S) (x : Access) → step s ≡ Calls number args line next → raced_in touched (at_cells line (cells number args)) ≡ Some x → Runs step cells touched turns m s (at_cells line (cells number args)) [] (Raced x)
  traps : (turns : ℕ) (m : Memory) (s : S) (kind line : ℕ) → step s ≡ Traps kind line → Runs step cells touched turns m s [] [] (Trapped kind line)
