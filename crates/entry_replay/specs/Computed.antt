use Rattle.std.specs.Prelude.{ℕ, zero, suc, Bool, true, false, List, [], ◌∷◌, ◌++◌, slice_get, Option, Some, None}
use Rattle.std.specs.Option.{option_map, option_and_then}
use Rattle.thread_system.specs.Effect.{Effect, Silent, Reads, Writes, Turn, Calls, Traps}
use Rattle.thread_system.specs.Memory.{Memory}
use Rattle.thread_system.specs.Segment.{bad_pointer}
use Rattle.entry_replay.specs.Accesses.{Access, Store, Verdict, Races, Misses, Finds, addresses, at_line, at_cells, stores_of, with_stores, raced_in, tries}
use Rattle.entry_replay.specs.Runs.{End, Calling, Trapped, Spent, Raced}
use Rattle.entry_replay.specs.World.{System, Runtime, Common, Finish, first_common, since, common_after, states_after}

-- The replay as a function that computes, where a number of steps bounds each run: it gives the examples.

pub record Ran (S : Type 0) : Type 0 where
  pub accesses : List Access
  pub stores : List Store
  pub end : End S

-- a run behind these accesses and stores
abbrev pub behind : {S : Type 0} → List Access → List Store → Ran S → Ran S
behind here done r = record { accesses = here ++ r.accesses; stores = done ++ r.stores; end = r.end }

abbrev pub stopped : {S : Type 0} → List Access → End S → Option (Ran S)
stopped here e = Some (record { accesses = here; stores = []; end = e })

abbrev pub read_by : {S : Type 0} → (ℕ → Memory → S → Option (Ran S)) → ℕ → Memory → List Access → ℕ → (ℕ → S) → Verdict → Option (Ran S)
read_by rest turns m here line next (Races x) = stopped here (Raced x)
read_by rest turns m here line next Misses = stopped here (Trapped bad_pointer line)
read_by rest turns m here line next (Finds value) = option_map (behind here []) (rest turns m (next value))

abbrev pub write_by : {S : Type 0} → (ℕ → Memory → S → Option (Ran S)) → ℕ → Memory → List Access → List Store → ℕ → S → Verdict → Option (Ran S)
write_by rest turns m here done line next (Races x) = stopped here (Raced x)
write_by rest turns m here done line next Misses = stopped here (Trapped bad_pointer line)
write_by rest turns m here done line next (Finds old) = option_map (behind here done) (rest turns (with_stores done m) next)

abbrev pub call_by : {S : Type 0} → List Access → End S → Option Access → Option (Ran S)
call_by here call None = stopped here call
call_by here call (Some x) = stopped here (Raced x)

abbrev pub run_by : {S : Type 0} → (ℕ → List ℕ → List ℕ) → (ℕ → Bool) → (ℕ → Memory → S → Option (Ran S)) → ℕ → Memory → Effect S → Option (Ran S)
run_by cells touched rest turns m (Silent next) = rest turns m next
run_by cells touched rest turns m (Reads addr width line next) = read_by rest turns m (at_line line (addresses addr width)) line next (tries touched m addr width line)
run_by cells touched rest turns m (Writes addr width value line next) = write_by rest turns m (at_line line (addresses addr width)) (stores_of addr width value) line next (tries touched m addr width line)
run_by cells touched rest zero m (Turn line next) = stopped [] (Spent line)
run_by cells touched rest (suc turns) m (Turn line next) = rest turns m next
run_by cells touched rest turns m (Calls number args line next) = call_by (at_cells line (cells number args)) (Calling number args line next) (raced_in touched (at_cells line (cells number args)))
run_by cells touched rest turns m (Traps kind line) = stopped [] (Trapped kind line)

-- a run of so many steps at most
abbrev pub run_in : {S : Type 0} → (S → Effect S) → (ℕ → List ℕ → List ℕ) → (ℕ → Bool) → ℕ → ℕ → Memory → S → Option (Ran S)
run_in step cells touched zero turns m s = None
run_in step cells touched (suc steps) turns m s = run_by cells touched (run_in step cells touched steps) turns m (step s)

abbrev pub entry_from : {S W : Type 0} → System S → Runtime W → ℕ → ℕ → Common W → List S → ℕ → S → Option (Common W × List S)
entry_from sys rt steps turns c states t s = option_map (λ r. (common_after rt c t r.stores r.end, states_after sys rt c t r.stores r.end states)) (run_in (sys.step t) rt.cells (since rt c t) steps turns (rt.memory c.shared) s)

abbrev pub entry_ready : {S W : Type 0} → System S → Runtime W → ℕ → ℕ → Common W → List S → ℕ → Option Finish → Bool → Option (Common W × List S)
entry_ready sys rt steps turns c states t (Some finish) ready = None
entry_ready sys rt steps turns c states t None false = None
entry_ready sys rt steps turns c states t None true = option_and_then (entry_from sys rt steps turns c states t) (slice_get states t)

abbrev pub entry_in : {S W : Type 0} → System S → Runtime W → ℕ → ℕ → ℕ → Common W × List S → Option (Common W × List S)
entry_in sys rt steps turns t world = entry_ready sys rt steps turns world.0 world.1 t world.0.ending (rt.is_ready world.0.shared t)

-- the replay of a schedule, whose latest thread stands first
abbrev pub replay_in : {S W : Type 0} → System S → Runtime W → ℕ → ℕ → W → List ℕ → Option (Common W × List S)
replay_in sys rt steps turns first [] = Some (first_common first, sys.start 0 0 0 ∷ [])
replay_in sys rt steps turns first (t ∷ schedule) = option_and_then (entry_in sys rt steps turns t) (replay_in sys rt steps turns first schedule)
