use Rattle.std.proofs.Common.{◌≡◌, ℕ, zero, suc, Bool, true, false, List, [], ◌∷◌, slice_get, Option, Some, None, option_map, option_and_then, refl}
use Rattle.thread_system.specs.Effect.{Effect, Silent, Reads, Writes, Turn, Calls, Traps}
use Rattle.thread_system.specs.Memory.{Memory}
use Rattle.entry_replay.specs.Accesses.{Access, Verdict, Races, Misses, Finds, addresses, at_line, at_cells, stores_of, with_stores, raced_in, tries}
use Rattle.entry_replay.specs.Runs.{Calling, Runs, goes_on, reads, reads_badly, reads_raced, writes, writes_badly, writes_raced, takes_turn, lacks_turn, calls, calls_raced, traps}
use Rattle.entry_replay.specs.World.{System, Runtime, Common, Finish, since, common_after, states_after}
use Rattle.entry_replay.specs.Replay.{Entry, Replays, begins, one_more}
use Rattle.entry_replay.specs.Computed.{Ran, behind, read_by, write_by, call_by, run_by, run_in, entry_from, entry_ready, entry_in, replay_in}

-- What the computed replay gives is the replay.

-- a run that was computed is one
abbrev pub IsRun : {S : Type 0} → (S → Effect S) → (ℕ → List ℕ → List ℕ) → (ℕ → Bool) → ℕ → Memory → S → Option (Ran S) → Type 0
IsRun step cells touched turns m s None = Unit {0}
IsRun step cells touched turns m s (Some r) = Runs step cells touched turns m s r.accesses r.stores r.end

module _ (S : Type 0) (step : S → Effect S) (cells : ℕ → List ℕ → List ℕ) (touched : ℕ → Bool) where
  silent_is : (turns : ℕ) (m : Memory) (s next : S) → step s ≡ Silent next → (o : Option (Ran S)) → IsRun step cells touched turns m next o → IsRun step cells touched turns m s o
  silent_is turns m s next is None run = tt
  silent_is turns m s next is (Some r) run = goes_on turns m s next r.accesses r.stores r.end is run

  turn_is : (turns : ℕ) (m : Memory) (s next : S) (line : ℕ) → step s ≡ Turn line next → (o : Option (Ran S)) → IsRun step cells touched turns m next o → IsRun step cells touched (suc turns) m s o
  turn_is turns m s next line is None run = tt
  turn_is turns m s next line is (Some r) run = takes_turn turns m s line next r.accesses r.stores r.end is run

  past_read_is : (turns : ℕ) (m : Memory) (s : S) (addr width line value : ℕ) (next : ℕ → S) → step s ≡ Reads addr width line next → tries touched m addr width line ≡ Finds value → (o : Option (Ran S)) → IsRun step cells touched turns m (next value) o → IsRun step cells touched turns m s (option_map (behind (at_line line (addresses addr width)) []) o)
  past_read_is turns m s addr width line value next is finds None run = tt
  past_read_is turns m s addr width line value next is finds (Some r) run = reads turns m s addr width line value next r.accesses r.stores r.end is finds run

  read_is : (rest : ℕ → Memory → S → Option (Ran S)) (turns : ℕ) (m : Memory) (s : S) (addr width line : ℕ) (next : ℕ → S) → step s ≡ Reads addr width line next → ((v : ℕ) → IsRun step cells touched turns m (next v) (rest turns m (next v))) → (v : Verdict) → tries touched m addr width line ≡ v → IsRun step cells touched turns m s (read_by rest turns m (at_line line (addresses addr width)) line next v)
  read_is rest turns m s addr width line next is run (Races x) races = reads_raced turns m s addr width line next x is races
  read_is rest turns m s addr width line next is run Misses misses = reads_badly turns m s addr width line next is misses
  read_is rest turns m s addr width line next is run (Finds value) finds = past_read_is turns m s addr width line value next is finds (rest turns m (next value)) (run value)

  past_write_is : (turns : ℕ) (m : Memory) (s : S) (addr width value line old : ℕ) (next : S) → step s ≡ Writes addr width value line next → tries touched m addr width line ≡ Finds old → (o : Option (Ran S)) → IsRun step cells touched turns (with_stores (stores_of addr width value) m) next o → IsRun step cells touched turns m s (option_map (behind (at_line line (addresses addr width)) (stores_of addr width value)) o)
  past_write_is turns m s addr width value line old next is finds None run = tt
  past_write_is turns m s addr width value line old next is finds (Some r) run = writes turns m s addr width value line old next r.accesses r.stores r.end is finds run

  write_is : (rest : ℕ → Memory → S → Option (Ran S)) (turns : ℕ) (m : Memory) (s : S) (addr width value line : ℕ) (next : S) → step s ≡ Writes addr width value line next → IsRun step cells touched turns (with_stores (stores_of addr width value) m) next (rest turns (with_stores (stores_of addr width value) m) next) → (v : Verdict) → tries touched m addr width line ≡ v → IsRun step cells touched turns m s (write_by rest turns m (at_line line (addresses addr width)) (stores_of addr width value) line next v)
  write_is rest turns m s addr width value line next is run (Races x) races = writes_raced turns m s addr width value line next x is races
  write_is rest turns m s addr width value line next is run Misses misses = writes_badly turns m s addr width value line next is misses
  write_is rest turns m s addr width value line next is run (Finds old) finds = past_write_is turns m s addr width value line old next is finds (rest turns (with_stores (stores_of addr width value) m) next) run

  call_is : (turns : ℕ) (m : Memory) (s : S) (number : ℕ) (args : List ℕ) (line : ℕ) (next : ℕ → S) → step s ≡ Calls number args line next → (o : Option Access) → raced_in touched (at_cells line (cells number args)) ≡ o → IsRun step cells touched turns m s (call_by (at_cells line (cells number args)) (Calling number args line next) o)
  call_is turns m s number args line next is None quiet = calls turns m s number args line next is quiet
  call_is turns m s number args line next is (Some x) races = calls_raced turns m s number args line next x is races

  run_by_is : (rest : ℕ → Memory → S → Option (Ran S)) → ((turns : ℕ) (m : Memory) (s : S) → IsRun step cells touched turns m s (rest turns m s)) → (turns : ℕ) (m : Memory) (s : S) (e : Effect S) → step s ≡ e → IsRun step cells touched turns m s (run_by cells touched rest turns m e)
  run_by_is rest run turns m s (Silent next) is = silent_is turns m s next is (rest turns m next) (run turns m next)
  run_by_is rest run turns m s (Reads addr width line next) is = read_is rest turns m s addr width line next is (λ v. run turns m (next v)) (tries touched m addr width line) refl
  run_by_is rest run turns m s (Writes addr width value line next) is = write_is rest turns m s addr width value line next is (run turns (with_stores (stores_of addr width value) m) next) (tries touched m addr width line) refl
  run_by_is rest run zero m s (Turn line next) is = lacks_turn m s line next is
  run_by_is rest run (suc turns) m s (Turn line next) is = turn_is turns m s next line is (rest turns m next) (run turns m next)
  run_by_is rest run turns m s (Calls number args line next) is = call_is turns m s number args line next is (raced_in touched (at_cells line (cells number args))) refl
  run_by_is rest run turns m s (Traps kind line) is = traps turns m s kind line is

  pub run_in_is : (steps turns : ℕ) (m : Memory) (s : S) → IsRun step cells touched turns m s (run_in step cells touched steps turns m s)
  run_in_is zero turns m s = tt
  run_in_is (suc steps) turns m s = run_by_is (run_in step cells touched steps) (run_in_is steps) turns m s (step s) refl

-- so is an entry
abbrev pub IsEntry : {S W : Type 0} → System S → Runtime W → ℕ → Common W → List S → ℕ → Option (Common W × List S) → Type 0
IsEntry {S} {W} sys rt turns c states t None = Unit {0}
IsEntry sys rt turns c states t (Some world) = Entry sys rt turns c states t world.0 world.1

module _ (S W : Type 0) (sys : System S) (rt : Runtime W) (steps turns : ℕ) where
  ran_is : (c : Common W) (states : List S) (t : ℕ) (s : S) → c.ending ≡ None → rt.is_ready c.shared t ≡ true → slice_get states t ≡ Some s → (o : Option (Ran S)) → IsRun (sys.step t) rt.cells (since rt c t) turns (rt.memory c.shared) s o → IsEntry sys rt turns c states t (option_map (λ r. (common_after rt c t r.stores r.end, states_after sys rt c t r.stores r.end states)) o)
  ran_is c states t s goes ready is None run = tt
  ran_is c states t s goes ready is (Some r) run = record { goes_on = goes; ready = ready; state = s; state_is = is; accesses = r.accesses; stores = r.stores; end = r.end; run = run; common_is = refl; states_are = refl }

  state_is_one : (c : Common W) (states : List S) (t : ℕ) → c.ending ≡ None → rt.is_ready c.shared t ≡ true → (o : Option S) → slice_get states t ≡ o → IsEntry sys rt turns c states t (option_and_then (entry_from sys rt steps turns c states t) o)
  state_is_one c states t goes ready None is = tt
  state_is_one c states t goes ready (Some s) is = ran_is c states t s goes ready is (run_in (sys.step t) rt.cells (since rt c t) steps turns (rt.memory c.shared) s) (run_in_is S (sys.step t) rt.cells (since rt c t) steps turns (rt.memory c.shared) s)

  ready_is : (c : Common W) (states : List S) (t : ℕ) (o : Option Finish) (b : Bool) → c.ending ≡ o → rt.is_ready c.shared t ≡ b → IsEntry sys rt turns c states t (entry_ready sys rt steps turns c states t o b)
  ready_is c states t (Some finish) b goes ready = tt
  ready_is c states t None false goes ready = tt
  ready_is c states t None true goes ready = state_is_one c states t goes ready (slice_get states t) refl

-- and so is a replay
abbrev pub IsReplay : {S W : Type 0} → System S → Runtime W → ℕ → W → List ℕ → Option (Common W × List S) → Type 0
IsReplay {S} {W} sys rt turns first schedule None = Unit {0}
IsReplay sys rt turns first schedule (Some world) = Replays sys rt turns first schedule world.0 world.1

one_more_is : (S W : Type 0) (sys : System S) (rt : Runtime W) (turns : ℕ) (first : W) (schedule : List ℕ) (c : Common W) (states : List S) (t : ℕ) → Replays sys rt turns first schedule c states → (o : Option (Common W × List S)) → IsEntry sys rt turns c states t o → IsReplay sys rt turns first (t ∷ schedule) o
one_more_is S W sys rt turns first schedule c states t run None entry = tt
one_more_is S W sys rt turns first schedule c states t run (Some world) entry = one_more schedule c world.0 states world.1 t run entry

longer_is : (S W : Type 0) (sys : System S) (rt : Runtime W) (steps turns : ℕ) (first : W) (schedule : List ℕ) (t : ℕ) (o : Option (Common W × List S)) → IsReplay sys rt turns first schedule o → IsReplay sys rt turns first (t ∷ schedule) (option_and_then (entry_in sys rt steps turns t) o)
longer_is S W sys rt steps turns first schedule t None run = tt
longer_is S W sys rt steps turns first schedule t (Some world) run = one_more_is S W sys rt turns first schedule world.0 world.1 t run (entry_in sys rt steps turns t world) (ready_is S W sys rt steps turns world.0 world.1 t world.0.ending (rt.is_ready world.0.shared t) refl refl)

pub replay_in_is : (S W : Type 0) (sys : System S) (rt : Runtime W) (steps turns : ℕ) (first : W) (schedule : List ℕ) → IsReplay sys rt turns first schedule (replay_in sys rt steps turns first schedule)
replay_in_is S W sys rt steps turns first [] = begins
replay_in_is S W sys rt steps turns first (t ∷ schedule) = longer_is S W sys rt steps turns first schedule t (replay_in sys rt steps turns first schedule) (replay_in_is S W sys rt steps turns first schedule)
