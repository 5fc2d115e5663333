use Rattle.std.specs.Prelude.{◌≡◌, ℕ, ◌<◌, ◌≤◌, Bool, true, List, length, slice_get, Some, None}
use Rattle.thread_system.specs.Effect.{Effect}
use Rattle.thread_system.specs.Memory.{Memory}
use Rattle.entry_replay.specs.Accesses.{Access, Store, untouched, raced_in}
use Rattle.entry_replay.specs.Runs.{End, Raced, Runs}
use Rattle.entry_replay.specs.World.{System, Runtime, Past, Common, start_of, latest, since, memory_at}
use Rattle.entry_replay.specs.Replay.{Entry, Replays, Own}
use Rattle.entry_replay.specs.Laws.{Lawful, Paired, CarriesOut, Via, ComesToAnEnd, Lessens, AlwaysEnds, Outcome, EntryBy, AnswersAlike, Reported, IsFalling, after_start, firsts}

-- The laws, for types of states and of what threads share.

-- ---- one kind of thread carries out another

-- Where one kind of thread carries out another, and there are fewer entries than threads for which it does, each
-- schedule's replay of the one is a replay of the other: it comes to the same world, and each thread to a related state.
abbrev pub IsCarried : (A B W : Type 0) → (ℕ → A → B → Type 0) → Type 0
IsCarried A B W R = (from : System A) (to : System B) (rt : Runtime W) (turns most : ℕ) (first : W) → CarriesOut from to R rt.procs most → Lawful rt → 0 < rt.procs → (schedule : List ℕ) (c : Common W) (xs : List A) → length schedule < most → Replays from rt turns first schedule c xs → (ys : List B) × Replays to rt turns first schedule c ys × Paired R xs ys

-- Where besides the runs of the first kind come to an end, each schedule's replay of the second is one of the first.
abbrev pub IsAnswered : (A B W : Type 0) → (ℕ → A → B → Type 0) → Type 0
IsAnswered A B W R = (from : System A) (to : System B) (rt : Runtime W) (turns most : ℕ) (first : W) → CarriesOut from to R rt.procs most → Lawful rt → 0 < rt.procs → AlwaysEnds from R rt turns → (schedule : List ℕ) (c : Common W) (ys : List B) → length schedule < most → Replays to rt turns first schedule c ys → (xs : List A) × Replays from rt turns first schedule c xs × Paired R xs ys

-- Two such steps, one after the other, are one.
abbrev pub IsComposed : (A B C : Type 0) → (ℕ → A → B → Type 0) → (ℕ → B → C → Type 0) → Type 0
IsComposed A B C R Q = (from : System A) (middle : System B) (to : System C) (procs most : ℕ) → CarriesOut from middle R procs most → CarriesOut middle to Q procs most → CarriesOut from to (λ t. Via (R t) (Q t)) procs most

-- ---- serial order

-- A run that was made from any state, on the memory as it stood after any entry from the thread's start on, is on the
-- present memory itself, or it races at the first of its accesses to a byte that was touched since that start.
abbrev pub IsSerial : (S W : Type 0) → Type 0
IsSerial S W = (sys : System S) (rt : Runtime W) (turns : ℕ) (first : W) → Lawful rt → (schedule : List ℕ) (c : Common W) (states : List S) → Replays sys rt turns first schedule c states → (t n : ℕ) → start_of rt c t ≤ n → (s : S) (acc : List Access) (w : List Store) (e : End S) → Runs (sys.step t) rt.cells untouched turns (memory_at (rt.memory first) c.history n) s acc w e → Outcome (sys.step t) rt.cells (since rt c t) turns (rt.memory c.shared) s acc w e (raced_in (since rt c t) acc)

-- Where it was made from the state of a ready thread, it gives that thread's entry.
abbrev pub GivesEntry : (S W : Type 0) → Type 0
GivesEntry S W = (sys : System S) (rt : Runtime W) (turns : ℕ) (first : W) → Lawful rt → (schedule : List ℕ) (c : Common W) (states : List S) → Replays sys rt turns first schedule c states → (t n : ℕ) → start_of rt c t ≤ n → (s : S) (acc : List Access) (w : List Store) (e : End S) → c.ending ≡ None → rt.is_ready c.shared t ≡ true → slice_get states t ≡ Some s → Runs (sys.step t) rt.cells untouched turns (memory_at (rt.memory first) c.history n) s acc w e → EntryBy sys rt turns c states t w e (raced_in (since rt c t) acc)

-- ---- true races

-- Where an entry is raced, its access is the first of the own segment to a byte that was touched since the start.
abbrev pub RacesThere : (S W : Type 0) → Type 0
RacesThere S W = (sys : System S) (rt : Runtime W) (turns : ℕ) (first : W) → Lawful rt → (schedule : List ℕ) (c after : Common W) (states states_then : List S) (t : ℕ) → Replays sys rt turns first schedule c states → (entry : Entry sys rt turns c states t after states_then) (own : Own sys rt turns first c t entry.state) (x : Access) → entry.end ≡ Raced x → raced_in (since rt c t) own.accesses ≡ Some x

-- Where the own segment has such an access, the entry is raced there.
abbrev pub ThereItRaces : (S W : Type 0) → Type 0
ThereItRaces S W = (sys : System S) (rt : Runtime W) (turns : ℕ) (first : W) → Lawful rt → (schedule : List ℕ) (c after : Common W) (states states_then : List S) (t : ℕ) → Replays sys rt turns first schedule c states → (entry : Entry sys rt turns c states t after states_then) (own : Own sys rt turns first c t entry.state) (x : Access) → raced_in (since rt c t) own.accesses ≡ Some x → entry.end ≡ Raced x

-- Then the run is over, with the report of that access.
abbrev pub IsReported : (S W : Type 0) → Type 0
IsReported S W = (sys : System S) (rt : Runtime W) (turns : ℕ) (first : W) → Lawful rt → (schedule : List ℕ) (c after : Common W) (states states_then : List S) (t : ℕ) → Replays sys rt turns first schedule c states → (entry : Entry sys rt turns c states t after states_then) (own : Own sys rt turns first c t entry.state) (x : Access) → raced_in (since rt c t) own.accesses ≡ Some x → Reported rt c t x after

-- ---- determined

-- A thread's run on a memory is determined.
abbrev pub IsOneRun : Type 0 → Type 0
IsOneRun S = (step : S → Effect S) (cells : ℕ → List ℕ → List ℕ) (touched : ℕ → Bool) (turns : ℕ) (m : Memory) (s : S) (acc acc' : List Access) (w w' : List Store) (e e' : End S) → Runs step cells touched turns m s acc w e → Runs step cells touched turns m s acc' w' e' → (acc ≡ acc') × (w ≡ w') × (e ≡ e')

-- A schedule's replay is determined.
abbrev pub IsOneReplay : (S W : Type 0) → Type 0
IsOneReplay S W = (sys : System S) (rt : Runtime W) (turns : ℕ) (first : W) (schedule : List ℕ) (c c' : Common W) (xs ys : List S) → Replays sys rt turns first schedule c xs → Replays sys rt turns first schedule c' ys → (c ≡ c') × (xs ≡ ys)

-- ---- runs that end

-- Where among good states each step without a turn lessens a size, every run from a good state comes to an end.
abbrev pub AllEnd : (S : Type 0) → (S → Type 0) → Type 0
AllEnd S Good = (step : S → Effect S) (size : S → ℕ) → ((s : S) → Good s → Lessens Good size s (step s)) → (cells : ℕ → List ℕ → List ℕ) (touched : ℕ → Bool) (turns : ℕ) (m : Memory) (s : S) → Good s → ComesToAnEnd step cells touched turns m s

-- ---- records

-- A run is the same on every memory that answers its accesses alike.
abbrev pub IsSameOn : Type 0 → Type 0
IsSameOn S = (step : S → Effect S) (cells : ℕ → List ℕ → List ℕ) (touched : ℕ → Bool) (turns : ℕ) (base now : Memory) (s : S) (acc : List Access) (w : List Store) (e : End S) → AnswersAlike base now acc → Runs step cells touched turns base s acc w e → Runs step cells touched turns now s acc w e

-- The numbers of a replay's entries fall, from the latest one.
abbrev pub HistoryFalls : (S W : Type 0) → Type 0
HistoryFalls S W = (sys : System S) (rt : Runtime W) (turns : ℕ) (first : W) → Lawful rt → (schedule : List ℕ) (c : Common W) (states : List S) → Replays sys rt turns first schedule c states → IsFalling c.history

-- Where they fall, the latest entry that touched a byte tells the latest one after any start.
abbrev pub OneStamp : Type 0
OneStamp = (start : ℕ) (ps : List Past) (a : ℕ) → IsFalling ps → latest start ps a ≡ after_start start (latest 0 ps a)

-- The first access to a touched byte is that of the list which has each byte once.
abbrev pub FirstsSuffice : Type 0
FirstsSuffice = (touched : ℕ → Bool) (acc : List Access) → raced_in touched (firsts acc) ≡ raced_in touched acc
