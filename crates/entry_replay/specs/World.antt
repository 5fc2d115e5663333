use Rattle.std.specs.Prelude.{ℕ, suc, nat_lt, ◌==◌, Bool, ◌&&◌, ◌||◌, if◌then◌else◌, List, [], ◌∷◌, ◌++◌, length, slice_set, Option, Some, None, is_some}
use Rattle.thread_system.specs.Effect.{Effect}
use Rattle.thread_system.specs.Memory.{Memory}
use Rattle.entry_replay.specs.Accesses.{Access, Store, among, untouched}
use Rattle.entry_replay.specs.Runs.{End, Calling, Trapped, Spent, Raced}

-- A kind of thread, as the source's, that of middle code or the machine's: what a state of thread t does in a step, and
-- the state in which a thread of that number begins a procedure with a parameter.
pub record System (S : Type 0) : Type 0 where
  pub step : ℕ → S → Effect S
  pub start : (thread proc param : ℕ) → S

-- A thread that is created: its procedure and its parameter.
pub record Start : Type 0 where
  pub proc : ℕ
  pub param : ℕ

-- What a call does: its answer, what all threads share after it, the bytes that it touches, the thread that it creates,
-- and the status where it ends the run.
pub record Done (W : Type 0) : Type 0 where
  pub answer : ℕ
  pub after : W
  pub touched : ℕ → Bool
  pub made : Option Start
  pub over : Option ℕ

-- A call traps, and changes nothing, or it does this.
pub data Applied (W : Type 0) : Type 0 where
  Refuses : (kind : ℕ) → Applied W
  Does : (done : Done W) → Applied W

-- A runtime, over the type of all that threads share.
pub record Runtime (W : Type 0) : Type 0 where
  -- the bytes that may be accessed
  pub memory : W → Memory
  -- what is shared after these stores
  pub stored : List Store → W → W
  -- the bytes that a call accesses before it is made
  pub cells : ℕ → List ℕ → List ℕ
  -- what a call does that thread t makes at a line in the entry `now`
  pub applies : (number : ℕ) → List ℕ → (t now line : ℕ) → W → Applied W
  pub is_ready : W → ℕ → Bool
  pub any_ready : W → Bool
  -- how many threads have not ended
  pub unended : W → ℕ
  -- the entry that created a thread or last woke it
  pub woken : W → ℕ → ℕ
  -- how many procedures there are
  pub procs : ℕ

-- Where an entry's run stopped.
pub data EntryStop : Type 0 where
  AtCall : (number : ℕ) → EntryStop
  AtTrap : (kind : ℕ) → EntryStop
  AtTurns : EntryStop
  AtRace : EntryStop

-- An entry of the history: its number, its thread, the line at which it stopped and why, the bytes that it touched, and
-- the memory after it.
pub record Past : Type 0 where
  pub number : ℕ
  pub thread : ℕ
  pub line : ℕ
  pub stop : EntryStop
  pub touched : ℕ → Bool
  pub memory : Memory

-- How a run is over: the program ended with a status; a thread was stopped by a trap, of a kind and at a line; it came to
-- one turn above those that a segment may take; it raced, at a line and an address, having started with one entry, with
-- the latest entry that touched the byte, and its line; or all threads that have not ended wait.
pub data Finish : Type 0 where
  Ended : (status : ℕ) → Finish
  Stopped : (kind line thread : ℕ) → Finish
  TurnsSpent : (thread line : ℕ) → Finish
  RaceFound : (thread line addr start other other_line : ℕ) → Finish
  Deadlocked : (waiting : ℕ) → Finish

-- All of a world but the states of its threads: what they share, the entries so far, the latest first, and the ending.
pub record Common (W : Type 0) : Type 0 where
  pub shared : W
  pub history : List Past
  pub ending : Option Finish

abbrev pub first_common : {W : Type 0} → W → Common W
first_common first = record { shared = first; history = []; ending = None }

-- Entries are counted from 1.
abbrev pub last_number : List Past → ℕ
last_number [] = 0
last_number (p ∷ ps) = p.number

abbrev pub next_number : List Past → ℕ
next_number ps = suc (last_number ps)

-- the number of a thread's own last entry, or 0
abbrev pub own_last : ℕ → List Past → ℕ
own_last t [] = 0
own_last t (p ∷ ps) = if p.thread == t then p.number else own_last t ps

abbrev pub later : ℕ → ℕ → ℕ
later a b = if nat_lt a b then b else a

-- A thread's start: the entry that last made it ready, which is its own last entry, the one that created it, or the one
-- that woke it.
abbrev pub start_of : {W : Type 0} → Runtime W → Common W → ℕ → ℕ
start_of rt c t = later (rt.woken c.shared t) (own_last t c.history)

-- the latest entry after a start that touched a byte
abbrev pub latest : ℕ → List Past → ℕ → Option Past
latest start [] a = None
latest start (p ∷ ps) a = if nat_lt start p.number && p.touched a then Some p else latest start ps a

abbrev pub touched_since : ℕ → List Past → ℕ → Bool
touched_since start ps a = is_some (latest start ps a)

-- the bytes that another thread's entry touched since a thread's start
abbrev pub since : {W : Type 0} → Runtime W → Common W → ℕ → ℕ → Bool
since rt c t = touched_since (start_of rt c t) c.history

-- the memory after the entry of a number; 0 stands for the beginning
abbrev pub memory_at : Memory → List Past → ℕ → Memory
memory_at first [] n = first
memory_at first (p ∷ ps) n = if nat_lt n p.number then memory_at first ps n else p.memory

-- An entry that ends the run by itself changes nothing but the history and the ending.
abbrev pub ended_by : {W : Type 0} → Runtime W → Common W → ℕ → ℕ → EntryStop → Finish → Common W
ended_by rt c t line stop finish = record {
  shared = c.shared;
  history = record { number = next_number c.history; thread = t; line = line; stop = stop; touched = untouched; memory = rt.memory c.shared } ∷ c.history;
  ending = Some finish;
}

-- The ending after a call: the call's own, else Deadlocked where no thread is ready, else none.
abbrev pub ending_after : {W : Type 0} → Runtime W → Option ℕ → W → Option Finish
ending_after rt (Some status) x = Some (Ended status)
ending_after rt None x = if rt.any_ready x then None else Some (Deadlocked (rt.unended x))

-- After a call that comes behind these stores. The entry touched what they wrote and what the call touches.
abbrev pub called : {W : Type 0} → Runtime W → Common W → ℕ → List Store → ℕ → ℕ → Applied W → Common W
called rt c t w number line (Refuses kind) = ended_by rt c t line (AtTrap kind) (Stopped kind line t)
called rt c t w number line (Does d) = record {
  shared = d.after;
  history = record { number = next_number c.history; thread = t; line = line; stop = AtCall number; touched = λ a. among w a || d.touched a; memory = rt.memory d.after } ∷ c.history;
  ending = ending_after rt d.over d.after;
}

-- what a call comes to behind these stores
abbrev pub applied : {W : Type 0} → Runtime W → Common W → ℕ → List Store → ℕ → List ℕ → ℕ → Applied W
applied rt c t w number args line = rt.applies number args t (next_number c.history) line (rt.stored w c.shared)

-- the report of a race: the thread, its line, the byte, its start, the latest entry that touched the byte, and its line
abbrev pub race_of : ℕ → Access → ℕ → Option Past → Finish
race_of t x start None = RaceFound t x.line x.addr start 0 0
race_of t x start (Some p) = RaceFound t x.line x.addr start p.number p.line

-- The world's common part after an entry of thread t whose run did these stores and came to this end.
abbrev pub common_after : {W S : Type 0} → Runtime W → Common W → ℕ → List Store → End S → Common W
common_after rt c t w (Calling number args line next) = called rt c t w number line (applied rt c t w number args line)
common_after rt c t w (Trapped kind line) = ended_by rt c t line (AtTrap kind) (Stopped kind line t)
common_after rt c t w (Spent line) = ended_by rt c t line AtTurns (TurnsSpent t line)
common_after rt c t w (Raced x) = ended_by rt c t x.line AtRace (race_of t x (start_of rt c t) (latest (start_of rt c t) c.history x.addr))

-- a thread that is created comes behind all others
abbrev pub with_made : {S : Type 0} → System S → Option Start → List S → List S
with_made sys None states = states
with_made sys (Some s) states = states ++ sys.start (length states) s.proc s.param ∷ []

abbrev pub states_by : {W S : Type 0} → System S → ℕ → (ℕ → S) → List S → Applied W → List S
states_by sys t next states (Refuses kind) = states
states_by sys t next states (Does d) = with_made sys d.made (slice_set states t (next d.answer))

-- The states of the threads after that entry. A thread that a call makes wait has its answer at once.
abbrev pub states_after : {W S : Type 0} → System S → Runtime W → Common W → ℕ → List Store → End S → List S → List S
states_after sys rt c t w (Calling number args line next) states = states_by sys t next states (applied rt c t w number args line)
states_after sys rt c t w (Trapped kind line) states = states
states_after sys rt c t w (Spent line) states = states
states_after sys rt c t w (Raced x) states = states
