use Rattle.std.specs.Prelude.{◌≡◌, ℕ, zero, suc, ◌<◌, ◌==◌, nat_lt, Bool, true, false, if◌then◌else◌, List, [], ◌∷◌, Option, Some, None}
use Rattle.thread_system.specs.Effect.{Effect, Silent, Reads, Writes, Turn, Calls, Traps}
use Rattle.thread_system.specs.Memory.{Memory}
use Rattle.thread_system.specs.Simulation.{Simulates}
use Rattle.entry_replay.specs.Accesses.{Access, Store, among}
use Rattle.entry_replay.specs.Runs.{End, Calling, Trapped, Spent, Raced, Runs}
use Rattle.entry_replay.specs.World.{System, Start, Done, Does, Runtime, Past, Common, RaceFound, last_number, start_of, latest, common_after, states_after}
use Rattle.entry_replay.specs.Replay.{Entry, Replays}

-- What the laws of runs, entries and replays say.

-- ---- runtimes

-- What a runtime keeps to: stores change no other byte, a call touches each byte that it changes, and the procedure of
-- a thread that it creates is one that there is.
pub record Lawful {W : Type 0} (rt : Runtime W) : Type 0 where
  pub stores_keep : (w : List Store) (x : W) (a : ℕ) → among w a ≡ false → rt.memory x a ≡ rt.memory (rt.stored w x) a
  pub calls_touch : (number : ℕ) (args : List ℕ) (t now line : ℕ) (x : W) (d : Done W) → rt.applies number args t now line x ≡ Does d → (a : ℕ) → d.touched a ≡ false → rt.memory x a ≡ rt.memory d.after a
  pub creates : (number : ℕ) (args : List ℕ) (t now line : ℕ) (x : W) (d : Done W) (s : Start) → rt.applies number args t now line x ≡ Does d → d.made ≡ Some s → s.proc < rt.procs

-- ---- one kind of thread carries out another

-- The threads of two lists are related one by one, each by its number.
abbrev pub Paired : {A B : Type 0} → (ℕ → A → B → Type 0) → List A → List B → Type 0
Paired R [] [] = Unit {0}
Paired R [] (b ∷ bs) = ⊥
Paired R (a ∷ others) [] = ⊥
Paired R (a ∷ others) (b ∷ bs) = R zero a b × Paired (λ n. R (suc n)) others bs

-- One kind of thread carries out another, for threads below a number and procedures below a number: their steps match,
-- and they begin alike.
pub record CarriesOut {A B : Type 0} (from : System A) (to : System B) (R : ℕ → A → B → Type 0) (procs most : ℕ) : Type 0 where
  pub steps : (t : ℕ) → Simulates (from.step t) (to.step t) (R t)
  pub starts : (t proc param : ℕ) → t < most → proc < procs → R t (from.start t proc param) (to.start t proc param)

-- A state of the first kind of thread and one of the third are related by way of one of the second.
abbrev pub Via : {A B C : Type 0} → (A → B → Type 0) → (B → C → Type 0) → A → C → Type 0
Via {B = B} R Q a c = (b : B) × R a b × Q b c

-- a schedule's replay comes to this world, with threads in some states
abbrev pub ComesTo : {S W : Type 0} → System S → Runtime W → ℕ → W → List ℕ → Common W → Type 0
ComesTo {S} sys rt turns first schedule c = (states : List S) × Replays sys rt turns first schedule c states

-- The two ends are the same one, and where the threads go on they are related whatever the answer is.
pub data SameEnd {A B : Type 0} (R : A → B → Type 0) : End A → End B → Type 0 where
  same_call : (number : ℕ) (args : List ℕ) (line : ℕ) (next : ℕ → A) (onward : ℕ → B) → ((v : ℕ) → R (next v) (onward v)) → SameEnd R (Calling number args line next) (Calling number args line onward)
  same_trap : (kind line : ℕ) → SameEnd R (Trapped kind line) (Trapped kind line)
  same_spent : (line : ℕ) → SameEnd R (Spent line) (Spent line)
  same_race : (x : Access) → SameEnd R (Raced x) (Raced x)

-- ---- runs that end

pub record ComesToAnEnd {S : Type 0} (step : S → Effect S) (cells : ℕ → List ℕ → List ℕ) (touched : ℕ → Bool) (turns : ℕ) (m : Memory) (s : S) : Type 0 where
  pub accesses : List Access
  pub stores : List Store
  pub end : End S
  pub run : Runs step cells touched turns m s accesses stores end

-- What an effect says of a size of states that each step without a turn lessens, whatever is read, among good states.
abbrev pub Lessens : {S : Type 0} → (S → Type 0) → (S → ℕ) → S → Effect S → Type 0
Lessens Good size s (Silent next) = (size next < size s) × Good next
Lessens Good size s (Reads addr width line next) = (v : ℕ) → (size (next v) < size s) × Good (next v)
Lessens Good size s (Writes addr width value line next) = (size next < size s) × Good next
Lessens Good size s (Turn line next) = Good next
Lessens {S} Good size s (Calls number args line next) = Unit {0}
Lessens {S} Good size s (Traps kind line) = Unit {0}

-- each run of the first kind of thread comes to an end, from every state that is related to one of the second
abbrev pub AlwaysEnds : {A B W : Type 0} → System A → (ℕ → A → B → Type 0) → Runtime W → ℕ → Type 0
AlwaysEnds {A} {B} from R rt turns = (t : ℕ) (a : A) (b : B) → R t a b → (touched : ℕ → Bool) (m : Memory) → ComesToAnEnd (from.step t) rt.cells touched turns m a

-- ---- a run on another memory

-- two memories agree at the bytes that aren't touched
abbrev pub Agrees : (ℕ → Bool) → Memory → Memory → Type 0
Agrees touched base now = (a : ℕ) → touched a ≡ false → base a ≡ now a

-- What a run that was made where no byte counts as touched is on another memory: itself, where none of its accesses is
-- to a touched byte; else it races at the first that is.
pub data Outcome {S : Type 0} (step : S → Effect S) (cells : ℕ → List ℕ → List ℕ) (touched : ℕ → Bool) (turns : ℕ) (now : Memory) (s : S) (acc : List Access) (w : List Store) (e : End S) : Option Access → Type 0 where
  as_recorded : Runs step cells touched turns now s acc w e → Outcome step cells touched turns now s acc w e None
  raced_at : (x : Access) (front : List Access) (before : List Store) → Runs step cells touched turns now s front before (Raced x) → Outcome step cells touched turns now s acc w e (Some x)

-- the entry that such a run gives
abbrev pub EntryBy : {S W : Type 0} → System S → Runtime W → ℕ → Common W → List S → ℕ → List Store → End S → Option Access → Type 0
EntryBy sys rt turns c states t w e None = Entry sys rt turns c states t (common_after rt c t w e) (states_after sys rt c t w e states)
EntryBy {S} sys rt turns c states t w e (Some x) = Entry sys rt turns c states t (common_after {S = S} rt c t [] (Raced x)) states

-- two memories answer these accesses alike; only the bytes count that are looked at
abbrev pub AnswersAlike : Memory → Memory → List Access → Type 0
AnswersAlike base now [] = Unit {0}
AnswersAlike base now (x ∷ xs) = (x.looked ≡ true → base x.addr ≡ now x.addr) × AnswersAlike base now xs

-- ---- races

-- A race is reported with the thread, its line, the byte, its start, the latest entry after it that touched the byte,
-- and the line of that entry.
pub record Reported {W : Type 0} (rt : Runtime W) (c : Common W) (t : ℕ) (x : Access) (after : Common W) : Type 0 where
  pub past : Past
  pub touched : latest (start_of rt c t) c.history x.addr ≡ Some past
  pub ending : after.ending ≡ Some (RaceFound t x.line x.addr (start_of rt c t) past.number past.line)

-- ---- stamps, and records that have each byte once

-- the numbers of a history fall, and none is 0
abbrev pub IsFalling : List Past → Type 0
IsFalling [] = Unit {0}
IsFalling (p ∷ ps) = (last_number ps < p.number) × IsFalling ps

-- an entry, if it comes after a start
abbrev pub after_start : ℕ → Option Past → Option Past
after_start start None = None
after_start start (Some p) = if nat_lt start p.number then Some p else None

-- the accesses to other bytes
abbrev pub without : ℕ → List Access → List Access
without a [] = []
without a (x ∷ xs) = if x.addr == a then without a xs else x ∷ without a xs

-- each byte once, when it is first accessed
abbrev pub firsts : List Access → List Access
firsts [] = []
firsts (x ∷ xs) = x ∷ without x.addr (firsts xs)
