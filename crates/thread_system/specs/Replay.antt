use Rattle.std.specs.Prelude.{◌≡◌, ℕ, suc, List, [], ◌++◌, None}
use Rattle.thread_system.specs.Effect.{Effect}
use Rattle.thread_system.specs.Memory.{Memory}
use Rattle.thread_system.specs.Segment.{End, Calling, Trapped, Spent, Segment}
use Rattle.thread_system.specs.LoneCalls.{CallResult, Prints, Ends, IsNone, call_result}

-- The run of a thread of any kind that is alone: thread 0, beside which no other is ever made. Its entries are those
-- segments and calls that it makes one after another.

-- A lone thread shares no memory, so an access outside of what is its own is not allowed.
abbrev pub nothing : Memory
nothing = λ a. None

-- the kind of the trap at a call that there isn't
abbrev pub bad_code : ℕ
bad_code = 11

-- How a run is over: the program ended with a status; its thread was stopped by a trap, of a kind and at a line; or
-- it came to one turn above those that a segment may take, at a line.
pub data Finish : Type 0 where
  Ended : (status : ℕ) → Finish
  Stopped : (kind line : ℕ) → Finish
  OutOfTurns : (line : ℕ) → Finish

-- How a run stands after some entries: its thread goes on from a state, or it is over.
pub data Standing (S : Type 0) : Type 0 where
  Going : (state : S) → Standing S
  Over : (finish : Finish) → Standing S

-- what a call writes
abbrev pub written_by : CallResult → List ℕ
written_by (Prints bytes) = bytes
written_by (Ends status) = []
written_by IsNone = []

-- how the run stands after a call at a line: where the thread goes on, its answer is 0
abbrev pub standing_by : {S : Type 0} → CallResult → ℕ → (ℕ → S) → Standing S
standing_by (Prints bytes) line next = Going (next 0)
standing_by (Ends status) line next = Over (Ended status)
standing_by IsNone line next = Over (Stopped bad_code line)

-- What an entry writes whose segment comes to this end, and how the run stands after it. An entry that traps or
-- comes to its limit of turns is one of the schedule, and writes nothing.
abbrev pub written_at : {S : Type 0} → End S → List ℕ
written_at (Calling number args line next) = written_by (call_result number args)
written_at (Trapped kind line) = []
written_at (Spent line) = []

abbrev pub standing_at : {S : Type 0} → End S → Standing S
standing_at (Calling number args line next) = standing_by (call_result number args) line next
standing_at (Trapped kind line) = Over (Stopped kind line)
standing_at (Spent line) = Over (OutOfTurns line)

-- One entry of a lone thread that stands at a state: all that it does up to its next runtime call, within so many
-- turns, and that call. It writes these bytes, and the run stands so after it.
pub record Entry {S : Type 0} (step : S → Effect S) (turns : ℕ) (state : S) (bytes : List ℕ) (standing : Standing S) : Type 0 where
  pub end : End S
  pub segment : Segment step turns nothing state nothing end
  pub bytes_are : bytes ≡ written_at end
  pub stands : standing ≡ standing_at end

-- The replay of a lone thread from its first state on: after so many entries these bytes have been written, and the
-- run stands so.
pub data Replays {S : Type 0} (step : S → Effect S) (turns : ℕ) (first : S) : ℕ → List ℕ → Standing S → Type 0 where
  begins : Replays step turns first 0 [] (Going first)
  one_more : (entries : ℕ) (before bytes : List ℕ) (state : S) (standing : Standing S) → Replays step turns first entries before (Going state) → Entry step turns state bytes standing → Replays step turns first (suc entries) (before ++ bytes) standing

-- Two runs stand alike: both threads go on, from related states, or both are over in the same way.
pub data SameStanding {A B : Type 0} (R : A → B → Type 0) : Standing A → Standing B → Type 0 where
  both_go : (a : A) (b : B) → R a b → SameStanding R (Going a) (Going b)
  both_over : (finish : Finish) → SameStanding R (Over finish) (Over finish)
