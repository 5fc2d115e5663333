use Rattle.std.specs.Prelude.{◌≡◌, ℕ, ◌+◌, List, [], ◌∷◌, codes, reverse, slice_index_or, Option}
use Rattle.fb_base.specs.declared.shape.Shape.{Shape}
use Rattle.fb_names.specs.declared.calls.RuntimeCall.{RuntimeCall}
use Rattle.fb_names.specs.declared.calls.RuntimeCall.TheVariants as calls
use Rattle.fb_names.specs.Calls.{call_number}
use Rattle.thread_system.specs.Effect.{Effect, Reads, Writes, Calls, Traps}
use Rattle.places.specs.Memory.{address}
use Rattle.entry_replay.specs.World.{System, Common, Finish}
use Rattle.entry_replay.specs.Replay.{Replays}
use Rattle.run_calls.specs.Shared.{Program, Shared}
use Rattle.run_calls.specs.Table.{runtime, first_shared}

-- Small programs on the runtime, for examples.

-- What a thread does next, at a line: it adds to a number what so many bytes spell, it writes the sum of that number and
-- another one, it prints the number, or it makes a call.
pub data Act : Type 0 where
  Look : (addr width line : ℕ) → Act
  Put : (addr width more line : ℕ) → Act
  Show : (line : ℕ) → Act
  Ask : (call : RuntimeCall) (args : List ℕ) (line : ℕ) → Act

-- a thread: the number, and what it has still to do
pub record Actor : Type 0 where
  pub number : ℕ
  pub acts : List Act

abbrev pub goes_to : ℕ → List Act → Actor
goes_to number acts = record { number = number; acts = acts }

abbrev pub effect_by : ℕ → List Act → Effect Actor
effect_by number [] = Traps 11 0
effect_by number (Look addr width line ∷ acts) = Reads addr width line (λ v. goes_to (number + v) acts)
effect_by number (Put addr width more line ∷ acts) = Writes addr width (number + more) line (goes_to number acts)
effect_by number (Show line ∷ acts) = Calls (call_number calls.PrintSigned) (number ∷ []) line (λ v. goes_to number acts)
effect_by number (Ask call args line ∷ acts) = Calls (call_number call) args line (λ v. goes_to number acts)

-- the threads of a program, a list for each procedure
abbrev pub threads_of : List (List Act) → System Actor
threads_of procs = record { step = λ t actor. effect_by actor.number actor.acts; start = λ t proc param. goes_to 0 (slice_index_or procs proc []) }

-- The places of the programs: one of 8 bytes for what is shared, one byte, one String, and five of them.
abbrev pub shapes : List Shape
shapes =
    record { size = 8; align = 8; cells = [] }
    ∷ record { size = 1; align = 1; cells = [] }
    ∷ record { size = 24; align = 8; cells = 0 ∷ [] }
    ∷ record { size = 120; align = 8; cells = 0 ∷ 24 ∷ 48 ∷ 72 ∷ 96 ∷ [] }
    ∷ []

abbrev pub program : ℕ → Program
program rule = record { rule = rule; shapes = shapes; literals = codes "xyz" ∷ []; procs = 3 }

-- Under a rule and with this input, a schedule's replay of these threads writes this output, and comes to this ending or
-- goes on.
pub record Comes (rule : ℕ) (procs : List (List Act)) (input schedule output : List ℕ) (ending : Option Finish) : Type 0 where
  pub common : Common Shared
  pub states : List Actor
  pub replay : Replays (threads_of procs) (runtime (program rule)) 10 (first_shared (program rule) input) (reverse schedule) common states
  pub output_is : common.shared.output ≡ output
  pub ending_is : common.ending ≡ ending

-- ---- programs: a main procedure, and the procedures of the threads that it creates

-- where the first place begins, and the second and third one
abbrev pub first : ℕ
first = address 1 0

abbrev pub second : ℕ
second = address 2 0

abbrev pub third : ℕ
third = address 3 0

-- two threads add 1 to a number, and it is printed when both have ended
abbrev pub counting : List Act
counting = Look first 8 3 ∷ Put first 8 1 3 ∷ Ask calls.ThreadEnd [] 4 ∷ []

abbrev pub two_counters : List (List Act)
two_counters =
    (Ask calls.ThreadCreate (1 ∷ 0 ∷ []) 5 ∷ Ask calls.ThreadCreate (2 ∷ 0 ∷ []) 6 ∷ Ask calls.ThreadWait (1 ∷ []) 7 ∷ Ask calls.ThreadWait (2 ∷ []) 8
    ∷ Look first 8 9 ∷ Show 9 ∷ Ask calls.PrintLine [] 9 ∷ Ask calls.MainEnd [] 10 ∷ [])
    ∷ counting ∷ counting ∷ []

-- two threads write a byte each, and both are read when they have ended
abbrev pub two_bytes : ℕ → List (List Act)
two_bytes other =
    (Ask calls.ThreadCreate (1 ∷ 0 ∷ []) 8 ∷ Ask calls.ThreadCreate (2 ∷ 0 ∷ []) 9 ∷ Ask calls.ThreadWait (1 ∷ []) 10 ∷ Ask calls.ThreadWait (2 ∷ []) 10
    ∷ Look first 1 11 ∷ Look (first + 1) 1 11 ∷ Show 11 ∷ Ask calls.PrintLine [] 11 ∷ Ask calls.MainEnd [] 12 ∷ [])
    ∷ (Put first 1 1 3 ∷ Ask calls.ThreadEnd [] 4 ∷ [])
    ∷ (Put (first + other) 1 2 6 ∷ Ask calls.ThreadEnd [] 7 ∷ [])
    ∷ []

-- a place of a scope is freed, and another thread reads in it
abbrev pub late_reader : List (List Act)
late_reader =
    (Ask calls.PlaceOpen (1 ∷ []) 1 ∷ Ask calls.ThreadCreate (1 ∷ 0 ∷ []) 2 ∷ Ask calls.PlaceFree (second ∷ []) 3 ∷ [])
    ∷ (Look second 1 7 ∷ [])
    ∷ []

-- The main thread locks a mutex, writes, and unlocks it. The other one waits for the mutex, and reads when it has it.
abbrev pub locked_reader : List (List Act)
locked_reader =
    (Ask calls.MutexCreate [] 1 ∷ Ask calls.MutexLock (1 ∷ []) 2 ∷ Ask calls.ThreadCreate (1 ∷ 0 ∷ []) 3 ∷ Put first 8 5 4 ∷ Ask calls.MutexUnlock (1 ∷ []) 5 ∷ Ask calls.MainEnd [] 6 ∷ [])
    ∷ (Ask calls.MutexLock (1 ∷ []) 7 ∷ Look first 8 8 ∷ Show 8 ∷ [])
    ∷ []

-- Two threads set one String.
abbrev pub two_strings : List (List Act)
two_strings =
    (Ask calls.PlaceOpen (2 ∷ []) 1 ∷ Ask calls.StrInit (second ∷ []) 1 ∷ Ask calls.ThreadCreate (1 ∷ 0 ∷ []) 2 ∷ Ask calls.StrSet (second ∷ second ∷ []) 3 ∷ [])
    ∷ (Ask calls.StrSet (second ∷ second ∷ []) 7 ∷ [])
    ∷ []

-- `Dim m As Any Ptr = MutexCreate()`, `Dim c As Any Ptr = CondCreate()`, `MutexLock(m)`, `CondWait(c, m)`
abbrev pub lone_waiter : List (List Act)
lone_waiter = (Ask calls.MutexCreate [] 1 ∷ Ask calls.CondCreate [] 2 ∷ Ask calls.MutexLock (1 ∷ []) 3 ∷ Ask calls.CondWait (2 ∷ 1 ∷ []) 4 ∷ []) ∷ []

-- `Dim m As Any Ptr = MutexCreate() : MutexUnlock(m)`
abbrev pub not_held : List (List Act)
not_held = (Ask calls.MutexCreate [] 1 ∷ Ask calls.MutexUnlock (1 ∷ []) 1 ∷ []) ∷ []

-- the main thread waits for a thread that waits for a mutex of the main thread; and it ends while that one waits
abbrev pub in_a_circle : List (List Act)
in_a_circle =
    (Ask calls.MutexCreate [] 1 ∷ Ask calls.MutexLock (1 ∷ []) 2 ∷ Ask calls.ThreadCreate (1 ∷ 0 ∷ []) 3 ∷ Ask calls.ThreadWait (2 ∷ []) 4 ∷ [])
    ∷ (Ask calls.MutexLock (1 ∷ []) 7 ∷ [])
    ∷ []

abbrev pub ended_alone : List (List Act)
ended_alone =
    (Ask calls.MutexCreate [] 1 ∷ Ask calls.MutexLock (1 ∷ []) 2 ∷ Ask calls.ThreadCreate (1 ∷ 0 ∷ []) 3 ∷ Ask calls.End (77 ∷ []) 4 ∷ [])
    ∷ (Ask calls.MutexLock (1 ∷ []) 7 ∷ [])
    ∷ []

-- an object of New is deleted twice
abbrev pub double_delete : List (List Act)
double_delete =
    (Ask calls.NewPlace (1 ∷ 1 ∷ 0 ∷ []) 10 ∷ Ask calls.DeleteBegin (second ∷ 1 ∷ 0 ∷ []) 11 ∷ Ask calls.DeleteEnd (second ∷ []) 11 ∷ Ask calls.DeleteBegin (second ∷ 1 ∷ 0 ∷ []) 11 ∷ []) ∷ []

-- a variable is read when its scope was left
abbrev pub dangling : List (List Act)
dangling = (Ask calls.PlaceOpen (1 ∷ []) 3 ∷ Put second 1 1 4 ∷ Ask calls.PlaceFree (second ∷ []) 5 ∷ Look second 1 6 ∷ []) ∷ []

-- so many bytes are taken by New beside the 8 that are shared
abbrev pub many_bytes : ℕ → List (List Act)
many_bytes count = (Ask calls.NewPlace (1 ∷ count ∷ 1 ∷ []) 1 ∷ Ask calls.MainEnd [] 1 ∷ []) ∷ []

-- `Dim s As String`, `Line Input s`, `Print s; 1`
abbrev pub line_reader : List (List Act)
line_reader =
    (Ask calls.PlaceOpen (2 ∷ []) 1 ∷ Ask calls.StrInit (second ∷ []) 1 ∷ Ask calls.LineInput (second ∷ []) 2 ∷ Ask calls.PrintStr (second ∷ []) 3 ∷ Ask calls.PrintSigned (1 ∷ []) 3 ∷ Ask calls.PrintLine [] 3
    ∷ Ask calls.StrDrop (second ∷ []) 4 ∷ Ask calls.PlaceFree (second ∷ []) 4 ∷ Ask calls.MainEnd [] 4 ∷ [])
    ∷ []

-- `Dim s As String`, `Print Left(s & "xyz", 2) & Mid(s, 9)`
abbrev pub temporaries : List (List Act)
temporaries =
    (Ask calls.PlaceOpen (2 ∷ []) 1 ∷ Ask calls.StrInit (second ∷ []) 1 ∷ Ask calls.PlaceOpen (3 ∷ []) 2
    ∷ Ask calls.StrLit (third ∷ 0 ∷ []) 2 ∷ Ask calls.StrCat ((third + 24) ∷ second ∷ third ∷ []) 2 ∷ Ask calls.StrLeft ((third + 48) ∷ (third + 24) ∷ 2 ∷ []) 2
    ∷ Ask calls.StrMid ((third + 72) ∷ second ∷ 9 ∷ 18446744073709551615 ∷ []) 2 ∷ Ask calls.StrCat ((third + 96) ∷ (third + 48) ∷ (third + 72) ∷ []) 2
    ∷ Ask calls.PrintStr ((third + 96) ∷ []) 2 ∷ Ask calls.PrintLine [] 2
    ∷ Ask calls.StrDrop ((third + 96) ∷ []) 2 ∷ Ask calls.StrDrop ((third + 72) ∷ []) 2 ∷ Ask calls.StrDrop ((third + 48) ∷ []) 2 ∷ Ask calls.StrDrop ((third + 24) ∷ []) 2 ∷ Ask calls.StrDrop (third ∷ []) 2
    ∷ Ask calls.PlaceFree (third ∷ []) 2 ∷ Ask calls.StrDrop (second ∷ []) 3 ∷ Ask calls.PlaceFree (second ∷ []) 3 ∷ Ask calls.MainEnd [] 3 ∷ [])
    ∷ []

-- `Dim u As UByte = 200 : Print u, -1; True`
abbrev pub items : List (List Act)
items =
    (Ask calls.PrintUnsigned (200 ∷ []) 1 ∷ Ask calls.PrintTab [] 1 ∷ Ask calls.PrintSigned (18446744073709551615 ∷ []) 1 ∷ Ask calls.PrintBool (1 ∷ []) 1 ∷ Ask calls.PrintLine [] 1 ∷ Ask calls.MainEnd [] 1 ∷ []) ∷ []

-- a string of so many spaces
abbrev pub long_string : ℕ → List (List Act)
long_string n = (Ask calls.PlaceOpen (2 ∷ []) 1 ∷ Ask calls.StrSpace (second ∷ n ∷ []) 1 ∷ []) ∷ []
