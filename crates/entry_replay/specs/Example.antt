use Rattle.std.specs.Prelude.{◌≡◌, ℕ, zero, suc, ◌+◌, ◌==◌, nat_lt, Bool, true, false, not, ◌&&◌, ◌||◌, if◌then◌else◌, List, [], ◌∷◌, reverse, slice_index_or, Option, Some, None}
use Rattle.thread_system.specs.Effect.{Effect, Reads, Writes, Turn, Calls, Traps}
use Rattle.thread_system.specs.Memory.{Memory}
use Rattle.entry_replay.specs.Accesses.{addresses, with_stores, untouched}
use Rattle.entry_replay.specs.World.{System, Done, Applied, Refuses, Does, Runtime, Common, Finish}
use Rattle.entry_replay.specs.Replay.{Replays}

-- A small kind of thread and a small runtime, for examples.

-- What a thread does next, at a line: it reads a byte, writes one, takes a turn, or makes a call.
pub data Act : Type 0 where
  Look : (addr line : ℕ) → Act
  Put : (addr byte line : ℕ) → Act
  Round : (line : ℕ) → Act
  Ask : (number arg line : ℕ) → Act

-- a thread is the list of what it has still to do, and traps where that is nothing
abbrev pub effect_of : List Act → Effect (List Act)
effect_of [] = Traps 11 0
effect_of (Look addr line ∷ acts) = Reads addr 1 line (λ v. acts)
effect_of (Put addr byte line ∷ acts) = Writes addr 1 byte line acts
effect_of (Round line ∷ acts) = Turn line acts
effect_of (Ask number arg line ∷ acts) = Calls number (arg ∷ []) line (λ v. acts)

-- the threads of a program, a list for each procedure
abbrev pub threads_of : List (List Act) → System (List Act)
threads_of procs = record { step = λ t. effect_of; start = λ t proc param. slice_index_or procs proc [] }

-- What they share: the bytes, how many threads there are, which of them are idle, and the entry that woke each.
pub record Shelf : Type 0 where
  pub bytes : Memory
  pub count : ℕ
  pub idle : ℕ → Bool
  pub woken : ℕ → ℕ

-- the calls: nothing; a thread is created, of this procedure; the caller is idle from now on; a thread goes on; the run
-- ends, and the caller with it; a byte may not be accessed any more; the string of the cell at this address is changed
abbrev pub nothing : ℕ
nothing = 0

abbrev pub create : ℕ
create = 1

abbrev pub sleep : ℕ
sleep = 2

abbrev pub wake : ℕ
wake = 3

abbrev pub finish : ℕ
finish = 4

abbrev pub close : ℕ
close = 5

abbrev pub set : ℕ
set = 6

abbrev pub is_within : ℕ → ℕ → ℕ → Bool
is_within a width q = not (nat_lt q a) && nat_lt q (a + width)

abbrev pub does_nothing : Shelf → Done Shelf
does_nothing x = record { answer = 0; after = x; touched = untouched; made = None; over = None }

abbrev pub with_idle : ℕ → Bool → Shelf → Shelf
with_idle t idle x = record x { idle = λ n. if n == t then idle else x.idle n }

abbrev pub done_by : (rule number : ℕ) → ℕ → (t now : ℕ) → Shelf → Done Shelf
done_by rule number arg t now x =
    if number == create then record (does_nothing (record x { count = suc x.count; woken = λ n. if n == x.count then now else x.woken n })) { made = Some (record { proc = arg; param = 0 }) }
    else if number == sleep then does_nothing (with_idle t true x)
    else if number == wake then does_nothing (record (with_idle arg false x) { woken = λ n. if n == arg then now else x.woken n })
    else if number == finish then record (does_nothing (with_idle t true x)) { over = Some 0 }
    else if number == close then record (does_nothing (record x { bytes = λ q. if q == arg then None else x.bytes q })) { touched = λ q. q == arg }
    else if number == set then record (does_nothing x) { touched = λ q. (rule == 1) && is_within arg 24 q }
    else does_nothing x

abbrev pub applied_by : (rule number : ℕ) → List ℕ → (t now line : ℕ) → Shelf → Applied Shelf
applied_by rule number [] t now line x = Refuses 11
applied_by rule number (arg ∷ args) t now line x = Does (done_by rule number arg t now x)

-- under rule 1 the cell of a string is accessed
abbrev pub cells_by : (rule number : ℕ) → List ℕ → List ℕ
cells_by rule number [] = []
cells_by rule number (arg ∷ args) = if (rule == 1) && (number == set) then addresses arg 24 else []

abbrev pub some_ready : ℕ → (ℕ → Bool) → Bool
some_ready zero idle = false
some_ready (suc n) idle = not (idle n) || some_ready n idle

abbrev pub shelf : (rule procs : ℕ) → Runtime Shelf
shelf rule procs = record {
  memory = λ x. x.bytes;
  stored = λ w x. record x { bytes = with_stores w x.bytes };
  cells = cells_by rule;
  applies = applied_by rule;
  is_ready = λ x t. nat_lt t x.count && not (x.idle t);
  any_ready = λ x. some_ready x.count x.idle;
  unended = λ x. x.count;
  woken = λ x t. x.woken t;
  procs = procs;
}

-- 64 bytes, and the main thread
abbrev pub first_shelf : Shelf
first_shelf = record { bytes = λ a. if nat_lt a 64 then Some 0 else None; count = 1; idle = λ n. false; woken = λ n. 0 }

-- With 10 turns a segment, a schedule's replay of these threads comes to this ending, or goes on.
pub record Comes (rule : ℕ) (procs : List (List Act)) (schedule : List ℕ) (ending : Option Finish) : Type 0 where
  pub common : Common Shelf
  pub states : List (List Act)
  pub replay : Replays (threads_of procs) (shelf rule 2) 10 first_shelf (reverse schedule) common states
  pub ending_is : common.ending ≡ ending

-- ---- programs: a main procedure, which creates a thread of procedure 1, and that procedure

-- both write a byte
abbrev pub two_writers : List (List Act)
two_writers = (Ask create 1 1 ∷ Put 5 1 2 ∷ Ask nothing 0 3 ∷ []) ∷ (Round 6 ∷ Put 5 9 7 ∷ Ask nothing 0 8 ∷ []) ∷ []

-- they write neighbouring bytes
abbrev pub two_neighbours : List (List Act)
two_neighbours = (Ask create 1 1 ∷ Put 5 1 2 ∷ Ask nothing 0 3 ∷ []) ∷ (Put 6 9 7 ∷ Ask nothing 0 8 ∷ []) ∷ []

-- the one writes a byte, and the other makes a call before it reads it
abbrev pub late_reader : List (List Act)
late_reader = (Ask create 1 1 ∷ Put 5 1 2 ∷ Ask nothing 0 3 ∷ []) ∷ (Ask nothing 0 6 ∷ Look 5 7 ∷ Ask nothing 0 8 ∷ []) ∷ []

-- the one writes a byte and wakes the other, which reads it
abbrev pub woken_reader : List (List Act)
woken_reader = (Ask create 1 1 ∷ Put 5 1 2 ∷ Ask wake 1 3 ∷ []) ∷ (Ask sleep 0 6 ∷ Look 5 7 ∷ Ask nothing 0 8 ∷ []) ∷ []

-- the one closes a byte, and the other reads it
abbrev pub closed_byte : List (List Act)
closed_byte = (Ask create 1 1 ∷ Ask close 5 2 ∷ []) ∷ (Look 5 7 ∷ Ask nothing 0 8 ∷ []) ∷ []

-- the one ends the run, and the other is idle
abbrev pub early_end : List (List Act)
early_end = (Ask create 1 1 ∷ Ask finish 0 2 ∷ []) ∷ (Ask sleep 0 6 ∷ []) ∷ []

-- both are idle
abbrev pub all_idle : List (List Act)
all_idle = (Ask create 1 1 ∷ Ask sleep 0 2 ∷ []) ∷ (Ask sleep 0 6 ∷ []) ∷ []

-- both change a string
abbrev pub two_strings : List (List Act)
two_strings = (Ask create 1 1 ∷ Ask set 16 2 ∷ []) ∷ (Ask set 16 7 ∷ []) ∷ []

-- eleven turns, and ten
abbrev pub eleven_turns : List (List Act)
eleven_turns = (Round 1 ∷ Round 2 ∷ Round 3 ∷ Round 4 ∷ Round 5 ∷ Round 6 ∷ Round 7 ∷ Round 8 ∷ Round 9 ∷ Round 10 ∷ Round 11 ∷ Ask nothing 0 12 ∷ []) ∷ []

abbrev pub ten_turns : List (List Act)
ten_turns = (Round 1 ∷ Round 2 ∷ Round 3 ∷ Round 4 ∷ Round 5 ∷ Round 6 ∷ Round 7 ∷ Round 8 ∷ Round 9 ∷ Round 10 ∷ Ask nothing 0 11 ∷ Round 12 ∷ Ask nothing 0 13 ∷ []) ∷ []

-- a read of a byte that there isn't
abbrev pub bad_read : List (List Act)
bad_read = (Look 63 1 ∷ Look 64 2 ∷ Ask nothing 0 3 ∷ []) ∷ []
