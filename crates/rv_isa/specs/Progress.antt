-- How far a thread of the machine gets.
use Rattle.std.specs.Prelude.{◌≡◌, ℕ, suc, ◌+◌, ◌*◌, ◌/◌, ◌≤◌, ◌<◌, Option, None}
use Rattle.thread_system.specs.Effect.{Effect, Silent, Reads, Writes, Turn, Calls, Traps}
use Rattle.thread_system.specs.Memory.{Memory}
use Rattle.thread_system.specs.Segment.{End, Segment, goes_on, reads, reads_badly, writes, writes_badly, takes_turn, lacks_turn, calls, traps}
use Rattle.rv_isa.specs.declared.inst.Inst.{Inst}
use Rattle.rv_isa.specs.Machine.{Cpu, Machine, machine_step}

-- Where the thread goes on without a turn or a call, it goes on at a higher address.
abbrev pub GoesAhead : Cpu → Effect Cpu → Type 0
GoesAhead c (Silent next) = c.pc + 4 ≤ next.pc
GoesAhead c (Reads addr width line next) = (v : ℕ) → c.pc + 4 ≤ (next v).pc
GoesAhead c (Writes addr width value line next) = c.pc + 4 ≤ next.pc
GoesAhead c (Turn line next) = Unit {0}
GoesAhead c (Calls number args line next) = Unit {0}
GoesAhead c (Traps kind line) = Unit {0}

-- There are so many code words.
abbrev pub HasWords : Machine → ℕ → Type 0
HasWords h words = (k : ℕ) → words ≤ k → h.fetch k ≡ None

-- What isn't a trap comes from one of the code words.
abbrev pub StandsWithin : ℕ → Cpu → Effect Cpu → Type 0
StandsWithin words c (Traps kind line) = Unit {0}
StandsWithin words c e = c.pc / 4 < words

-- How many instructions a segment carries out: each that it goes on from, and the call at its end.
abbrev pub carried_out : {S : Type 0} (step : S → Effect S) (turns : ℕ) (m : Memory) (s : S) (after : Memory) (e : End S) → Segment step turns m s after e → ℕ
carried_out step turns m s after e (goes_on _ _ _ _ next _ is rest) = suc (carried_out step turns m next after e rest)
carried_out step turns m s after e (reads _ _ _ _ addr width line value next _ is found rest) = suc (carried_out step turns m (next value) after e rest)
carried_out step turns m s after e (reads_badly _ _ _ addr width line next is found) = 0
carried_out step turns m s after e (writes _ _ written _ _ addr width value line next _ is done rest) = suc (carried_out step turns written next after e rest)
carried_out step turns m s after e (writes_badly _ _ _ addr width value line next is done) = 0
carried_out step _ m s after e (takes_turn turns _ _ _ line next _ is rest) = suc (carried_out step turns m next after e rest)
carried_out step _ m s after e (lacks_turn _ _ line next is) = 0
carried_out step turns m s after e (calls _ _ _ number args line next is) = 1
carried_out step turns m s after e (traps _ _ _ kind line is) = 0

-- A segment carries out at most as many instructions as there are code words for each of its turns, and once more.
abbrev pub IsBounded : Type 0
IsBounded = (h : Machine) (words turns : ℕ) (m after : Memory) (c : Cpu) (e : End Cpu) → HasWords h words → (segment : Segment (machine_step h) turns m c after e) → carried_out (machine_step h) turns m c after e segment ≤ (turns + 1) * words
