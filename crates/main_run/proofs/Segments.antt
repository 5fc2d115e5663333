-- One step of the code is one step of a segment.
use Rattle.std.proofs.Common.{◌≡◌, ℕ, suc, ◌+◌, ◌-◌, ◌*◌, ◌/◌, ◌%◌, ◌<◌, ◌≤◌, Bool, true, false, ◌==◌, if◌then◌else◌, List, length, get_or, slice_get, Option, Some, None, IsSome, option_and_then, Result, Ok, refl, sym, ap, ◌∙◌, subst, arith}
use Rattle.std.proofs.Math.Nat.{suc-mul}
use Rattle.std.proofs.lemmas.Bool.{eqb-true, false≢true}
use Rattle.std.proofs.lemmas.Option.{slice_get_within}
use Rattle.thread_system.specs.Effect.{Effect, Silent, Reads, Writes, Turn, Calls, Traps}
use Rattle.thread_system.specs.Segment.{End, Trapped, Spent, Segment, goes_on, reads, reads_badly, writes, writes_badly, takes_turn, lacks_turn, calls, traps}
use Rattle.thread_system.specs.Replay.{nothing}
use Rattle.rv_isa.specs.Encoding.{inst_of}
use Rattle.rv_isa.specs.declared.inst.Inst.{Inst}
use Rattle.rv_isa.specs.Machine.{Machine, Cpu, line_at, is_trap_call, fetched, acts, machine_step}
use Rattle.rv_isa.proofs.Lines.{StepsFrom, steps_from}
use Rattle.fb_base.specs.declared.fault.TrapKind.{TrapKind}
use Rattle.fb_base.specs.declared.memory.NoMemory.{NoMemory}
use Rattle.fb_image.specs.declared.image.ImageParts.{ImageParts}
use Rattle.rv_step.specs.State.{machine_of}
use Rattle.rv_step.specs.Step.{StepsTo, IsCall, answered, trap_number}
use Rattle.rv_step.specs.declared.stop.Stop.{Stop}
use Rattle.rv_step.specs.declared.stop.Stop.TheVariants as stops
use Rattle.main_run.specs.Entries.{args_of, call_end}

-- a step without a turn
pub onward : (step : Cpu → Effect Cpu) (turns : ℕ) (c next : Cpu) (effect : Effect Cpu) (e : End Cpu) → step c ≡ effect → StepsTo effect c next nothing nothing (Ok stops.Next) → Segment step turns nothing next nothing e → Segment step turns nothing c nothing e
onward step turns c next (Silent onto) e is s rest = goes_on turns nothing nothing c onto e is (subst (λ k. Segment step turns nothing k nothing e) s.0 rest)
onward step turns c next (Reads addr width line onto) e is s rest = reads turns nothing nothing c addr width line s.0.0 onto e is s.0.1 (subst (λ k. Segment step turns nothing k nothing e) s.0.2 rest)
onward step turns c next (Writes addr width value line onto) e is s rest = writes turns nothing nothing nothing c addr width value line onto e is s.0 (subst (λ k. Segment step turns nothing k nothing e) s.1 rest)
onward step turns c next (Turn line onto) e is s rest = absurd s
onward step turns c next (Calls number args line onto) e is s rest = absurd s
onward step turns c next (Traps kind line) e is s rest = absurd s

-- a turn within the limit
pub turned : (step : Cpu → Effect Cpu) (turns : ℕ) (c next : Cpu) (effect : Effect Cpu) (e : End Cpu) → step c ≡ effect → StepsTo effect c next nothing nothing (Ok stops.Turn) → Segment step turns nothing next nothing e → Segment step (suc turns) nothing c nothing e
turned step turns c next (Turn line onto) e is s rest = takes_turn turns nothing nothing c line onto e is (subst (λ k. Segment step turns nothing k nothing e) s.0 rest)
turned step turns c next (Silent onto) e is s rest = absurd s
turned step turns c next (Reads addr width line onto) e is s rest = absurd s
turned step turns c next (Writes addr width value line onto) e is s rest = absurd s
turned step turns c next (Calls number args line onto) e is s rest = absurd s
turned step turns c next (Traps kind line) e is s rest = absurd s

-- the turn above it
spent_by : (step : Cpu → Effect Cpu) (c next : Cpu) (line pc : ℕ) (effect : Effect Cpu) → step c ≡ effect → StepsFrom line pc effect → StepsTo effect c next nothing nothing (Ok stops.Turn) → Segment step 0 nothing c nothing (Spent line)
spent_by step c next line pc (Turn at onto) is f s = subst (λ l. Segment step 0 nothing c nothing (Spent l)) f (lacks_turn nothing c at onto is)
spent_by step c next line pc (Silent onto) is f s = absurd s
spent_by step c next line pc (Reads addr width at onto) is f s = absurd s
spent_by step c next line pc (Writes addr width value at onto) is f s = absurd s
spent_by step c next line pc (Calls number args at onto) is f s = absurd s
spent_by step c next line pc (Traps kind at) is f s = absurd s

pub spent : (h : Machine) (c next : Cpu) → StepsTo (machine_step h c) c next nothing nothing (Ok stops.Turn) → Segment (machine_step h) 0 nothing c nothing (Spent (line_at h c.pc))
spent h c next s = spent_by (machine_step h) c next (line_at h c.pc) c.pc (machine_step h c) refl (steps_from h c) s

-- a call
called : (step : Cpu → Effect Cpu) (turns : ℕ) (c next : Cpu) (line number : ℕ) (args : List ℕ) (onto : ℕ → Cpu) → step c ≡ Calls number args line onto → is_trap_call number (get_or args 0 0) ≡ false → IsCall number args onto next → Segment step turns nothing c nothing (call_end next line)
called step turns c next line number args onto is lawful k =
    let same : onto ≡ answered next = λ i. λ v. k.goes_on v i in
    let asked : is_trap_call (next.regs 17) (next.regs 10) ≡ false = subst (λ a. is_trap_call (next.regs 17) (get_or a 0 0) ≡ false) k.args_are (subst (λ n. is_trap_call n (get_or args 0 0) ≡ false) k.number_is lawful) in
    let there : step c ≡ Calls (next.regs 17) (args_of next) line (answered next) = is ∙ ap (λ n. Calls n args line onto) k.number_is ∙ ap (λ a. Calls (next.regs 17) a line onto) k.args_are ∙ ap (Calls (next.regs 17) (args_of next) line) same in
    rw asked (calls turns nothing c (next.regs 17) (args_of next) line (answered next) there)

called_by : (step : Cpu → Effect Cpu) (turns : ℕ) (c next : Cpu) (line pc : ℕ) (effect : Effect Cpu) → step c ≡ effect → StepsFrom line pc effect → StepsTo effect c next nothing nothing (Ok stops.Call) → Segment step turns nothing c nothing (call_end next line)
called_by step turns c next line pc (Calls number args at onto) is f s = called step turns c next line number args onto (is ∙ ap (λ l. Calls number args l onto) f.0) f.2 s.1
called_by step turns c next line pc (Traps kind at) is f s =
    let there : step c ≡ Traps (next.regs 10) line = is ∙ ap (λ k. Traps k at) s.1.kind_is ∙ ap (Traps (next.regs 10)) f in
    rw s.1.asked (traps turns nothing c (next.regs 10) line there)
called_by step turns c next line pc (Silent onto) is f s = absurd s
called_by step turns c next line pc (Reads addr width at onto) is f s = absurd s
called_by step turns c next line pc (Writes addr width value at onto) is f s = absurd s
called_by step turns c next line pc (Turn at onto) is f s = absurd s

pub calling : (h : Machine) (turns : ℕ) (c next : Cpu) → StepsTo (machine_step h c) c next nothing nothing (Ok stops.Call) → Segment (machine_step h) turns nothing c nothing (call_end next (line_at h c.pc))
calling h turns c next s = called_by (machine_step h) turns c next (line_at h c.pc) c.pc (machine_step h c) refl (steps_from h c) s

-- a trap
trapped_by : (step : Cpu → Effect Cpu) (turns : ℕ) (c next : Cpu) (line pc : ℕ) (kind : TrapKind) (effect : Effect Cpu) → step c ≡ effect → StepsFrom line pc effect → StepsTo effect c next nothing nothing (Ok (stops.Trap kind)) → Segment step turns nothing c nothing (Trapped (trap_number kind) line)
trapped_by step turns c next line pc kind (Traps number at) is f s = traps turns nothing c (trap_number kind) line (is ∙ ap (λ n. Traps n at) s.0 ∙ ap (Traps (trap_number kind)) f)
trapped_by step turns c next line pc kind (Reads addr width at onto) is f s = subst (λ k. Segment step turns nothing c nothing (Trapped (trap_number k) line)) (sym s.1) (reads_badly turns nothing c addr width line onto (is ∙ ap (λ l. Reads addr width l onto) f.0) s.0)
trapped_by step turns c next line pc kind (Writes addr width value at onto) is f s = subst (λ k. Segment step turns nothing c nothing (Trapped (trap_number k) line)) (sym s.1) (writes_badly turns nothing c addr width value line onto (is ∙ ap (λ l. Writes addr width value l onto) f.0) s.0)
trapped_by step turns c next line pc kind (Silent onto) is f s = absurd s
trapped_by step turns c next line pc kind (Turn at onto) is f s = absurd s
trapped_by step turns c next line pc kind (Calls number args at onto) is f s = absurd s

pub trapped : (h : Machine) (turns : ℕ) (c next : Cpu) (kind : TrapKind) → StepsTo (machine_step h c) c next nothing nothing (Ok (stops.Trap kind)) → Segment (machine_step h) turns nothing c nothing (Trapped (trap_number kind) (line_at h c.pc))
trapped h turns c next kind s = trapped_by (machine_step h) turns c next (line_at h c.pc) c.pc kind (machine_step h c) refl (steps_from h c) s

-- ---- that it ends

-- A step without a turn goes ahead, from an address of the code.
pub record Ahead (image : ImageParts) (c next : Cpu) : Type 0 where
  pub further : c.pc < next.pc
  pub within : c.pc < 4 * length image.code

further : (c next : Cpu) (line : ℕ) (effect : Effect Cpu) → StepsFrom line c.pc effect → StepsTo effect c next nothing nothing (Ok stops.Next) → c.pc < next.pc
further c next line (Silent onto) f s = subst (λ k. c.pc < k.pc) (sym s.0) f
further c next line (Reads addr width at onto) f s = subst (λ k. c.pc < k.pc) (sym s.0.2) (f.1 s.0.0)
further c next line (Writes addr width value at onto) f s = subst (λ k. c.pc < k.pc) (sym s.1) f.1
further c next line (Turn at onto) f s = absurd s
further c next line (Calls number args at onto) f s = absurd s
further c next line (Traps kind at) f s = absurd s

in_code : (code : List ℕ) (k : ℕ) (word : Option ℕ) → slice_get code k ≡ word → IsSome (option_and_then inst_of word) → k < length code
in_code code k (Some w) e some = slice_get_within code k w e
in_code code k None e some = absurd (false≢true some)

fetched_in : (image : ImageParts) (low pc : ℕ) (t : Bool) → (pc % 4 == 0) ≡ t → IsSome (if t then option_and_then inst_of (slice_get image.code (pc / 4)) else None) → pc < 4 * length image.code
fetched_in image low pc true e some =
    let within : pc / 4 < length image.code = in_code image.code (pc / 4) (slice_get image.code (pc / 4)) refl some in
    let whole : pc % 4 ≡ 0 = eqb-true (pc % 4) 0 e in
    omega arith
fetched_in image low pc false e some = absurd (false≢true some)

was_fetched : (h : Machine) (c next : Cpu) (found : Option Inst) → StepsTo (acts h c found) c next nothing nothing (Ok stops.Next) → IsSome found
was_fetched h c next None s = absurd s
was_fetched h c next (Some i) s = refl

pub goes_ahead : (image : ImageParts) (low : ℕ) (c next : Cpu) → StepsTo (machine_step (machine_of image low) c) c next nothing nothing (Ok stops.Next) → Ahead image c next
goes_ahead image low c next s =
    let h : Machine = machine_of image low in
    record {
      further = further c next (line_at h c.pc) (machine_step h c) (steps_from h c) s;
      within = fetched_in image low c.pc (c.pc % 4 == 0) refl (was_fetched h c next (fetched h c.pc) s);
    }

-- what is left of a segment: the turns, and within one turn the code ahead
abbrev pub left_of : (turns words pc : ℕ) → ℕ
left_of turns words pc = turns * (4 * words + 1) + (4 * words - pc)

pub less_ahead : (turns words pc next : ℕ) → pc < next → pc < 4 * words → left_of turns words next < left_of turns words pc
less_ahead turns words pc next a b =
    let nearer : 4 * words - next < 4 * words - pc = omega arith in
    omega (arith, nearer)

pub less_turns : (turns fewer words pc next : ℕ) → turns ≡ suc fewer → left_of fewer words next < left_of turns words pc
less_turns turns fewer words pc next e =
    let whole : suc fewer * (4 * words + 1) ≡ fewer * (4 * words + 1) + (4 * words + 1) = suc-mul fewer (4 * words + 1) in
    let most : 4 * words - next ≤ 4 * words = omega arith in
    rw e (rw whole (omega (arith, most)))

-- ---- as the code says it: the stack lies where it lay, and the line is that of the instruction's address

abbrev pub Steps : ImageParts → ℕ → Cpu → Cpu → Result Stop NoMemory → Type 0
Steps image low c next result = StepsTo (machine_step (machine_of image low) c) c next nothing nothing result

abbrev pub Comes : ImageParts → ℕ → ℕ → Cpu → End Cpu → Type 0
Comes image low turns c e = Segment (machine_step (machine_of image low)) turns nothing c nothing e

pub with_stack : (image : ImageParts) (here low : ℕ) (c next : Cpu) (result : Result Stop NoMemory) → here ≡ low → Steps image here c next result → Steps image low c next result
with_stack image here low c next result e s = subst (λ l. Steps image l c next result) e s

pub spent_at : (image : ImageParts) (low line : ℕ) (c next : Cpu) → line ≡ line_at (machine_of image low) c.pc → Steps image low c next (Ok stops.Turn) → Comes image low 0 c (Spent line)
spent_at image low line c next e s = subst (λ l. Comes image low 0 c (Spent l)) (sym e) (spent (machine_of image low) c next s)

pub calling_at : (image : ImageParts) (low turns line : ℕ) (c next : Cpu) → line ≡ line_at (machine_of image low) c.pc → Steps image low c next (Ok stops.Call) → Comes image low turns c (call_end next line)
calling_at image low turns line c next e s = subst (λ l. Comes image low turns c (call_end next l)) (sym e) (calling (machine_of image low) turns c next s)

pub trapped_at : (image : ImageParts) (low turns line : ℕ) (c next : Cpu) (kind : TrapKind) → line ≡ line_at (machine_of image low) c.pc → Steps image low c next (Ok (stops.Trap kind)) → Comes image low turns c (Trapped (trap_number kind) line)
trapped_at image low turns line c next kind e s = subst (λ l. Comes image low turns c (Trapped (trap_number kind) l)) (sym e) (trapped (machine_of image low) turns c next kind s)
