-- What the parts of one entry of the main thread do.
use Rattle.std.specs.Prelude.{◌≡◌, ℕ, List, [], ◌∷◌, ◌++◌, if◌then◌else◌, Option, Some, None}
use Rattle.std.specs.Io.KnownBytes.{Appends}
use Rattle.fb_base.specs.declared.ending.Ending.{Ending}
use Rattle.fb_base.specs.declared.ending.Ending.TheVariants as endings
use Rattle.fb_base.specs.declared.ending.WhichSink.TheVariants as sinks
use Rattle.host_edge.specs.Faults.{Rose}
use Rattle.host_edge.specs.Streams.{AppendsProperPrefix}
use Rattle.thread_system.specs.Effect.{Effect}
use Rattle.thread_system.specs.Segment.{End, Calling, Trapped, Spent}
use Rattle.thread_system.specs.Replay.{Standing, Going, Over, Ended, Stopped, OutOfTurns, Entry, written_at, standing_at}
use Rattle.rv_isa.specs.Machine.{Cpu, is_trap_call}
use Rattle.rv_step.specs.Step.{answered, trap_number}
use Rattle.main_run.specs.declared.segment.Reached.{Reached}
use Rattle.main_run.specs.declared.segment.Reached.TheVariants as reached
use Rattle.main_run.specs.declared.calls.Prepared.{Prepared}
use Rattle.main_run.specs.declared.calls.Prepared.TheVariants as prepared

-- the arguments of the call that a thread stands at
abbrev pub args_of : Cpu → List ℕ
args_of c = c.regs 10 ∷ c.regs 11 ∷ c.regs 12 ∷ c.regs 13 ∷ []

-- The end of a segment at whose call a thread stands: a trap where the call asks for one that there is.
abbrev pub call_end : Cpu → ℕ → End Cpu
call_end c line = if is_trap_call (c.regs 17) (c.regs 10) then Trapped (c.regs 10) line else Calling (c.regs 17) (args_of c) line (answered c)

-- the end of a segment that came to this, with the thread as it stands then
abbrev pub end_of : Cpu → Reached → End Cpu
end_of c (reached.Call line) = call_end c line
end_of c (reached.Trap kind line) = Trapped (trap_number kind) line
end_of c (reached.Spent line) = Spent line

-- what an entry is about to write
abbrev pub bytes_of : Prepared → List ℕ
bytes_of (prepared.Print bytes) = bytes.items
bytes_of prepared.End = []
bytes_of (prepared.Trap kind line) = []
bytes_of (prepared.Spent line) = []

-- how the run is going to stand
abbrev pub standing_of : Cpu → Prepared → Standing Cpu
standing_of c (prepared.Print bytes) = Going (answered c 0)
standing_of c prepared.End = Over (Ended 0)
standing_of c (prepared.Trap kind line) = Over (Stopped (trap_number kind) line)
standing_of c (prepared.Spent line) = Over (OutOfTurns line)

-- what an entry is about to do is what the end of its segment asks for
pub record IsAskedBy (end : End Cpu) (c : Cpu) (p : Prepared) : Type 0 where
  pub bytes_are : bytes_of p ≡ written_at end
  pub stands : standing_of c p ≡ standing_at end

-- an entry was made whole: all that it writes was written, and it stands last in the schedule
pub record IsMade {S : Type 0} (step : S → Effect S) (turns : ℕ) (state : S) (old new : Option (List ℕ)) (schedule longer : List ℕ) (standing : Standing S) : Type 0 where
  pub bytes : List ℕ
  pub entry : Entry step turns state bytes standing
  pub written : Appends old new bytes
  pub scheduled : longer ≡ schedule ++ 0 ∷ []

-- an entry was cut: only some first bytes of those that it writes were written, and it stands last in the schedule
pub record WasCut {S : Type 0} (step : S → Effect S) (turns : ℕ) (state : S) (old new : Option (List ℕ)) (schedule longer : List ℕ) : Type 0 where
  pub bytes : List ℕ
  pub standing : Standing S
  pub entry : Entry step turns state bytes standing
  pub cut : AppendsProperPrefix old new bytes
  pub scheduled : longer ≡ schedule ++ 0 ∷ []

-- What an entry did from a state on, with the output, its count of faults and the schedule before and after: the
-- thread goes on, or the run has this ending.
abbrev pub EntryEndsAs : {S : Type 0} → (S → Effect S) → (turns : ℕ) → (state next : S) → (old new : Option (List ℕ)) → (faults later : ℕ) → (schedule longer : List ℕ) → Option Ending → Type 0
EntryEndsAs step turns state next old new faults later schedule longer None = IsMade step turns state old new schedule longer (Going next)
EntryEndsAs step turns state next old new faults later schedule longer (Some (endings.Ended status)) = IsMade step turns state old new schedule longer (Over (Ended status))
EntryEndsAs step turns state next old new faults later schedule longer (Some (endings.Trapped kind line thread)) = (thread ≡ 0) × IsMade step turns state old new schedule longer (Over (Stopped (trap_number kind) line))
EntryEndsAs step turns state next old new faults later schedule longer (Some (endings.TurnsSpent thread line)) = (thread ≡ 0) × IsMade step turns state old new schedule longer (Over (OutOfTurns line))
EntryEndsAs step turns state next old new faults later schedule longer (Some (endings.EntriesSpent limit)) = ⊥
EntryEndsAs step turns state next old new faults later schedule longer (Some (endings.WriteFault sinks.Out)) = Rose faults later × WasCut step turns state old new schedule longer
EntryEndsAs step turns state next old new faults later schedule longer (Some (endings.WriteFault sinks.Err)) = ⊥
EntryEndsAs step turns state next old new faults later schedule longer (Some endings.NoMemory) = (new ≡ old) × (longer ≡ schedule)
EntryEndsAs step turns state next old new faults later schedule longer (Some (endings.Usage why)) = ⊥
EntryEndsAs step turns state next old new faults later schedule longer (Some (endings.NoFile name)) = ⊥
EntryEndsAs step turns state next old new faults later schedule longer (Some (endings.TooLong name)) = ⊥
EntryEndsAs step turns state next old new faults later schedule longer (Some endings.StoreFault) = ⊥
EntryEndsAs step turns state next old new faults later schedule longer (Some (endings.Refused fault)) = ⊥
