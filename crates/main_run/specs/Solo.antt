-- What becomes of a lone thread that is run entry by entry, for threads of any kind: the table of the answers.
use Rattle.std.specs.Prelude.{◌≡◌, ℕ, ◌+◌, ◌*◌, ◌<◌, ◌≤◌, List, ◌++◌, length, take, replicate, get_or, Option}
use Rattle.std.specs.Io.KnownBytes.{Appends}
use Rattle.fb_base.specs.declared.ending.Ending.{Ending}
use Rattle.fb_base.specs.declared.ending.Ending.TheVariants as endings
use Rattle.fb_base.specs.declared.ending.WhichSink.TheVariants as sinks
use Rattle.host_edge.specs.Faults.{Rose}
use Rattle.thread_system.specs.Effect.{Effect}
use Rattle.thread_system.specs.Replay.{Standing, Going, Over, Finish, Ended, Stopped, OutOfTurns, Entry, Replays}
use Rattle.rv_isa.specs.Machine.{Cpu, Machine}
use Rattle.rv_step.specs.State.{first_cpu, machine_of, stack_of}
use Rattle.rv_step.specs.Step.{trap_number}
use Rattle.fb_image.specs.declared.image.ImageParts.{ImageParts}

-- The machine of an image for its main thread, which has number 0, and that thread as it begins: at the first code
-- word of procedure 0, with the parameter 0.
abbrev pub main_machine : ImageParts → Machine
main_machine image = machine_of image (stack_of 0)

abbrev pub main_cpu : ImageParts → Cpu
main_cpu image = first_cpu 0 (4 * get_or image.entries 0 0) 0

-- So many entries were made: the run stands so after them, what they write is written, and each is in the schedule.
pub record HasMade {S : Type 0} (step : S → Effect S) (turns : ℕ) (first : S) (old new : Option (List ℕ)) (schedule : List ℕ) (entries : ℕ) (standing : Standing S) : Type 0 where
  pub bytes : List ℕ
  pub replays : Replays step turns first entries bytes standing
  pub written : Appends old new bytes
  pub scheduled : schedule ≡ replicate entries 0

-- The run came to its end within the limit of entries.
pub record IsOver {S : Type 0} (step : S → Effect S) (turns : ℕ) (first : S) (limit : ℕ) (old new : Option (List ℕ)) (schedule : List ℕ) (finish : Finish) : Type 0 where
  pub entries : ℕ
  pub within : entries ≤ limit
  pub made : HasMade step turns first old new schedule entries (Over finish)

-- So many entries were made, and the thread goes on.
pub record GoesOn {S : Type 0} (step : S → Effect S) (turns : ℕ) (first : S) (old new : Option (List ℕ)) (schedule : List ℕ) (entries : ℕ) : Type 0 where
  pub state : S
  pub made : HasMade step turns first old new schedule entries (Going state)

-- Some entries within the limit were made, and the thread goes on.
pub record IsUnderWay {S : Type 0} (step : S → Effect S) (turns : ℕ) (first : S) (limit : ℕ) (old new : Option (List ℕ)) (schedule : List ℕ) : Type 0 where
  pub entries : ℕ
  pub within : entries ≤ limit
  pub goes_on : GoesOn step turns first old new schedule entries

-- The last entry of the schedule, which is within the limit, was cut: of the bytes that it prints some were written
-- behind those of the entries before it, and some are missing.
pub record IsCut {S : Type 0} (step : S → Effect S) (turns : ℕ) (first : S) (limit : ℕ) (old new : Option (List ℕ)) (schedule : List ℕ) : Type 0 where
  pub before : ℕ
  pub within : before < limit
  pub front : List ℕ
  pub state : S
  pub replays : Replays step turns first before front (Going state)
  pub bytes : List ℕ
  pub standing : Standing S
  pub entry : Entry step turns state bytes standing
  pub count : ℕ
  pub missing : count < length bytes
  pub written : Appends old new (front ++ take count bytes)
  pub scheduled : schedule ≡ replicate (before + 1) 0

-- How a lone thread's run ends: a row an ending, with the output and its count of faults before and after, and the
-- schedule. Its thread has number 0. After want of memory whole entries were written.
abbrev pub SoloEndsAs : {S : Type 0} → (S → Effect S) → (turns : ℕ) → (first : S) → (limit : ℕ) → (old new : Option (List ℕ)) → (faults later : ℕ) → (schedule : List ℕ) → Ending → Type 0
SoloEndsAs step turns first limit old new faults later schedule (endings.Ended status) = IsOver step turns first limit old new schedule (Ended status)
SoloEndsAs step turns first limit old new faults later schedule (endings.Trapped kind line thread) = (thread ≡ 0) × IsOver step turns first limit old new schedule (Stopped (trap_number kind) line)
SoloEndsAs step turns first limit old new faults later schedule (endings.TurnsSpent thread line) = (thread ≡ 0) × IsOver step turns first limit old new schedule (OutOfTurns line)
SoloEndsAs step turns first limit old new faults later schedule (endings.EntriesSpent given) = (given ≡ limit) × GoesOn step turns first old new schedule limit
SoloEndsAs step turns first limit old new faults later schedule (endings.WriteFault sinks.Out) = Rose faults later × IsCut step turns first limit old new schedule
SoloEndsAs step turns first limit old new faults later schedule (endings.WriteFault sinks.Err) = ⊥
SoloEndsAs step turns first limit old new faults later schedule endings.NoMemory = IsUnderWay step turns first limit old new schedule
SoloEndsAs step turns first limit old new faults later schedule (endings.Usage why) = ⊥
SoloEndsAs step turns first limit old new faults later schedule (endings.NoFile name) = ⊥
SoloEndsAs step turns first limit old new faults later schedule (endings.TooLong name) = ⊥
SoloEndsAs step turns first limit old new faults later schedule endings.StoreFault = ⊥
SoloEndsAs step turns first limit old new faults later schedule (endings.Refused fault) = ⊥
