use Rattle.std.specs.Prelude.{◌≡◌, ℕ, ◌⊎◌, List, [], ◌∷◌, Option, Bool, true, false, ⊤, codes}
use Rattle.fb_base.specs.declared.ending.Ending.{Ending}
use Rattle.fb_base.specs.declared.ending.Ending.TheVariants as endings
use Rattle.fb_base.specs.declared.ending.UsageWhy.TheVariants.{Words, BadNumber, Excluded, NotBuilt}
use Rattle.fb_base.specs.declared.ending.WhichSink.TheVariants as sinks
use Rattle.fb_base.specs.declared.fault.Fault.{Fault}
use Rattle.host_edge.specs.Faults.{Rose}
use Rattle.host_edge.specs.Files.{FileMap}
use Rattle.host_edge.specs.Loads.{IsLoaded}
use Rattle.host_edge.specs.declared.store.Loaded.TheVariants.{Bytes, Absent, TooLong}
use Rattle.first_language.specs.Tree.{Program}
use Rattle.first_language.specs.Grammar.{IsProgram}
use Rattle.first_lowering.specs.Meaning.{step, first_of}
use Rattle.main_run.specs.Solo.{SoloEndsAs}
use Rattle.fb_top.specs.Compiling.{no_program}

-- What a command sees of the outside: the files, the output, and the counts of their faults.
pub record Devices : Type 0 where
  pub held : Option FileMap
  pub store_faults : ℕ
  pub out : Option (List ℕ)
  pub out_faults : ℕ

-- the most bytes that a program's text may have
abbrev pub text_limit : ℕ
text_limit = 1048576

-- the words are `run` and the name of a file
abbrev pub AskToRun : List (List ℕ) → List ℕ → Type 0
AskToRun words name = words ≡ codes "run" ∷ (name ∷ [])

-- nothing was run: there is no schedule, and the output is as it was
pub record NothingRun (old new : Option (List ℕ)) (schedule : List ℕ) : Type 0 where
  pub schedule_is : schedule ≡ []
  pub out_is : new ≡ old

-- the most turns that a segment may take
abbrev pub turn_limit : ℕ
turn_limit = 10000000

-- the most entries that a run may make
abbrev pub entry_limit : ℕ
entry_limit = 1000000

-- The text is a program of the language, and its statements, done one after another from its beginning, come to this
-- ending with this schedule and output. No instruction occurs in this.
pub record StatementsEndAs (text : List ℕ) (old new : Option (List ℕ)) (faults later : ℕ) (schedule : List ℕ) (ending : Ending) : Type 0 where
  pub program : Program
  pub is : IsProgram text program
  pub ends : SoloEndsAs step turn_limit (first_of program) entry_limit old new faults later schedule ending

-- The text is none of the language, and this is its fault.
pub record IsRefused (text : List ℕ) (fault : Fault) : Type 0 where
  pub fault_is : fault ≡ no_program
  pub none : (program : Program) → IsProgram text program → ⊥

-- How a command that has a text to run ends: what becomes of the output, of its count of faults and of the schedule.
abbrev pub TextEndsAs : List ℕ → Option (List ℕ) → Option (List ℕ) → ℕ → ℕ → List ℕ → Ending → Type 0
TextEndsAs text old new faults later schedule (endings.Ended status) = StatementsEndAs text old new faults later schedule (endings.Ended status)
TextEndsAs text old new faults later schedule (endings.Trapped kind line thread) = StatementsEndAs text old new faults later schedule (endings.Trapped kind line thread)
TextEndsAs text old new faults later schedule (endings.TurnsSpent thread line) = StatementsEndAs text old new faults later schedule (endings.TurnsSpent thread line)
TextEndsAs text old new faults later schedule (endings.EntriesSpent limit) = StatementsEndAs text old new faults later schedule (endings.EntriesSpent limit)
TextEndsAs text old new faults later schedule (endings.WriteFault sink) = StatementsEndAs text old new faults later schedule (endings.WriteFault sink)
TextEndsAs text old new faults later schedule endings.NoMemory = NothingRun old new schedule ⊎ StatementsEndAs text old new faults later schedule endings.NoMemory
TextEndsAs text old new faults later schedule (endings.Refused fault) = IsRefused text fault × NothingRun old new schedule
TextEndsAs text old new faults later schedule (endings.Usage why) = ⊥
TextEndsAs text old new faults later schedule (endings.NoFile name) = ⊥
TextEndsAs text old new faults later schedule (endings.TooLong name) = ⊥
TextEndsAs text old new faults later schedule endings.StoreFault = ⊥

-- The store has a text under the name, and the command ends as its text says.
pub record RunEndsAs (old new : Devices) (name schedule : List ℕ) (ending : Ending) : Type 0 where
  pub text : List ℕ
  pub loaded : IsLoaded old.held name text_limit (Bytes text)
  pub ends : TextEndsAs text old.out new.out old.out_faults new.out_faults schedule ending

-- How a command that asks to run a file ends.
abbrev pub FileEndsAs : Devices → Devices → List ℕ → List ℕ → Ending → Type 0
FileEndsAs old new name schedule (endings.Ended status) = RunEndsAs old new name schedule (endings.Ended status)
FileEndsAs old new name schedule (endings.Trapped kind line thread) = RunEndsAs old new name schedule (endings.Trapped kind line thread)
FileEndsAs old new name schedule (endings.TurnsSpent thread line) = RunEndsAs old new name schedule (endings.TurnsSpent thread line)
FileEndsAs old new name schedule (endings.EntriesSpent limit) = RunEndsAs old new name schedule (endings.EntriesSpent limit)
FileEndsAs old new name schedule (endings.WriteFault sink) = RunEndsAs old new name schedule (endings.WriteFault sink)
FileEndsAs old new name schedule (endings.Usage why) = ⊥
FileEndsAs old new name schedule (endings.NoFile named) = (named ≡ name) × IsLoaded old.held name text_limit Absent × NothingRun old.out new.out schedule
FileEndsAs old new name schedule (endings.TooLong named) = (named ≡ name) × IsLoaded old.held name text_limit TooLong × NothingRun old.out new.out schedule
FileEndsAs old new name schedule endings.StoreFault = Rose old.store_faults new.store_faults × NothingRun old.out new.out schedule
FileEndsAs old new name schedule endings.NoMemory = NothingRun old.out new.out schedule ⊎ RunEndsAs old new name schedule endings.NoMemory
FileEndsAs old new name schedule (endings.Refused fault) = RunEndsAs old new name schedule (endings.Refused fault)

-- The words ask to run a file, and the command ends as that file says.
pub record NamedEndsAs (words : List (List ℕ)) (old new : Devices) (schedule : List ℕ) (ending : Ending) : Type 0 where
  pub name : List ℕ
  pub asked : AskToRun words name
  pub ends : FileEndsAs old new name schedule ending

-- How a command ends: the table of its answers, a row an ending. Each row but that of faulty words holds a name that the
-- words ask for, so that each answer comes exactly where its row says.
abbrev pub EndsAs : List (List ℕ) → Devices → Devices → List ℕ → Ending → Type 0
EndsAs words old new schedule (endings.Ended status) = NamedEndsAs words old new schedule (endings.Ended status)
EndsAs words old new schedule (endings.Trapped kind line thread) = NamedEndsAs words old new schedule (endings.Trapped kind line thread)
EndsAs words old new schedule (endings.TurnsSpent thread line) = NamedEndsAs words old new schedule (endings.TurnsSpent thread line)
EndsAs words old new schedule (endings.EntriesSpent limit) = NamedEndsAs words old new schedule (endings.EntriesSpent limit)
EndsAs words old new schedule (endings.WriteFault sink) = NamedEndsAs words old new schedule (endings.WriteFault sink)
EndsAs words old new schedule (endings.Usage Words) = ((name : List ℕ) → AskToRun words name → ⊥) × NothingRun old.out new.out schedule
EndsAs words old new schedule (endings.Usage BadNumber) = ⊥
EndsAs words old new schedule (endings.Usage Excluded) = ⊥
EndsAs words old new schedule (endings.Usage NotBuilt) = ⊥
EndsAs words old new schedule (endings.NoFile name) = NamedEndsAs words old new schedule (endings.NoFile name)
EndsAs words old new schedule (endings.TooLong name) = NamedEndsAs words old new schedule (endings.TooLong name)
EndsAs words old new schedule endings.StoreFault = NamedEndsAs words old new schedule endings.StoreFault
EndsAs words old new schedule endings.NoMemory = NamedEndsAs words old new schedule endings.NoMemory
EndsAs words old new schedule (endings.Refused fault) = NamedEndsAs words old new schedule (endings.Refused fault)

-- the ending of a file that isn't run, with its name; want of memory has none
abbrev pub IsNamed : List ℕ → Bool → Ending → Type 0
IsNamed name too_long (endings.NoFile named) = (too_long ≡ false) × (named ≡ name)
IsNamed name too_long (endings.TooLong named) = (too_long ≡ true) × (named ≡ name)
IsNamed name too_long endings.NoMemory = ⊤
IsNamed name too_long (endings.Ended status) = ⊥
IsNamed name too_long (endings.Trapped kind line thread) = ⊥
IsNamed name too_long (endings.TurnsSpent thread line) = ⊥
IsNamed name too_long (endings.EntriesSpent limit) = ⊥
IsNamed name too_long (endings.WriteFault sink) = ⊥
IsNamed name too_long (endings.Usage why) = ⊥
IsNamed name too_long endings.StoreFault = ⊥
IsNamed name too_long (endings.Refused fault) = ⊥

-- the exit status of each ending
abbrev pub status_of : Ending → ℕ
status_of (endings.Ended status) = status
status_of (endings.Trapped kind line thread) = 80
status_of (endings.TurnsSpent thread line) = 83
status_of (endings.EntriesSpent limit) = 84
status_of (endings.WriteFault sink) = 73
status_of (endings.Usage why) = 64
status_of (endings.NoFile name) = 66
status_of (endings.TooLong name) = 67
status_of endings.StoreFault = 70
status_of endings.NoMemory = 71
status_of (endings.Refused fault) = 65
