-- That middle code carries out the source.
use Rattle.std.specs.Prelude.{ℕ, List, [], ◌∷◌}
use Rattle.thread_system.specs.Memory.{Memory}
use Rattle.thread_system.specs.Segment.{End, Segment}
use Rattle.thread_system.specs.Simulation.{Matches, SameEnd}
use Rattle.mid_code.specs.Flow.{AreLawful}
use Rattle.mid_code.specs.Operations.{MidCode, code_of}
use Rattle.mid_code.specs.Paths.{AllSound}
use Rattle.mid_code.specs.Step.{MidState, mid_step, first_state}
use Rattle.first_language.specs.Grammar.{IsProgram}
use Rattle.first_language.specs.Tree.{Program}
use Rattle.first_lowering.specs.Variables.{IsDeclared}
use Rattle.first_lowering.specs.Meaning.{State, step, first_of}
use Rattle.first_lowering.specs.Lowering.{main_ops, lowered}
use Rattle.first_lowering.specs.Relation.{Related}

-- at related states each step is matched
abbrev pub LoweringKeeps : Type 0
LoweringKeeps = (m : MidCode) (a : State) (s : MidState) → Related m a s → Matches (Related m) (mid_step m) (step a) s

-- the first states of a program and of its middle code are related
abbrev pub LoweringStarts : Type 0
LoweringStarts = (p : Program) → Related (code_of (lowered p)) (first_of p) first_state

-- what a segment of the source does its middle code does, within as many turns
abbrev pub SegmentsKept : Type 0
SegmentsKept =
    (m : MidCode) (turns : ℕ) (before after : Memory) (a : State) (s : MidState) (e : End State)
    → Related m a s → Segment step turns before a after e
    → (end : End MidState) × Segment (mid_step m) turns before s after end × SameEnd (Related m) e end

-- a program's middle code keeps what every list of operations keeps
abbrev pub LoweringIsLawful : Type 0
LoweringIsLawful = (p : Program) → AreLawful 0 (main_ops p)

-- middle code of a program whose variables are declared reads no register before it is written, and its jumps' targets
-- exist
abbrev pub LoweringIsSound : Type 0
LoweringIsSound = (p : Program) → IsDeclared p → AllSound (lowered p)

-- the variables of each program that a text has are declared before they are used
abbrev pub ProgramsAreDeclared : Type 0
ProgramsAreDeclared = (text : List ℕ) (p : Program) → IsProgram text p → IsDeclared p
