-- What is promised of selected code.
use Rattle.std.specs.Prelude.{◌≡◌, ℕ, ◌^◌, ◌<◌, ◌≤◌, List, length, Some, slice_get, option_and_then}
use Rattle.std.specs.List.{AllByRecursion}
use Rattle.thread_system.specs.Memory.{Memory}
use Rattle.thread_system.specs.Segment.{End, Segment}
use Rattle.thread_system.specs.Simulation.{Simulates, SameEnd}
use Rattle.fb_image.specs.Format.{KeepsRules}
use Rattle.fb_image.specs.Lines.{line_of}
use Rattle.mid_code.specs.declared.op.LinedOp.{LinedOp}
use Rattle.mid_code.specs.Operations.{code_of}
use Rattle.mid_code.specs.Flow.{Live, IsSound, AreLawful}
use Rattle.mid_code.specs.Step.{MidState, first_state, mid_step}
use Rattle.rv_isa.specs.Machine.{Cpu, Machine, machine_step}
use Rattle.rv_isa.specs.Encoding.{inst_of}
use Rattle.rv_step.specs.State.{stack_of, machine_of, first_cpu}
use Rattle.rv_select.specs.Image.{parts_of}
use Rattle.rv_select.specs.declared.lined.LinedInst.{LinedInst}
use Rattle.rv_select.specs.Layout.{selected, target_of_program, Fits}
use Rattle.rv_select.specs.Relation.{CarriesOut}

-- the lines of a list of operations count from 1
abbrev pub HaveLines : List LinedOp → Type 0
HaveLines ops = AllByRecursion (λ o. 1 ≤ o.line) ops

-- A program of middle code: there is a main module, jumps go the way that their kind goes, lines count from 1, and no
-- procedure reads a register that it hasn't written, or jumps to where it has no operation.
pub record IsProgram (procs : List (List LinedOp)) : Type 0 where
  pub some : 1 ≤ length procs
  pub lawful : AllByRecursion (AreLawful 0) procs
  pub lines : AllByRecursion HaveLines procs
  pub sound : (p : ℕ) → IsSound (code_of procs) p

-- the machine of a thread that runs the program's image
abbrev pub machine_for : List (List LinedOp) → ℕ → Machine
machine_for procs thread = machine_of (parts_of procs) (stack_of thread)

-- A thread of the image carries out one of the program.
abbrev pub Carries : List (List LinedOp) → ℕ → MidState → Cpu → Type 0
Carries procs thread s c = CarriesOut (machine_for procs thread) (code_of procs) (target_of_program procs) (Live (code_of procs)) s c

-- The parts of a program that has a main module keep the rules of images.
abbrev pub ImageRules : Type 0
ImageRules = (procs : List (List LinedOp)) → 1 ≤ length procs → Fits procs → KeepsRules (parts_of procs)

-- Each word reads as the instruction that was selected, and has its line.
abbrev pub WordsRead : Type 0
WordsRead =
    (procs : List (List LinedOp)) → IsProgram procs → (k : ℕ) (i : LinedInst) → slice_get (selected procs) k ≡ Some i
    → (option_and_then inst_of (slice_get (parts_of procs).code k) ≡ Some i.inst) × (line_of (parts_of procs).lines k ≡ i.line)

-- The main thread of the image begins as the program's.
abbrev pub FirstStates : Type 0
FirstStates = (procs : List (List LinedOp)) → IsProgram procs → Fits procs → Carries procs 0 first_state (first_cpu 0 0 0)

-- Each step of the program is matched by the image: silent steps, and then the same access, turn, call or trap with
-- the same line; and the one carries out the other again, whatever was read or answered.
abbrev pub StepsKept : Type 0
StepsKept = (procs : List (List LinedOp)) (thread : ℕ) → thread < 2 ^ 30 → IsProgram procs → Fits procs → Simulates (mid_step (code_of procs)) (machine_step (machine_for procs thread)) (Carries procs thread)

-- So a segment of the program is one of the image: within as many turns, from the same memory, it comes to the same
-- memory and the same end.
abbrev pub SegmentsKept : Type 0
SegmentsKept =
    (procs : List (List LinedOp)) (thread : ℕ) → thread < 2 ^ 30 → IsProgram procs → Fits procs
    → (turns : ℕ) (m after : Memory) (s : MidState) (c : Cpu) (e : End MidState) → Carries procs thread s c → Segment (mid_step (code_of procs)) turns m s after e
    → (end : End Cpu) × Segment (machine_step (machine_for procs thread)) turns m c after end × SameEnd (Carries procs thread) e end
