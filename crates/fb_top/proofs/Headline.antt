-- The run of a text's code is the run of its statements.
use Rattle.std.proofs.Common.{◌≡◌, ℕ, inr, List, Option, subst, arith}
use Rattle.fb_base.specs.declared.ending.Ending.{Ending}
use Rattle.fb_base.specs.declared.ending.Ending.TheVariants as endings
use Rattle.fb_image.specs.declared.image.ImageParts.{ImageParts}
use Rattle.thread_system.specs.Simulation.{Simulates}
use Rattle.thread_system.proofs.Through.{Through, simulates_through}
use Rattle.mid_code.specs.Operations.{code_of}
use Rattle.mid_code.specs.Step.{mid_step, first_state}
use Rattle.rv_isa.specs.Machine.{machine_step}
use Rattle.first_language.specs.Tree.{Program}
use Rattle.first_language.specs.Grammar.{IsProgram}
use Rattle.first_lowering.specs.Meaning.{step, first_of}
use Rattle.first_lowering.specs.Lowering.{lowered}
use Rattle.first_lowering.specs.Relation.{Related}
use Rattle.first_lowering.proofs.Beginning.{lowering_starts}
use Rattle.first_lowering.proofs.Simulation.{lowering_keeps}
use Rattle.first_lowering.proofs.SourceEnds.{IsReadyState, source_ends, begins_well}
use Rattle.rv_select.specs.Layout.{Fits}
use Rattle.rv_select.specs.Image.{parts_of}
use Rattle.rv_select.specs.Laws.{Carries}
use Rattle.rv_select.proofs.Images.{first_states, steps_kept}
use Rattle.main_run.specs.Solo.{main_machine, main_cpu, SoloEndsAs}
use Rattle.fb_top.specs.Answers.{StatementsEndAs, TextEndsAs, turn_limit, entry_limit}
use Rattle.fb_top.specs.Compiling.{IsCompiled}
use Rattle.fb_top.proofs.Source.{Answers, solo_answers}
use Rattle.fb_top.proofs.Lowered.{is_mid_program}

-- statements, middle code and machine, each carried out by the next
code_answers : (text : List ℕ) (p : Program) → IsProgram text p → Fits (lowered p) → Answers step (machine_step (main_machine (parts_of (lowered p)))) turn_limit (first_of p) (main_cpu (parts_of (lowered p)))
code_answers text p is fits =
    let procs = lowered p in
    let mid = is_mid_program text p is in
    record {
      R = Through (Related (code_of procs)) (Carries procs 0);
      Good = IsReadyState;
      simulation = simulates_through step (mid_step (code_of procs)) (machine_step (main_machine (parts_of procs))) (Related (code_of procs)) (Carries procs 0) (lowering_keeps (code_of procs)) (steps_kept procs 0 (omega arith) mid fits);
      ends = source_ends turn_limit;
      related = record { between = first_state; first = lowering_starts p; second = first_states procs mid fits };
      good = begins_well p;
    }

-- What the machine does with a text's code is what the text's statements do.
pub statements_end : (text : List ℕ) (p : Program) → IsProgram text p → Fits (lowered p) → (old new : Option (List ℕ)) (faults later : ℕ) (schedule : List ℕ) (ending : Ending)
    → SoloEndsAs (machine_step (main_machine (parts_of (lowered p)))) turn_limit (main_cpu (parts_of (lowered p))) entry_limit old new faults later schedule ending → StatementsEndAs text old new faults later schedule ending
statements_end text p is fits old new faults later schedule ending e =
    record { program = p; is = is; ends = solo_answers step (machine_step (main_machine (parts_of (lowered p)))) turn_limit (first_of p) (main_cpu (parts_of (lowered p))) (code_answers text p is fits) entry_limit old new faults later schedule ending e }

-- the run of an image
abbrev ImageEndsAs : ImageParts → Option (List ℕ) → Option (List ℕ) → ℕ → ℕ → List ℕ → Ending → Type 0
ImageEndsAs image old new faults later schedule ending = SoloEndsAs (machine_step (main_machine image)) turn_limit (main_cpu image) entry_limit old new faults later schedule ending

compiled_end : (text : List ℕ) (image : ImageParts) → IsCompiled text image → (old new : Option (List ℕ)) (faults later : ℕ) (schedule : List ℕ) (ending : Ending)
    → ImageEndsAs image old new faults later schedule ending → StatementsEndAs text old new faults later schedule ending
compiled_end text image c old new faults later schedule ending e =
    statements_end text c.program c.is c.fits old new faults later schedule ending (subst (λ parts. ImageEndsAs parts old new faults later schedule ending) c.image_is e)

-- A text that was compiled ends as the table of answers says.
pub text_ends : (text : List ℕ) (image : ImageParts) → IsCompiled text image → (old new : Option (List ℕ)) (faults later : ℕ) (schedule : List ℕ) (ending : Ending)
    → SoloEndsAs (machine_step (main_machine image)) turn_limit (main_cpu image) entry_limit old new faults later schedule ending → TextEndsAs text old new faults later schedule ending
text_ends text image c old new faults later schedule (endings.Ended status) e = compiled_end text image c old new faults later schedule (endings.Ended status) e
text_ends text image c old new faults later schedule (endings.Trapped kind line thread) e = compiled_end text image c old new faults later schedule (endings.Trapped kind line thread) e
text_ends text image c old new faults later schedule (endings.TurnsSpent thread line) e = compiled_end text image c old new faults later schedule (endings.TurnsSpent thread line) e
text_ends text image c old new faults later schedule (endings.EntriesSpent limit) e = compiled_end text image c old new faults later schedule (endings.EntriesSpent limit) e
text_ends text image c old new faults later schedule (endings.WriteFault sink) e = compiled_end text image c old new faults later schedule (endings.WriteFault sink) e
text_ends text image c old new faults later schedule endings.NoMemory e = inr (compiled_end text image c old new faults later schedule endings.NoMemory e)
text_ends text image c old new faults later schedule (endings.Usage why) e = elim e [ ]
text_ends text image c old new faults later schedule (endings.NoFile name) e = elim e [ ]
text_ends text image c old new faults later schedule (endings.TooLong name) e = elim e [ ]
text_ends text image c old new faults later schedule endings.StoreFault e = elim e [ ]
text_ends text image c old new faults later schedule (endings.Refused fault) e = elim e [ ]
