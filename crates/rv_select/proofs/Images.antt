use Rattle.std.proofs.Common.{Some, slice_get, option_and_then, ◌≡◌, ℕ, zero, suc, ◌+◌, ◌^◌, ◌<◌, ◌≤◌, inl, List, [], ◌∷◌, ◌++◌, length, refl, ap, sym, subst, arith, length-append}
use Rattle.std.specs.List.{AllByRecursion}
use Rattle.thread_system.specs.Memory.{Memory}
use Rattle.thread_system.specs.Segment.{End, Segment}
use Rattle.thread_system.specs.Simulation.{Simulates, SameEnd}
use Rattle.thread_system.proofs.Carrying.{carries}
use Rattle.fb_image.specs.Format.{KeepsRules}
use Rattle.fb_image.specs.Lines.{line_of}
use Rattle.rv_isa.specs.Encoding.{inst_of}
use Rattle.fb_image.specs.declared.image.ImageParts.{ImageParts}
use Rattle.mid_code.specs.declared.op.LinedOp.{LinedOp}
use Rattle.mid_code.specs.Operations.{ops_of, code_of}
use Rattle.mid_code.specs.Flow.{Live, AreLawful}
use Rattle.mid_code.specs.Step.{MidState, first_state, mid_step}
use Rattle.rv_isa.specs.Machine.{Cpu, Machine, machine_step}
use Rattle.rv_step.specs.State.{stack_of, first_cpu}
use Rattle.rv_select.specs.declared.lined.LinedInst.{LinedInst}
use Rattle.rv_select.specs.Image.{words_of, lines_from, no_shape, parts_of}
use Rattle.rv_select.specs.Layout.{proc_code, code_from, selected, entries_from, target_of_program, Fits}
use Rattle.rv_select.specs.Laws.{IsProgram, machine_for, Carries}
use Rattle.rv_select.proofs.Positions.{Has}
use Rattle.rv_select.proofs.Lines.{line_found, HasLines, lines_rules}
use Rattle.rv_select.proofs.Instructions.{selected_lined, selected_numbered, word_fetched}
use Rattle.rv_select.proofs.Programs.{is_selected, starts}
use Rattle.rv_select.proofs.Calls.{step_matches}

-- The image of a program has its code.

pub image_has : (procs : List (List LinedOp)) (thread : ℕ) → IsProgram procs → Has (machine_for procs thread) (selected procs)
image_has procs thread is = record {
  fetch = λ k i there. word_fetched (selected procs) k i (selected_lined procs is.lawful) there;
  line = λ k i there. line_found (selected procs) k i (selected_numbered procs is.lines) there;
}

pub words_read : (procs : List (List LinedOp)) → IsProgram procs → (k : ℕ) (i : LinedInst) → slice_get (selected procs) k ≡ Some i
    → (option_and_then inst_of (slice_get (parts_of procs).code k) ≡ Some i.inst) × (line_of (parts_of procs).lines k ≡ i.line)
words_read procs is k i there = (word_fetched (selected procs) k i (selected_lined procs is.lawful) there, line_found (selected procs) k i (selected_numbered procs is.lines) there)

lawful_at : (procs : List (List LinedOp)) → AllByRecursion (AreLawful 0) procs → (p : ℕ) → AreLawful 0 (ops_of procs p)
lawful_at [] all p = tt
lawful_at (ops ∷ procs) all zero = all.0
lawful_at (ops ∷ procs) all (suc p) = lawful_at procs all.1 p

stack_fits : (thread : ℕ) → thread < 2 ^ 30 → stack_of thread + 2 ^ 32 ≤ 2 ^ 63
stack_fits thread small = omega arith

pub first_states : (procs : List (List LinedOp)) → IsProgram procs → Fits procs → Carries procs 0 first_state (first_cpu 0 0 0)
first_states procs is fits = starts (machine_for procs 0) procs (first_cpu 0 0 0) is.some (image_has procs 0 is) (stack_fits 0 (omega arith)) (is.sound 0).written refl refl

pub steps_kept : (procs : List (List LinedOp)) (thread : ℕ) → thread < 2 ^ 30 → IsProgram procs → Fits procs → Simulates (mid_step (code_of procs)) (machine_step (machine_for procs thread)) (Carries procs thread)
steps_kept procs thread small is fits s c related =
    let h : Machine = machine_for procs thread in
    let sel = is_selected h procs (image_has procs thread is) fits (lawful_at procs is.lawful) (stack_fits thread small) in
    step_matches h (code_of procs) (target_of_program procs) (Live (code_of procs)) sel s c related

pub segments_kept : (procs : List (List LinedOp)) (thread : ℕ) → thread < 2 ^ 30 → IsProgram procs → Fits procs
    → (turns : ℕ) (m after : Memory) (s : MidState) (c : Cpu) (e : End MidState) → Carries procs thread s c → Segment (mid_step (code_of procs)) turns m s after e
    → (end : End Cpu) × Segment (machine_step (machine_for procs thread)) turns m c after end × SameEnd (Carries procs thread) e end
segments_kept procs thread small is fits turns m after s c e related segment =
    let w = carries (mid_step (code_of procs)) (machine_step (machine_for procs thread)) (Carries procs thread) (steps_kept procs thread small is fits) turns m s c after e related segment in
    (w.end, w.segment, w.same)

parts_are : (procs : List (List LinedOp)) (parts : ImageParts) → parts.code ≡ words_of (selected procs) → parts.entries ≡ entries_from 0 0 procs → parts.shapes ≡ no_shape ∷ [] → parts.literals ≡ [] → parts.lines ≡ lines_from 0 0 (selected procs) → parts ≡ parts_of procs
parts_are procs parts code entries shapes literals lines = λ i. record { code = code i; entries = entries i; shapes = shapes i; literals = literals i; lines = lines i }

-- ---- the rules of images

words_length : (code : List LinedInst) → length (words_of code) ≡ length code
words_length [] = refl
words_length (x ∷ xs) = ap suc (words_length xs)

entries_within : (k p total : ℕ) (procs : List (List LinedOp)) → k + length (code_from k p procs) ≤ total → AllByRecursion (λ e. e < total) (entries_from k p procs)
entries_within k p total [] le = tt
entries_within k p total (ops ∷ procs) le =
    let rest = code_from (k + length (proc_code k p ops)) (suc p) procs in
    let whole : length (proc_code k p ops ++ rest) ≡ length (proc_code k p ops) + length rest = length-append (proc_code k p ops) rest in
    let some : 1 ≤ length (proc_code k p ops) = proc_some k p ops in
    (omega arith, entries_within (k + length (proc_code k p ops)) (suc p) total procs (omega arith)) where
      proc_some : (k p : ℕ) (ops : List LinedOp) → 1 ≤ length (proc_code k p ops)
      proc_some k zero ops = omega arith
      proc_some k (suc p) ops = omega arith

entries_length : (k p : ℕ) (procs : List (List LinedOp)) → length (entries_from k p procs) ≡ length procs
entries_length k p [] = refl
entries_length k p (ops ∷ procs) = ap suc (entries_length (k + length (proc_code k p ops)) (suc p) procs)

code_long : (k p : ℕ) (procs : List (List LinedOp)) → length procs ≤ length (code_from k p procs)
code_long k p [] = omega arith
code_long k zero (ops ∷ procs) =
    let rest = code_from (k + length (proc_code k 0 ops)) 1 procs in
    let whole : length (proc_code k 0 ops ++ rest) ≡ length (proc_code k 0 ops) + length rest = length-append (proc_code k 0 ops) rest in
    let l : length procs ≤ length rest = code_long (k + length (proc_code k 0 ops)) 1 procs in
    omega arith
code_long k (suc p) (ops ∷ procs) =
    let rest = code_from (k + length (proc_code k (suc p) ops)) (suc (suc p)) procs in
    let whole : length (proc_code k (suc p) ops ++ rest) ≡ length (proc_code k (suc p) ops) + length rest = length-append (proc_code k (suc p) ops) rest in
    let l : length procs ≤ length rest = code_long (k + length (proc_code k (suc p) ops)) (suc (suc p)) procs in
    omega arith

pub image_rules : (procs : List (List LinedOp)) → 1 ≤ length procs → Fits procs → KeepsRules (parts_of procs)
image_rules procs some fits =
    let code = selected procs in
    let size : length (words_of code) ≡ length code = words_length code in
    let long : length procs ≤ length code = code_long 0 0 procs in
    let lines : HasLines code = lines_rules code (omega (arith, some)) in
    record {
      some_code = omega arith;
      code = omega (arith, fits.words);
      some_entries = omega (arith, entries_length 0 0 procs);
      entries = omega (arith, entries_length 0 0 procs, fits.words);
      each_entry = entries_within 0 0 (length (words_of code)) procs (omega arith);
      some_shapes = omega arith;
      shapes = omega arith;
      each_shape = (record { least_size = omega arith; greatest_size = omega arith; align = inl refl; divides = refl; cells = tt }, tt);
      some_lines = lines.some;
      each_line = rw size lines.rules;
    }

-- the same where the parts are those of the program
pub rules_at : (procs : List (List LinedOp)) (parts : ImageParts) → 1 ≤ length procs → Fits procs → parts.code ≡ words_of (selected procs) → parts.entries ≡ entries_from 0 0 procs → parts.shapes ≡ no_shape ∷ [] → parts.literals ≡ [] → parts.lines ≡ lines_from 0 0 (selected procs) → KeepsRules parts
rules_at procs parts some fits code entries shapes literals lines = subst KeepsRules (sym (parts_are procs parts code entries shapes literals lines)) (image_rules procs some fits)
