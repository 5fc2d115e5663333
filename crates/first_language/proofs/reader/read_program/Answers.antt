use Rattle.std.proofs.Common.{◌≡◌, ℕ, List, Option, Some, None, Result, Ok, Err, option_map, IfSome, IfOk, sym, ◌∙◌}
use Rattle.first_language.specs.Tree.{Program, program_of}
use Rattle.first_language.specs.Grammar.{IsProgram}
use Rattle.first_language.specs.Texts.{ComesOf}
use Rattle.first_language.proofs.EachProgram.{each_program}
use Rattle.first_language.proofs.ProgramIsOne.{program_is_one}
use Rattle.first_language.proofs.reader.read_program.Goals as goal

found_read : {V E : Type 0} (program : V → Program) (text : List ℕ) (r : Result (Option V) E) → IfOk r (λ o. ComesOf text (option_map program o)) → IfOk r (λ o. IfSome o (λ v. IsProgram text (program v)))
found_read program text (Err e) h = tt
found_read program text (Ok None) h = tt
found_read program text (Ok (Some v)) h = record { lines = h.some.0; has_lines = h.some.1; are_program = program_is_one h.some.0 (program v) h.some.2 }

only_read : {V E : Type 0} (program : V → Program) (text : List ℕ) (r : Result (Option V) E) → IfOk r (λ o. ComesOf text (option_map program o)) → IfOk r (λ o. (one : Program) → IsProgram text one → option_map program o ≡ Some one)
only_read program text (Err e) h = tt
only_read program text (Ok o) h = λ one p. sym (h.each p.lines p.has_lines) ∙ each_program p.lines one p.are_program

pub returns-clause-found : goal.returns-clause-found
returns-clause-found c = found_read program_of c.args.text.now c.read_text.result c.read_text.ensures

pub returns-clause-only : goal.returns-clause-only
returns-clause-only c = only_read program_of c.args.text.now c.read_text.result c.read_text.ensures
