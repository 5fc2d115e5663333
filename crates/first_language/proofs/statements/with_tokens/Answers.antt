use Rattle.std.proofs.Common.{◌≡◌, ◌+◌, IfOk, option_map, subst, ap, ◌∙◌}
use Rattle.first_language.specs.Reading.{line_of}
use Rattle.first_language.specs.Kept.{progress_of}
use Rattle.first_language.proofs.Stacks.{tokens_say}
use Rattle.first_language.proofs.statements.with_tokens.Goals as goal

pub returns-in-Some-clause-value : goal.returns-in-Some-clause-value
returns-in-Some-clause-value c =
    let said = rw c.in-Some.is at c.in_ok-line.ensures in
    let line = said ∙ ap (λ names. line_of names (c.args.p.above + 1) c.args.tokens.now) c.as_slice.ensures.value in
    subst (λ x. IfOk c.with_line.result (λ next. option_map progress_of next ≡ x)) (tokens_say c.args.p c.args.tokens.now c.in-Some.line line) c.with_line.ensures.value
