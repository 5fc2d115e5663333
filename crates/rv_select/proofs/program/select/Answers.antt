use Rattle.std.proofs.Common.{◌≡◌, ap, ◌∙◌, refl, arith}
use Rattle.rv_select.specs.Image.{words_of, lines_from}
use Rattle.rv_select.specs.Layout.{selected, Fits}
use Rattle.rv_select.proofs.Images.{rules_at}
use Rattle.rv_select.proofs.program.select.Goals as goal

pub build-requires : goal.build-requires
build-requires c =
    let procs = c.args.program.now.procs in
    let code : c.as_slice-code.result.now ≡ selected procs = c.as_slice-code.ensures.value ∙ c.in_ok-selected.ensures.code ∙ ap selected c.as_slice.ensures in
    let fits : Fits procs = record { words = rw (← code) (omega arith); each = rw c.as_slice.ensures at c.in_ok-selected.ensures.fits } in
    rules_at procs _ c.requires fits (c.in_ok-code_words.ensures ∙ ap words_of code) (c.in_ok-selected.ensures.entries ∙ rw c.as_slice.ensures refl) c.in_ok-shared_shape.ensures c.new.ensures (c.in_ok-code_lines.ensures ∙ ap (lines_from 0 0) code)
