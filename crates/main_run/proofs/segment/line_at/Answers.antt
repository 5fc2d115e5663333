use Rattle.std.proofs.Common.{◌≤◌, ◌/◌, ◌^◌, ◌-◌, length, ◌∙◌, sym, arith, ap}
use Rattle.fb_image.specs.Lines.{line_of}
use Rattle.fb_image.specs.declared.image.ImageParts.{ImageParts}
use Rattle.main_run.proofs.Lines.{last_lines}
use Rattle.main_run.proofs.segment.line_at.Goals as goal

pub returns-else-index-code : goal.returns-else-index-code
returns-else-index-code c = λ low.
    let image = c.image-image.result.now in
    let rules = c.code.ensures.rules.rules in
    let past : length image.code ≤ c.args.pc / 4 = rw c.code.ensures.words at c.if-index-code.false in
    c.line_of-else-index-code.ensures ∙ sym (last_lines (length image.code) 0 0 (c.args.pc / 4) (2 ^ 32 - 1) image.lines rules.each_line past (omega (arith, rules.code))) ∙ ap (λ (k : ImageParts). line_of k.lines (c.args.pc / 4)) c.image-image.ensures
