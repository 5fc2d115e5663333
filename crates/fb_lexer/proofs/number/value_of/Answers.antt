use Rattle.std.proofs.Common.{◌≡◌, sym, ◌∙◌, arith}
use Rattle.std.proofs.lemmas.List.{at_drop_all}
use Rattle.fb_lexer.specs.Pieces.{value_of}
use Rattle.fb_lexer.proofs.number.value_of.Goals as goal

pub returns : goal.returns
returns c =
    let whole : c.loop-b.value ≡ value_of c.args.base 0 c.args.digits.now = sym (at_drop_all (value_of c.args.base c.loop-b.value) c.args.digits.now c.loop-b.b-index (omega arith)) ∙ c.loop-b.invariant.0 in
    (rw (← whole) (omega arith), whole)
