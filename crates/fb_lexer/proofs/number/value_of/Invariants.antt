use Rattle.std.proofs.Common.{◌≡◌, ◌<◌, ◌^◌, drop}
use Rattle.fb_lexer.specs.Pieces.{value_of}
use Rattle.fb_lexer.proofs.number.value_of.Given as goal

abbrev pub invariant-loop-b : goal.invariant-loop-b
invariant-loop-b l = (value_of l.base l.value (drop l.b-index l.digits) ≡ value_of l.base 0 l.digits) × (l.value < 2 ^ 64)
