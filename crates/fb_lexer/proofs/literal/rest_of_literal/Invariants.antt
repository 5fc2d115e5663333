use Rattle.std.proofs.Common.{◌≡◌, ◌+◌, length}
use Rattle.fb_lexer.specs.Pieces.{rest_of_literal, with_front}
use Rattle.fb_lexer.proofs.literal.rest_of_literal.Given as goal

abbrev pub invariant-loop-b : goal.invariant-loop-b
invariant-loop-b l = record {
  value : with_front l.text.items l.n (rest_of_literal l.bytes) ≡ rest_of_literal l.initial.bytes;
  within : l.n + length l.bytes ≡ length l.initial.bytes;
}

abbrev pub decreases-loop-b : goal.decreases-loop-b
decreases-loop-b l = length l.bytes
