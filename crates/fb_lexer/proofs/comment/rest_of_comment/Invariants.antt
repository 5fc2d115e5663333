use Rattle.std.proofs.Common.{◌≡◌, ◌+◌, ◌≤◌, length}
use Rattle.fb_lexer.specs.Pieces.{rest_of_comment}
use Rattle.fb_lexer.proofs.comment.rest_of_comment.Given as goal

abbrev pub invariant-loop-b : goal.invariant-loop-b
invariant-loop-b l = record {
  value : rest_of_comment l.depth l.n l.bytes ≡ rest_of_comment 1 2 l.initial.bytes;
  within : l.n + length l.bytes ≡ 2 + length l.initial.bytes;
  some : 1 ≤ l.depth;
  deep : l.depth ≤ 1 + l.n;
}

abbrev pub decreases-loop-b : goal.decreases-loop-b
decreases-loop-b l = length l.bytes
