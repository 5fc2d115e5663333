use Rattle.std.proofs.Common.{◌≡◌, length, map}
use Rattle.std.specs.Ordering.{nat_cmp}
use Rattle.std.specs.Cmp.Lexicographic.{slice_cmp}
use Rattle.fb_lexer.specs.Letters.{lower}
use Rattle.fb_lexer.proofs.word.compared.Given as goal

-- what is left of both compares as both do
abbrev pub invariant-loop-b : goal.invariant-loop-b
invariant-loop-b l = slice_cmp nat_cmp l.letters (map lower l.bytes) ≡ slice_cmp nat_cmp l.initial.letters (map lower l.initial.bytes)

abbrev pub decreases-loop-b : goal.decreases-loop-b
decreases-loop-b l = length l.bytes
