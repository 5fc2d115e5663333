use Rattle.std.proofs.Common.{◌≡◌, vec_len}
use Rattle.first_language.specs.Reading.{reduced}
use Rattle.first_language.specs.Kept.{part_of, pile_of}
use Rattle.first_language.proofs.expression.reduced.Given as goal

-- what is left to take in comes to the same
abbrev pub invariant-loop-last : goal.invariant-loop-last
invariant-loop-last l = reduced l.bound (part_of l.part) (pile_of l.waiting.items) ≡ reduced l.bound (part_of l.fn.part) (pile_of l.initial.waiting.items)

abbrev pub decreases-loop-last : goal.decreases-loop-last
decreases-loop-last l = vec_len l.waiting
