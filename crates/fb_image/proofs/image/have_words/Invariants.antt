use Rattle.std.proofs.Common.{◌<◌, ℕ, ◌^◌, get_or}
use Rattle.fb_base.specs.declared.shape.LineAt.{LineAt}
use Rattle.fb_image.proofs.image.have_words.Given as goal

abbrev pub invariant-loop-at : goal.invariant-loop-at
invariant-loop-at l = (k : ℕ) (d : LineAt) → k < l.at-index → (get_or l.lines k d).line < 2 ^ 32
