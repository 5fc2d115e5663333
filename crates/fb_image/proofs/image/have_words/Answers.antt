use Rattle.std.proofs.Common.{◌<◌, ℕ, ◌^◌, get_or, below_more, subst}
use Rattle.std.proofs.lemmas.List.{get_or_default}
use Rattle.fb_base.specs.declared.shape.LineAt.{LineAt}
use Rattle.fb_image.proofs.image.have_words.Goals as goal

pub loop-at-preserved : goal.loop-at-preserved
loop-at-preserved c k d lt =
    below_more (λ (j : ℕ). (get_or c.args.lines.now j d).line < 2 ^ 32) c.loop-at.at-index (λ j h. c.loop-at.invariant j d h)
    (subst (λ (l : LineAt). l.line < 2 ^ 32) (get_or_default c.args.lines.now c.loop-at.at-index _ d c.loop-at-test.true) c.is_word.ensures) k lt
