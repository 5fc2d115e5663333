use Rattle.std.proofs.Common.{List, All, subst, sym}
use Rattle.fb_base.specs.declared.shape.Shape.{Shape}
use Rattle.fb_image.specs.Format.{HasWords}
use Rattle.fb_image.proofs.Rules.{shapes_words}
use Rattle.fb_image.proofs.writing.put_lists.Goals as goal

pub put_shapes-requires : goal.put_shapes-requires
put_shapes-requires c = subst (λ (ss : List Shape). All HasWords ss) (sym c.shapes.ensures) (shapes_words _ c.code.ensures.rules.rules.each_shape)
