use Rattle.std.proofs.Common.{subst, List}
use Rattle.std.proofs.lemmas.List.Elements.{recursion_from_All}
use Rattle.fb_base.specs.declared.shape.LineAt.{LineAt}
use Rattle.std.specs.List.{AllByRecursion}
use Rattle.fb_image.specs.Format.{IsWord}
use Rattle.fb_image.proofs.image.build.Goals as goal

pub invariant_of-result : goal.invariant_of-result
invariant_of-result c = record {
  rules = c.requires;
  types = record {
    code = subst (λ words. AllByRecursion IsWord words) c.as_slice.ensures c.are_words.ensures;
    literals = c.are_kept.ensures;
    lines = subst (λ (lines : List LineAt). AllByRecursion (λ (l : LineAt). IsWord l.line) lines) c.as_slice-2.ensures (recursion_from_All _ _ c.have_words.ensures);
  };
}
