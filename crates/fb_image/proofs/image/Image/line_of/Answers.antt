use Rattle.std.proofs.Common.{◌≡◌, ◌≤◌, List, leb, true, false, rules, subst, sym, ap, length, ◌∙◌}
use Rattle.std.specs.List.Sorted.{IsPartitionPoint}
use Rattle.std.proofs.lemmas.List.Sorted.{IsPartitionPoint-from_clause, IsPartitionedBy-leb}
use Rattle.fb_base.specs.declared.shape.LineAt.{LineAt}
use Rattle.fb_image.specs.declared.image.ImageParts.{ImageParts}
use Rattle.fb_image.specs.Format.{AreLines}
use Rattle.fb_image.specs.Lines.{line_of}
use Rattle.fb_image.proofs.Lines.{rising, some_before, line_found}
use Rattle.fb_image.proofs.image.Image.line_of.Goals as goal

are_lines : (c : goal.After-partition_point-after) → AreLines (length c.self.inside.parts.code) c.as_slice-lines.result.now
are_lines c = subst (λ (ls : List LineAt). AreLines (length c.self.inside.parts.code) ls) (sym c.as_slice-lines.ensures) c.self.invariant.rules.each_line

some_lines : (c : goal.After-partition_point-after) → 1 ≤ length c.as_slice-lines.result.now
some_lines c = subst (λ (ls : List LineAt). 1 ≤ length ls) (sym c.as_slice-lines.ensures) c.self.invariant.rules.some_lines

point : (c : goal.After-partition_point-after) → IsPartitionPoint (λ (l : LineAt). leb l.index c.args.index ≡ true) (λ (l : LineAt). leb l.index c.args.index ≡ false) c.as_slice-lines.result.now c.partition_point-after.result
point c =
    let sorted = IsPartitionedBy-leb (λ (l : LineAt). l.index) c.as_slice-lines.result.now c.args.index (rising _ _ c.as_slice-lines.result.now (are_lines c)) in
    IsPartitionPoint-from_clause (λ (l : LineAt). leb l.index c.args.index) _ _ c.partition_point-after.ensures.partitioned sorted (λ a r q k. search rules)

pub overflow_sub-result : goal.overflow_sub-result
overflow_sub-result c = some_before _ c.args.index _ c.as_slice-lines.result.now (record { index = 0; line = 0 }) (some_lines c) (are_lines c) (point c)

pub returns : goal.returns
returns c =
    let found = line_found c.args.index _ c.as_slice-lines.result.now (record { index = 0; line = 0 }) (overflow_sub-result c) c.partition_point-after.ensures.bound (point c) in
    found ∙ ap (λ (ls : List LineAt). line_of ls c.args.index) c.as_slice-lines.ensures ∙ ap (λ (p : ImageParts). line_of p.lines c.args.index) c.self.view_is
