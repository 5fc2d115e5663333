use Rattle.std.proofs.Common.{◌∙◌}
use Rattle.mid_code.proofs.Marks.{all_found, first_mark}
use Rattle.mid_code.proofs.search.search.Goals as goal

pub loop-r-init : goal.loop-r-init
loop-r-init c = first_mark c.args.ops.now c.args.r _ _ c.in_ok-marks.ensures c.mark.ensures.marks

pub returns : goal.returns
returns c =
    let begun = c.loop-r.invariant in
    let grows = c.spread.ensures.grows in
    let long = grows.long ∙ begun.0 in
    record {
      long = long;
      sound = grows.reached begun.1;
      all = all_found c.args.ops.now c.args.r _ long (λ less. grows.first (begun.2 less)) (c.spread.ensures.closed c.loop-r-test.false);
    }
