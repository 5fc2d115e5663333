use Rattle.std.proofs.Common.{◌≡◌, ◌-◌, ◌<◌, min, length, get_or, arith, ◌∙◌, refl, ap}
use Rattle.mid_code.proofs.Covers.{ends_lower, read_here}
use Rattle.mid_code.proofs.cover.end_behind.Goals as goal

pub loop-top-preserved : goal.loop-top-preserved
loop-top-preserved c =
    let low = c.loop-top.low in
    let held = c.loop-top.invariant in
    let gaps = c.args.gaps.now.items in
    let test : c.args.source < low - 1 = rw (← c.saturating_sub.ensures) c.loop-top-test.true in
    let inside : low - 1 < length gaps = omega (arith, c.requires.long, c.requires.within, held.below, test) in
    let gap : c.index.result.now ≡ get_or gaps (low - 1) 0 = read_here gaps (low - 1) c.index.result.now inside c.index.ensures in
    let rest : c.min-low.result ≡ min (get_or gaps (low - 1) 0) (low - 1) = c.min-low.ensures ∙ ap (λ n. min n (low - 1)) gap in
    record {
      long = c.lower_to.ensures.long ∙ held.long;
      less = λ w. omega (arith, held.less w, c.lower_to.ensures.less w);
      below = omega (arith, rest, held.below);
      ends = ends_lower c.args.ends.now.items c.loop-top.ends.items c.lower_to.new.all.items gaps c.args.p low (low - 1) c.requires.gaps held.less c.lower_to.ensures.less (c.lower_to.ensures.there (low - 1) refl) (omega (arith, test)) held.below held.ends c.min-low.result rest;
    }
