use Rattle.std.proofs.Common.{◌≡◌, ◌==◌, false, sym, ◌∙◌, arith, rules, tests}
use Rattle.fb_lexer.proofs.Comments.{closing, opening, inside}
use Rattle.fb_lexer.proofs.comment.rest_of_comment.Goals as goal

pub loop-b-preserved-then-closes : goal.loop-b-preserved-then-closes
loop-b-preserved-then-closes c =
    let front = c.in-Some.ensures.cases in
    let next = c.in-Some-split_first.ensures.cases in
    let deep : (c.loop-b.depth == 1) ≡ false = search (rules, tests) in
    record {
      value = closing _ _ _ _ _ _ _ front.0 next.0 (sym c.closes.ensures ∙ c.if-closes.true) deep ∙ c.loop-b.invariant.value;
      within = omega (arith, front.1, next.1);
      some = omega arith;
      deep = omega arith;
    }

pub loop-b-preserved-then-opens : goal.loop-b-preserved-then-opens
loop-b-preserved-then-opens c =
    let front = c.in-Some.ensures.cases in
    let next = c.in-Some-split_first.ensures.cases in
    record {
      value = opening _ _ _ _ _ _ _ front.0 next.0 (sym c.closes.ensures ∙ c.if-closes.false) (sym c.opens.ensures ∙ c.if-opens.true) ∙ c.loop-b.invariant.value;
      within = omega (arith, front.1, next.1);
      some = omega arith;
      deep = omega arith;
    }

pub loop-b-preserved : goal.loop-b-preserved
loop-b-preserved c =
    let front = c.in-Some.ensures.cases in
    let next = c.in-Some-split_first.ensures.cases in
    record {
      value = inside _ _ _ _ _ _ _ front.0 next.0 (sym c.closes.ensures ∙ c.if-closes.false) (sym c.opens.ensures ∙ c.if-opens.false) ∙ c.loop-b.invariant.value;
      within = omega (arith, front.1);
      some = omega arith;
      deep = omega arith;
    }
