use Rattle.std.proofs.Common.{rules, subst, sym, ◌∙◌, drop, arith}
use Rattle.first_language.specs.Kept.{progress_of}
use Rattle.first_language.proofs.Texts.{Comes, comes_white, comes_newline, comes_token, refused_front, refused_line, tells, tells_none, ends_some, ends_none}
use Rattle.first_language.proofs.reader.read_text.Goals as goal

pub returns-in-Refused : goal.returns-in-Refused
returns-in-Refused c =
    refused_front c.args.text.now c.loop-rest.rest.now (progress_of c.loop-rest.progress) c.loop-rest.line.items (search rules) (sym c.in_ok-front_of.ensures.value ∙ c.in-Refused.is) c.loop-rest.invariant.comes

pub loop-rest-preserved-in-White : goal.loop-rest-preserved-in-White
loop-rest-preserved-in-White c =
    let p = progress_of c.loop-rest.progress in
    record {
      comes = subst (λ x. Comes c.args.text.now x p c.loop-rest.line.items) (sym c.split_at.ensures.back) (comes_white c.args.text.now c.loop-rest.rest.now p c.loop-rest.line.items (sym c.in_ok-front_of.ensures.value ∙ c.in-White.is) c.loop-rest.invariant.comes);
      few = omega arith;
    }

pub returns-in-None : goal.returns-in-None
returns-in-None c =
    let p = progress_of c.loop-rest.progress in
    refused_line c.args.text.now c.loop-rest.rest.now p c.loop-rest.line.items (sym c.in_ok-front_of.ensures.value ∙ c.in-Newline.is)
    (tells_none progress_of c.in_ok-next-in-Newline.field-0 p c.as_slice.result.now c.loop-rest.line.items c.in-None.is c.as_slice.ensures.value c.in_ok-next-in-Newline.ensures.value) c.loop-rest.invariant.comes

pub loop-rest-preserved-in-Newline : goal.loop-rest-preserved-in-Newline
loop-rest-preserved-in-Newline c =
    let p = progress_of c.loop-rest.progress in
    let next = progress_of c.in-Some.next in
    let one = comes_newline c.args.text.now c.loop-rest.rest.now p next c.loop-rest.line.items (sym c.in_ok-front_of.ensures.value ∙ c.in-Newline.is)
    (tells progress_of c.in_ok-next-in-Newline.field-0 c.in-Some.next p c.as_slice.result.now c.loop-rest.line.items c.in-Some.is c.as_slice.ensures.value c.in_ok-next-in-Newline.ensures.value) c.loop-rest.invariant.comes in
    let above = rw c.in-Some.is at c.in_ok-next-in-Newline.ensures.above in
    record {
      comes = subst (λ x. Comes c.args.text.now x next c.new-line-in-Newline.result.items) (sym c.split_at-in-Newline.ensures.back) (subst (λ x. Comes c.args.text.now (drop 1 c.loop-rest.rest.now) next x) (sym c.new-line-in-Newline.ensures.items) one);
      few = omega arith;
    }

pub loop-rest-preserved : goal.loop-rest-preserved
loop-rest-preserved c =
    let p = progress_of c.loop-rest.progress in
    let one = comes_token c.args.text.now c.loop-rest.rest.now p c.loop-rest.line.items c.in-Token.token c.in-Token.n (sym c.in_ok-front_of.ensures.value ∙ c.in-Token.is) c.loop-rest.invariant.comes in
    record {
      comes = subst (λ x. Comes c.args.text.now x p c.push.new.self.items) (sym c.split_at-in-Token.ensures.back) (subst (λ x. Comes c.args.text.now (drop c.in-Token.n c.loop-rest.rest.now) p x) (sym c.in_ok-push-in-Token.ensures.items) one);
      few = omega arith;
    }

pub returns-in-Some-2 : goal.returns-in-Some-2
returns-in-Some-2 c =
    let p = progress_of c.loop-rest.progress in
    ends_some c.args.text.now c.loop-rest.rest.now p (progress_of c.in-Some-2.last) c.loop-rest.line.items _ (search rules)
    (tells progress_of c.in_ok-last.field-0 c.in-Some-2.last p c.as_slice-2.result.now c.loop-rest.line.items c.in-Some-2.is c.as_slice-2.ensures.value c.in_ok-last.ensures.value) c.finished.ensures c.loop-rest.invariant.comes

pub returns : goal.returns
returns c =
    let p = progress_of c.loop-rest.progress in
    ends_none c.args.text.now c.loop-rest.rest.now p c.loop-rest.line.items (search rules)
    (tells_none progress_of c.in_ok-last.field-0 p c.as_slice-2.result.now c.loop-rest.line.items c.in-None-2.is c.as_slice-2.ensures.value c.in_ok-last.ensures.value) c.loop-rest.invariant.comes
