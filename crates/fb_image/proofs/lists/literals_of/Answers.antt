use Rattle.std.proofs.Common.{ℕ, ◌+◌, ap, ◌∙◌, length, arith, refl}
use Rattle.std.proofs.lemmas.List.{length_push}
use Rattle.std.proofs.lemmas.Result.{err_from_is_err_and}
use Rattle.fb_image.specs.Reading.{many_at, literal_at, no_more}
use Rattle.fb_image.proofs.Loop.{goes_on, ends, is_done}
use Rattle.fb_image.proofs.lists.literals_of.Goals as goal

pub returns-in_err-next : goal.returns-in_err-next
returns-in_err-next c =
    let p = err_from_is_err_and c.from_residual-in_err-next.result c.from_residual-in_err-next.ensures.1 in
    rw (p.1, p.2) (ends literal_at no_more c.in_err-next.field-0.0 c.loop.literals c.args.count c.loop.counter 0 c.loop.rest.now (many_at literal_at no_more 0 c.args.count c.args.bytes.now) c.loop-test.true (c.in_err-next.ensures.read 0) c.loop.invariant.read)

pub add-requires-clause-few : goal.add-requires-clause-few
add-requires-clause-few c = omega (arith, c.loop.invariant.many, c.loop-test.true)

pub loop-preserved : goal.loop-preserved
loop-preserved c = record {
  read = goes_on literal_at no_more c.loop.literals c.args.count c.loop.counter 0 c.loop.rest.now c.in_ok-next.next.now c.in_ok-next.after.now _ 0 (many_at literal_at no_more 0 c.args.count c.args.bytes.now) c.loop-test.true (c.in_ok-next.ensures.read 0) c.in_ok-add.ensures.ok refl c.loop.invariant.read;
  many = ap length c.in_ok-add.ensures.ok ∙ length_push c.loop.literals c.in_ok-next.next.now ∙ ap (λ (n : ℕ). n + 1) c.loop.invariant.many;
}

pub returns : goal.returns
returns c = is_done literal_at no_more c.loop.literals c.args.count c.loop.counter 0 c.loop.rest.now (many_at literal_at no_more 0 c.args.count c.args.bytes.now) c.loop-test.false c.loop.invariant.read
