use Rattle.std.proofs.Common.{refl}
use Rattle.std.proofs.lemmas.Result.{err_from_is_err_and}
use Rattle.fb_image.specs.Reading.{many_at, code_at, no_more}
use Rattle.fb_image.proofs.Loop.{goes_on, ends, is_done}
use Rattle.fb_image.proofs.lists.code_of.Goals as goal

pub returns-in_err-next : goal.returns-in_err-next
returns-in_err-next c =
    let p = err_from_is_err_and c.from_residual.result c.from_residual.ensures.1 in
    rw (p.1, p.2) (ends code_at no_more c.in_err-next.field-0.0 c.loop.code c.args.count c.loop.counter 0 c.loop.rest.now (many_at code_at no_more 0 c.args.count c.args.bytes.now) c.loop-test.true c.in_err-next.ensures c.loop.invariant)

pub loop-preserved : goal.loop-preserved
loop-preserved c = goes_on code_at no_more c.loop.code c.args.count c.loop.counter 0 c.loop.rest.now c.in_ok-next.next c.in_ok-next.after.now _ 0 (many_at code_at no_more 0 c.args.count c.args.bytes.now) c.loop-test.true c.in_ok-next.ensures c.in_ok-add.ensures.ok refl c.loop.invariant

pub returns : goal.returns
returns c = is_done code_at no_more c.loop.code c.args.count c.loop.counter 0 c.loop.rest.now (many_at code_at no_more 0 c.args.count c.args.bytes.now) c.loop-test.false c.loop.invariant
