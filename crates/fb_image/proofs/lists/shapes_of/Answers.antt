use Rattle.std.proofs.Common.{refl}
use Rattle.std.proofs.lemmas.Result.{err_from_is_err_and}
use Rattle.fb_image.specs.Format.{after_shape}
use Rattle.fb_image.specs.Reading.{many_at, shape_at}
use Rattle.fb_image.proofs.Loop.{goes_on, ends, is_done}
use Rattle.fb_image.proofs.lists.shapes_of.Goals as goal

pub returns-in_err-next : goal.returns-in_err-next
returns-in_err-next c =
    let p = err_from_is_err_and c.from_residual.result c.from_residual.ensures.1 in
    rw (p.1, p.2) (ends shape_at after_shape c.in_err-next.field-0.0 c.loop.shapes c.args.count c.loop.counter c.loop.least c.loop.rest.now (many_at shape_at after_shape 0 c.args.count c.args.bytes.now) c.loop-test.true c.in_err-next.ensures c.loop.invariant)

pub loop-preserved : goal.loop-preserved
loop-preserved c = goes_on shape_at after_shape c.loop.shapes c.args.count c.loop.counter c.loop.least c.loop.rest.now c.in_ok-next.next c.in_ok-next.after.now _ 1 (many_at shape_at after_shape 0 c.args.count c.args.bytes.now) c.loop-test.true c.in_ok-next.ensures c.in_ok-add.ensures.ok refl c.loop.invariant

pub returns : goal.returns
returns c = is_done shape_at after_shape c.loop.shapes c.args.count c.loop.counter c.loop.least c.loop.rest.now (many_at shape_at after_shape 0 c.args.count c.args.bytes.now) c.loop-test.false c.loop.invariant
