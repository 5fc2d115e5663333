use Rattle.std.proofs.Common.{◌+◌, arith, refl}
use Rattle.std.proofs.lemmas.Result.{err_from_is_err_and}
use Rattle.fb_image.specs.Format.{after_cell}
use Rattle.fb_image.specs.Reading.{many_at, cell_at}
use Rattle.fb_image.proofs.Loop.{goes_on, ends, is_done}
use Rattle.fb_image.proofs.Rules.{rising_push, last_push}
use Rattle.fb_image.proofs.lists.cells_of.Goals as goal

pub returns-in_err-next : goal.returns-in_err-next
returns-in_err-next c =
    let p = err_from_is_err_and c.from_residual.result c.from_residual.ensures.1 in
    rw (p.1, p.2) (ends (cell_at c.args.size) after_cell c.in_err-next.field-0.0 c.loop.cells c.args.count c.loop.counter c.loop.low c.loop.rest.now (many_at (cell_at c.args.size) after_cell 0 c.args.count c.args.bytes.now) c.loop-test.true c.in_err-next.ensures.read c.loop.invariant.read)

pub add-requires : goal.add-requires
add-requires c = rising_push c.loop.cells c.in_ok-next.next c.loop.invariant.rising (λ some. omega (arith, c.loop.invariant.below some, c.in_ok-next.ensures.above))

pub loop-preserved : goal.loop-preserved
loop-preserved c = record {
  read = goes_on (cell_at c.args.size) after_cell c.loop.cells c.args.count c.loop.counter c.loop.low c.loop.rest.now c.in_ok-next.next c.in_ok-next.after.now _ (c.in_ok-next.next + 24) (many_at (cell_at c.args.size) after_cell 0 c.args.count c.args.bytes.now) c.loop-test.true c.in_ok-next.ensures.read c.in_ok-add.ensures.ok refl c.loop.invariant.read;
  rising = rw c.in_ok-add.ensures.ok (rising_push c.loop.cells c.in_ok-next.next c.loop.invariant.rising (λ some. omega (arith, c.loop.invariant.below some, c.in_ok-next.ensures.above)));
  below = λ some. rw c.in_ok-add.ensures.ok (omega (arith, last_push c.loop.cells c.in_ok-next.next));
}

pub returns : goal.returns
returns c = is_done (cell_at c.args.size) after_cell c.loop.cells c.args.count c.loop.counter c.loop.low c.loop.rest.now (many_at (cell_at c.args.size) after_cell 0 c.args.count c.args.bytes.now) c.loop-test.false c.loop.invariant.read
