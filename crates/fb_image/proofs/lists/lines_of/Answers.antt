use Rattle.std.proofs.Common.{ℕ, ◌+◌, ap}
use Rattle.std.proofs.lemmas.Result.{err_from_is_err_and}
use Rattle.fb_image.specs.Format.{after_line}
use Rattle.fb_image.specs.Reading.{many_at, line_at}
use Rattle.fb_image.proofs.Loop.{goes_on, ends, is_done}
use Rattle.fb_image.proofs.lists.lines_of.Goals as goal

pub returns-in_err-next : goal.returns-in_err-next
returns-in_err-next c =
    let p = err_from_is_err_and c.from_residual.result c.from_residual.ensures.1 in
    rw (p.1, p.2) (ends (line_at c.args.words) after_line c.in_err-next.field-0.0 c.loop.lines c.args.count c.loop.counter c.loop.low c.loop.rest.now (many_at (line_at c.args.words) after_line 0 c.args.count c.args.bytes.now) c.loop-test.true c.in_err-next.ensures.read c.loop.invariant)

pub loop-preserved : goal.loop-preserved
loop-preserved c = goes_on (line_at c.args.words) after_line c.loop.lines c.args.count c.loop.counter c.loop.low c.loop.rest.now c.in_ok-next.next c.in_ok-next.after.now _ (c.from-low.result + 1) (many_at (line_at c.args.words) after_line 0 c.args.count c.args.bytes.now) c.loop-test.true c.in_ok-next.ensures.read c.in_ok-add.ensures.ok (ap (λ (n : ℕ). n + 1) c.from-low.ensures) c.loop.invariant

pub returns : goal.returns
returns c = is_done (line_at c.args.words) after_line c.loop.lines c.args.count c.loop.counter c.loop.low c.loop.rest.now (many_at (line_at c.args.words) after_line 0 c.args.count c.args.bytes.now) c.loop-test.false c.loop.invariant
