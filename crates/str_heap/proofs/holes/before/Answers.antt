use Rattle.std.proofs.Common.{arith, ◌+◌, ◌-◌, ◌/◌}
use Rattle.str_heap.proofs.Runs.{before-le, before-past, before-upto}
use Rattle.str_heap.proofs.holes.before.Goals as goal

pub loop-low-init : goal.loop-low-init
loop-low-init c = (omega arith, before-le c.args.place c.args.holes.now, omega arith)

pub loop-low-preserved-then-holes-middle : goal.loop-low-preserved-then-holes-middle
loop-low-preserved-then-holes-middle c =
    let i = c.loop-low.invariant in
    let m = c.loop-low.low + (c.loop-low.high - c.loop-low.low) / 2 in
    (before-past c.args.place c.args.holes.now 0 m (record { place = 0; size = 0 }) c.requires (omega (arith, i.2)) c.if-holes-middle.true, i.1, i.2)

pub loop-low-preserved : goal.loop-low-preserved
loop-low-preserved c =
    let i = c.loop-low.invariant in
    let m = c.loop-low.low + (c.loop-low.high - c.loop-low.low) / 2 in
    (i.0, before-upto c.args.place c.args.holes.now m (record { place = 0; size = 0 }) c.if-holes-middle.false, omega (arith, i.2))
