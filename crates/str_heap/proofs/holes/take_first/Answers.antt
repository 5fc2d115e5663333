use Rattle.std.proofs.Common.{arith, ◌<◌, length, sym, ap, ◌∙◌}
use Rattle.str_heap.specs.Blocks.{fit_at}
use Rattle.str_heap.proofs.FirstRun.{none_free, first_here, where_none}
use Rattle.str_heap.proofs.Runs.{removes_at_front, removes_at_whole, read_small}
use Rattle.str_heap.proofs.holes.take_first.Goals as goal

pub overflow_add-hole : goal.overflow_add-hole
overflow_add-hole c =
    let lt : c.in_ok-i.i < length c.args.holes.now.items = omega (arith, c.in_ok-i.ensures.fits.0, ap length c.as_slice.ensures.value) in
    let f = c.in_ok-i.ensures.fits.1 c.index-hole.result.now in
    omega (arith, rw (c.as_slice.ensures.value, ← c.index-hole.ensures) at f, read_small c.args.holes.now.items c.in_ok-i.i c.index-hole.result.now c.requires.spaced lt c.index-hole.ensures)

pub returns-then-hole-n-clause-taken : goal.returns-then-hole-n-clause-taken
returns-then-hole-n-clause-taken c =
    let lt : c.in_ok-i.i < length c.args.holes.now.items = omega (arith, c.in_ok-i.ensures.fits.0, ap length c.as_slice.ensures.value) in
    rw c.remove.ensures.items
    (removes_at_whole c.args.n c.args.holes.now.items c.in_ok-i.i c.index-hole.result.now c.requires.some c.requires.spaced lt c.index-hole.ensures c.if-hole-n.true)

pub returns-else-hole-n-clause-taken : goal.returns-else-hole-n-clause-taken
returns-else-hole-n-clause-taken c =
    let lt : c.in_ok-i.i < length c.args.holes.now.items = omega (arith, c.in_ok-i.ensures.fits.0, ap length c.as_slice.ensures.value) in
    let f = c.in_ok-i.ensures.fits.1 c.index-hole.result.now in
    removes_at_front c.args.n c.args.holes.now.items c.in_ok-i.i c.index-hole.result.now c.requires.some c.requires.spaced lt c.index-hole.ensures
    (omega (arith, rw (c.as_slice.ensures.value, ← c.index-hole.ensures) at f, c.if-hole-n.false))

pub returns-in_err-i-clause-full : goal.returns-in_err-i-clause-full
returns-in_err-i-clause-full c =
    where_none c.from_residual.result
    (λ p free. none_free c.args.n p 0 c.args.holes.now.items c.requires.some c.requires.spaced
    (ap (fit_at c.args.n) (sym c.as_slice.ensures.value) ∙ c.in_err-i.ensures.found) free)

pub returns-then-hole-n-clause-first : goal.returns-then-hole-n-clause-first
returns-then-hole-n-clause-first c = λ p free.
    first_here c.args.n p c.args.holes.now.items c.in_ok-i.i c.index-hole.result.now c.requires.some c.requires.spaced
    (ap (fit_at c.args.n) (sym c.as_slice.ensures.value) ∙ c.in_ok-i.ensures.found) c.index-hole.ensures free

pub returns-else-hole-n-clause-first : goal.returns-else-hole-n-clause-first
returns-else-hole-n-clause-first c = λ p free.
    first_here c.args.n p c.args.holes.now.items c.in_ok-i.i c.index-hole.result.now c.requires.some c.requires.spaced
    (ap (fit_at c.args.n) (sym c.as_slice.ensures.value) ∙ c.in_ok-i.ensures.found) c.index-hole.ensures free
