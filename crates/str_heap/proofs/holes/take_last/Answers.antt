use Rattle.std.proofs.Common.{arith, ◌-◌, ◌<◌, ◌≡◌, length}
use Rattle.str_heap.proofs.FirstRun.{front_alone, end_alone}
use Rattle.str_heap.proofs.Runs.{read_small, removes_at_whole, short_here}
use Rattle.str_heap.proofs.holes.take_last.Goals as goal

pub overflow_add-last : goal.overflow_add-last
overflow_add-last c =
    omega (arith, read_small c.args.holes.now.items (c.len-count.result - 1) c.index-last.result.now c.requires.spaced (omega arith) c.index-last.ensures)

pub returns-clause-taken : goal.returns-clause-taken
returns-clause-taken c =
    let h = c.index-last.result.now in
    let i = c.len-count.result - 1 in
    let lt : i < length c.args.holes.now.items = omega arith in
    let size : h.size ≡ c.args.end - h.place = omega (arith, c.if-last-end.false) in
    let some = read_small c.args.holes.now.items i h c.requires.spaced lt c.index-last.ensures in
    rw c.remove.ensures.items
    (removes_at_whole (c.args.end - h.place) c.args.holes.now.items i h (omega (arith, some.0)) c.requires.spaced lt c.index-last.ensures size)

pub returns-clause-short : goal.returns-clause-short
returns-clause-short c = λ n some none.
    let lt : c.len-count.result - 1 < length c.args.holes.now.items = omega arith in
    omega (arith, c.if-last-end.false, short_here n c.args.holes.now.items (c.len-count.result - 1) c.index-last.result.now none lt c.index-last.ensures)

pub returns-then-last-end-clause-alone : goal.returns-then-last-end-clause-alone
returns-then-last-end-clause-alone c = λ known b at_end.
    end_alone c.args.holes.now.items (c.len-count.result - 1) c.index-last.result.now c.args.end b c.requires.spaced (omega arith) c.index-last.ensures c.if-last-end.true known at_end

pub returns-clause-alone : goal.returns-clause-alone
returns-clause-alone c = λ known b at_front.
    front_alone c.args.holes.now.items (c.len-count.result - 1) c.index-last.result.now b c.requires.spaced (omega arith) c.index-last.ensures at_front
