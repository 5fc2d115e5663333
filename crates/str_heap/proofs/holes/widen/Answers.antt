use Rattle.std.proofs.Common.{arith, ◌+◌, add-one, refl}
use Rattle.str_heap.proofs.Runs.{read_small, widen_joined, widen_apart, widen_last}
use Rattle.str_heap.proofs.holes.widen.Goals as goal
use Rattle.str_heap.proofs.holes.widen.Goals.{then-j-len+else-right-left, else-j-len}

pub overflow_add-left-then-right-left-2 : goal.overflow_add-left-then-right-left-2
overflow_add-left-then-right-left-2 c =
    omega (arith, read_small c.args.holes.now.items (c.args.j + 1) c.index-right.result.now c.requires.spaced (omega arith) c.index-right.ensures)

pub returns-then-right-left-clause-added : goal.returns-then-right-left-clause-added
returns-then-right-left-clause-added c =
    let z = widen_joined c.args.n (c.args.left.place + c.args.left.size) c.requires.some c.requires.small c.args.holes.now.items c.requires.spaced c.requires.taken c.args.j c.args.left c.requires.here.0 c.requires.here.1 refl c.index-right.result.now (omega arith) (rw add-one at c.index-right.ensures) c.if-right-left.true in
    rw (c.remove.ensures.items, add-one) z

pub returns-clause-added : goal.returns-clause-added
returns-clause-added c =
    elim c.if-j-len.branch [
      | then-j-len+else-right-left w ↦ widen_apart c.args.n (c.args.left.place + c.args.left.size) c.requires.some c.requires.small c.args.holes.now.items c.requires.spaced c.requires.taken c.args.j c.args.left c.requires.here.0 c.requires.here.1 refl w.index-right.result.now (omega arith) (rw add-one at w.index-right.ensures) w.if-right-left.false
      | else-j-len w ↦ widen_last c.args.n (c.args.left.place + c.args.left.size) c.requires.some c.requires.small c.args.holes.now.items c.requires.spaced c.requires.taken c.args.j c.args.left c.requires.here.0 c.requires.here.1 refl (omega arith)
    ]
