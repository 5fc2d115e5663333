use Rattle.std.proofs.Common.{arith, ◌-◌, ◌≤◌, ◌≡◌, ap, ◌∙◌, inl, inr, take}
use Rattle.str_heap.specs.Blocks.{before}
use Rattle.str_heap.proofs.Runs.{read_small, before-le, after, gap, room, put_between_at, put_before_at}
use Rattle.str_heap.proofs.holes.put_back.Goals as goal
use Rattle.str_heap.proofs.holes.put_back.Goals.{then-i-gt0+else-left-place, else-i-gt0, then-i-len+else-right-place, else-i-len}

pub index-left-requires : goal.index-left-requires
index-left-requires c =
    let is : c.before-i.result ≡ before c.args.place c.args.holes.now.items = c.before-i.ensures ∙ ap (before c.args.place) c.as_slice.ensures.value in
    omega (arith, before-le c.args.place c.args.holes.now.items)

pub overflow_add-left : goal.overflow_add-left
overflow_add-left c =
    let is : c.before-i.result ≡ before c.args.place c.args.holes.now.items = c.before-i.ensures ∙ ap (before c.args.place) c.as_slice.ensures.value in
    omega (arith, read_small c.args.holes.now.items (c.before-i.result - 1) c.index-left.result.now c.requires.spaced (omega (arith, before-le c.args.place c.args.holes.now.items)) c.index-left.ensures)

pub widen-requires-clause-here : goal.widen-requires-clause-here
widen-requires-clause-here c =
    let is : c.before-i.result ≡ before c.args.place c.args.holes.now.items = c.before-i.ensures ∙ ap (before c.args.place) c.as_slice.ensures.value in
    (omega (arith, before-le c.args.place c.args.holes.now.items), c.index-left.ensures)

pub overflow_add-n : goal.overflow_add-n
overflow_add-n c =
    omega (arith, read_small c.args.holes.now.items c.before-i.result c.index-right.result.now c.requires.spaced (omega arith) c.index-right.ensures)

pub returns-then-right-place-clause-added : goal.returns-then-right-place-clause-added
returns-then-right-place-clause-added c =
    let hs = c.args.holes.now.items in
    let i = c.before-i.result in
    let is : i ≡ before c.args.place hs = c.before-i.ensures ∙ ap (before c.args.place) c.as_slice.ensures.value in
    let free : after 0 (take (before c.args.place hs) hs) ≤ c.args.place =
    gap c.args.n c.args.place c.requires.some c.requires.small hs c.requires.spaced c.requires.taken i is
    (elim c.if-i-gt0.branch [
      | then-i-gt0+else-left-place w ↦ inr (w.index-left.result.now, w.if-i-gt0.true, w.index-left.ensures, w.if-left-place.false)
      | else-i-gt0 w ↦ inl (omega arith)
    ])
    in
    put_before_at c.args.n c.args.place c.requires.some c.requires.small hs c.requires.spaced c.requires.taken i is c.index-right.result.now (omega arith) c.index-right.ensures c.if-right-place.true free

pub insert-requires : goal.insert-requires
insert-requires c =
    let is : c.before-i.result ≡ before c.args.place c.args.holes.now.items = c.before-i.ensures ∙ ap (before c.args.place) c.as_slice.ensures.value in
    omega (arith, before-le c.args.place c.args.holes.now.items)

pub returns-clause-added : goal.returns-clause-added
returns-clause-added c =
    let hs = c.args.holes.now.items in
    let i = c.before-i.result in
    let is : i ≡ before c.args.place hs = c.before-i.ensures ∙ ap (before c.args.place) c.as_slice.ensures.value in
    rw c.in-Ok.ensures.items
    (put_between_at c.args.n c.args.place c.requires.some c.requires.small hs c.requires.spaced c.requires.taken i is
    (gap c.args.n c.args.place c.requires.some c.requires.small hs c.requires.spaced c.requires.taken i is
    (elim c.if-i-gt0.branch [
      | then-i-gt0+else-left-place w ↦ inr (w.index-left.result.now, w.if-i-gt0.true, w.index-left.ensures, w.if-left-place.false)
      | else-i-gt0 w ↦ inl (omega arith)
    ]))
    (room c.args.n c.args.place c.requires.some c.requires.small hs c.requires.spaced c.requires.taken i is
    (elim c.if-i-len.branch [
      | then-i-len+else-right-place w ↦ inr (w.index-right.result.now, omega arith, w.index-right.ensures, w.if-right-place.false)
      | else-i-len w ↦ inl (omega arith)
    ])))
