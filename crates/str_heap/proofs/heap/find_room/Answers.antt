use Rattle.std.proofs.Common.{arith, ◌≡◌, ◌<◌, ◌+◌, ◌-◌, ◌*◌, true, false, ◌++◌, ap, subst, sym, ◌∙◌, length, replicate, ℕ, List, None}
use Rattle.str_heap.specs.declared.holes.Hole.{Hole}
use Rattle.str_heap.specs.Blocks.{is_free, Removes, fit_at}
use Rattle.str_heap.proofs.Keeping.{finds_first, finds_end}
use Rattle.str_heap.proofs.heap.find_room.Goals as goal

pub returns-in-Some-clause-found : goal.returns-in-Some-clause-found
returns-in-Some-clause-found c =
    finds_first c.args.n c.in-Some.place c.args.lengths.now.items c.args.arena.now.items c.args.holes.now c.take.new.self c.requires.some c.requires.sized c.requires.known (sym c.in-Some.ensures.room) c.in-Some.ensures.taken c.in-Some.ensures.first

pub returns-clause-found : goal.returns-clause-found
returns-clause-found c =
    let L = c.args.lengths.now.items in
    let A = c.args.arena.now.items in
    let H = c.args.holes.now in
    let H' = c.take_tail-place.new.self in
    let p = c.take_tail-place.result in
    let n = c.args.n in
    let m = n - (c.len-end.result - p) in
    let same = c.in_default.ensures.same in
    let end : c.len-end.result ≡ length L = omega (arith, ap length c.in_ok-reserve.ensures.items) in
    let none : fit_at n c.take.new.self.spans ≡ None = ap (fit_at n) same ∙ c.in_default.ensures.none in
    finds_end n p m L A c.grow.new.lengths.items c.grow.new.arena.items H H'
    (omega (arith, c.take_tail-place.ensures.below)) (omega (arith, c.take_tail-place.ensures.short n c.requires.some none)) (omega arith)
    (c.grow.ensures.lengths ∙ ap (λ (t : List ℕ). t ++ replicate m 0) c.in_ok-reserve.ensures.items)
    (c.grow.ensures.arena ∙ ap (λ (t : List ℕ). t ++ replicate (16 * m) 0) c.in_ok-reserve-2.ensures.items)
    c.requires.sized c.requires.known (sym (c.take_tail-place.ensures.room ∙ c.in_default.ensures.room))
    (subst (λ (k : ℕ). Removes (k - p) p H.spans H'.spans) end
    (subst (λ (t : List Hole). Removes (c.len-end.result - p) p t H'.spans) same c.take_tail-place.ensures.taken))
    c.in_default.ensures.full
    (subst (λ (t : List Hole). ((b : ℕ) → is_free t b ≡ true → b < c.len-end.result) → (b : ℕ) → b + 1 ≡ p → is_free t b ≡ false) same c.take_tail-place.ensures.alone
    (λ b free. omega (arith, c.requires.known b free)))
