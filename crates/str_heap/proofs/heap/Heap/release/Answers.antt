use Rattle.std.proofs.Common.{arith, ◌≡◌, true, false, List, ℕ, subst, sym}
use Rattle.str_heap.specs.Blocks.{within, is_free, Adds}
use Rattle.str_heap.specs.Payloads.{IsLive, contents}
use Rattle.str_heap.proofs.Keeping.{taken_here, has_one, released_sound}
use Rattle.str_heap.proofs.Live.{begins, size_here, place_within, released, released_keeps}
use Rattle.str_heap.proofs.heap.Heap.release.Goals as goal

pub index_mut-requires : goal.index_mut-requires
index_mut-requires c =
    let L = c.self.inside.lengths.items in
    let A = c.self.inside.arena.items in
    let d = c.args.d in
    let l : IsLive (contents L A) d = subst (λ (t : List (List ℕ)). IsLive t d) (sym c.self.view_is) c.requires in
    let b = begins L A c.self.inside.holes c.self.inside.live d c.self.invariant l (omega arith) in
    omega (arith, c.self.invariant.inside d.place b)

pub overflow_sub-self : goal.overflow_sub-self
overflow_sub-self c =
    let L = c.self.inside.lengths.items in
    let A = c.self.inside.arena.items in
    let d = c.args.d in
    let l : IsLive (contents L A) d = subst (λ (t : List (List ℕ)). IsLive t d) (sym c.self.view_is) c.requires in
    let b = begins L A c.self.inside.holes c.self.inside.live d c.self.invariant l (omega arith) in
    has_one L A c.self.inside.holes c.self.inside.live c.self.invariant d.place b

pub put-requires-clause-small : goal.put-requires-clause-small
put-requires-clause-small c =
    let L = c.self.inside.lengths.items in
    let A = c.self.inside.arena.items in
    let d = c.args.d in
    let l : IsLive (contents L A) d = subst (λ (t : List (List ℕ)). IsLive t d) (sym c.self.view_is) c.requires in
    omega (arith, place_within L A c.self.inside.holes c.self.inside.live d c.self.invariant l (omega arith))

pub put-requires-clause-taken : goal.put-requires-clause-taken
put-requires-clause-taken c =
    let L = c.self.inside.lengths.items in
    let A = c.self.inside.arena.items in
    let d = c.args.d in
    let H = c.self.inside.holes in
    let l : IsLive (contents L A) d = subst (λ (t : List (List ℕ)). IsLive t d) (sym c.self.view_is) c.requires in
    let b = begins L A H c.self.inside.live d c.self.invariant l (omega arith) in
    let e = size_here L A H c.self.inside.live d c.self.invariant l (omega arith) in
    subst (λ (n : ℕ). (k : ℕ) → within d.place n k ≡ true → is_free H.spans k ≡ false) (sym e) (taken_here L A H c.self.inside.live c.self.invariant d.place b)

pub put-requires-clause-room : goal.put-requires-clause-room
put-requires-clause-room c =
    let L = c.self.inside.lengths.items in
    let A = c.self.inside.arena.items in
    let d = c.args.d in
    let l : IsLive (contents L A) d = subst (λ (t : List (List ℕ)). IsLive t d) (sym c.self.view_is) c.requires in
    let b = begins L A c.self.inside.holes c.self.inside.live d c.self.invariant l (omega arith) in
    omega (arith, has_one L A c.self.inside.holes c.self.inside.live c.self.invariant d.place b, c.self.invariant.roomy)

pub invariant_of-self : goal.invariant_of-self
invariant_of-self c =
    let L = c.self.inside.lengths.items in
    let A = c.self.inside.arena.items in
    let d = c.args.d in
    let H = c.self.inside.holes in
    let l : IsLive (contents L A) d = subst (λ (t : List (List ℕ)). IsLive t d) (sym c.self.view_is) c.requires in
    let b = begins L A H c.self.inside.live d c.self.invariant l (omega arith) in
    let e = size_here L A H c.self.inside.live d c.self.invariant l (omega arith) in
    released_sound L A H c.self.inside.live c.self.invariant d.place b c.put.new.self
    (subst (λ (n : ℕ). Adds n d.place H.spans c.put.new.self.spans) e c.put.ensures.added) c.put.ensures.room

pub returns-clause-released : goal.returns-clause-released
returns-clause-released c =
    let L = c.self.inside.lengths.items in
    let A = c.self.inside.arena.items in
    let d = c.args.d in
    let l : IsLive (contents L A) d = subst (λ (t : List (List ℕ)). IsLive t d) (sym c.self.view_is) c.requires in
    rw (← c.self.view_is) (released L A c.self.inside.holes c.self.inside.live d c.self.invariant l (omega arith))

pub returns-clause-kept : goal.returns-clause-kept
returns-clause-kept c = released_keeps _ _ _ (returns-clause-released c)
