use Rattle.std.proofs.Common.{List, ℕ, sym, subst}
use Rattle.str_heap.specs.Payloads.{IsLive, contents}
use Rattle.str_heap.proofs.Live.{set_changes, set_within, set_sound, changed_keeps}
use Rattle.str_heap.proofs.heap.Heap.set_byte.Goals as goal

pub set_at-requires : goal.set_at-requires
set_at-requires c =
    let L = c.self.inside.lengths.items in
    let A = c.self.inside.arena.items in
    let l : IsLive (contents L A) c.args.d = subst (λ (t : List (List ℕ)). IsLive t c.args.d) (sym c.self.view_is) c.requires.live in
    set_within L A c.self.inside.holes c.self.inside.live c.args.d c.self.invariant l c.args.i c.args.byte c.requires.index

pub invariant_of-self : goal.invariant_of-self
invariant_of-self c =
    let L = c.self.inside.lengths.items in
    let A = c.self.inside.arena.items in
    let l : IsLive (contents L A) c.args.d = subst (λ (t : List (List ℕ)). IsLive t c.args.d) (sym c.self.view_is) c.requires.live in
    rw c.set_at.ensures (set_sound L A c.self.inside.holes c.self.inside.live c.args.d c.self.invariant l c.args.i c.args.byte c.requires.index)

pub returns-clause-changed : goal.returns-clause-changed
returns-clause-changed c =
    let L = c.self.inside.lengths.items in
    let A = c.self.inside.arena.items in
    let l : IsLive (contents L A) c.args.d = subst (λ (t : List (List ℕ)). IsLive t c.args.d) (sym c.self.view_is) c.requires.live in
    rw (c.set_at.ensures, ← c.self.view_is) (set_changes L A c.self.inside.holes c.self.inside.live c.args.d c.self.invariant l c.args.i c.args.byte c.requires.index)

pub returns-clause-kept : goal.returns-clause-kept
returns-clause-kept c = changed_keeps _ _ _ _ (returns-clause-changed c)
