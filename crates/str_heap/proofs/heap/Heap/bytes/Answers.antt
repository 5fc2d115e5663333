use Rattle.std.proofs.Common.{arith, ◌*◌, List, ℕ, take, drop, length, ap, subst, sym, ◌∙◌}
use Rattle.str_heap.specs.Payloads.{IsLive, contents, bytes_of}
use Rattle.str_heap.proofs.Live.{bytes_within, bytes_read}
use Rattle.str_heap.proofs.heap.Heap.bytes.Goals as goal

pub overflow_mul-d : goal.overflow_mul-d
overflow_mul-d c =
    let L = c.self.inside.lengths.items in
    let A = c.self.inside.arena.items in
    let d = c.args.d in
    let l : IsLive (contents L A) d = subst (λ (t : List (List ℕ)). IsLive t d) (sym c.self.view_is) c.requires in
    omega (arith, bytes_within L A c.self.inside.holes c.self.inside.live d c.self.invariant l (omega arith))

pub part-requires : goal.part-requires
part-requires c =
    let L = c.self.inside.lengths.items in
    let A = c.self.inside.arena.items in
    let d = c.args.d in
    let l : IsLive (contents L A) d = subst (λ (t : List (List ℕ)). IsLive t d) (sym c.self.view_is) c.requires in
    omega (arith, bytes_within L A c.self.inside.holes c.self.inside.live d c.self.invariant l (omega arith), ap length c.as_slice-arena.ensures.value)

pub returns : goal.returns
returns c =
    let L = c.self.inside.lengths.items in
    let A = c.self.inside.arena.items in
    let d = c.args.d in
    let l : IsLive (contents L A) d = subst (λ (t : List (List ℕ)). IsLive t d) (sym c.self.view_is) c.requires in
    let e = bytes_read L A c.self.inside.holes c.self.inside.live d c.self.invariant l (omega arith) in
    c.part.ensures ∙ ap (λ (t : List ℕ). take d.length (drop (16 * d.place) t)) c.as_slice-arena.ensures.value ∙ e ∙ ap (λ (t : List (List ℕ)). bytes_of t d) c.self.view_is
