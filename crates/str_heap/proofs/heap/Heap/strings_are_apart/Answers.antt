use Rattle.std.proofs.Common.{List, ℕ, ◌<◌, ◌≤◌, ◌+◌, subst}
use Rattle.fb_base.specs.declared.shape.Desc.{Desc}
use Rattle.str_heap.specs.Payloads.{IsLive}
use Rattle.str_heap.proofs.Live.{apart_here}
use Rattle.str_heap.proofs.heap.Heap.strings_are_apart.Goals as goal

pub returns : goal.returns
returns c =
    subst (λ (t : List (List ℕ)). (d e : Desc) → IsLive t d → IsLive t e → 0 < d.length → 0 < e.length → d.place < e.place → d.place + d.size ≤ e.place) c.self.view_is
    (apart_here c.self.inside.lengths.items c.self.inside.arena.items c.self.inside.holes c.self.inside.live c.self.invariant)
