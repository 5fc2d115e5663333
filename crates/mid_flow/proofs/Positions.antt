use Rattle.std.proofs.Common.{suc, ◌∷◌, refl, subst, sym}
use Rattle.mid_flow.specs.Structure.{Broken, Nothing, Then, When, Loop, LeaveUnless, Round, End, spot}
use Rattle.mid_flow.specs.Flat.{flat, end_of}
use Rattle.mid_flow.specs.Laws.{FlatLies}
use Rattle.mid_flow.specs.Standing.{Hops, at, then_lies, when_lies, loop_lies, leave_lies, round_lies, end_lies}

-- Flattened code stands where it was flattened to, and what follows stands at its end.
pub flat_lies : FlatLies
flat_lies ops lines Broken ss k more whole out h = absurd whole
flat_lies ops lines Nothing ss k more whole out h = absurd whole
flat_lies ops lines (Then op line rest) ss k more whole out h =
    let r = flat_lies ops lines rest ss (suc k) more whole.1 out h.1 in
    (then_lies ss op line rest k k (at k) h.0 r.0, r.1)
flat_lies ops lines (When test line body rest) ss k more whole out h =
    let last = end_of body (suc k) in
    let b = flat_lies ops lines body (spot last 0 ∷ ss) (suc k) (flat rest ss last more) whole.0 refl h.1 in
    let r = flat_lies ops lines rest ss last more whole.1 out b.1 in
    (when_lies ss test line body rest k k last 0 (at k) h.0 b.0 r.0, r.1)
flat_lies ops lines (Loop body rest) ss k more whole out h =
    let last = end_of body k in
    let b = flat_lies ops lines body (spot last k ∷ ss) k (flat rest ss last more) whole.0 refl h in
    let r = flat_lies ops lines rest ss last more whole.1 out b.1 in
    (loop_lies ss body rest k k last (at k) b.0 r.0, r.1)
flat_lies ops lines (LeaveUnless test line rest) ss k more whole out h =
    let r = flat_lies ops lines rest ss (suc k) more whole out h.1 in
    (leave_lies ss test line rest k k (at k) h.0 r.0, r.1)
flat_lies ops lines (Round line) ss k more whole out h = (round_lies ss line k k (at k) h.0, h.1)
flat_lies ops lines End ss k more whole out h = (end_lies ss k (subst (λ n. Hops ops lines k n) (sym out) (at k)), h)
