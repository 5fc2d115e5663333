use Rattle.std.proofs.Common.{sym, subst, lit≤}
use Rattle.places.specs.Memory.{Places}
use Rattle.text_calls.specs.Strings.{AreKept}
use Rattle.runtime_bench.proofs.text_times.three_cells.Goals as goal

pub returns-in-Ok : goal.returns-in-Ok
returns-in-Ok c =
    c.strings_stay.ensures.made _ _ _ _ _ _ c.args.heap.now c.in_ok-shape.ensures (lit≤ tt) c.in-Ok.ensures (subst (λ (m : Places). AreKept m c.args.heap.now) (sym c.new-mem.ensures) (c.strings_stay.ensures.none c.args.heap.now))
