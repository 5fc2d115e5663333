use Rattle.std.proofs.Common.{sym, subst, lit≤}
use Rattle.places.specs.Memory.{Places}
use Rattle.text_calls.specs.Strings.{AreKept}
use Rattle.text_calls.proofs.Others.{none_kept, made_kept}
use Rattle.runtime_bench.proofs.text_calls_tests.five_cells.Goals as goal

pub returns : goal.returns
returns c =
    made_kept _ _ _ _ _ _ c.args.heap.now c.in_ok-shape.ensures (lit≤ tt) c.in_ok-make.ensures (subst (λ (m : Places). AreKept m c.args.heap.now) (sym c.new-mem.ensures) (none_kept c.args.heap.now))
