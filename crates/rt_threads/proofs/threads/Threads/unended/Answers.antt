use Rattle.std.proofs.Common.{arith, ap, length, List, ℕ}
use Rattle.rt_threads.specs.Rows.{goes_on}
use Rattle.rt_threads.proofs.Counts.{length_numbers}
use Rattle.rt_threads.proofs.threads.Threads.unended.Goals as goal

pub returns : goal.returns
returns c =
    rw (← c.self.view_is) (omega (arith, length_numbers goes_on 0 c.self.inside.parts.threads, ap (λ (z : List ℕ). length z) c.self.invariant.rising, c.self.inside.unended.ok.0, c.len.ensures))
