use Rattle.std.proofs.Common.{ap, sym, ◌∙◌, not, ◌==◌, ℕ, List, get_or}
use Rattle.rt_threads.specs.declared.kinds.Thread.{Thread}
use Rattle.rt_threads.specs.Table.{gave_up}
use Rattle.rt_threads.proofs.Counts.{any_count}
use Rattle.rt_threads.proofs.threads.Threads.is_wanted.Goals as goal

pub returns : goal.returns
returns c =
    rw (← c.self.view_is) (any_count (λ (thread : Thread). gave_up c.args.id thread.state) c.self.inside.parts.threads
    ∙ ap (λ (z : ℕ). not (z == 0)) (sym (c.self.invariant.wanted c.args.id) ∙ (ap (λ (z : List ℕ). get_or z c.args.id 0) (sym c.deref.ensures.value) ∙ c.count_at.ensures)))
