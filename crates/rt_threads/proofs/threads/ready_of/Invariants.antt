use Rattle.std.proofs.Common.{◌≡◌, filter, take}
use Rattle.rt_threads.specs.Table.{is_ready, state_at}
use Rattle.rt_threads.proofs.threads.ready_of.Given as goal

abbrev pub invariant-loop-number : goal.invariant-loop-number
invariant-loop-number l = l.list.items ≡ filter (λ number. is_ready (state_at l.parts number)) (take l.number-index l.numbers)
