use Rattle.std.proofs.Common.{◌≡◌}
use Rattle.commit_lock.specs.Meanings.{parts_of, IsOf}
use Rattle.lock_bench.proofs.meet.await_number.Given as goal

abbrev pub invariant-loop : goal.invariant-loop
invariant-loop g l = IsOf l.lock l.seat × (parts_of l.seat ≡ parts_of l.initial.seat)
