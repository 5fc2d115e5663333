use Rattle.std.proofs.Common.{◌≡◌}
use Rattle.commit_lock.specs.Meanings.{base_of, parts_of, IsOf}
use Rattle.lock_bench.proofs.work.work.Given as goal

abbrev pub invariant-loop-round : goal.invariant-loop-round
invariant-loop-round g l = IsOf l.lock l.seat × (base_of l.seat ≡ base_of l.initial.seat) × (parts_of l.seat ≡ parts_of l.initial.seat)
