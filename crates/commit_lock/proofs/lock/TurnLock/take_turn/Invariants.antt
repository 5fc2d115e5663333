use Rattle.std.proofs.Common.{◌≡◌}
use Rattle.commit_lock.proofs.lock.TurnLock.take_turn.Given as goal

abbrev pub invariant-loop : goal.invariant-loop
invariant-loop g l = (l.turn.table_id ≡ l.initial.turn.table_id) × (l.turn.me ≡ l.initial.turn.me)
