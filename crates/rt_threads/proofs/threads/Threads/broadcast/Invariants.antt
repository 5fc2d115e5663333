use Rattle.std.proofs.Common.{◌≡◌, length, true}
use Rattle.rt_threads.specs.Table.{IsReady, handle_at, queue_at}
use Rattle.rt_threads.specs.Rows.{is_condition, wake_times}
use Rattle.rt_threads.proofs.threads.Threads.broadcast.Given as goal

abbrev pub invariant-loop : goal.invariant-loop
invariant-loop l = record {
  condition : is_condition (handle_at l.self l.id) ≡ true;
  ready : IsReady l.self l.t;
  same : wake_times (length (queue_at l.self l.id)) l.id l.now l.self ≡ wake_times (length (queue_at l.initial.self l.id)) l.id l.now l.initial.self;
}

abbrev pub decreases-loop : goal.decreases-loop
decreases-loop l = length (queue_at l.self l.id)
