use Rattle.run_calls.proofs.Threads.{some_ready, any_ready}
use Rattle.run_calls.proofs.laws.ready_threads.Goals as goal

pub returns : goal.returns
returns c = record { some = λ program x. some_ready x.table.threads; any = λ program x. any_ready x.table.threads }
