use Rattle.rt_threads.proofs.Starts.{call_starts, call_begins, created_thread}
use Rattle.rt_threads.proofs.laws.starts.Goals as goal

pub returns : goal.returns
returns c = record {
  others = call_starts;
  caller = λ call t now old new k e. (call_begins call t now old new k e).caller;
  created = created_thread;
}
