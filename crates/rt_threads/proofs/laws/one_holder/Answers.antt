use Rattle.rt_threads.proofs.Evolves.{call_evolves}
use Rattle.rt_threads.proofs.Holds.{taken_by_lock, goes_as_holder}
use Rattle.rt_threads.proofs.laws.one_holder.Goals as goal

pub returns : goal.returns
returns c = record {
  locked = taken_by_lock;
  woken = goes_as_holder;
  held = λ call t now id holder old new k. (call_evolves call t now old new k).held id holder;
}
