use Rattle.rt_threads.proofs.CallStands.{left_queue}
use Rattle.rt_threads.proofs.laws.waits_until_woken.Goals as goal

pub returns : goal.returns
returns c = left_queue
