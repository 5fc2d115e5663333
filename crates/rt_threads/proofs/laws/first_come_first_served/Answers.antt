use Rattle.rt_threads.proofs.Evolves.{call_evolves}
use Rattle.rt_threads.proofs.laws.first_come_first_served.Goals as goal

pub returns : goal.returns
returns c = λ call t now id old new k. (call_evolves call t now old new k).queues id
