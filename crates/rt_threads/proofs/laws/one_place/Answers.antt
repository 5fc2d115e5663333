use Rattle.rt_threads.proofs.Grown.{first_kept}
use Rattle.rt_threads.proofs.CallStands.{call_stands}
use Rattle.rt_threads.proofs.laws.one_place.Goals as goal

pub returns : goal.returns
returns c = record { first = λ proc. (first_kept proc).stands; calls = call_stands }
