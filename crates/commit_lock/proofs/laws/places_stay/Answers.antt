use Rattle.commit_lock.proofs.Begins.{prefix_get, prefix_length}
use Rattle.commit_lock.proofs.laws.places_stay.Goals as goal

pub returns-clause-stays : goal.returns-clause-stays
returns-clause-stays c = prefix_get

pub returns-clause-rises : goal.returns-clause-rises
returns-clause-rises c = prefix_length
