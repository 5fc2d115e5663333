use Rattle.run_calls.proofs.Keeps.{keeps_to}
use Rattle.run_calls.proofs.laws.keeps_to.Goals as goal

pub returns : goal.returns
returns c = keeps_to
