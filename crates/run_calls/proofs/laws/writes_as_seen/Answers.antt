use Rattle.run_calls.proofs.Writing.{written_as_seen}
use Rattle.run_calls.proofs.laws.writes_as_seen.Goals as goal

pub returns : goal.returns
returns c = written_as_seen
