use Rattle.run_calls.proofs.Closing.{closed_as_seen, closed_none_as_seen}
use Rattle.run_calls.proofs.laws.closes_as_seen.Goals as goal

pub returns : goal.returns
returns c = record { closed = closed_as_seen; none = closed_none_as_seen }
