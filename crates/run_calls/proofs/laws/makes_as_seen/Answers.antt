use Rattle.run_calls.proofs.Making.{made_as_seen, made_none_as_seen}
use Rattle.run_calls.proofs.laws.makes_as_seen.Goals as goal

pub returns : goal.returns
returns c = record { made = made_as_seen; none = made_none_as_seen }
