use Rattle.run_calls.proofs.Freeing.{freed_as_seen, freed_none_as_seen, begun_as_seen, begun_none_as_seen}
use Rattle.run_calls.proofs.laws.frees_as_seen.Goals as goal

pub returns : goal.returns
returns c = record { freed = freed_as_seen; none_freed = freed_none_as_seen; begun = begun_as_seen; none_begun = begun_none_as_seen }
