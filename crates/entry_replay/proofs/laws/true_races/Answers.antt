use Rattle.entry_replay.proofs.Races.{races_there, there_it_races, reported}
use Rattle.entry_replay.proofs.laws.true_races.Goals as goal

pub returns : goal.returns
returns g c = record { races_there = races_there; there_it_races = there_it_races; reported = reported }
