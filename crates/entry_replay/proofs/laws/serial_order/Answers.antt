use Rattle.entry_replay.proofs.Races.{serial_order as runs_again, entry_of_record}
use Rattle.entry_replay.proofs.laws.serial_order.Goals as goal

pub returns : goal.returns
returns g c = record { outcome = runs_again; entry = entry_of_record }
