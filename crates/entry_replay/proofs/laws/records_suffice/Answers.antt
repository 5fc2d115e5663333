use Rattle.entry_replay.proofs.Alike.{same_answers}
use Rattle.entry_replay.proofs.Firsts.{raced_firsts, stamp_is}
use Rattle.entry_replay.proofs.History.{stands}
use Rattle.entry_replay.proofs.laws.records_suffice.Goals as goal

pub returns : goal.returns
returns g c = record {
  answers = same_answers;
  firsts = raced_firsts;
  falls = λ sys rt turns first lawful schedule world states run. (stands sys rt turns first lawful schedule world states run).falls;
  stamp = stamp_is;
}
