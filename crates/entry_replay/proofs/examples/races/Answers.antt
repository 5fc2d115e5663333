use Rattle.std.proofs.Common.{refl}
use Rattle.entry_replay.proofs.Comes.{comes}
use Rattle.entry_replay.proofs.examples.races.Goals as goal

pub returns : goal.returns
returns c = record {
  two_writers = comes _ _ _ _ refl;
  neighbours = comes _ _ _ _ refl;
  late_reader = comes _ _ _ _ refl;
  early_reader = comes _ _ _ _ refl;
  woken_reader = comes _ _ _ _ refl;
  closed_byte = comes _ _ _ _ refl;
  strings_by_rule_1 = comes _ _ _ _ refl;
  strings_by_rule_0 = comes _ _ _ _ refl;
}
