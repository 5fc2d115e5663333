use Rattle.std.proofs.Common.{refl}
use Rattle.entry_replay.proofs.Comes.{comes}
use Rattle.entry_replay.proofs.examples.endings.Goals as goal

pub returns : goal.returns
returns c = record {
  early_end = comes _ _ _ _ refl;
  all_idle = comes _ _ _ _ refl;
  eleven_turns = comes _ _ _ _ refl;
  ten_turns = comes _ _ _ _ refl;
  bad_read = comes _ _ _ _ refl;
}
