use Rattle.entry_replay.proofs.Determined.{determined}
use Rattle.entry_replay.proofs.Replayed.{one_replay}
use Rattle.entry_replay.proofs.laws.one_replay.Goals as goal

pub returns : goal.returns
returns g c = record {
  run = λ step cells touched turns m s acc acc' w w' e e' one other.
      let same = determined step cells touched turns m s acc acc' w w' e e' one other in
      (same.accesses, same.stores, same.end);
  replay = λ sys rt turns first schedule world world' xs ys one other.
      let same = one_replay sys rt turns first schedule world world' xs ys one other in
      (same.common, same.states);
}
