use Rattle.entry_replay.proofs.Replayed.{carries_replay, answers_replay}
use Rattle.entry_replay.proofs.laws.compilation.Goals as goal

pub returns : goal.returns
returns g c = record {
  carried = λ from to rt turns most first carried lawful some schedule world xs few run.
      let there = carries_replay from to g.B.Related.related rt turns most first carried lawful some schedule world xs few run in
      (there.states, there.replay, there.paired);
  answered = λ from to rt turns most first carried lawful some ends schedule world ys few run.
      let here = answers_replay from to g.B.Related.related rt turns most first carried lawful some ends schedule world ys few run in
      (here.states, here.replay, here.paired);
}
