use Rattle.entry_replay.proofs.Ends.{always_comes}
use Rattle.entry_replay.proofs.laws.runs_end.Goals as goal

pub returns : goal.returns
returns g c = λ step size lessens cells touched turns m s good. always_comes g.row.S.Denot step cells touched g.S.Graded.good size lessens turns m s good
