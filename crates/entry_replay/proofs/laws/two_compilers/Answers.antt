use Rattle.entry_replay.proofs.Composed.{carries_through}
use Rattle.entry_replay.proofs.laws.two_compilers.Goals as goal

pub returns : goal.returns
returns g c = λ from middle to procs most one two. carries_through from middle to g.B.Related.related g.C.Related.related procs most one two
