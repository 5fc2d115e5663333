use Rattle.std.proofs.Common.{arith}
use Rattle.std.proofs.lemmas.List.{length_push}
use Rattle.rt_threads.proofs.Evolves.{call_evolves}
use Rattle.rt_threads.proofs.laws.ids_are_new.Goals as goal

pub returns : goal.returns
returns c = record {
  next = λ handle table. omega (arith, length_push table.handles handle);
  above = λ call t now old new k. omega (arith, (call_evolves call t now old new k).ids);
  gone = λ call t now id old new k. (call_evolves call t now old new k).gone id;
}
