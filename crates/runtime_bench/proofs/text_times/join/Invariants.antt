use Rattle.text_calls.specs.Strings.{AreKept}
use Rattle.runtime_bench.proofs.text_times.join.Given as goal

abbrev pub invariant-loop-round : goal.invariant-loop-round
invariant-loop-round l = AreKept l.mem l.heap
