use Rattle.text_calls.specs.Strings.{AreKept}
use Rattle.runtime_bench.proofs.text_calls_tests.try_rows.Given as goal

abbrev pub invariant-loop-row : goal.invariant-loop-row
invariant-loop-row g l = AreKept l.mem l.heap
