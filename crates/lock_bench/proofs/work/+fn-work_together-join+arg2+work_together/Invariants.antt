use Rattle.std.proofs.Common.{◌+◌, ◌*◌}
use Rattle.lock_bench.proofs.work.+fn-work_together-join+arg2+work_together.Given as goal

-- the closure has one worker less than the call that makes it
abbrev pub decreases-join+arg2 : goal.decreases-join+arg2
decreases-join+arg2 g l = 2 * l.fewer + 1

abbrev pub decreases-work_together : goal.decreases-work_together
decreases-work_together g l = 2 * l.workers
