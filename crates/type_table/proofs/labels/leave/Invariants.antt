use Rattle.std.proofs.Common.{vec_len}
use Rattle.type_table.proofs.labels.leave.Given as goal

abbrev pub decreases-loop-one : goal.decreases-loop-one
decreases-loop-one l = vec_len l.search.open
