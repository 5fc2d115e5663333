use Rattle.std.proofs.Common.{sym}
use Rattle.overload_pick.proofs.Sums.{no_sum_between}
use Rattle.overload_pick.proofs.cost.sum.Goals as goal

pub returns-then-args-params : goal.returns-then-args-params
returns-then-args-params c = sym (no_sum_between c.args.args.now c.args.params.now c.if-args-params.true)
