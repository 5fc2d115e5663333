use Rattle.std.proofs.Common.{◌≡◌, ◌≤◌, ◌*◌, Some, drop}
use Rattle.overload_pick.specs.Costs.{add_costs, sum_of}
use Rattle.overload_pick.proofs.cost.sum.Given as goal

abbrev pub invariant-loop-i : goal.invariant-loop-i
invariant-loop-i l = record {
  added : add_costs (Some l.total) (sum_of (drop l.i l.args) (drop l.i l.params)) ≡ sum_of l.args l.params;
  small : l.total ≤ 2 * l.i;
}
