use Rattle.std.proofs.Common.{take}
use Rattle.overload_pick.specs.Costs.{sums_of}
use Rattle.overload_pick.specs.Best.{IsBest}
use Rattle.overload_pick.proofs.choosing.pick.Given as goal

abbrev pub invariant-loop-i : goal.invariant-loop-i
invariant-loop-i l = IsBest (sums_of l.args (take l.i l.cands)) l.best
