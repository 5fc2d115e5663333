use Rattle.std.proofs.Common.{◌≡◌, ◌≤◌, length, take}
use Rattle.text_functions.specs.Functions.{right_trimmed}
use Rattle.text_functions.proofs.functions.right_trimmed.Given as goal

abbrev pub invariant-loop-end : goal.invariant-loop-end
invariant-loop-end l = (l.end ≤ length l.s) × (right_trimmed (take l.end l.s) ≡ right_trimmed l.s)

abbrev pub decreases-loop-end : goal.decreases-loop-end
decreases-loop-end l = l.end
