use Rattle.std.proofs.Common.{◌≡◌, drop}
use Rattle.text_functions.specs.Functions.{trimmed, is_space}
use Rattle.text_functions.proofs.functions.left_trimmed.Given as goal

abbrev pub invariant-loop-i : goal.invariant-loop-i
invariant-loop-i l = trimmed is_space (drop l.i l.s) ≡ trimmed is_space l.s
