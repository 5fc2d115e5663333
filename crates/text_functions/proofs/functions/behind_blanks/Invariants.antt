use Rattle.std.proofs.Common.{◌≡◌, drop}
use Rattle.text_functions.specs.Functions.{trimmed, is_blank}
use Rattle.text_functions.proofs.functions.behind_blanks.Given as goal

abbrev pub invariant-loop-i : goal.invariant-loop-i
invariant-loop-i l = trimmed is_blank (drop l.i l.s) ≡ trimmed is_blank l.s
