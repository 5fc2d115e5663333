use Rattle.std.proofs.Common.{◌≡◌, ◌%◌, ◌^◌, drop}
use Rattle.text_functions.specs.Functions.{digits_value}
use Rattle.text_functions.proofs.functions.unsigned_value.Given as goal

abbrev pub invariant-loop-b : goal.invariant-loop-b
invariant-loop-b l = digits_value l.value (drop l.b-index l.s) % 2 ^ 64 ≡ digits_value 0 l.s % 2 ^ 64
