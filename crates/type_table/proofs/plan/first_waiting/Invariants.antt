use Rattle.std.proofs.Common.{◌≡◌, drop}
use Rattle.type_table.specs.Plans.{first_waiting}
use Rattle.type_table.proofs.plan.first_waiting.Given as goal

abbrev pub invariant-loop-field : goal.invariant-loop-field
invariant-loop-field l = first_waiting l.known l.fields ≡ first_waiting l.known (drop l.field-index l.fields)
