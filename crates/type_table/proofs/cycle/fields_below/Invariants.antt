use Rattle.std.proofs.Common.{◌≡◌, drop}
use Rattle.type_table.specs.Cycles.{fields_below}
use Rattle.type_table.proofs.cycle.fields_below.Given as goal

abbrev pub invariant-loop-field : goal.invariant-loop-field
invariant-loop-field l = fields_below l.labels l.most l.fields ≡ fields_below l.labels l.most (drop l.field-index l.fields)
