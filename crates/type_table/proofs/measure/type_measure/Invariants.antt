use Rattle.std.proofs.Common.{◌≡◌, drop}
use Rattle.type_table.specs.Layouts.{put_fields}
use Rattle.type_table.proofs.measure.type_measure.Given as goal

-- with the fields that are left the measure comes to that of all fields
abbrev pub invariant-loop-field : goal.invariant-loop-field
invariant-loop-field l = put_fields l.known l.measure (drop l.field-index l.fields) ≡ put_fields l.known l.initial.measure l.fields
