use Rattle.std.proofs.Common.{◌≡◌, drop}
use Rattle.std.specs.Prelude.{slice_get}
use Rattle.type_table.specs.Offsets.{offsets}
use Rattle.type_table.proofs.offset.row_offset.Given as goal

-- the field is that of this number among those that are left
abbrev pub invariant-loop-one : goal.invariant-loop-one
invariant-loop-one l = slice_get (offsets l.known l.before (drop l.one-index l.fields)) l.left ≡ slice_get (offsets l.known l.initial.before l.fields) l.initial.left
