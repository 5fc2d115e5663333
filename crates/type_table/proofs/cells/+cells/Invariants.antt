use Rattle.std.proofs.Common.{◌≡◌, ◌+◌, ◌*◌, ◌++◌, drop}
use Rattle.type_table.specs.Layouts.{measured}
use Rattle.type_table.specs.Offsets.{size_of}
use Rattle.type_table.specs.Cells.{repeated, value_cells, fields_cells, cells}
use Rattle.type_table.proofs.cells.+cells.Given as goal

-- a Type's fields are looked at one level further down
abbrev pub decreases-put_type : goal.decreases-put_type
decreases-put_type l = 4 * l.depth

abbrev pub decreases-put_value : goal.decreases-put_value
decreases-put_value l = 4 * l.depth + 1

abbrev pub decreases-put_values : goal.decreases-put_values
decreases-put_values l = 4 * l.depth + 2

abbrev pub decreases-put_fields : goal.decreases-put_fields
decreases-put_fields l = 4 * l.depth + 3

-- the cells of the elements so far are there
abbrev pub invariant-put_values-loop-i : goal.invariant-put_values-loop-i
invariant-put_values-loop-i l = l.found.items ≡ l.initial.found.items ++ repeated (value_cells (cells l.rows l.known l.depth) l.ty) (size_of (measured l.known l.ty)) l.at l.i

-- with those of the fields that are left the cells are those of all fields
abbrev pub invariant-put_fields-loop-field : goal.invariant-put_fields-loop-field
invariant-put_fields-loop-field l =
    l.found.items ++ fields_cells l.known (cells l.rows l.known l.depth) l.base l.before (drop l.field-index l.fields)
    ≡ l.initial.found.items ++ fields_cells l.known (cells l.rows l.known l.depth) l.base l.initial.before l.fields
