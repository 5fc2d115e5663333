-- Where the string cells of a value begin.
use Rattle.std.specs.Prelude.{◌≡◌, ℕ, zero, suc, ◌+◌, ◌*◌, ◌%◌, ◌≤◌, ◌++◌, Option, Some, None, List, [], ◌∷◌, length, slice_get}
use Rattle.fb_base.specs.declared.shape.Shape.{Shape}
use Rattle.fb_ast.specs.declared.ty.Ty.{Ty}
use Rattle.fb_ast.specs.declared.ty.Ty.TheVariants as t
use Rattle.type_table.specs.declared.layout.Measure.{Measure}
use Rattle.type_table.specs.declared.row.Field.{Field}
use Rattle.type_table.specs.declared.row.Row.{Row}
use Rattle.type_table.specs.Layouts.{put, last_of, measured, first_measure}
use Rattle.type_table.specs.Offsets.{size_of, align_of, offset_of}

-- the cells of so many elements that lie one behind the other from an offset on, by those of one element at an offset
abbrev pub repeated : (ℕ → List ℕ) → ℕ → ℕ → ℕ → List ℕ
repeated one size at zero = []
repeated one size at (suc count) = repeated one size at count ++ one (at + count * size)

-- the cells of a value of a type at an offset, by those of a value of a Type
abbrev pub value_cells : (ℕ → ℕ → List ℕ) → Ty → ℕ → List ℕ
value_cells inner (t.Num kind) at = []
value_cells inner t.Str at = at ∷ []
value_cells inner (t.Obj number) at = inner number at
value_cells inner (t.Ptr' p target) at = []
value_cells inner t.AnyPtr at = []

-- the cells of fields of a value at an offset, behind what comes before
abbrev pub fields_cells : List Measure → (ℕ → ℕ → List ℕ) → ℕ → Measure → List Field → List ℕ
fields_cells known inner base before [] = []
fields_cells known inner base before (field ∷ fields) =
    repeated (value_cells inner field.ty) (size_of (measured known field.ty)) (base + offset_of before (measured known field.ty)) (last_of field.range + 1)
    ++ fields_cells known inner base (put before (last_of field.range) (measured known field.ty)) fields

abbrev pub row_cells : List Measure → (ℕ → ℕ → List ℕ) → ℕ → Option Row → List ℕ
row_cells known inner base None = []
row_cells known inner base (Some row) = fields_cells known inner base (first_measure row) row.fields

-- the cells of a value of the Type of a number at an offset, where Types in it have Types in them to a depth below n
abbrev pub cells : List Row → List Measure → ℕ → ℕ → ℕ → List ℕ
cells rows known zero number at = []
cells rows known (suc n) number at = row_cells known (cells rows known n) at (slice_get rows number)

-- the cells of a value of a type
abbrev pub type_cells : List Row → List Measure → Ty → List ℕ
type_cells rows known ty = value_cells (cells rows known (length rows)) ty 0

-- String cells of 24 bytes each: each begins at a multiple of 8, not before the end of the cell before it, which is low; and
-- the last one ends within so many bytes. So no two of them overlap.
abbrev pub CellsLieInOrder : ℕ → List ℕ → ℕ → Type 0
CellsLieInOrder low [] end = low ≤ end
CellsLieInOrder low (at ∷ ats) end = (low ≤ at) × (at % 8 ≡ 0) × CellsLieInOrder (at + 24) ats end

-- the shape of a place for a value of a type
abbrev pub shape_of : List Row → List Measure → Ty → Shape
shape_of rows known ty = record { size = size_of (measured known ty); align = align_of (measured known ty); cells = type_cells rows known ty }
