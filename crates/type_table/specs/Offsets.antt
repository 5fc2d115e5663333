-- Where the fields of a Type lie.
use Rattle.std.specs.Prelude.{◌≡◌, ℕ, ◌+◌, ◌*◌, ◌%◌, ◌<◌, ◌≤◌, Bool, false, Option, Some, None, List, [], ◌∷◌, slice_get}
use Rattle.type_table.specs.declared.layout.Align.{Align}
use Rattle.type_table.specs.declared.layout.Layout.{Layout}
use Rattle.type_table.specs.declared.layout.Measure.{Measure}
use Rattle.type_table.specs.declared.layout.Measure.TheVariants.{Waits, Big, Fits}
use Rattle.type_table.specs.declared.row.Field.{Field}
use Rattle.type_table.specs.declared.row.Row.{Row}
use Rattle.type_table.specs.Layouts.{bytes_of, round_up, put, last_of, measured, first_measure}

abbrev pub size_of : Measure → ℕ
size_of (Fits layout) = layout.size
size_of Waits = 0
size_of Big = 0

abbrev pub align_of : Measure → ℕ
align_of (Fits layout) = bytes_of layout.align
align_of Waits = 1
align_of Big = 1

abbrev pub lives_of : Measure → Bool
lives_of (Fits layout) = layout.lives
lives_of Waits = false
lives_of Big = false

-- the offset of a field behind what comes before
abbrev pub offset_of : Measure → Measure → ℕ
offset_of (Fits before) (Fits part) = round_up part.align before.size
offset_of before part = 0

-- the offsets of fields in the order of the text, behind what comes before
abbrev pub offsets : List Measure → Measure → List Field → List ℕ
offsets known before [] = []
offsets known before (field ∷ fields) =
    offset_of before (measured known field.ty) ∷ offsets known (put before (last_of field.range) (measured known field.ty)) fields

abbrev pub type_offsets : List Measure → Row → List ℕ
type_offsets known row = offsets known (first_measure row) row.fields

-- the offset of a field of the Type of a number, both counted from 0 in the order of the text
abbrev pub row_offset : List Measure → ℕ → Option Row → Option ℕ
row_offset known field None = None
row_offset known field (Some row) = slice_get (type_offsets known row) field

abbrev pub field_offset : List Row → List Measure → ℕ → ℕ → Option ℕ
field_offset rows known number field = row_offset known field (slice_get rows number)

-- r is the first multiple of an alignment from n on
pub record IsNext (align : Align) (n r : ℕ) : Type 0 where
  pub multiple : r % bytes_of align ≡ 0
  pub above : n ≤ r
  pub near : r < n + bytes_of align

-- Each field begins at a multiple of its alignment, not before the end of the field before it, which is low; and the last
-- one ends within so many bytes. So no two of them overlap.
abbrev pub LieInOrder : List Measure → ℕ → List ℕ → List Field → ℕ → Type 0
LieInOrder known low [] [] end = low ≤ end
LieInOrder known low [] (field ∷ fields) end = ⊥
LieInOrder known low (at ∷ ats) [] end = ⊥
LieInOrder known low (at ∷ ats) (field ∷ fields) end =
    (low ≤ at) × (at % align_of (measured known field.ty) ≡ 0)
    × LieInOrder known (at + size_of (measured known field.ty) * (last_of field.range + 1)) ats fields end

-- what holds of a Type that is laid out
pub record IsWhole (known : List Measure) (row : Row) (layout : Layout) : Type 0 where
  pub fields : LieInOrder known 0 (type_offsets known row) row.fields layout.size
  pub multiple : layout.size % bytes_of layout.align ≡ 0
  pub small : layout.size ≤ 16777216
