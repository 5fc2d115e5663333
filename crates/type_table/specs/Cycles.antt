-- Types that contain themselves. A pointer to a Type doesn't contain it.
use Rattle.std.specs.Prelude.{◌≡◌, ℕ, zero, suc, Bool, true, false, ◌&&◌, ◌||◌, ◌==◌, nat_lt, if◌then◌else◌, Some, List, [], ◌∷◌, map, length, slice_index_or, slice_get}
use Rattle.fb_ast.specs.declared.ty.Ty.{Ty}
use Rattle.fb_ast.specs.declared.ty.Ty.TheVariants as t
use Rattle.type_table.specs.declared.row.Field.{Field}
use Rattle.type_table.specs.declared.row.Row.{Row}

-- a field is of the Type of this number, or an array of it
pub data HasField : List Field → ℕ → Type 0 where
  here : (field : Field) (fields : List Field) (number : ℕ) → field.ty ≡ t.Obj number → HasField (field ∷ fields) number
  later : (field : Field) (fields : List Field) (number : ℕ) → HasField fields number → HasField (field ∷ fields) number

-- Types are known by their numbers in the order of the text. One contains another where a field is of it, or of one that
-- contains it.
pub data Contains (rows : List Row) : ℕ → ℕ → Type 0 where
  directly : (outer inner : ℕ) (row : Row) → slice_get rows outer ≡ Some row → HasField row.fields inner → Contains rows outer inner
  through : (outer between inner : ℕ) (row : Row) → slice_get rows outer ≡ Some row → HasField row.fields between → Contains rows between inner → Contains rows outer inner

abbrev pub marked_at : List Bool → ℕ → Bool
marked_at marks number = slice_index_or marks number false

-- whether a type is the Type of this number, or one that is marked
abbrev pub leads : ℕ → List Bool → Ty → Bool
leads target marks (t.Obj number) = (number == target) || marked_at marks number
leads target marks other = false

abbrev pub fields_lead : ℕ → List Bool → List Field → Bool
fields_lead target marks [] = false
fields_lead target marks (field ∷ fields) = leads target marks field.ty || fields_lead target marks fields

abbrev pub row_leads : ℕ → List Bool → Row → Bool
row_leads target marks row = fields_lead target marks row.fields

-- which Types have the Type of this number in them, through fewer than n others
abbrev pub led : List Row → ℕ → ℕ → List Bool
led rows target zero = []
led rows target (suc n) = map (row_leads target (led rows target n)) rows

-- whether the Type of this number contains itself: a way back to it needs no more Types than there are
abbrev pub in_itself : List Row → ℕ → Bool
in_itself rows target = marked_at (led rows target (length rows)) target

-- Labels of Types. Where no Type has one with a greater label in it, a Type whose fields all have smaller ones than its own
-- doesn't contain itself.
abbrev pub label_at : List ℕ → ℕ → ℕ
label_at labels number = slice_index_or labels number 0

-- whether the Types in fields have labels of at most so much
abbrev pub type_below : List ℕ → ℕ → Ty → Bool
type_below labels most (t.Obj number) = if nat_lt most (label_at labels number) then false else true
type_below labels most other = true

abbrev pub fields_below : List ℕ → ℕ → List Field → Bool
fields_below labels most [] = true
fields_below labels most (field ∷ fields) = type_below labels most field.ty && fields_below labels most fields

-- whether no Type from this number on has one with a greater label in it
abbrev pub labels_fall : List ℕ → ℕ → List Row → Bool
labels_fall labels number [] = true
labels_fall labels number (row ∷ rows) = fields_below labels (label_at labels number) row.fields && labels_fall labels (suc number) rows
