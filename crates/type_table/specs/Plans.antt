-- How Types are laid out as they come: what is known of each, and which one waits for which.
use Rattle.std.specs.Prelude.{◌≡◌, ℕ, zero, suc, ◌+◌, Bool, true, false, Option, Some, None, List, [], ◌∷◌, length, slice_get, Vec}
use Rattle.std.specs.declared.alloc.Global.{Global}
use Rattle.fb_base.specs.declared.fault.Fault.{Fault}
use Rattle.fb_ast.specs.declared.ty.Ty.{Ty}
use Rattle.fb_ast.specs.declared.ty.Ty.TheVariants as t
use Rattle.type_table.specs.declared.layout.Measure.{Measure}
use Rattle.type_table.specs.declared.layout.Measure.TheVariants.{Waits, Big, Fits}
use Rattle.type_table.specs.declared.row.Field.{Field}
use Rattle.type_table.specs.declared.row.Row.{Row}
use Rattle.type_table.specs.Layouts.{measure_at, measures}
use Rattle.type_table.specs.Cycles.{HasField}

abbrev pub is_known : Measure → Bool
is_known Waits = false
is_known Big = true
is_known (Fits layout) = true

-- the Type for which a type waits
abbrev pub waits_if : Measure → ℕ → Option ℕ
waits_if Waits number = Some number
waits_if Big number = None
waits_if (Fits layout) number = None

abbrev pub waits_for : List Measure → Ty → Option ℕ
waits_for known (t.Obj number) = waits_if (measure_at known number) number
waits_for known other = None

-- the first Type for which fields wait
abbrev pub or_next : Option ℕ → Option ℕ → Option ℕ
or_next (Some number) other = Some number
or_next None other = other

abbrev pub first_waiting : List Measure → List Field → Option ℕ
first_waiting known [] = None
first_waiting known (field ∷ fields) = or_next (waits_for known field.ty) (first_waiting known fields)

abbrev pub one : Bool → ℕ
one true = 1
one false = 0

-- how many numbers below n pass a test
abbrev pub count : (ℕ → Bool) → ℕ → ℕ
count f zero = 0
count f (suc n) = count f n + one (f n)

abbrev pub knows : List Measure → ℕ → Bool
knows known number = is_known (measure_at known number)

-- a number is in a list
pub data Among : List ℕ → ℕ → Type 0 where
  first : (number : ℕ) (rest : List ℕ) → Among (number ∷ rest) number
  behind : (other number : ℕ) (rest : List ℕ) → Among rest number → Among (other ∷ rest) number

abbrev pub items_of : Option (Vec ℕ Global) → List ℕ
items_of None = []
items_of (Some v) = v.items

-- which Types wait for the Type of a number
abbrev pub waiters : List (Vec ℕ Global) → ℕ → List ℕ
waiters waiting number = items_of (slice_get waiting number)

-- what is known is so in the other list, too
abbrev pub Under : List Measure → List Measure → Type 0
Under known more = (number : ℕ) → (measure_at known number ≡ Waits → ⊥) → measure_at more number ≡ measure_at known number

-- why a Type waits: it has a fault, or it is to be looked at, or it stands among those that wait for a Type in it which waits
pub data Watched (known : List Measure) (waiting : List (Vec ℕ Global)) (pending : List ℕ) (number : ℕ) (row : Row) : Type 0 where
  faulty : (fault : Fault) → row.fault ≡ Some fault → Watched known waiting pending number row
  called : Among pending number → Watched known waiting pending number row
  waits : (other : ℕ) → HasField row.fields other → measure_at known other ≡ Waits → Among (waiters waiting other) number → Watched known waiting pending number row

-- what is known comes of the rounds, as many as Types are laid out; and each Type that isn't laid out waits for a reason
pub record Stands (rows : List Row) (known : List Measure) (waiting : List (Vec ℕ Global)) (pending : List ℕ) : Type 0 where
  pub all : length known ≡ length rows
  pub sound : Under known (measures rows (count (knows known) (length rows)))
  pub watched : (number : ℕ) (row : Row) → slice_get rows number ≡ Some row → measure_at known number ≡ Waits → Watched known waiting pending number row
