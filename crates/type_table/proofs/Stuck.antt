-- A Type that contains itself is never laid out.
use Rattle.std.proofs.Common.{◌≡◌, ℕ, zero, suc, ◌⊎◌, inl, inr, Some, List, [], ◌∷◌, map, get_or, refl, sym, ◌∙◌, ap, subst}
use Rattle.std.specs.Prelude.{slice_get}
use Rattle.type_table.specs.declared.layout.Measure.{Measure}
use Rattle.type_table.specs.declared.layout.Measure.TheVariants.{Waits, Big, Fits}
use Rattle.type_table.specs.declared.row.Field.{Field}
use Rattle.type_table.specs.declared.row.Row.{Row}
use Rattle.type_table.specs.Layouts.{put, last_of, measure_at, measured, put_fields, first_measure, closed, type_measure, measures}
use Rattle.type_table.specs.Cycles.{HasField, here, later, Contains, directly, through}

pub waits_stay : (known : List Measure) (fields : List Field) → put_fields known Waits fields ≡ Waits
waits_stay known [] = refl
waits_stay known (field ∷ fields) = waits_stay known fields

pub put_waits : (before : Measure) (last : ℕ) → put before last Waits ≡ Waits
put_waits Waits last = refl
put_waits Big last = refl
put_waits (Fits l) last = refl

-- where a field's Type waits, its own one does
waits_for : (known : List Measure) (fields : List Field) (number : ℕ) (before : Measure) → HasField fields number → measure_at known number ≡ Waits
    → put_fields known before fields ≡ Waits
waits_for known _ number before (here field fields _ is) e =
    let m : measured known field.ty ≡ Waits = ap (measured known) is ∙ e in
    ap (λ (x : Measure). put_fields known (put before (last_of field.range) x) fields) m
    ∙ (ap (λ (x : Measure). put_fields known x fields) (put_waits before (last_of field.range)) ∙ waits_stay known fields)
waits_for known _ number before (later field fields _ has) e = waits_for known fields number (put before (last_of field.range) (measured known field.ty)) has e

pub row_waits : (known : List Measure) (row : Row) (number : ℕ) → HasField row.fields number → measure_at known number ≡ Waits → type_measure known row ≡ Waits
row_waits known row number has e = ap closed (waits_for known row.fields number (first_measure row) has e)

pub at_row : (f : Row → Measure) (rows : List Row) (i : ℕ) (row : Row) → slice_get rows i ≡ Some row → get_or (map f rows) i Waits ≡ f row
at_row f [] i row e = absurd (cc)
at_row f (first ∷ rows) zero row e = let same : first ≡ row = cc in ap f same
at_row f (first ∷ rows) (suc i) row e = at_row f rows i row e

-- a Type that contains itself, or has one in it that does
abbrev Leads : List Row → ℕ → Type 0
Leads rows outer = (inner : ℕ) × ((outer ≡ inner) ⊎ Contains rows outer inner) × Contains rows inner inner

-- a field of a Type
record HasPart (rows : List Row) (outer : ℕ) : Type 0 where
  row : Row
  is : slice_get rows outer ≡ Some row
  part : ℕ
  has : HasField row.fields part
  leads : Leads rows part

first_step : (rows : List Row) (outer inner : ℕ) → Contains rows outer inner → Contains rows inner inner → HasPart rows outer
first_step rows outer inner (directly _ _ row is has) circle = record { row = row; is = is; part = inner; has = has; leads = (inner, inl refl, circle) }
first_step rows outer inner (through _ between _ row is has rest) circle = record { row = row; is = is; part = between; has = has; leads = (inner, inr rest, circle) }

step_of : (rows : List Row) (outer inner : ℕ) → (outer ≡ inner) ⊎ Contains rows outer inner → Contains rows inner inner → HasPart rows outer
step_of rows outer inner (inl same) circle = subst (HasPart rows) (sym same) (first_step rows inner inner circle circle)
step_of rows outer inner (inr way) circle = first_step rows outer inner way circle

waits : (rows : List Row) (n outer : ℕ) → Leads rows outer → measure_at (measures rows n) outer ≡ Waits
waits rows zero outer leads = refl
waits rows (suc n) outer leads =
    let step = step_of rows outer leads.0 leads.1 leads.2 in
    at_row (type_measure (measures rows n)) rows outer step.row step.is
    ∙ row_waits (measures rows n) step.row step.part step.has (waits rows n step.part step.leads)

pub no_layout : (rows : List Row) (n number : ℕ) → Contains rows number number → measure_at (measures rows n) number ≡ Waits
no_layout rows n number circle = waits rows n number (number, inl refl, circle)
