-- What is known of each Type is what follows from what is known of all.
use Rattle.std.proofs.Common.{◌≡◌, ℕ, zero, suc, Some, List, [], ◌∷◌, map, get_or, refl, sym, ◌∙◌, ap}
use Rattle.std.specs.Prelude.{slice_get}
use Rattle.fb_ast.specs.declared.ty.Ty.{Ty}
use Rattle.fb_ast.specs.declared.ty.Ty.TheVariants as t
use Rattle.type_table.specs.declared.layout.Layout.{Layout}
use Rattle.type_table.specs.declared.layout.Measure.{Measure}
use Rattle.type_table.specs.declared.layout.Measure.TheVariants.{Waits, Big, Fits}
use Rattle.type_table.specs.declared.row.Field.{Field}
use Rattle.type_table.specs.declared.row.Row.{Row}
use Rattle.type_table.specs.Layouts.{put, last_of, measure_at, measured, put_fields, first_measure, closed, type_measure, measures}
use Rattle.type_table.proofs.Within.{never_waits, never_big}
use Rattle.type_table.proofs.Stuck.{at_row}

-- where all fits, a part does
pub part_fits : (known : List Measure) (before : Measure) (last : ℕ) (m : Measure) (fields : List Field) (l : Layout)
    → put_fields known (put before last m) fields ≡ Fits l → (p : Layout) × (m ≡ Fits p)
part_fits known Waits last m fields l e = absurd (never_waits known fields l e)
part_fits known Big last Waits fields l e = absurd (never_waits known fields l e)
part_fits known Big last Big fields l e = absurd (never_big known fields l e)
part_fits known Big last (Fits p) fields l e = absurd (never_big known fields l e)
part_fits known (Fits b) last Waits fields l e = absurd (never_waits known fields l e)
part_fits known (Fits b) last Big fields l e = absurd (never_big known fields l e)
part_fits known (Fits b) last (Fits p) fields l e = (p, refl)

pub closed_fits : (m : Measure) (l : Layout) → closed m ≡ Fits l → (b : Layout) × (m ≡ Fits b)
closed_fits Waits l e = absurd (cc)
closed_fits Big l e = absurd (cc)
closed_fits (Fits b) l e = (b, refl)

-- what is laid out is laid out alike where more is known
abbrev pub Stays : List Measure → List Measure → Type 0
Stays known more = (number : ℕ) (l : Layout) → measure_at known number ≡ Fits l → measure_at more number ≡ Fits l

type_stays : (known more : List Measure) → Stays known more → (ty : Ty) (l : Layout) → measured known ty ≡ Fits l → measured more ty ≡ Fits l
type_stays known more stays (t.Obj number) l e = stays number l e
type_stays known more stays other l e = e

fields_stay : (known more : List Measure) → Stays known more → (fields : List Field) (before : Measure) (l : Layout)
    → put_fields known before fields ≡ Fits l → put_fields more before fields ≡ Fits l
fields_stay known more stays [] before l e = e
fields_stay known more stays (field ∷ fields) before l e =
    let part = part_fits known before (last_of field.range) (measured known field.ty) fields l e in
    let same : measured more field.ty ≡ measured known field.ty = type_stays known more stays field.ty part.0 part.1 ∙ sym part.1 in
    ap (λ (x : Measure). put_fields more (put before (last_of field.range) x) fields) same
    ∙ fields_stay known more stays fields (put before (last_of field.range) (measured known field.ty)) l e

row_stays : (known more : List Measure) → Stays known more → (row : Row) (l : Layout) → type_measure known row ≡ Fits l → type_measure more row ≡ Fits l
row_stays known more stays row l e =
    let b = closed_fits (put_fields known (first_measure row) row.fields) l e in
    ap closed (fields_stay known more stays row.fields (first_measure row) b.0 b.1 ∙ sym b.1) ∙ e

-- what a list says of its elements is so of one of them
row_at : (f : Row → Measure) (rows : List Row) (i : ℕ) (l : Layout) → get_or (map f rows) i Waits ≡ Fits l
    → (row : Row) × (slice_get rows i ≡ Some row) × (f row ≡ Fits l)
row_at f [] i l e = absurd (cc)
row_at f (row ∷ rows) zero l e = (row, refl, e)
row_at f (row ∷ rows) (suc i) l e = row_at f rows i l e

more_rounds : (rows : List Row) (n : ℕ) → Stays (measures rows n) (measures rows (suc n))
more_rounds rows zero number l e = absurd (cc)
more_rounds rows (suc n) number l e =
    let found = row_at (type_measure (measures rows n)) rows number l e in
    at_row (type_measure (measures rows (suc n))) rows number found.0 found.1
    ∙ row_stays (measures rows n) (measures rows (suc n)) (more_rounds rows n) found.0 l found.2

-- each Type that is laid out is so by what is known
abbrev pub Settled : List Row → List Measure → Type 0
Settled rows known = (number : ℕ) (l : Layout) → measure_at known number ≡ Fits l
    → (row : Row) × (slice_get rows number ≡ Some row) × (type_measure known row ≡ Fits l)

pub settled : (rows : List Row) (n : ℕ) → Settled rows (measures rows n)
settled rows zero number l e = absurd (cc)
settled rows (suc n) number l e =
    let found = row_at (type_measure (measures rows n)) rows number l e in
    (found.0, found.1, row_stays (measures rows n) (measures rows (suc n)) (more_rounds rows n) found.0 l found.2)
