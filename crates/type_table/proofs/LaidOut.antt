-- Where Types have no fault each is laid out.
use Rattle.std.proofs.Common.{◌≡◌, ℕ, zero, suc, ◌+◌, ◌<◌, Bool, true, false, if◌then◌else◌, ◌⊎◌, inl, inr, Option, Some, None, List, [], ◌∷◌, length, nat_lt, refl, sym, ◌∙◌, ap, arith}
use Rattle.std.specs.Prelude.{slice_get}
use Rattle.fb_base.specs.declared.fault.Fault.{Fault}
use Rattle.fb_base.specs.declared.fault.Span.{Span}
use Rattle.fb_ast.specs.declared.ty.Ty.{Ty}
use Rattle.fb_ast.specs.declared.ty.Ty.TheVariants as t
use Rattle.type_table.specs.declared.layout.Layout.{Layout}
use Rattle.type_table.specs.declared.layout.Measure.{Measure}
use Rattle.type_table.specs.declared.layout.Measure.TheVariants.{Waits, Big, Fits}
use Rattle.type_table.specs.declared.row.Field.{Field}
use Rattle.type_table.specs.declared.row.Row.{Row}
use Rattle.type_table.specs.Layouts.{round_up, end_of, put, last_of, measure_at, measured, put_fields, measure_before, first_measure, closed, type_measure, measures, known_of}
use Rattle.type_table.specs.Cycles.{HasField, here, later, directly, through, marked_at, led, in_itself}
use Rattle.type_table.specs.Members.{first_of}
use Rattle.type_table.specs.Tables.{measure_fault, row_fault, first_fault, fault_of, IsLaidOut}
use Rattle.type_table.proofs.Stuck.{at_row, no_layout}
use Rattle.type_table.proofs.Circles.{led_is, contains_itself}
use Rattle.type_table.specs.Plans.{count}
use Rattle.type_table.proofs.Counts.{fewer, not_all}
use Rattle.type_table.proofs.Found.{found}

-- a field's Type is one of these
abbrev pub Numbered : List Row → Type 0
Numbered rows = (number part : ℕ) (row : Row) → slice_get rows number ≡ Some row → HasField row.fields part → part < length rows

-- what waits
pub waits_or : (m : Measure) → (m ≡ Waits) ⊎ (m ≡ Waits → ⊥)
waits_or Waits = inl refl
waits_or Big = inr (λ e. absurd (cc))
waits_or (Fits l) = inr (λ e. absurd (cc))

if_not : (many big : Bool) (l : Layout) → (if many then Big else if big then Big else Fits l) ≡ Waits → ⊥
if_not true big l e = cc
if_not false true l e = cc
if_not false false l e = cc

put_not : (before : Measure) (last : ℕ) (m : Measure) → (before ≡ Waits → ⊥) → (m ≡ Waits → ⊥) → put before last m ≡ Waits → ⊥
put_not Waits last m b h e = b refl
put_not Big last Waits b h e = h refl
put_not Big last Big b h e = cc
put_not Big last (Fits p) b h e = cc
put_not (Fits l) last Waits b h e = h refl
put_not (Fits l) last Big b h e = cc
put_not (Fits l) last (Fits p) b h e = if_not (nat_lt 16777216 last) (nat_lt 16777216 (end_of l last p)) _ e

closed_not : (big : Bool) (l : Layout) → (if big then Big else Fits l) ≡ Waits → ⊥
closed_not true l e = cc
closed_not false l e = cc

closed_waits : (m : Measure) → closed m ≡ Waits → m ≡ Waits
closed_waits Waits e = refl
closed_waits Big e = absurd (cc)
closed_waits (Fits l) e = absurd (closed_not (nat_lt 16777216 (round_up l.align l.size)) _ e)

first_not : (own : Bool) (fault : Option Fault) → fault ≡ None → measure_before own fault ≡ Waits → ⊥
first_not own (Some fault) is e = cc
first_not own None is e = cc

-- a field of a Type that waits
abbrev pub Waiting : List Measure → List Field → Type 0
Waiting known fields = (part : ℕ) × HasField fields part × (measure_at known part ≡ Waits)

type_waits : (known : List Measure) (field : Field) (fields : List Field) (ty : Ty) → field.ty ≡ ty → measured known ty ≡ Waits → Waiting known (field ∷ fields)
type_waits known field fields (t.Obj number) is e = (number, here field fields number is, e)
type_waits known field fields other is e = absurd (cc)

further : (known : List Measure) (field : Field) (fields : List Field) → Waiting known fields → Waiting known (field ∷ fields)
further known field fields w = (w.0, later field fields w.0 w.1, w.2)

waiting : (known : List Measure) (fields : List Field) (before : Measure) → (before ≡ Waits → ⊥) → put_fields known before fields ≡ Waits → Waiting known fields
waiting known [] before goes e = absurd (goes e)
waiting known (field ∷ fields) before goes e =
    elim (waits_or (measured known field.ty)) [
      | inl waits ↦ type_waits known field fields field.ty refl waits
      | inr more ↦ further known field fields (waiting known fields (put before (last_of field.range) (measured known field.ty)) (put_not before (last_of field.range) (measured known field.ty) goes more) e)
    ]

pub row_waiting : (known : List Measure) (row : Row) → row.fault ≡ None → type_measure known row ≡ Waits → Waiting known row.fields
row_waiting known row none e =
    waiting known row.fields (first_measure row) (first_not row.own row.fault none) (closed_waits (put_fields known (first_measure row) row.fields) e)

-- how many Types a Type contains
abbrev contained : List Row → ℕ → ℕ
contained rows outer = count (λ t. marked_at (led rows t (length rows)) outer) (length rows)

-- Types of which none contains itself and no member has a fault
record Sound (rows : List Row) : Type 0 where
  numbered : Numbered rows
  none : (number : ℕ) (row : Row) → slice_get rows number ≡ Some row → row.fault ≡ None
  free : (number : ℕ) → number < length rows → in_itself rows number ≡ false

fewer_inside : (rows : List Row) → Sound rows → (outer part : ℕ) (row : Row) → slice_get rows outer ≡ Some row → HasField row.fields part → contained rows part < contained rows outer
fewer_inside rows sound outer part row is has =
    fewer (λ t. marked_at (led rows t (length rows)) part) (λ t. marked_at (led rows t (length rows)) outer)
    (λ t e. found rows t outer (through outer part t row is has (led_is rows t (length rows) part e)))
    part (length rows) (sound.numbered outer part row is has) (sound.free part (sound.numbered outer part row is has))
    (found rows part outer (directly outer part row is has))

pub row_of : (rows : List Row) (number : ℕ) → number < length rows → (row : Row) × (slice_get rows number ≡ Some row)
row_of [] number below = absurd (omega arith)
row_of (row ∷ rows) zero below = (row, refl)
row_of (row ∷ rows) (suc number) below = row_of rows number (omega arith)

never_waits : (rows : List Row) → Sound rows → (n outer : ℕ) (row : Row) → slice_get rows outer ≡ Some row → contained rows outer < n → measure_at (measures rows n) outer ≡ Waits → ⊥
never_waits rows sound zero outer row is few e = absurd (omega arith)
never_waits rows sound (suc n) outer row is few e =
    let w = row_waiting (measures rows n) row (sound.none outer row is) (sym (at_row (type_measure (measures rows n)) rows outer row is) ∙ e) in
    let inner = row_of rows w.0 (sound.numbered outer w.0 row is w.1) in
    let fewer_still : contained rows w.0 < n = omega (arith, fewer_inside rows sound outer w.0 row is w.1) in
    never_waits rows sound n w.0 inner.0 inner.1 fewer_still w.2

goes : (rows : List Row) → Sound rows → (number : ℕ) (row : Row) → slice_get rows number ≡ Some row → number < length rows → measure_at (known_of rows) number ≡ Waits → ⊥
goes rows sound number row is below e =
    never_waits rows sound (length rows) number row is (not_all (λ t. marked_at (led rows t (length rows)) number) number (length rows) below (sound.free number below)) e

-- what no fault says
both_none : (one other : Option Fault) → first_of one other ≡ None → (one ≡ None) × (other ≡ None)
both_none (Some fault) other e = absurd (cc)
both_none None other e = (refl, e)

no_fault : (rows : List Row) (known : List Measure) (from : ℕ) (rest : List Row) → first_fault rows known from rest ≡ None
    → (i number : ℕ) (row : Row) → number ≡ from + i → slice_get rest i ≡ Some row → row_fault rows known number row ≡ None
no_fault rows known from [] e i number row n is = absurd (cc)
no_fault rows known from (first ∷ rest) e zero number row n is =
    let same : row ≡ first = cc in
    let place : number ≡ from = omega arith in
    ap (λ (x : ℕ). row_fault rows known x row) place
    ∙ (ap (row_fault rows known from) same ∙ (both_none (row_fault rows known from first) (first_fault rows known (suc from) rest) e).0)
no_fault rows known from (first ∷ rest) e (suc i) number row n is =
    no_fault rows known (suc from) rest (both_none (row_fault rows known from first) (first_fault rows known (suc from) rest) e).1 i number row (omega arith) is

record Fine (rows : List Row) (number : ℕ) (row : Row) : Type 0 where
  measure : measure_fault rows number (measure_at (known_of rows) number) row.name.at ≡ None
  members : row.fault ≡ None

fine : (rows : List Row) → fault_of rows ≡ None → (number : ℕ) (row : Row) → slice_get rows number ≡ Some row → Fine rows number row
fine rows e number row is =
    let all = no_fault rows (known_of rows) zero rows e number number row (omega arith) is in
    let own = (both_none _ (first_of (measure_fault rows number (measure_at (known_of rows) number) row.name.at) row.fault) all).1 in
    let parts = both_none (measure_fault rows number (measure_at (known_of rows) number) row.name.at) row.fault own in
    record { measure = parts.0; members = parts.1 }

not_true : (b : Bool) → (b ≡ true → ⊥) → b ≡ false
not_true true h = absurd (h refl)
not_true false h = refl

told : (b : Bool) (fault : Fault) → b ≡ true → (if b then Some fault else None) ≡ None → ⊥
told true fault is e = cc
told false fault is e = cc

free_from : (rows : List Row) (number : ℕ) (m : Measure) (at : Span) → measure_fault rows number m at ≡ None → m ≡ Waits → in_itself rows number ≡ true → ⊥
free_from rows number Waits at e waits circle = told (in_itself rows number) _ circle e
free_from rows number Big at e waits circle = cc
free_from rows number (Fits l) at e waits circle = cc

sound : (rows : List Row) → Numbered rows → fault_of rows ≡ None → Sound rows
sound rows numbered e = record {
  numbered = numbered;
  none = λ number row is. (fine rows e number row is).members;
  free = λ number below.
      let row = row_of rows number below in
      not_true (in_itself rows number) (λ circle. free_from rows number (measure_at (known_of rows) number) row.0.name.at (fine rows e number row.0 row.1).measure
      (no_layout rows (length rows) number (contains_itself rows number circle)) circle);
}

fits : (rows : List Row) (number : ℕ) (m : Measure) (at : Span) → measure_fault rows number m at ≡ None → (m ≡ Waits → ⊥) → IsLaidOut m
fits rows number Waits at e goes = absurd (goes refl)
fits rows number Big at e goes = absurd (cc)
fits rows number (Fits l) at e goes = (l, refl)

pub laid_out : (rows : List Row) → Numbered rows → fault_of rows ≡ None → (number : ℕ) → number < length rows → IsLaidOut (measure_at (known_of rows) number)
laid_out rows numbered e number below =
    let row = row_of rows number below in
    fits rows number (measure_at (known_of rows) number) row.0.name.at (fine rows e number row.0 row.1).measure
    (goes rows (sound rows numbered e) number row.0 row.1 below)
