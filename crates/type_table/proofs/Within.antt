-- The fields of a Type lie in order within it.
use Rattle.std.proofs.Common.{◌≡◌, ℕ, ◌+◌, ◌*◌, ◌%◌, ◌≤◌, Bool, true, false, ◌||◌, nat_lt, if◌then◌else◌, Option, Some, None, List, [], ◌∷◌, refl, ap, subst, arith}
use Rattle.std.proofs.lemmas.Bool.Decides.{nat_tests}
use Rattle.fb_base.specs.declared.fault.Fault.{Fault}
use Rattle.type_table.specs.declared.layout.Align.{Align}
use Rattle.type_table.specs.declared.layout.Align.TheVariants.{One, Two, Four, Eight}
use Rattle.type_table.specs.declared.layout.Layout.{Layout}
use Rattle.type_table.specs.declared.layout.Measure.{Measure}
use Rattle.type_table.specs.declared.layout.Measure.TheVariants.{Waits, Big, Fits}
use Rattle.type_table.specs.declared.row.Field.{Field}
use Rattle.type_table.specs.declared.row.Row.{Row}
use Rattle.type_table.specs.Layouts.{bytes_of, round_up, larger, end_of, put, last_of, measured, put_fields, measure_before, first_measure, closed, type_measure}
use Rattle.type_table.specs.Offsets.{size_of, align_of, offset_of, offsets, type_offsets, IsNext, LieInOrder, IsWhole}

pub next_multiple : (align : Align) (n : ℕ) → IsNext align n (round_up align n)
next_multiple One n = record { multiple = omega arith; above = omega arith; near = omega arith }
next_multiple Two n = record { multiple = omega arith; above = omega arith; near = omega arith }
next_multiple Four n = record { multiple = omega arith; above = omega arith; near = omega arith }
next_multiple Eight n = record { multiple = omega arith; above = omega arith; near = omega arith }

-- what fits isn't Big
small_enough : (big : Bool) (m : Measure) (l : Layout) → (if big then Big else m) ≡ Fits l → (big ≡ false) × (m ≡ Fits l)
small_enough true m l e = absurd (cc)
small_enough false m l e = (refl, e)

at_most : (n : ℕ) → nat_lt 16777216 n ≡ false → n ≤ 16777216
at_most n h = grind (arith, nat_tests)

pub never_waits : (known : List Measure) (fields : List Field) (l : Layout) → put_fields known Waits fields ≡ Fits l → ⊥
never_waits known [] l e = cc
never_waits known (field ∷ fields) l e = never_waits known fields l e

still_big : (known : List Measure) (last : ℕ) (m : Measure) (fields : List Field) (l : Layout) → put_fields known (put Big last m) fields ≡ Fits l
    → (put_fields known Big fields ≡ Fits l → ⊥) → ⊥
still_big known last Waits fields l e never = never_waits known fields l e
still_big known last Big fields l e never = never e
still_big known last (Fits p) fields l e never = never e

pub never_big : (known : List Measure) (fields : List Field) (l : Layout) → put_fields known Big fields ≡ Fits l → ⊥
never_big known [] l e = cc
never_big known (field ∷ fields) l e = still_big known (last_of field.range) (measured known field.ty) fields l e (never_big known fields l)

-- what lies within so many bytes lies within more
raised : (known : List Measure) (low : ℕ) (ats : List ℕ) (fields : List Field) (end more : ℕ) → end ≤ more → LieInOrder known low ats fields end → LieInOrder known low ats fields more
raised known low [] [] end more h lie = let k : low ≤ end = lie in omega arith
raised known low [] (field ∷ fields) end more h lie = absurd lie
raised known low (at ∷ ats) [] end more h lie = absurd lie
raised known low (at ∷ ats) (field ∷ fields) end more h lie = (lie.0, lie.1, raised known (at + size_of (measured known field.ty) * (last_of field.range + 1)) ats fields end more h lie.2)

-- how the fields from here on lie, where what comes before is of this layout
abbrev Follow : List Measure → Layout → List Field → Layout → Type 0
Follow known b fields l = put_fields known (Fits b) fields ≡ Fits l → LieInOrder known b.size (offsets known (Fits b) fields) fields l.size

-- the layout with one field more
abbrev pub and_part : Layout → ℕ → Layout → Layout
and_part b last p = record { size = end_of b last p; align = larger b.align p.align; lives = b.lives || p.lives }

-- how a field and those behind it lie, by what is known with it
abbrev Lies : List Measure → Layout → ℕ → Measure → List Field → Layout → Measure → Type 0
Lies known b last m fields l after =
    (b.size ≤ offset_of (Fits b) m) × (offset_of (Fits b) m % align_of m ≡ 0)
    × LieInOrder known (offset_of (Fits b) m + size_of m * (last + 1)) (offsets known after fields) fields l.size

placed : (known : List Measure) (b : Layout) (last : ℕ) (p : Layout) (fields : List Field) (l : Layout) (many big : Bool)
    → put_fields known (if many then Big else if big then Big else Fits (and_part b last p)) fields ≡ Fits l → Follow known (and_part b last p) fields l
    → Lies known b last (Fits p) fields l (if many then Big else if big then Big else Fits (and_part b last p))
placed known b last p fields l true big e follow = absurd (never_big known fields l e)
placed known b last p fields l false true e follow = absurd (never_big known fields l e)
placed known b last p fields l false false e follow =
    let next = next_multiple p.align b.size in
    (next.above, next.multiple, follow e)

one_more : (known : List Measure) (b : Layout) (last : ℕ) (m : Measure) (fields : List Field) (l : Layout)
    → put_fields known (put (Fits b) last m) fields ≡ Fits l → ((b' : Layout) → Follow known b' fields l)
    → Lies known b last m fields l (put (Fits b) last m)
one_more known b last Waits fields l e follow = absurd (never_waits known fields l e)
one_more known b last Big fields l e follow = absurd (never_big known fields l e)
one_more known b last (Fits p) fields l e follow =
    placed known b last p fields l (nat_lt 16777216 last) (nat_lt 16777216 (end_of b last p)) e (follow (and_part b last p))

in_order : (known : List Measure) (fields : List Field) (b l : Layout) → Follow known b fields l
in_order known [] b l e = let h : b.size ≡ l.size = ap size_of e in omega arith
in_order known (field ∷ fields) b l e =
    one_more known b (last_of field.range) (measured known field.ty) fields l e (λ b'. in_order known fields b' l)

pub closed_from : (b l : Layout) (big : Bool) → (if big then Big else Fits (record { size = round_up b.align b.size; align = b.align; lives = b.lives })) ≡ Fits l
    → (round_up b.align b.size ≡ l.size) × (bytes_of b.align ≡ bytes_of l.align) × (big ≡ false)
closed_from b l true e = absurd (cc)
closed_from b l false e = (ap size_of e, ap align_of e, refl)

-- what is known of a Type is closed
whole_of : (known : List Measure) (m : Measure) (fields : List Field) (ats : List ℕ) (l : Layout) → closed m ≡ Fits l
    → ((b : Layout) → m ≡ Fits b → LieInOrder known 0 ats fields b.size)
    → LieInOrder known 0 ats fields l.size × (l.size % bytes_of l.align ≡ 0) × (l.size ≤ 16777216)
whole_of known Waits fields ats l e lie = absurd (cc)
whole_of known Big fields ats l e lie = absurd (cc)
whole_of known (Fits b) fields ats l e lie =
    let c = closed_from b l (nat_lt 16777216 (round_up b.align b.size)) e in
    let next = next_multiple b.align b.size in
    let small = at_most (round_up b.align b.size) c.2 in
    let up : b.size ≤ l.size = omega (arith, c.0, next.above) in
    let multiple : l.size % bytes_of l.align ≡ 0 = subst (λ (n : ℕ). n % bytes_of l.align ≡ 0) c.0 (subst (λ (n : ℕ). round_up b.align b.size % n ≡ 0) c.1 next.multiple) in
    let few : l.size ≤ 16777216 = omega (arith, c.0, small) in
    (raised known 0 ats fields b.size l.size up (lie b refl), multiple, few)

from_first : (known : List Measure) (own : Bool) (fault : Option Fault) (fields : List Field) (b : Layout)
    → put_fields known (measure_before own fault) fields ≡ Fits b → LieInOrder known 0 (offsets known (measure_before own fault) fields) fields b.size
from_first known own (Some fault) fields b e = absurd (never_waits known fields b e)
from_first known own None fields b e = in_order known fields (record { size = 0; align = One; lives = own }) b e

pub whole : (known : List Measure) (row : Row) (l : Layout) → type_measure known row ≡ Fits l → IsWhole known row l
whole known row l e =
    let w = whole_of known (put_fields known (first_measure row) row.fields) row.fields (type_offsets known row) l e (λ b. from_first known row.own row.fault row.fields b) in
    record { fields = w.0; multiple = w.1; small = w.2 }
