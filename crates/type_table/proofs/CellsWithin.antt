-- The string cells of a value lie in order within it.
use Rattle.std.proofs.Common.{◌≡◌, ℕ, zero, suc, ◌+◌, ◌*◌, ◌%◌, ◌≤◌, Bool, true, false, nat_lt, if◌then◌else◌, Option, Some, None, List, [], ◌∷◌, ◌++◌, length, refl, sym, ◌∙◌, ap, subst, arith}
use Rattle.fb_base.specs.declared.fault.Fault.{Fault}
use Rattle.fb_ast.specs.declared.ty.Ty.{Ty}
use Rattle.fb_ast.specs.declared.ty.Ty.TheVariants as t
use Rattle.type_table.specs.declared.layout.Align.{Align}
use Rattle.type_table.specs.declared.layout.Align.TheVariants.{One, Two, Four, Eight}
use Rattle.type_table.specs.declared.layout.Layout.{Layout}
use Rattle.type_table.specs.declared.layout.Measure.{Measure}
use Rattle.type_table.specs.declared.layout.Measure.TheVariants.{Waits, Big, Fits}
use Rattle.type_table.specs.declared.row.Field.{Field}
use Rattle.type_table.specs.declared.row.Row.{Row}
use Rattle.type_table.specs.Layouts.{bytes_of, round_up, larger, end_of, kind_align, kind_layout, pointer_layout, string_layout, put, last_of, measure_at, measured, put_fields, measure_before, first_measure, closed, type_measure, known_of}
use Rattle.type_table.specs.Offsets.{size_of, align_of, offset_of}
use Rattle.type_table.specs.Cells.{repeated, value_cells, fields_cells, row_cells, cells, type_cells, CellsLieInOrder}
use Rattle.type_table.proofs.Within.{next_multiple, never_waits, never_big, and_part, closed_from, whole}
use Rattle.type_table.proofs.Known.{Settled, settled, closed_fits}

-- the same cells, between other ends
lower : (low less : ℕ) (ats : List ℕ) (end : ℕ) → less ≤ low → CellsLieInOrder low ats end → CellsLieInOrder less ats end
lower low less [] end h lie = let k : low ≤ end = lie in omega arith
lower low less (at ∷ ats) end h lie = let k : low ≤ at = lie.0 in let up : less ≤ at = omega arith in (up, lie.1, lie.2)

raise : (low : ℕ) (ats : List ℕ) (end more : ℕ) → end ≤ more → CellsLieInOrder low ats end → CellsLieInOrder low ats more
raise low [] end more h lie = let k : low ≤ end = lie in omega arith
raise low (at ∷ ats) end more h lie = (lie.0, lie.1, raise (at + 24) ats end more h lie.2)

joined : (low : ℕ) (xs : List ℕ) (mid : ℕ) (ys : List ℕ) (end : ℕ) → CellsLieInOrder low xs mid → CellsLieInOrder mid ys end → CellsLieInOrder low (xs ++ ys) end
joined low [] mid ys end a b = lower mid low ys end a b
joined low (x ∷ xs) mid ys end a b = (a.0, a.1, joined (x + 24) xs mid ys end a.2 b)

-- multiples of an alignment
sum_multiple : (align : Align) (a b : ℕ) → a % bytes_of align ≡ 0 → b % bytes_of align ≡ 0 → (a + b) % bytes_of align ≡ 0
sum_multiple One a b h k = omega arith
sum_multiple Two a b h k = omega arith
sum_multiple Four a b h k = omega arith
sum_multiple Eight a b h k = omega arith

own_multiple : (align : Align) → bytes_of align % bytes_of align ≡ 0
own_multiple One = refl
own_multiple Two = refl
own_multiple Four = refl
own_multiple Eight = refl

zero_multiple : (align : Align) → 0 % bytes_of align ≡ 0
zero_multiple One = refl
zero_multiple Two = refl
zero_multiple Four = refl
zero_multiple Eight = refl

abbrev Both : ℕ → Align → Align → Type 0
Both n one other = (n % bytes_of one ≡ 0) × (n % bytes_of other ≡ 0)

of_larger : (one other : Align) (n : ℕ) → n % bytes_of (larger one other) ≡ 0 → Both n one other
of_larger One One n h = (omega arith, omega arith)
of_larger One Two n h = (omega arith, omega arith)
of_larger One Four n h = (omega arith, omega arith)
of_larger One Eight n h = (omega arith, omega arith)
of_larger Two One n h = (omega arith, omega arith)
of_larger Two Two n h = (omega arith, omega arith)
of_larger Two Four n h = (omega arith, omega arith)
of_larger Two Eight n h = (omega arith, omega arith)
of_larger Four One n h = (omega arith, omega arith)
of_larger Four Two n h = (omega arith, omega arith)
of_larger Four Four n h = (omega arith, omega arith)
of_larger Four Eight n h = (omega arith, omega arith)
of_larger Eight One n h = (omega arith, omega arith)
of_larger Eight Two n h = (omega arith, omega arith)
of_larger Eight Four n h = (omega arith, omega arith)
of_larger Eight Eight n h = (omega arith, omega arith)

-- wherever a value may lie, its cells lie in order within it
abbrev pub Holds : (ℕ → List ℕ) → Layout → Type 0
Holds one p = (at : ℕ) → at % bytes_of p.align ≡ 0 → CellsLieInOrder at (one at) (at + p.size)

abbrev pub IsEven : Layout → Type 0
IsEven p = p.size % bytes_of p.align ≡ 0

along : (p : Layout) (at : ℕ) → IsEven p → at % bytes_of p.align ≡ 0 → (count : ℕ) → (at + count * p.size) % bytes_of p.align ≡ 0
along p at even m zero = subst (λ (n : ℕ). n % bytes_of p.align ≡ 0) (omega arith) m
along p at even m (suc count) =
    subst (λ (n : ℕ). n % bytes_of p.align ≡ 0) (omega arith) (sum_multiple p.align (at + count * p.size) p.size (along p at even m count) even)

-- values that lie one behind the other
in_row : (one : ℕ → List ℕ) (p : Layout) (at : ℕ) → Holds one p → IsEven p → at % bytes_of p.align ≡ 0 → (count : ℕ)
    → CellsLieInOrder at (repeated one p.size at count) (at + count * p.size)
in_row one p at holds even m zero = omega arith
in_row one p at holds even m (suc count) =
    joined at (repeated one p.size at count) (at + count * p.size) (one (at + count * p.size)) (at + suc count * p.size)
    (in_row one p at holds even m count)
    (raise (at + count * p.size) (one (at + count * p.size)) (at + count * p.size + p.size) (at + suc count * p.size) (omega arith)
    (holds (at + count * p.size) (along p at even m count)))

-- what is so of Types is so of types
abbrev pub TypesHold : List Measure → (ℕ → ℕ → List ℕ) → Type 0
TypesHold known inner = (number : ℕ) (p : Layout) → measure_at known number ≡ Fits p → Holds (inner number) p

string_holds : (p : Layout) (at : ℕ) → (24 ≡ p.size) → (8 ≡ bytes_of p.align) → at % bytes_of p.align ≡ 0 → CellsLieInOrder at (at ∷ []) (at + p.size)
string_holds p at size align m =
    let own : at ≤ at = omega arith in
    let end : at + 24 ≤ at + p.size = omega arith in
    (own, subst (λ (n : ℕ). at % n ≡ 0) (sym align) m, end)

type_holds : (known : List Measure) (inner : ℕ → ℕ → List ℕ) → TypesHold known inner → (ty : Ty) (p : Layout) → measured known ty ≡ Fits p → Holds (value_cells inner ty) p
type_holds known inner hold (t.Obj number) p e at m = hold number p e at m
type_holds known inner hold t.Str p e at m = string_holds p at (ap size_of e) (ap align_of e) m
type_holds known inner hold other p e at m = omega arith

moved : (l p : Layout) → Fits l ≡ Fits p → IsEven l → IsEven p
moved l p e even = let same : l ≡ p = cc in subst IsEven same even

type_even : (rows : List Row) (known : List Measure) → Settled rows known → (ty : Ty) (p : Layout) → measured known ty ≡ Fits p → IsEven p
type_even rows known is (t.Num kind) p e = moved (kind_layout kind) p e (own_multiple (kind_align kind))
type_even rows known is (t.Obj number) p e = let found = is number p e in (whole known found.0 p found.2).multiple
type_even rows known is t.Str p e = moved string_layout p e refl
type_even rows known is other p e = moved pointer_layout p e refl

-- what is put behind something that fits fits, too
fits_so : (known : List Measure) (b : Layout) (last : ℕ) (p : Layout) (fields : List Field) (l : Layout) (many big : Bool)
    → put_fields known (if many then Big else if big then Big else Fits (and_part b last p)) fields ≡ Fits l
    → (if many then Big else if big then Big else Fits (and_part b last p)) ≡ Fits (and_part b last p)
fits_so known b last p fields l true big e = absurd (never_big known fields l e)
fits_so known b last p fields l false true e = absurd (never_big known fields l e)
fits_so known b last p fields l false false e = refl

record Step (b : Layout) (last : ℕ) (m : Measure) : Type 0 where
  part : Layout
  is : m ≡ Fits part
  after : put (Fits b) last m ≡ Fits (and_part b last part)

step : (known : List Measure) (b : Layout) (last : ℕ) (m : Measure) (fields : List Field) (l : Layout) → put_fields known (put (Fits b) last m) fields ≡ Fits l → Step b last m
step known b last Waits fields l e = absurd (never_waits known fields l e)
step known b last Big fields l e = absurd (never_big known fields l e)
step known b last (Fits p) fields l e =
    record { part = p; is = refl; after = fits_so known b last p fields l (nat_lt 16777216 last) (nat_lt 16777216 (end_of b last p)) e }

rest_fits : (known : List Measure) (b : Layout) (last : ℕ) (m : Measure) (fields : List Field) (l : Layout) (s : Step b last m)
    → put_fields known (put (Fits b) last m) fields ≡ Fits l → put_fields known (Fits (and_part b last s.part)) fields ≡ Fits l
rest_fits known b last m fields l s e = subst (λ (x : Measure). put_fields known x fields ≡ Fits l) s.after e

-- a multiple of the alignment of all is one of that of each
aligned : (known : List Measure) (fields : List Field) (b l : Layout) (n : ℕ) → put_fields known (Fits b) fields ≡ Fits l → n % bytes_of l.align ≡ 0 → n % bytes_of b.align ≡ 0
aligned known [] b l n e m = let same : bytes_of b.align ≡ bytes_of l.align = ap align_of e in subst (λ (k : ℕ). n % k ≡ 0) (sym same) m
aligned known (field ∷ fields) b l n e m =
    let s = step known b (last_of field.range) (measured known field.ty) fields l e in
    (of_larger b.align s.part.align n (aligned known fields (and_part b (last_of field.range) s.part) l n (rest_fits known b (last_of field.range) (measured known field.ty) fields l s e) m)).0

-- the cells of a field, and those of the fields behind it
field_first : (one : ℕ → List ℕ) (b p : Layout) (base last : ℕ) (rest : List ℕ) (end : ℕ) → Holds one p → IsEven p → base % bytes_of p.align ≡ 0
    → CellsLieInOrder (base + end_of b last p) rest end
    → CellsLieInOrder (base + b.size) (repeated one p.size (base + round_up p.align b.size) (last + 1) ++ rest) end
field_first one b p base last rest end holds even m lie =
    let next = next_multiple p.align b.size in
    let up : base + b.size ≤ base + round_up p.align b.size = omega (arith, next.above) in
    let there : base + round_up p.align b.size + (last + 1) * p.size ≤ base + end_of b last p = omega arith in
    joined (base + b.size) (repeated one p.size (base + round_up p.align b.size) (last + 1)) (base + end_of b last p) rest end
    (lower (base + round_up p.align b.size) (base + b.size) (repeated one p.size (base + round_up p.align b.size) (last + 1)) (base + end_of b last p) up
    (raise (base + round_up p.align b.size) (repeated one p.size (base + round_up p.align b.size) (last + 1)) (base + round_up p.align b.size + (last + 1) * p.size) (base + end_of b last p) there
    (in_row one p (base + round_up p.align b.size) holds even (sum_multiple p.align base (round_up p.align b.size) m next.multiple) (last + 1))))
    lie

module _ (rows : List Row) (known : List Measure) (is : Settled rows known) (inner : ℕ → ℕ → List ℕ) (hold : TypesHold known inner) where
  fields_hold : (base : ℕ) (fields : List Field) (b l : Layout) → put_fields known (Fits b) fields ≡ Fits l → base % bytes_of l.align ≡ 0
      → CellsLieInOrder (base + b.size) (fields_cells known inner base (Fits b) fields) (base + l.size)
  fields_hold base [] b l e m = let same : b.size ≡ l.size = ap size_of e in omega arith
  fields_hold base (field ∷ fields) b l e m =
      let s = step known b (last_of field.range) (measured known field.ty) fields l e in
      let more = rest_fits known b (last_of field.range) (measured known field.ty) fields l s e in
      let fine = (of_larger b.align s.part.align base (aligned known fields (and_part b (last_of field.range) s.part) l base more m)).1 in
      let here = field_first (value_cells inner field.ty) b s.part base (last_of field.range)
      (fields_cells known inner base (Fits (and_part b (last_of field.range) s.part)) fields) (base + l.size)
      (type_holds known inner hold field.ty s.part s.is) (type_even rows known is field.ty s.part s.is) fine
      (fields_hold base fields (and_part b (last_of field.range) s.part) l more m) in
      subst (λ (x : Measure). CellsLieInOrder (base + b.size) (repeated (value_cells inner field.ty) (size_of (measured known field.ty)) (base + offset_of (Fits b) (measured known field.ty)) (last_of field.range + 1) ++ fields_cells known inner base x fields) (base + l.size))
      (sym s.after)
      (subst (λ (x : Measure). CellsLieInOrder (base + b.size) (repeated (value_cells inner field.ty) (size_of x) (base + offset_of (Fits b) x) (last_of field.range + 1) ++ fields_cells known inner base (Fits (and_part b (last_of field.range) s.part)) fields) (base + l.size))
      (sym s.is) here)

  first_holds : (own : Bool) (fault : Option Fault) (fields : List Field) (b : Layout) (at : ℕ) → put_fields known (measure_before own fault) fields ≡ Fits b
      → at % bytes_of b.align ≡ 0 → CellsLieInOrder at (fields_cells known inner at (measure_before own fault) fields) (at + b.size)
  first_holds own (Some fault) fields b at e m = absurd (never_waits known fields b e)
  first_holds own None fields b at e m =
      lower (at + 0) at (fields_cells known inner at (measure_before own None) fields) (at + b.size) (omega arith)
      (fields_hold at fields (record { size = 0; align = One; lives = own }) b e m)

  closed_holds : (row : Row) (b l : Layout) (at : ℕ) → put_fields known (first_measure row) row.fields ≡ Fits b → closed (Fits b) ≡ Fits l
      → at % bytes_of l.align ≡ 0 → CellsLieInOrder at (row_cells known inner at (Some row)) (at + l.size)
  closed_holds row b l at e c m =
      let end = closed_from b l (nat_lt 16777216 (round_up b.align b.size)) c in
      let next = next_multiple b.align b.size in
      let up : at + b.size ≤ at + l.size = omega (arith, end.0, next.above) in
      raise at (fields_cells known inner at (first_measure row) row.fields) (at + b.size) (at + l.size) up
      (first_holds row.own row.fault row.fields b at e (subst (λ (n : ℕ). at % n ≡ 0) (sym end.1) m))

  row_holds : (row : Row) (l : Layout) → type_measure known row ≡ Fits l → Holds (λ at. row_cells known inner at (Some row)) l
  row_holds row l e at m =
      let b = closed_fits (put_fields known (first_measure row) row.fields) l e in
      closed_holds row b.0 l at b.1 (ap closed (sym b.1) ∙ e) m

types_hold : (rows : List Row) (known : List Measure) → Settled rows known → (n : ℕ) → TypesHold known (cells rows known n)
types_hold rows known is zero number l e at m = omega arith
types_hold rows known is (suc n) number l e at m =
    let found = is number l e in
    subst (λ (x : Option Row). CellsLieInOrder at (row_cells known (cells rows known n) at x) (at + l.size)) (sym found.1)
    (row_holds rows known is (cells rows known n) (types_hold rows known is n) found.0 l found.2 at m)

pub within : (rows : List Row) (ty : Ty) (layout : Layout) → measured (known_of rows) ty ≡ Fits layout → CellsLieInOrder 0 (type_cells rows (known_of rows) ty) layout.size
within rows ty layout e =
    raise 0 (type_cells rows (known_of rows) ty) (0 + layout.size) layout.size (omega arith)
    (type_holds (known_of rows) (cells rows (known_of rows) (length rows)) (types_hold rows (known_of rows) (settled rows (length rows)) (length rows)) ty layout e 0 (zero_multiple layout.align))
