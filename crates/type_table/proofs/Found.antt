-- A Type that contains another is found to do so.
use Rattle.std.proofs.Common.{◌≡◌, ℕ, zero, suc, ◌<◌, Bool, true, false, ◌||◌, ◌==◌, ◌⊎◌, inl, inr, Some, List, [], ◌∷◌, map, length, get_or, refl, ◌∙◌, ap, arith}
use Rattle.std.specs.Prelude.{slice_get}
use Rattle.std.proofs.lemmas.Option.{slice_get_within}
use Rattle.std.proofs.lemmas.Bool.Decides.{nat_tests}
use Rattle.fb_ast.specs.declared.ty.Ty.{Ty}
use Rattle.fb_ast.specs.declared.ty.Ty.TheVariants as t
use Rattle.type_table.specs.declared.row.Field.{Field}
use Rattle.type_table.specs.declared.row.Row.{Row}
use Rattle.type_table.specs.Cycles.{HasField, here, later, Contains, directly, through, marked_at, leads, fields_lead, row_leads, led, in_itself}
use Rattle.type_table.proofs.Circles.{at_place}
use Rattle.type_table.specs.Plans.{count}
use Rattle.type_table.proofs.Counts.{Passes, SameOrFewer, same_or_fewer, at_most}

either_stays : (a b c d : Bool) → (a ≡ true → c ≡ true) → (b ≡ true → d ≡ true) → (a || b) ≡ true → (c || d) ≡ true
either_stays true b c d h k e = ap (λ (x : Bool). x || d) (h refl)
either_stays false b true d h k e = refl
either_stays false b false d h k e = k e

-- what is marked is marked in the other marks, too
abbrev Under : List Bool → List Bool → Type 0
Under marks more = Passes (marked_at marks) (marked_at more)

type_leads : (target : ℕ) (marks more : List Bool) → Under marks more → (ty : Ty) → leads target marks ty ≡ true → leads target more ty ≡ true
type_leads target marks more under (t.Obj number) e =
    either_stays (number == target) (marked_at marks number) (number == target) (marked_at more number) (λ x. x) (under number) e
type_leads target marks more under other e = absurd (cc)

fields_stay : (target : ℕ) (marks more : List Bool) → Under marks more → (fields : List Field) → fields_lead target marks fields ≡ true → fields_lead target more fields ≡ true
fields_stay target marks more under [] e = absurd (cc)
fields_stay target marks more under (field ∷ fields) e =
    either_stays (leads target marks field.ty) (fields_lead target marks fields) (leads target more field.ty) (fields_lead target more fields)
    (type_leads target marks more under field.ty) (fields_stay target marks more under fields) e

-- a test that passes at a place of a list
at_row : (f : Row → Bool) (rows : List Row) (i : ℕ) (row : Row) → slice_get rows i ≡ Some row → f row ≡ true → get_or (map f rows) i false ≡ true
at_row f [] i row is e = absurd (cc)
at_row f (first ∷ rows) zero row is e = let same : first ≡ row = cc in ap f same ∙ e
at_row f (first ∷ rows) (suc i) row is e = at_row f rows i row is e

rows_stay : (rows : List Row) (target : ℕ) (marks more : List Bool) → Under marks more → Under (map (row_leads target marks) rows) (map (row_leads target more) rows)
rows_stay rows target marks more under o e =
    let found = at_place (row_leads target marks) rows o e in
    at_row (row_leads target more) rows o found.0 found.1 (fields_stay target marks more under found.0.fields found.2)

grows : (rows : List Row) (target n : ℕ) → Under (led rows target n) (led rows target (suc n))
grows rows target zero o e = absurd (cc)
grows rows target (suc n) o e = rows_stay rows target (led rows target n) (led rows target (suc n)) (grows rows target n) o e

-- a step further marks no more
abbrev Stable : List Row → ℕ → ℕ → Type 0
Stable rows target n = Under (led rows target (suc n)) (led rows target n)

stays_stable : (rows : List Row) (target n : ℕ) → Stable rows target n → Stable rows target (suc n)
stays_stable rows target n stable o e = rows_stay rows target (led rows target (suc n)) (led rows target n) stable o e

within : (rows : List Row) (f : Row → Bool) (o : ℕ) → marked_at (map f rows) o ≡ true → o < length rows
within rows f o e = let found = at_place f rows o e in slice_get_within rows o found.0 found.1

-- how many are marked after n steps
abbrev marked : List Row → ℕ → ℕ → ℕ
marked rows target n = count (marked_at (led rows target n)) (length rows)

same_marks : (rows : List Row) (target n : ℕ) → ((o : ℕ) → o < length rows → marked_at (led rows target (suc n)) o ≡ true → marked_at (led rows target n) o ≡ true) → Stable rows target n
same_marks rows target n same o e = same o (within rows (row_leads target (led rows target n)) o e) e

more_marks : (rows : List Row) (target n : ℕ) → SameOrFewer (marked_at (led rows target n)) (marked_at (led rows target (suc n))) (length rows)
more_marks rows target n = same_or_fewer (marked_at (led rows target n)) (marked_at (led rows target (suc n))) (grows rows target n) (length rows)

-- until it marks no more, each step marks one more
abbrev StableOrMany : List Row → ℕ → ℕ → Type 0
StableOrMany rows target n = Stable rows target n ⊎ (n < marked rows target (suc n))

first_turn : (rows : List Row) (target : ℕ) → SameOrFewer (marked_at (led rows target zero)) (marked_at (led rows target 1)) (length rows) → StableOrMany rows target zero
first_turn rows target (inl same) = inl (same_marks rows target zero same)
first_turn rows target (inr fewer) = inr (omega arith)

next_turn : (rows : List Row) (target n : ℕ) → StableOrMany rows target n → SameOrFewer (marked_at (led rows target (suc n))) (marked_at (led rows target (suc (suc n)))) (length rows)
    → StableOrMany rows target (suc n)
next_turn rows target n (inl stable) more = inl (stays_stable rows target n stable)
next_turn rows target n (inr many) (inl same) = inl (same_marks rows target (suc n) same)
next_turn rows target n (inr many) (inr fewer) = inr (omega arith)

turns : (rows : List Row) (target n : ℕ) → StableOrMany rows target n
turns rows target zero = first_turn rows target (more_marks rows target zero)
turns rows target (suc n) = next_turn rows target n (turns rows target n) (more_marks rows target (suc n))

no_more : (rows : List Row) (target : ℕ) → StableOrMany rows target (length rows) → Stable rows target (length rows)
no_more rows target (inl stable) = stable
no_more rows target (inr many) = absurd (omega (arith, at_most (marked_at (led rows target (suc (length rows)))) (length rows)))

last : (rows : List Row) (target : ℕ) → Stable rows target (length rows)
last rows target = no_more rows target (turns rows target (length rows))

same_number : (n : ℕ) → (n == n) ≡ true
same_number n = grind (arith, nat_tests)

or_true : (a : Bool) → (a || true) ≡ true
or_true true = refl
or_true false = refl

field_leads : (target : ℕ) (marks : List Bool) (fields : List Field) (number : ℕ) → HasField fields number → leads target marks (t.Obj number) ≡ true → fields_lead target marks fields ≡ true
field_leads target marks _ number (here field fields _ is) e =
    ap (λ (x : Bool). x || fields_lead target marks fields) (ap (leads target marks) is ∙ e)
field_leads target marks _ number (later field fields _ has) e =
    ap (λ (x : Bool). leads target marks field.ty || x) (field_leads target marks fields number has e) ∙ or_true (leads target marks field.ty)

pub found : (rows : List Row) (target outer : ℕ) → Contains rows outer target → marked_at (led rows target (length rows)) outer ≡ true
found rows target outer (directly _ _ row is has) =
    last rows target outer (at_row (row_leads target (led rows target (length rows))) rows outer row is
    (field_leads target (led rows target (length rows)) row.fields target has
    (ap (λ (x : Bool). x || marked_at (led rows target (length rows)) target) (same_number target))))
found rows target outer (through _ between _ row is has rest) =
    last rows target outer (at_row (row_leads target (led rows target (length rows))) rows outer row is
    (field_leads target (led rows target (length rows)) row.fields between has
    (ap (λ (x : Bool). (between == target) || x) (found rows target between rest) ∙ or_true (between == target))))

pub circle_found : (rows : List Row) (number : ℕ) → Contains rows number number → in_itself rows number ≡ true
circle_found rows number circle = found rows number number circle
