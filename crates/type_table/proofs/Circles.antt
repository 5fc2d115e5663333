-- What is found to contain itself does, and has no layout.
use Rattle.std.proofs.Common.{◌≡◌, ℕ, zero, suc, Bool, true, false, ◌||◌, ◌==◌, ◌⊎◌, inl, inr, Some, List, [], ◌∷◌, map, length, get_or, refl, ◌∙◌, ap, arith}
use Rattle.std.specs.Prelude.{slice_get}
use Rattle.std.proofs.lemmas.Bool.Decides.{nat_tests}
use Rattle.fb_ast.specs.declared.ty.Ty.{Ty}
use Rattle.fb_ast.specs.declared.ty.Ty.TheVariants as t
use Rattle.type_table.specs.declared.row.Field.{Field}
use Rattle.type_table.specs.declared.row.Row.{Row}
use Rattle.type_table.specs.Cycles.{HasField, here, later, Contains, directly, through, marked_at, leads, fields_lead, row_leads, led, in_itself}

either : (a b : Bool) → (a || b) ≡ true → (a ≡ true) ⊎ (b ≡ true)
either true b e = inl refl
either false b e = inr e

equal_numbers : (m n : ℕ) → (m == n) ≡ true → m ≡ n
equal_numbers m n e = grind (arith, nat_tests)

-- a field of the Type of this number, or of one that is marked
abbrev LeadsTo : ℕ → List Bool → List Field → Type 0
LeadsTo target marks fields = HasField fields target ⊎ ((number : ℕ) × HasField fields number × (marked_at marks number ≡ true))

by_number : (target : ℕ) (marks : List Bool) (field : Field) (fields : List Field) (number : ℕ) → field.ty ≡ t.Obj number
    → ((number == target) ≡ true) ⊎ (marked_at marks number ≡ true) → LeadsTo target marks (field ∷ fields)
by_number target marks field fields number is (inl same) = inl (here field fields target (is ∙ ap t.Obj (equal_numbers number target same)))
by_number target marks field fields number is (inr marked) = inr (number, here field fields number is, marked)

by_type : (target : ℕ) (marks : List Bool) (field : Field) (fields : List Field) (ty : Ty) → field.ty ≡ ty → leads target marks ty ≡ true → LeadsTo target marks (field ∷ fields)
by_type target marks field fields (t.Obj number) is e = by_number target marks field fields number is (either (number == target) (marked_at marks number) e)
by_type target marks field fields other is e = absurd (cc)

further : (target : ℕ) (marks : List Bool) (field : Field) (fields : List Field) → LeadsTo target marks fields → LeadsTo target marks (field ∷ fields)
further target marks field fields (inl has) = inl (later field fields target has)
further target marks field fields (inr other) = inr (other.0, later field fields other.0 other.1, other.2)

of_fields : (target : ℕ) (marks : List Bool) (fields : List Field) → fields_lead target marks fields ≡ true → LeadsTo target marks fields
of_fields target marks [] e = absurd (cc)
of_fields target marks (field ∷ fields) e =
    elim (either (leads target marks field.ty) (fields_lead target marks fields) e) [
      | inl first ↦ by_type target marks field fields field.ty refl first
      | inr rest ↦ further target marks field fields (of_fields target marks fields rest)
    ]

-- what a list says of its elements is so of one of them
pub at_place : (f : Row → Bool) (rows : List Row) (i : ℕ) → get_or (map f rows) i false ≡ true → (row : Row) × (slice_get rows i ≡ Some row) × (f row ≡ true)
at_place f [] i e = absurd (cc)
at_place f (row ∷ rows) zero e = (row, refl, e)
at_place f (row ∷ rows) (suc i) e = at_place f rows i e

joined : (rows : List Row) (target outer : ℕ) (row : Row) (marks : List Bool) → slice_get rows outer ≡ Some row
    → ((number : ℕ) → marked_at marks number ≡ true → Contains rows number target) → LeadsTo target marks row.fields → Contains rows outer target
joined rows target outer row marks is so_far (inl has) = directly outer target row is has
joined rows target outer row marks is so_far (inr other) = through outer other.0 target row is other.1 (so_far other.0 other.2)

pub led_is : (rows : List Row) (target n outer : ℕ) → marked_at (led rows target n) outer ≡ true → Contains rows outer target
led_is rows target zero outer e = absurd (cc)
led_is rows target (suc n) outer e =
    let found = at_place (row_leads target (led rows target n)) rows outer e in
    joined rows target outer found.0 (led rows target n) found.1 (led_is rows target n) (of_fields target (led rows target n) found.0.fields found.2)

pub contains_itself : (rows : List Row) (target : ℕ) → in_itself rows target ≡ true → Contains rows target target
contains_itself rows target e = led_is rows target (length rows) target e
