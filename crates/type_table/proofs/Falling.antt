-- A Type of which each field has a smaller label doesn't contain itself, where no label rises.
use Rattle.std.proofs.Common.{◌≡◌, ℕ, zero, suc, ◌+◌, ◌<◌, ◌≤◌, Bool, true, false, ◌&&◌, nat_lt, if◌then◌else◌, Some, List, [], ◌∷◌, refl, subst, arith}
use Rattle.std.specs.Prelude.{slice_get}
use Rattle.std.proofs.lemmas.Bool.Decides.{nat_tests}
use Rattle.fb_ast.specs.declared.ty.Ty.{Ty}
use Rattle.type_table.specs.declared.row.Field.{Field}
use Rattle.type_table.specs.declared.row.Row.{Row}
use Rattle.type_table.specs.Cycles.{HasField, here, later, Contains, directly, through, in_itself, label_at, type_below, fields_below, labels_fall}
use Rattle.type_table.proofs.Circles.{contains_itself}

both : (a b : Bool) → (a && b) ≡ true → (a ≡ true) × (b ≡ true)
both true b e = (refl, e)
both false b e = absurd (cc)

not_above : (above : Bool) → (if above then false else true) ≡ true → above ≡ false
not_above true e = absurd (cc)
not_above false e = refl

at_most : (m n : ℕ) → nat_lt m n ≡ false → n ≤ m
at_most m n h = grind (arith, nat_tests)

field_is : (labels : List ℕ) (most : ℕ) (fields : List Field) (part : ℕ) → fields_below labels most fields ≡ true → HasField fields part → label_at labels part ≤ most
field_is labels most _ part e (here field fields _ is) =
    at_most most (label_at labels part) (not_above (nat_lt most (label_at labels part)) (subst (λ (x : Ty). type_below labels most x ≡ true) is (both (type_below labels most field.ty) (fields_below labels most fields) e).0))
field_is labels most _ part e (later field fields _ has) = field_is labels most fields part (both (type_below labels most field.ty) (fields_below labels most fields) e).1 has

row_is : (labels : List ℕ) (from : ℕ) (rows : List Row) → labels_fall labels from rows ≡ true → (i number : ℕ) (row : Row) → number ≡ from + i → slice_get rows i ≡ Some row
    → fields_below labels (label_at labels number) row.fields ≡ true
row_is labels from [] e i number row n is = absurd (cc)
row_is labels from (first ∷ rows) e zero number row n is =
    let same : first ≡ row = cc in
    let place : from ≡ number = omega arith in
    subst (λ (x : ℕ). fields_below labels (label_at labels x) row.fields ≡ true) place
    (subst (λ (x : Row). fields_below labels (label_at labels from) x.fields ≡ true) same (both (fields_below labels (label_at labels from) first.fields) (labels_fall labels (suc from) rows) e).0)
row_is labels from (first ∷ rows) e (suc i) number row n is =
    row_is labels (suc from) rows (both (fields_below labels (label_at labels from) first.fields) (labels_fall labels (suc from) rows) e).1 i number row (omega arith) is

module _ (labels : List ℕ) (rows : List Row) (fall : labels_fall labels 0 rows ≡ true) where
  way_falls : (outer inner : ℕ) → Contains rows outer inner → label_at labels inner ≤ label_at labels outer
  way_falls outer inner (directly _ _ row is has) = field_is labels (label_at labels outer) row.fields inner (row_is labels 0 rows fall outer outer row (omega arith) is) has
  way_falls outer inner (through _ between _ row is has rest) =
      let first = field_is labels (label_at labels outer) row.fields between (row_is labels 0 rows fall outer outer row (omega arith) is) has in
      let further = way_falls between inner rest in
      omega arith

  no_way : (number most : ℕ) (row : Row) → slice_get rows number ≡ Some row → most < label_at labels number → fields_below labels most row.fields ≡ true → Contains rows number number → ⊥
  no_way number most row is less e (directly _ _ own there has) =
      let same : own ≡ row = cc in
      let first = field_is labels most row.fields number e (subst (λ (x : Row). HasField x.fields number) same has) in
      omega arith
  no_way number most row is less e (through _ between _ own there has rest) =
      let same : own ≡ row = cc in
      let first = field_is labels most row.fields between e (subst (λ (x : Row). HasField x.fields between) same has) in
      let further = way_falls between number rest in
      omega arith

not_true : (b : Bool) → (b ≡ true → ⊥) → b ≡ false
not_true true h = absurd (h refl)
not_true false h = refl

pub not_in_itself : (labels : List ℕ) (rows : List Row) (number most : ℕ) (row : Row) → labels_fall labels 0 rows ≡ true → slice_get rows number ≡ Some row → most < label_at labels number
    → fields_below labels most row.fields ≡ true → in_itself rows number ≡ false
not_in_itself labels rows number most row fall is less e =
    not_true (in_itself rows number) (λ circle. no_way labels rows fall number most row is less e (contains_itself rows number circle))
