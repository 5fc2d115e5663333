-- Whether a value has string cells doesn't depend on where it lies.
use Rattle.std.proofs.Common.{◌≡◌, ℕ, zero, suc, ◌+◌, ◌*◌, Option, Some, None, List, [], ◌∷◌, ◌++◌, length, refl, sym, ◌∙◌, ap, arith, length-append, append-nil}
use Rattle.std.specs.Prelude.{slice_get}
use Rattle.fb_ast.specs.declared.ty.Ty.{Ty}
use Rattle.fb_ast.specs.declared.ty.Ty.TheVariants as t
use Rattle.type_table.specs.declared.layout.Measure.{Measure}
use Rattle.type_table.specs.declared.row.Field.{Field}
use Rattle.type_table.specs.declared.row.Row.{Row}
use Rattle.type_table.specs.Layouts.{put, last_of, measured, first_measure}
use Rattle.type_table.specs.Offsets.{size_of, offset_of}
use Rattle.type_table.specs.Cells.{repeated, value_cells, fields_cells, row_cells, cells}

both_none : (xs ys : List ℕ) → xs ++ ys ≡ [] → (xs ≡ []) × (ys ≡ [])
both_none [] ys e = (refl, e)
both_none (x ∷ xs) ys e = absurd (cc)

none_and : (xs ys : List ℕ) → xs ≡ [] → ys ≡ [] → xs ++ ys ≡ []
none_and xs ys e f = ap (λ (x : List ℕ). x ++ ys) e ∙ f

-- where there is no cell at one offset there is none at any
abbrev pub Alike : (ℕ → List ℕ) → Type 0
Alike one = (a b : ℕ) → one a ≡ [] → one b ≡ []

none_repeated : (one : ℕ → List ℕ) (size at : ℕ) → ((b : ℕ) → one b ≡ []) → (count : ℕ) → repeated one size at count ≡ []
none_repeated one size at none zero = refl
none_repeated one size at none (suc count) = none_and (repeated one size at count) (one (at + count * size)) (none_repeated one size at none count) (none (at + count * size))

alike_repeated : (one : ℕ → List ℕ) → Alike one → (size a b count : ℕ) → repeated one size a count ≡ [] → repeated one size b count ≡ []
alike_repeated one alike size a b zero e = refl
alike_repeated one alike size a b (suc count) e =
    let none = both_none (repeated one size a count) (one (a + count * size)) e in
    none_repeated one size b (λ c. alike (a + count * size) c none.1) (suc count)

alike_value : (inner : ℕ → ℕ → List ℕ) → ((number : ℕ) → Alike (inner number)) → (ty : Ty) → Alike (value_cells inner ty)
alike_value inner alike (t.Num kind) a b e = refl
alike_value inner alike t.Str a b e = absurd (cc)
alike_value inner alike (t.Obj number) a b e = alike number a b e
alike_value inner alike (t.Ptr' p target) a b e = refl
alike_value inner alike t.AnyPtr a b e = refl

alike_fields : (known : List Measure) (inner : ℕ → ℕ → List ℕ) → ((number : ℕ) → Alike (inner number)) → (before : Measure) (fields : List Field)
    → Alike (λ base. fields_cells known inner base before fields)
alike_fields known inner alike before [] a b e = refl
alike_fields known inner alike before (field ∷ fields) a b e =
    let none = both_none _ (fields_cells known inner a (put before (last_of field.range) (measured known field.ty)) fields) e in
    none_and _ (fields_cells known inner b (put before (last_of field.range) (measured known field.ty)) fields)
    (alike_repeated (value_cells inner field.ty) (alike_value inner alike field.ty) (size_of (measured known field.ty)) (a + offset_of before (measured known field.ty)) (b + offset_of before (measured known field.ty)) (last_of field.range + 1) none.0)
    (alike_fields known inner alike (put before (last_of field.range) (measured known field.ty)) fields a b none.1)

alike_row : (known : List Measure) (inner : ℕ → ℕ → List ℕ) → ((number : ℕ) → Alike (inner number)) → (row : Option Row) → Alike (λ base. row_cells known inner base row)
alike_row known inner alike None a b e = refl
alike_row known inner alike (Some row) a b e = alike_fields known inner alike (first_measure row) row.fields a b e

alike_types : (rows : List Row) (known : List Measure) (n number : ℕ) → Alike (cells rows known n number)
alike_types rows known zero number a b e = refl
alike_types rows known (suc n) number a b e = alike_row known (cells rows known n) (alike_types rows known n) (slice_get rows number) a b e

pub alike : (rows : List Row) (known : List Measure) (n : ℕ) (ty : Ty) → Alike (value_cells (cells rows known n) ty)
alike rows known n ty = alike_value (cells rows known n) (alike_types rows known n) ty

none_there : (xs : List ℕ) → length xs ≡ 0 → xs ≡ []
none_there [] e = refl
none_there (x ∷ xs) e = absurd (omega arith)

-- where the first elements have no cells, all have none
pub no_elements : (one : ℕ → List ℕ) → Alike one → (size at i count : ℕ) (begin so_far now : List ℕ) → so_far ≡ begin ++ repeated one size at i → now ≡ so_far ++ one (at + i * size) → length now ≡ length begin
    → now ≡ begin ++ repeated one size at count
no_elements one alike size at i count begin so_far now s n same =
    let few : length (repeated one size at i) + length (one (at + i * size)) ≡ 0 =
    omega (arith, same, ap length n, ap length s, length-append so_far (one (at + i * size)), length-append begin (repeated one size at i)) in
    let first : repeated one size at i ≡ [] = none_there (repeated one size at i) (omega arith) in
    let this : one (at + i * size) ≡ [] = none_there (one (at + i * size)) (omega arith) in
    let all = none_repeated one size at (λ b. alike (at + i * size) b this) count in
    n ∙ (ap (λ (x : List ℕ). x ++ one (at + i * size)) (s ∙ ap (λ (x : List ℕ). begin ++ x) (first ∙ sym all))
    ∙ (ap (λ (x : List ℕ). (begin ++ repeated one size at count) ++ x) this ∙ append-nil (begin ++ repeated one size at count)))
