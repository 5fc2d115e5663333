-- One step of the loops that gather string cells.
use Rattle.std.proofs.Common.{◌≡◌, ℕ, ◌+◌, ◌*◌, ◌<◌, List, ◌∷◌, ◌++◌, length, drop, get_or, sym, ◌∙◌, ap, add-one, append_assoc}
use Rattle.std.proofs.lemmas.List.{drop_more}
use Rattle.type_table.specs.declared.layout.Measure.{Measure}
use Rattle.type_table.specs.declared.row.Field.{Field}
use Rattle.type_table.specs.Layouts.{put, last_of, measured}
use Rattle.type_table.specs.Offsets.{size_of, offset_of}
use Rattle.type_table.specs.Cells.{repeated, value_cells, fields_cells}

-- a function of what is left, at the next item
at_next : {X Y : Type 0} (f : List X → Y) (xs : List X) (i : ℕ) (x : X) → i < length xs → x ≡ get_or xs i x → f (drop i xs) ≡ f (x ∷ drop (i + 1) xs)
at_next f xs i x h e = ap f (drop_more xs i x h ∙ ap (λ y. y ∷ drop (i + 1) xs) (sym e))

-- one element more
pub element_step : (one : ℕ → List ℕ) (size at i place : ℕ) (begin so_far next : List ℕ) → place ≡ at + i * size → next ≡ so_far ++ one place
    → so_far ≡ begin ++ repeated one size at i → next ≡ begin ++ repeated one size at (i + 1)
element_step one size at i place begin so_far next p n e =
    n ∙ (ap (λ (x : ℕ). so_far ++ one x) p ∙ (ap (λ (x : List ℕ). x ++ one (at + i * size)) e
    ∙ (append_assoc begin (repeated one size at i) (one (at + i * size)) ∙ ap (λ (x : ℕ). begin ++ repeated one size at x) (sym (add-one i)))))

-- one field more
pub field_step : (known : List Measure) (inner : ℕ → ℕ → List ℕ) (base place count last : ℕ) (before after part : Measure) (fields : List Field) (i : ℕ) (field : Field) (so_far next all : List ℕ)
    → i < length fields → field ≡ get_or fields i field → part ≡ measured known field.ty → last ≡ last_of field.range → after ≡ put before last part
    → place ≡ base + offset_of before part → count ≡ last + 1
    → next ≡ so_far ++ repeated (value_cells inner field.ty) (size_of (measured known field.ty)) place count
    → so_far ++ fields_cells known inner base before (drop i fields) ≡ all
    → next ++ fields_cells known inner base after (drop (i + 1) fields) ≡ all
field_step known inner base place count last before after part fields i field so_far next all h e p l a w c n so =
    let here : List ℕ = repeated (value_cells inner field.ty) (size_of (measured known field.ty)) (base + offset_of before (measured known field.ty)) (last_of field.range + 1) in
    let rest : List ℕ = fields_cells known inner base (put before (last_of field.range) (measured known field.ty)) (drop (i + 1) fields) in
    let after-is : after ≡ put before (last_of field.range) (measured known field.ty) = a ∙ (ap (λ (x : ℕ). put before x part) l ∙ ap (put before (last_of field.range)) p) in
    let place-is : place ≡ base + offset_of before (measured known field.ty) = w ∙ ap (λ (x : Measure). base + offset_of before x) p in
    let count-is : count ≡ last_of field.range + 1 = c ∙ ap (λ (x : ℕ). x + 1) l in
    let next-is : next ≡ so_far ++ here = n ∙ (ap (λ (x : ℕ). so_far ++ repeated (value_cells inner field.ty) (size_of (measured known field.ty)) x count) place-is
    ∙ ap (λ (x : ℕ). so_far ++ repeated (value_cells inner field.ty) (size_of (measured known field.ty)) (base + offset_of before (measured known field.ty)) x) count-is) in
    ap (λ (x : Measure). next ++ fields_cells known inner base x (drop (i + 1) fields)) after-is
    ∙ (ap (λ (x : List ℕ). x ++ rest) next-is
    ∙ (append_assoc so_far here rest
    ∙ (sym (at_next (λ (x : List Field). so_far ++ fields_cells known inner base before x) fields i field h e) ∙ so)))
