-- What is known after some rounds stays as it is in further ones, and where Types stand behind.
use Rattle.std.proofs.Common.{◌≡◌, ℕ, zero, suc, ◌+◌, ◌<◌, ◌≤◌, List, [], ◌∷◌, ◌++◌, map, refl, sym, ◌∙◌, ap, arith, below_more}
use Rattle.fb_ast.specs.declared.ty.Ty.{Ty}
use Rattle.fb_ast.specs.declared.ty.Ty.TheVariants as t
use Rattle.type_table.specs.declared.layout.Measure.{Measure}
use Rattle.type_table.specs.declared.layout.Measure.TheVariants.{Waits}
use Rattle.type_table.specs.declared.row.Field.{Field}
use Rattle.type_table.specs.declared.row.Row.{Row}
use Rattle.type_table.specs.Layouts.{put, last_of, measured, put_fields, first_measure, closed, type_measure, measures}
use Rattle.type_table.specs.Plans.{Under}
use Rattle.type_table.proofs.Stuck.{waits_stay, put_waits}

type_same : (known more : List Measure) → Under known more → (ty : Ty) → (measured known ty ≡ Waits → ⊥) → measured more ty ≡ measured known ty
type_same known more under (t.Obj number) goes = under number goes
type_same known more under other goes = refl

all_wait : (known : List Measure) (before : Measure) (last : ℕ) (m : Measure) (fields : List Field) → m ≡ Waits → put_fields known (put before last m) fields ≡ Waits
all_wait known before last m fields e =
    ap (λ (x : Measure). put_fields known (put before last x) fields) e ∙ (ap (λ (x : Measure). put_fields known x fields) (put_waits before last) ∙ waits_stay known fields)

fields_same : (known more : List Measure) → Under known more → (fields : List Field) (before : Measure) → (put_fields known before fields ≡ Waits → ⊥)
    → put_fields more before fields ≡ put_fields known before fields
fields_same known more under [] before goes = refl
fields_same known more under (field ∷ fields) before goes =
    let same = type_same known more under field.ty (λ e. goes (all_wait known before (last_of field.range) (measured known field.ty) fields e)) in
    ap (λ (x : Measure). put_fields more (put before (last_of field.range) x) fields) same
    ∙ fields_same known more under fields (put before (last_of field.range) (measured known field.ty)) goes

-- a Type that is laid out is so by more, too
pub row_same : (known more : List Measure) → Under known more → (row : Row) → (type_measure known row ≡ Waits → ⊥) → type_measure more row ≡ type_measure known row
row_same known more under row goes = ap closed (fields_same known more under row.fields (first_measure row) (λ e. goes (ap closed e)))

pub under_trans : (one two three : List Measure) → Under one two → Under two three → Under one three
under_trans one two three a b number goes = b number (λ e. goes (sym (a number goes) ∙ e)) ∙ a number goes

map_under : (f g : Row → Measure) → ((row : Row) → (f row ≡ Waits → ⊥) → g row ≡ f row) → (rows : List Row) → Under (map f rows) (map g rows)
map_under f g h [] number goes = absurd (goes refl)
map_under f g h (row ∷ rows) zero goes = h row goes
map_under f g h (row ∷ rows) (suc number) goes = map_under f g h rows number goes

map_longer : (f g : Row → Measure) → ((row : Row) → (f row ≡ Waits → ⊥) → g row ≡ f row) → (rows behind : List Row) → Under (map f rows) (map g (rows ++ behind))
map_longer f g h [] behind number goes = absurd (goes refl)
map_longer f g h (row ∷ rows) behind zero goes = h row goes
map_longer f g h (row ∷ rows) behind (suc number) goes = map_longer f g h rows behind number goes

step_up : (rows : List Row) (n : ℕ) → Under (measures rows n) (measures rows (suc n))
step_up rows zero number goes = absurd (goes refl)
step_up rows (suc n) number goes = map_under (type_measure (measures rows n)) (type_measure (measures rows (suc n))) (row_same (measures rows n) (measures rows (suc n)) (step_up rows n)) rows number goes

up_to : (rows : List Row) (b a : ℕ) → a < b + 1 → Under (measures rows a) (measures rows b)
up_to rows zero a h = below_more (λ t. Under (measures rows t) (measures rows zero)) zero (λ t less. absurd (omega arith)) (λ number goes. refl) a h
up_to rows (suc b) a h =
    below_more (λ t. Under (measures rows t) (measures rows (suc b))) (suc b)
    (λ t less. under_trans (measures rows t) (measures rows b) (measures rows (suc b)) (up_to rows b t (omega arith)) (step_up rows b)) (λ number goes. refl) a h

-- more rounds
pub later : (rows : List Row) (a b : ℕ) → a ≤ b → Under (measures rows a) (measures rows b)
later rows a b h = up_to rows b a (omega arith)

-- more Types
pub longer : (rows behind : List Row) (n : ℕ) → Under (measures rows n) (measures (rows ++ behind) n)
longer rows behind zero number goes = absurd (goes refl)
longer rows behind (suc n) number goes =
    map_longer (type_measure (measures rows n)) (type_measure (measures (rows ++ behind) n)) (row_same (measures rows n) (measures (rows ++ behind) n) (longer rows behind n)) rows behind number goes
