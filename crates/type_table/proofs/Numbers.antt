-- The Types in the fields of a module's Types are among these.
use Rattle.std.proofs.Common.{◌≡◌, ℕ, zero, suc, ◌+◌, ◌-◌, ◌<◌, Bool, true, false, if◌then◌else◌, ◌==◌, Option, Some, None, Result, Ok, Err, List, [], ◌∷◌, ◌++◌, length, refl, sym, ap, subst, arith, length-append}
use Rattle.std.specs.Prelude.{slice_get}
use Rattle.std.specs.Str.{bytes_eq}
use Rattle.std.proofs.lemmas.List.Quantifiers.{position-Some}
use Rattle.fb_base.specs.declared.fault.Fault.{Fault}
use Rattle.fb_base.specs.declared.fault.Span.{Span}
use Rattle.fb_ast.specs.declared.ty.Base.{Base}
use Rattle.fb_ast.specs.declared.ty.Base.TheVariants as base
use Rattle.fb_ast.specs.declared.ty.Ty.{Ty}
use Rattle.fb_ast.specs.declared.ty.Ty.TheVariants as t
use Rattle.fb_ast.specs.declared.part.Name.{Name}
use Rattle.fb_ast.specs.declared.part.Member.{Member}
use Rattle.fb_ast.specs.declared.part.Member.TheVariants as m
use Rattle.fb_ast.specs.declared.part.ProcedureKind.{ProcedureKind}
use Rattle.fb_ast.specs.declared.part.ProcedureKind.TheVariants as k
use Rattle.fb_ast.specs.declared.part.Item.{Item}
use Rattle.fb_ast.specs.declared.part.Item.TheVariants as i
use Rattle.fb_ast.specs.declared.stmt.Var.{Var}
use Rattle.fb_ast.specs.declared.stmt.Listed.{Listed}
use Rattle.fb_ast.specs.declared.stmt.Stmt.{Stmt}
use Rattle.fb_ast.specs.declared.stmt.Stmt.TheVariants as s
use Rattle.const_values.specs.declared.outcome.Outcome.{Outcome}
use Rattle.const_values.specs.declared.outcome.Outcome.TheVariants as o
use Rattle.type_table.specs.declared.layout.Measure.{Measure}
use Rattle.type_table.specs.declared.layout.Measure.TheVariants.{Waits, Fits}
use Rattle.type_table.specs.declared.row.Range.{Range}
use Rattle.type_table.specs.declared.row.Field.{Field}
use Rattle.type_table.specs.declared.row.Row.{Row}
use Rattle.type_table.specs.declared.scope.Entry.{Entry}
use Rattle.type_table.specs.declared.scope.Basis.{Basis}
use Rattle.type_table.specs.declared.scope.Basis.TheVariants as b
use Rattle.type_table.specs.declared.members.Parts.{Parts}
use Rattle.type_table.specs.declared.walk.Walk.{Walk}
use Rattle.type_table.specs.Layouts.{pointer_layout, measured, known_of}
use Rattle.type_table.specs.Cycles.{HasField, here, later}
use Rattle.type_table.specs.Names.{entry_of, type_number, named_type, base_type, basis_of, pointed, type_of}
use Rattle.type_table.specs.Members.{taken, range_of, with_basis, with_range, field_made, with_field, with_member, with_members}
use Rattle.type_table.specs.Walks.{type_name, type_names, nothing, put_entry, put_vars, put_listed, with_stmt, start_row, whole_row, with_kind, with_item, walked}
use Rattle.type_table.specs.Tables.{rows_of}
use Rattle.type_table.proofs.LaidOut.{Numbered}

-- the Type that a type is has a number below n
abbrev TypeBelow : ℕ → Ty → Type 0
TypeBelow n ty = (part : ℕ) → ty ≡ t.Obj part → part < n

pointer_not : (target : Ty) (part : ℕ) → t.Ptr target ≡ t.Obj part → ⊥
pointer_not target part e = let is : Fits pointer_layout ≡ Waits = ap (measured []) e in cc

pointed_below : (n : ℕ) (inner : Ty) → TypeBelow n inner → (pointers : ℕ) → TypeBelow n (pointed pointers inner)
pointed_below n inner below zero part e = below part e
pointed_below n inner below (suc pointers) part e = absurd (pointer_not (pointed pointers inner) part e)

abbrev BasisBelow : ℕ → Basis → Type 0
BasisBelow n (b.Obj number) = number < n
BasisBelow n other = Unit {0}

object_below : (n number : ℕ) → number < n → TypeBelow n (t.Obj number)
object_below n number below part e = let same : number ≡ part = cc in omega arith

basis_type : (n : ℕ) (basis : Basis) (pointers : ℕ) → BasisBelow n basis → TypeBelow n (type_of basis pointers)
basis_type n (b.Num kind) pointers below = pointed_below n (t.Num kind) (λ part e. absurd (cc)) pointers
basis_type n b.Str pointers below = pointed_below n t.Str (λ part e. absurd (cc)) pointers
basis_type n b.Any pointers below = pointed_below n t.AnyPtr (λ part e. absurd (cc)) (pointers - 1)
basis_type n (b.Obj number) pointers below = pointed_below n (t.Obj number) (object_below n number below) pointers

-- what a written type is
abbrev ResultBelow : ℕ → Result Basis Fault → Type 0
ResultBelow n (Ok basis) = BasisBelow n basis
ResultBelow n (Err fault) = Unit {0}

any_below : (n : ℕ) (bare : Bool) (fault : Fault) → ResultBelow n (if bare then Err fault else Ok b.Any)
any_below n true fault = tt
any_below n false fault = tt

named_below : (n : ℕ) (number : Option ℕ) (other : Option Outcome) (at : Span) → ((i : ℕ) → number ≡ Some i → i < n) → ResultBelow n (named_type number other at)
named_below n (Some number) other at below = below number refl
named_below n None (Some other) at below = tt
named_below n None None at below = tt

base_below : (types : List (List ℕ)) (entries : List Entry) (written : Base) (pointers : ℕ) (at : Span) → ResultBelow (length types) (base_type types entries written pointers at)
base_below types entries (base.Num kind) pointers at = tt
base_below types entries base.Str pointers at = tt
base_below types entries base.Any pointers at = any_below (length types) (pointers == 0) _
base_below types entries (base.Name name) pointers at =
    named_below (length types) (type_number types name) (entry_of entries name) at (λ i e. (position-Some (λ other. bytes_eq other name) types i [] e).0)

-- what a field says
abbrev PartsBelow : ℕ → Result Parts Fault → Type 0
PartsBelow n (Ok parts) = BasisBelow n parts.basis
PartsBelow n (Err fault) = Unit {0}

with_basis_below : (n : ℕ) (range : Option Range) (basis : Result Basis Fault) → ResultBelow n basis → PartsBelow n (with_basis range basis)
with_basis_below n range (Ok basis) below = below
with_basis_below n range (Err fault) below = tt

parts_below : (n : ℕ) (twice : Bool) (fault : Fault) (range : Result (Option Range) Fault) (basis : Result Basis Fault) → ResultBelow n basis
    → PartsBelow n (if twice then Err fault else with_range range basis)
parts_below n true fault range basis below = tt
parts_below n false fault (Err other) basis below = tt
parts_below n false fault (Ok range) basis below = with_basis_below n range basis below

abbrev AllFields : ℕ → List Field → Type 0
AllFields n [] = Unit {0}
AllFields n (field ∷ fields) = TypeBelow n field.ty × AllFields n fields

one_field : (n : ℕ) (fields : List Field) (field : Field) → AllFields n fields → TypeBelow n field.ty → AllFields n (fields ++ field ∷ [])
one_field n [] field all below = (below, tt)
one_field n (first ∷ fields) field all below = (all.0, one_field n fields field all.1 below)

field_below : (n : ℕ) (row : Row) (name : Name) (pointers : ℕ) (parts : Result Parts Fault) → AllFields n row.fields → PartsBelow n parts
    → AllFields n (with_field row name pointers parts).fields
field_below n row name pointers (Err fault) all below = all
field_below n row name pointers (Ok parts) all below = one_field n row.fields (field_made name pointers parts) all (basis_type n parts.basis pointers below)

member_below : (types : List (List ℕ)) (entries : List Entry) (known : List Measure) (before : List Member) (row : Row) (member : Member)
    → AllFields (length types) row.fields → AllFields (length types) (with_member types entries known before row member).fields
member_below types entries known before row (m.Field name bounds ty) all =
    field_below (length types) row name ty.pointers _ all
    (parts_below (length types) (taken before name.text true) _ (range_of types entries known bounds) (basis_of types entries ty)
    (base_below types entries ty.base ty.pointers ty.at))
member_below types entries known before row (m.Declare at head) all = all
member_below types entries known before row (m.Constructor at word params) all = all
member_below types entries known before row (m.Destructor at word) all = all
member_below types entries known before row (m.Let at word param) all = all

members_below : (types : List (List ℕ)) (entries : List Entry) (known : List Measure) (before : List Member) (row : Row) (members : List Member)
    → AllFields (length types) row.fields → AllFields (length types) (with_members types entries known before row members).fields
members_below types entries known before row [] all = all
members_below types entries known before row (member ∷ members) all =
    members_below types entries known (before ++ member ∷ []) (with_member types entries known before row member) members
    (member_below types entries known before row member all)

abbrev AllRows : ℕ → List Row → Type 0
AllRows n [] = Unit {0}
AllRows n (row ∷ rows) = AllFields n row.fields × AllRows n rows

one_row : (n : ℕ) (rows : List Row) (row : Row) → AllRows n rows → AllFields n row.fields → AllRows n (rows ++ row ∷ [])
one_row n [] row all below = (below, tt)
one_row n (first ∷ rows) row all below = (all.0, one_row n rows row all.1 below)

-- what items with these names of Types add
record Grows (types : List (List ℕ)) (walk after : Walk) (names : List (List ℕ)) : Type 0 where
  count : length after.rows ≡ length walk.rows + length names
  below : AllRows (length types) walk.rows → AllRows (length types) after.rows

same : (types : List (List ℕ)) (walk after : Walk) → after.rows ≡ walk.rows → Grows types walk after []
same types walk after e = record {
  count = omega (arith, ap length e);
  below = λ all. subst (AllRows (length types)) (sym e) all;
}

vars_same : (walk : Walk) (vars : List Var) → (put_vars walk vars).rows ≡ walk.rows
vars_same walk [] = refl
vars_same walk (var ∷ vars) = vars_same (put_entry walk var.name.text o.NoValue) vars

listed_same : (walk : Walk) (vars : List Listed) → (put_listed walk vars).rows ≡ walk.rows
listed_same walk [] = refl
listed_same walk (var ∷ vars) = listed_same (put_entry walk var.name.text o.NoValue) vars

stmt_same : (types : List (List ℕ)) (walk : Walk) (stmt : Stmt) → (with_stmt types walk stmt).rows ≡ walk.rows
stmt_same types walk (s.Dim at storage vars) = vars_same walk vars
stmt_same types walk (s.DimAs at storage ty vars) = listed_same walk vars
stmt_same types walk (s.Const at name ty e) = refl
stmt_same types walk other = refl

kind_same : (walk : Walk) (kind : ProcedureKind) → (with_kind walk kind).rows ≡ walk.rows
kind_same walk (k.Module head) = refl
kind_same walk other = refl

item_grows : (types : List (List ℕ)) (walk : Walk) (item : Item) → Grows types walk (with_item types walk item) (type_name item)
item_grows types walk (i.Declare at head) = same types walk _ refl
item_grows types walk (i.DeclareOperator at op place params ty) = same types walk _ refl
item_grows types walk (i.Procedure one) = same types walk _ (kind_same walk one.kind)
item_grows types walk (i.Type at name members) = record {
  count = length-append walk.rows (whole_row types walk name members ∷ []);
  below = λ all. one_row (length types) walk.rows (whole_row types walk name members) all
      (members_below types walk.entries (known_of walk.rows) [] (start_row walk name) members tt);
}
item_grows types walk (i.Stmt stmt) = same types walk _ (stmt_same types walk stmt)

walk_grows : (types : List (List ℕ)) (walk : Walk) (items : List Item) → Grows types walk (walked types walk items) (type_names items)
walk_grows types walk [] = same types walk walk refl
walk_grows types walk (item ∷ items) =
    let one = item_grows types walk item in
    let rest = walk_grows types (with_item types walk item) items in
    record {
      count = omega (arith, one.count, rest.count, length-append (type_name item) (type_names items));
      below = λ all. rest.below (one.below all);
    }

field_at : (n : ℕ) (fields : List Field) (part : ℕ) → HasField fields part → AllFields n fields → part < n
field_at n _ part (here field fields _ is) all = all.0 part is
field_at n _ part (later field fields _ has) all = field_at n fields part has all.1

row_at : (n : ℕ) (rows : List Row) (number : ℕ) (row : Row) → slice_get rows number ≡ Some row → AllRows n rows → AllFields n row.fields
row_at n [] number row is all = absurd (cc)
row_at n (first ∷ rows) zero row is all = let one : first ≡ row = cc in subst (λ (x : Row). AllFields n x.fields) one all.0
row_at n (first ∷ rows) (suc number) row is all = row_at n rows number row is all.1

pub numbered : (items : List Item) → Numbered (rows_of items)
numbered items number part row is has =
    let all = walk_grows (type_names items) nothing items in
    let below : part < length (type_names items) = field_at (length (type_names items)) row.fields part has (row_at (length (type_names items)) (rows_of items) number row is (all.below tt)) in
    omega (arith, all.count)
