-- What is known of a module's names and Types, item by item. SizeOf of a Type has a value where that Type and all that it
-- contains stand before, in any order among themselves: what is known is what is known where those before are all.
use Rattle.std.specs.Prelude.{ℕ, ◌++◌, Bool, false, ◌||◌, Option, Some, None, is_some, List, [], ◌∷◌}
use Rattle.std.specs.List.{list_any}
use Rattle.std.specs.Str.{bytes_eq}
use Rattle.fb_ast.specs.declared.expr.Expr.{Expr}
use Rattle.fb_ast.specs.declared.ty.TypeName.{TypeName}
use Rattle.fb_ast.specs.declared.part.Name.{Name}
use Rattle.fb_ast.specs.declared.part.Head.{Head}
use Rattle.fb_ast.specs.declared.part.Member.{Member}
use Rattle.fb_ast.specs.declared.part.ProcedureKind.{ProcedureKind}
use Rattle.fb_ast.specs.declared.part.ProcedureKind.TheVariants as k
use Rattle.fb_ast.specs.declared.part.Procedure.{Procedure}
use Rattle.fb_ast.specs.declared.part.Item.{Item}
use Rattle.fb_ast.specs.declared.part.Item.TheVariants as i
use Rattle.fb_ast.specs.declared.stmt.Var.{Var}
use Rattle.fb_ast.specs.declared.stmt.Listed.{Listed}
use Rattle.fb_ast.specs.declared.stmt.Stmt.{Stmt}
use Rattle.fb_ast.specs.declared.stmt.Stmt.TheVariants as s
use Rattle.const_values.specs.declared.outcome.Outcome.{Outcome}
use Rattle.const_values.specs.declared.outcome.Outcome.TheVariants as o
use Rattle.const_values.specs.Values.{value_of, cast, written_kind}
use Rattle.type_table.specs.declared.row.Row.{Row}
use Rattle.type_table.specs.declared.walk.Walk.{Walk}
use Rattle.type_table.specs.Layouts.{known_of}
use Rattle.type_table.specs.Names.{entry_of, named_outcome, sized_outcome}
use Rattle.type_table.specs.Members.{head_name, with_members}

-- the name of a Type
abbrev pub type_name : Item → List (List ℕ)
type_name (i.Type at name members) = name.text ∷ []
type_name (i.Declare at head) = []
type_name (i.DeclareOperator at op place params ty) = []
type_name (i.Procedure one) = []
type_name (i.Stmt stmt) = []

-- the names of all Types, in the order of the text
abbrev pub type_names : List Item → List (List ℕ)
type_names [] = []
type_names (item ∷ items) = type_name item ++ type_names items

abbrev pub nothing : Walk
nothing = record { entries = []; rows = [] }

-- one name more
abbrev pub put_entry : Walk → List ℕ → Outcome → Walk
put_entry walk name value = record walk { entries = walk.entries ++ (record { name = name; value = value }) ∷ [] }

abbrev pub put_vars : Walk → List Var → Walk
put_vars walk [] = walk
put_vars walk (var ∷ vars) = put_vars (put_entry walk var.name.text o.NoValue) vars

abbrev pub put_listed : Walk → List Listed → Walk
put_listed walk [] = walk
put_listed walk (var ∷ vars) = put_listed (put_entry walk var.name.text o.NoValue) vars

-- a Const has a value where its expression has one
abbrev pub settled : Outcome → Outcome
settled (o.Value c) = o.Value c
settled o.NoValue = o.NoValue
settled (o.Fault x) = o.NoValue

-- and converted to the type that it is declared with
abbrev pub const_value : Option TypeName → Outcome → Outcome
const_value None value = settled value
const_value (Some ty) value = settled (cast (written_kind ty.base ty.pointers) value)

abbrev pub with_const : List (List ℕ) → Walk → Name → Option TypeName → Expr → Walk
with_const types walk name ty e =
    put_entry walk name.text (const_value ty (value_of (named_outcome types walk.entries) (sized_outcome types walk.entries (known_of walk.rows)) e))

abbrev pub with_stmt : List (List ℕ) → Walk → Stmt → Walk
with_stmt types walk (s.Dim at storage vars) = put_vars walk vars
with_stmt types walk (s.DimAs at storage ty vars) = put_listed walk vars
with_stmt types walk (s.Const at name ty e) = with_const types walk name ty e
with_stmt types walk other = walk

-- whether a Type has that name
abbrev pub row_named : List Row → List ℕ → Bool
row_named rows name = list_any (λ row. bytes_eq row.name.text name) rows

-- whether another thing before has it
abbrev pub is_twice : Walk → List ℕ → Bool
is_twice walk name = row_named walk.rows name || is_some (entry_of walk.entries name)

-- a Type before its members
abbrev pub start_row : Walk → Name → Row
start_row walk name = record { name = name; twice = is_twice walk name.text; own = false; fault = None; fields = [] }

abbrev pub whole_row : List (List ℕ) → Walk → Name → List Member → Row
whole_row types walk name members = with_members types walk.entries (known_of walk.rows) [] (start_row walk name) members

abbrev pub put_row : Walk → Row → Walk
put_row walk row = record walk { rows = walk.rows ++ row ∷ [] }

abbrev pub with_type : List (List ℕ) → Walk → Name → List Member → Walk
with_type types walk name members = put_row walk (whole_row types walk name members)

abbrev pub with_head : Walk → Head → Walk
with_head walk head = put_entry walk (head_name head).text o.NoValue

abbrev pub with_kind : Walk → ProcedureKind → Walk
with_kind walk (k.Module head) = with_head walk head
with_kind walk other = walk

abbrev pub with_procedure : Walk → Procedure → Walk
with_procedure walk one = with_kind walk one.kind

-- one item more
abbrev pub with_item : List (List ℕ) → Walk → Item → Walk
with_item types walk (i.Declare at head) = with_head walk head
with_item types walk (i.DeclareOperator at op place params ty) = walk
with_item types walk (i.Procedure one) = with_procedure walk one
with_item types walk (i.Type at name members) = with_type types walk name members
with_item types walk (i.Stmt stmt) = with_stmt types walk stmt

abbrev pub walked : List (List ℕ) → Walk → List Item → Walk
walked types walk [] = walk
walked types walk (item ∷ items) = walked types (with_item types walk item) items
