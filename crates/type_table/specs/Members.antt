-- What the members of a Type say, and their faults.
use Rattle.std.specs.Prelude.{ℕ, ◌++◌, Bool, true, false, ◌&&◌, if◌then◌else◌, Option, Some, None, Result, Ok, Err, List, [], ◌∷◌}
use Rattle.std.specs.List.{list_any}
use Rattle.std.specs.Str.{bytes_eq}
use Rattle.word64.specs.declared.kind.Kind.TheVariants.{Integer}
use Rattle.word64.specs.Words.{less_signed}
use Rattle.fb_base.specs.declared.fault.Span.{Span}
use Rattle.fb_base.specs.declared.fault.Fault.{Fault}
use Rattle.fb_base.specs.declared.fault.FaultKind.TheVariants.{Twice, BadBounds}
use Rattle.fb_ast.specs.Places.{place_of}
use Rattle.fb_ast.specs.declared.expr.Expr.{Expr}
use Rattle.fb_ast.specs.declared.ty.TypeName.{TypeName}
use Rattle.fb_ast.specs.declared.part.Name.{Name}
use Rattle.fb_ast.specs.declared.part.Bounds.{Bounds}
use Rattle.fb_ast.specs.declared.part.Param.{Param}
use Rattle.fb_ast.specs.declared.part.Head.{Head}
use Rattle.fb_ast.specs.declared.part.Head.TheVariants as h
use Rattle.fb_ast.specs.declared.part.Member.{Member}
use Rattle.fb_ast.specs.declared.part.Member.TheVariants as m
use Rattle.const_values.specs.declared.outcome.Constant.{Constant}
use Rattle.const_values.specs.Values.{constant_of}
use Rattle.type_table.specs.declared.layout.Measure.{Measure}
use Rattle.type_table.specs.declared.row.Range.{Range}
use Rattle.type_table.specs.declared.row.Field.{Field}
use Rattle.type_table.specs.declared.row.Row.{Row}
use Rattle.type_table.specs.declared.scope.Entry.{Entry}
use Rattle.type_table.specs.declared.scope.Basis.{Basis}
use Rattle.type_table.specs.declared.members.Parts.{Parts}
use Rattle.type_table.specs.Names.{basis_of, fault_at, named_outcome, sized_outcome, type_of}

-- bounds of which these are the values, as Integers; the lower one isn't above the upper one
abbrev pub ranged : Span → Result Constant Fault → Result Constant Fault → Result (Option Range) Fault
ranged at (Err fault) high = Err fault
ranged at (Ok low) (Err fault) = Err fault
ranged at (Ok low) (Ok high) = if less_signed high.word low.word then Err (fault_at BadBounds at) else Ok (Some (record { low = low.word; high = high.word }))

abbrev pub zero_value : Constant
zero_value = record { kind = Integer; word = 0 }

-- one fault, and else the other
abbrev pub first_of : Option Fault → Option Fault → Option Fault
first_of (Some fault) other = Some fault
first_of None other = other

-- whether a member has a name that a further one may not have, which is a field or not: a field's name is no other's
abbrev pub head_name : Head → Name
head_name (h.Sub at name over params) = name
head_name (h.Function at name over params ty) = name

abbrev pub clashes : Member → List ℕ → Bool → Bool
clashes (m.Field other bounds ty) name is_field = bytes_eq other.text name
clashes (m.Declare at head) name is_field = is_field && bytes_eq (head_name head).text name
clashes (m.Constructor at word params) name is_field = false
clashes (m.Destructor at word) name is_field = false
clashes (m.Let at word param) name is_field = false

abbrev pub taken : List Member → List ℕ → Bool → Bool
taken before name is_field = list_any (λ member. clashes member name is_field) before

abbrev pub twice : List Member → Name → Option Fault
twice before name = if taken before name.text false then Some (fault_at Twice name.at) else None

abbrev pub with_basis : Option Range → Result Basis Fault → Result Parts Fault
with_basis range (Err fault) = Err fault
with_basis range (Ok basis) = Ok (record { range = range; basis = basis })

abbrev pub with_range : Result (Option Range) Fault → Result Basis Fault → Result Parts Fault
with_range (Err fault) basis = Err fault
with_range (Ok range) basis = with_basis range basis

abbrev pub field_made : Name → ℕ → Parts → Field
field_made name pointers parts = record { name = name.text; range = parts.range; ty = type_of parts.basis pointers }

abbrev pub with_fault : Row → Option Fault → Row
with_fault row fault = record row { fault = first_of row.fault fault }

abbrev pub with_field : Row → Name → ℕ → Result Parts Fault → Row
with_field row name pointers (Err fault) = with_fault row (Some fault)
with_field row name pointers (Ok parts) = record row { fields = row.fields ++ field_made name pointers parts ∷ [] }

abbrev pub fault_of_type : Result Basis Fault → Option Fault
fault_of_type (Err fault) = Some fault
fault_of_type (Ok basis) = None

-- by the names of the Types, the module's other names that stand before, and what is known of the Types that stand before
module _ (types : List (List ℕ)) (entries : List Entry) where
  abbrev pub type_fault : TypeName → Option Fault
  type_fault ty = fault_of_type (basis_of types entries ty)

  abbrev pub params_fault : List Param → Option Fault
  params_fault [] = None
  params_fault (param ∷ params) = first_of (type_fault param.ty) (params_fault params)

  abbrev pub declare_fault : List Member → Head → Option Fault
  declare_fault before (h.Sub at name over params) = first_of (twice before name) (params_fault params)
  declare_fault before (h.Function at name over params ty) = first_of (twice before name) (first_of (params_fault params) (type_fault ty))

  module _ (known : List Measure) where
    abbrev pub bound : Expr → Result Constant Fault
    bound e = constant_of (named_outcome types entries) (sized_outcome types entries known) e

    -- one bound alone is the upper one, above 0
    abbrev pub range_between : Option Expr → Expr → Result (Option Range) Fault
    range_between None high = ranged (place_of high) (Ok zero_value) (bound high)
    range_between (Some low) high = ranged (place_of low) (bound low) (bound high)

    abbrev pub range_of : Option Bounds → Result (Option Range) Fault
    range_of None = Ok None
    range_of (Some bounds) = range_between bounds.low bounds.high

    -- what a field says, or its first fault
    abbrev pub field_parts : List Member → Name → Option Bounds → TypeName → Result Parts Fault
    field_parts before name bounds ty = if taken before name.text true then Err (fault_at Twice name.at) else with_range (range_of bounds) (basis_of types entries ty)

    -- one member more, behind these
    abbrev pub with_member : List Member → Row → Member → Row
    with_member before row (m.Field name bounds ty) = with_field row name ty.pointers (field_parts before name bounds ty)
    with_member before row (m.Declare at head) = with_fault row (declare_fault before head)
    with_member before row (m.Constructor at word params) = with_fault (record row { own = true }) (params_fault params)
    with_member before row (m.Destructor at word) = record row { own = true }
    with_member before row (m.Let at word param) = with_fault row (type_fault param.ty)

    abbrev pub with_members : List Member → Row → List Member → Row
    with_members before row [] = row
    with_members before row (member ∷ members) = with_members (before ++ member ∷ []) (with_member before row member) members
