-- What names and written types stand for among the members of a Type.
use Rattle.std.specs.Prelude.{ℕ, zero, suc, ◌-◌, ◌==◌, if◌then◌else◌, Option, Some, None, Result, Ok, Err, List, [], ◌∷◌}
use Rattle.std.specs.List.{position}
use Rattle.std.specs.Str.{bytes_eq}
use Rattle.word64.specs.declared.kind.Kind.TheVariants.{Integer}
use Rattle.fb_base.specs.declared.fault.Span.{Span}
use Rattle.fb_base.specs.declared.fault.Fault.{Fault}
use Rattle.fb_base.specs.declared.fault.FaultKind.{FaultKind}
use Rattle.fb_base.specs.declared.fault.FaultKind.TheVariants.{Unknown, NotAType}
use Rattle.fb_ast.specs.declared.ty.Base.{Base}
use Rattle.fb_ast.specs.declared.ty.Base.TheVariants as base
use Rattle.fb_ast.specs.declared.ty.TypeName.{TypeName}
use Rattle.fb_ast.specs.declared.ty.Ty.{Ty}
use Rattle.fb_ast.specs.declared.ty.Ty.TheVariants as t
use Rattle.const_values.specs.declared.outcome.Outcome.{Outcome}
use Rattle.const_values.specs.declared.outcome.Outcome.TheVariants as o
use Rattle.type_table.specs.declared.layout.Measure.{Measure}
use Rattle.type_table.specs.declared.layout.Measure.TheVariants.{Waits, Big, Fits}
use Rattle.type_table.specs.declared.scope.Entry.{Entry}
use Rattle.type_table.specs.declared.scope.Basis.{Basis}
use Rattle.type_table.specs.declared.scope.Basis.TheVariants as b
use Rattle.type_table.specs.Layouts.{bytes_of, kind_align, measure_at}

-- the value of the first of the module's names, Types' aside, that is this one
abbrev pub entry_of : List Entry → List ℕ → Option Outcome
entry_of [] name = None
entry_of (entry ∷ entries) name = if bytes_eq entry.name name then Some entry.value else entry_of entries name

-- the number of the first Type that has a name
abbrev pub type_number : List (List ℕ) → List ℕ → Option ℕ
type_number types name = position (λ other. bytes_eq other name) types

abbrev pub fault_at : FaultKind → Span → Fault
fault_at kind at = record { kind = kind; at = at }

-- the Type that a name means; a name that means something else is no type, and else it is unknown
abbrev pub named_type : Option ℕ → Option Outcome → Span → Result Basis Fault
named_type (Some number) other at = Ok (b.Obj number)
named_type None (Some other) at = Err (fault_at NotAType at)
named_type None None at = Err (fault_at Unknown at)

-- the type that a base is, with so many pointers behind it
abbrev pub base_type : List (List ℕ) → List Entry → Base → ℕ → Span → Result Basis Fault
base_type types entries (base.Num kind) pointers at = Ok (b.Num kind)
base_type types entries base.Str pointers at = Ok b.Str
-- Any stands only before Ptr
base_type types entries base.Any pointers at = if pointers == 0 then Err (fault_at NotAType at) else Ok b.Any
base_type types entries (base.Name name) pointers at = named_type (type_number types name) (entry_of entries name) at

abbrev pub basis_of : List (List ℕ) → List Entry → TypeName → Result Basis Fault
basis_of types entries ty = base_type types entries ty.base ty.pointers ty.at

-- a name in a constant expression: a Const's value; a Type's name has none; and an unknown one is a fault
abbrev pub named_as : Option Outcome → Option ℕ → Span → Outcome
named_as (Some value) other at = value
named_as None (Some number) at = o.NoValue
named_as None None at = o.Fault (fault_at Unknown at)

abbrev pub named_outcome : List (List ℕ) → List Entry → Span → List ℕ → Outcome
named_outcome types entries at name = named_as (entry_of entries name) (type_number types name) at

-- a size is an Integer
abbrev pub whole : ℕ → Outcome
whole size = o.Value (record { kind = Integer; word = size })

abbrev pub measured_size : Measure → Outcome
measured_size (Fits layout) = whole layout.size
measured_size Waits = o.NoValue
measured_size Big = o.NoValue

-- SizeOf of a type without pointers: of a Type it has a value where that is laid out by what stands before
abbrev pub basis_size : List Measure → Basis → Outcome
basis_size known (b.Num kind) = whole (bytes_of (kind_align kind))
basis_size known b.Str = whole 24
basis_size known b.Any = o.NoValue
basis_size known (b.Obj number) = measured_size (measure_at known number)

abbrev pub type_size : List Measure → Result Basis Fault → ℕ → Outcome
type_size known (Ok basis) pointers = if pointers == 0 then basis_size known basis else whole 8
type_size known (Err fault) pointers = o.Fault fault

abbrev pub sized_outcome : List (List ℕ) → List Entry → List Measure → TypeName → Outcome
sized_outcome types entries known ty = type_size known (basis_of types entries ty) ty.pointers

-- a type behind so many pointers
abbrev pub pointed : ℕ → Ty → Ty
pointed zero inner = inner
pointed (suc n) inner = t.Ptr (pointed n inner)

-- the type of a basis with so many pointers behind it, of which Any takes the first
abbrev pub type_of : Basis → ℕ → Ty
type_of (b.Num kind) pointers = pointed pointers (t.Num kind)
type_of b.Str pointers = pointed pointers t.Str
type_of b.Any pointers = pointed (pointers - 1) t.AnyPtr
type_of (b.Obj number) pointers = pointed pointers (t.Obj number)
