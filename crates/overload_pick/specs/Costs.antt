-- What it costs to convert arguments to the parameters of a candidate.
use Rattle.std.specs.Prelude.{ℕ, ◌+◌, Bool, true, false, ◌&&◌, not, nat_lt, if◌then◌else◌, Option, Some, None, List, [], ◌∷◌, map}
use Rattle.word64.specs.declared.kind.Kind.{Kind}
use Rattle.word64.specs.declared.kind.Kind.TheVariants.{Boolean}
use Rattle.word64.specs.Kinds.{width_of, has_sign}
use Rattle.overload_pick.specs.declared.sig.Param.{Param}
use Rattle.overload_pick.specs.declared.sig.Arg.{Arg}
use Rattle.overload_pick.specs.Types.{Plain, Number, Pointer, AnyPointer, type_of, same_type}

abbrev pub is_whole : Kind → Bool
is_whole Boolean = false
is_whole kind = true

-- whether the second is a wider whole-number type of the same sign than the first
abbrev pub widens : Kind → Kind → Bool
widens k l = is_whole k && (is_whole l && ((if has_sign k then has_sign l else not (has_sign l)) && nat_lt (width_of k) (width_of l)))

-- what an implicit conversion to another type costs; None where there is none
abbrev pub conversion : Bool → Plain → Plain → Option ℕ
conversion zero (Number k) (Number l) = Some (if widens k l then 1 else 2)
-- the literal 0 converts to every pointer
conversion zero (Number k) (Pointer t) = if zero then Some 2 else None
conversion zero (Number k) AnyPointer = if zero then Some 2 else None
conversion zero (Pointer s) AnyPointer = Some 1
conversion zero AnyPointer (Pointer t) = Some 2
conversion zero one other = None

-- what it costs to give an argument of one type, perhaps the literal 0, to a parameter of another
abbrev pub cost : Bool → Plain → Plain → Option ℕ
cost zero one other = if same_type one other then Some 0 else conversion zero one other

abbrev pub cost_of : Arg → Param → Option ℕ
cost_of arg param = cost arg.zero (type_of arg.ty) (type_of param.ty)

-- both, or nothing
abbrev pub add_costs : Option ℕ → Option ℕ → Option ℕ
add_costs None other = None
add_costs (Some one) None = None
add_costs (Some one) (Some other) = Some (one + other)

-- the sum of a candidate's costs; None where it doesn't fit, as where it has another number of parameters
abbrev pub sum_of : List Arg → List Param → Option ℕ
sum_of [] [] = Some 0
sum_of [] (param ∷ params) = None
sum_of (arg ∷ args) [] = None
sum_of (arg ∷ args) (param ∷ params) = add_costs (cost_of arg param) (sum_of args params)

-- the sum of each candidate
abbrev pub sums_of : List Arg → List (List Param) → List (Option ℕ)
sums_of args cands = map (sum_of args) cands
