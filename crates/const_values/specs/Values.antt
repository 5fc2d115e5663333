-- The value of a constant expression.
use Rattle.std.specs.Prelude.{ℕ, ◌+◌, ◌-◌, ◌%◌, ◌^◌, nat_lt, ◌==◌, if◌then◌else◌, Option, Some, None, Result, Ok, Err, List, [], ◌∷◌}
use Rattle.word64.specs.declared.kind.Kind.{Kind}
use Rattle.word64.specs.declared.kind.Kind.TheVariants.{Integer, UInteger, Boolean}
use Rattle.word64.specs.Kinds.{narrow_to}
use Rattle.fb_base.specs.declared.fault.Span.{Span}
use Rattle.fb_base.specs.declared.fault.Fault.{Fault}
use Rattle.fb_base.specs.declared.fault.FaultKind.TheVariants.{BadBounds}
use Rattle.fb_ast.specs.declared.operator.Binary.{Binary}
use Rattle.fb_ast.specs.declared.operator.Unary.{Unary}
use Rattle.fb_ast.specs.declared.operator.Unary.TheVariants.{Address, Deref, Minus, Not}
use Rattle.fb_ast.specs.declared.operator.CallWord.{CallWord}
use Rattle.fb_ast.specs.declared.operator.CallWord.TheVariants.{Convert}
use Rattle.fb_ast.specs.declared.ty.Base.{Base}
use Rattle.fb_ast.specs.declared.ty.Base.TheVariants as base
use Rattle.fb_ast.specs.declared.ty.TypeName.{TypeName}
use Rattle.fb_ast.specs.declared.expr.Expr.{Expr, Row_of-Expr, end_of-Expr, more_of-Expr}
use Rattle.fb_ast.specs.declared.expr.Expr.TheVariants as e
use Rattle.fb_ast.specs.Places.{place_of}
use Rattle.const_values.specs.declared.outcome.Constant.{Constant}
use Rattle.const_values.specs.declared.outcome.Outcome.{Outcome}
use Rattle.const_values.specs.declared.outcome.Outcome.TheVariants as o
use Rattle.const_values.specs.Operators.{common, merged, operated}

-- a number below 2^63 is an Integer, and every other one a UInteger
abbrev pub literal : ℕ → Constant
literal n = record { kind = (if nat_lt n (2 ^ 63) then Integer else UInteger); word = n }

abbrev pub truth_value : ℕ → Outcome
truth_value word = o.Value (record { kind = Boolean; word = word })

-- an operator between two operands; the first fault in them goes before all else
abbrev pub between : Binary → Outcome → Outcome → Outcome
between op (o.Fault x) other = o.Fault x
between op o.NoValue (o.Fault x) = o.Fault x
between op o.NoValue other = o.NoValue
between op (o.Value a) (o.Fault x) = o.Fault x
between op (o.Value a) o.NoValue = o.NoValue
between op (o.Value a) (o.Value b) = operated op a b

-- IIf: the second part where the condition isn't 0, else the third. All three have a value.
abbrev pub choice : Outcome → Outcome → Outcome → Outcome
choice (o.Fault x) a b = o.Fault x
choice c (o.Fault x) b = o.Fault x
choice c a (o.Fault x) = o.Fault x
choice (o.Value c) (o.Value a) (o.Value b) = o.Value (record { kind = merged a.kind b.kind; word = (if c.word == 0 then b.word else a.word) })
choice c a b = o.NoValue

abbrev pub converted_to : Kind → Constant → Constant
converted_to k a = record { kind = k; word = narrow_to k a.word }

abbrev pub converted : Kind → Outcome → Outcome
converted k (o.Value a) = o.Value (converted_to k a)
converted k o.NoValue = o.NoValue
converted k (o.Fault x) = o.Fault x

-- the whole-number type, or Boolean, that is written
abbrev pub written_kind : Base → ℕ → Option Kind
written_kind (base.Num k) pointers = if pointers == 0 then Some k else None
written_kind other pointers = None

-- a Cast to a whole-number type; to no other type is there a value
abbrev pub cast : Option Kind → Outcome → Outcome
cast (Some k) part = converted k part
cast None (o.Fault x) = o.Fault x
cast None part = o.NoValue

abbrev pub unary : Unary → Outcome → Outcome
unary op (o.Fault x) = o.Fault x
unary op o.NoValue = o.NoValue
unary Minus (o.Value a) = o.Value (record { kind = common a.kind a.kind; word = (0 + (2 ^ 64 - a.word)) % 2 ^ 64 })
unary Not (o.Value a) = o.Value (record { kind = common a.kind a.kind; word = 2 ^ 64 - 1 - a.word })
unary Address (o.Value a) = o.NoValue
unary Deref (o.Value a) = o.NoValue

-- What stands behind a part: the part's fault goes before all else.
abbrev pub after : Outcome → Outcome → Outcome
after (o.Fault x) rest = o.Fault x
after (o.Value a) rest = rest
after o.NoValue rest = rest

-- what has no value of its own comes to the first fault of its parts
abbrev pub without_value : List Outcome → Outcome
without_value [] = o.NoValue
without_value (part ∷ parts) = after part (without_value parts)

-- a word that converts, with one argument; every other word and number of arguments has no value
abbrev pub called : CallWord → List Outcome → Outcome
called (Convert k) (part ∷ []) = converted k part
called word parts = without_value parts

-- What an expression comes to, by what names stand for and what SizeOf gives for a type, whose fault is that of the type.
-- The name of a member, behind a point or an arrow, stands for nothing by itself.
module _ (named : Span → List ℕ → Outcome) (sized : TypeName → Outcome) where
  abbrev mutual
    pub value_of : Expr → Outcome
    value_of (e.Number at n) = o.Value (literal n)
    value_of (e.Str at text) = o.NoValue
    value_of (e.True at) = truth_value (2 ^ 64 - 1)
    value_of (e.False at) = truth_value 0
    value_of (e.Name at name) = named at name
    value_of (e.This at) = o.NoValue
    value_of (e.Paren' at p inside) = value_in inside
    value_of (e.New at ty) = after (sized ty) o.NoValue
    value_of (e.NewWith' at ty p args) = after (sized ty) (without_value (values_in args))
    value_of (e.NewArray' at ty p count) = after (sized ty) (after (value_in count) o.NoValue)
    value_of (e.Cast' at ty p inside) = after (sized ty) (cast (written_kind ty.base ty.pointers) (value_in inside))
    value_of (e.CPtr' at ty p inside) = after (sized ty) (after (value_in inside) o.NoValue)
    value_of (e.SizeOf at ty) = sized ty
    value_of (e.IIf' at p c q a r b) = choice (value_in c) (value_in a) (value_in b)
    value_of (e.CallWord' at word p args) = called word (values_in args)
    value_of (e.Call' at p callee q args) = after (value_in callee) (without_value (values_in args))
    value_of (e.Index' at p pointer q index) = after (value_in pointer) (after (value_in index) o.NoValue)
    value_of (e.Field' at p whole name) = after (value_in whole) o.NoValue
    value_of (e.Arrow' at p pointer name) = after (value_in pointer) o.NoValue
    value_of (e.Unary' at op p inside) = unary op (value_in inside)
    value_of (e.Binary' at p left op place q right) = between op (value_in left) (value_in right)

    pub value_in : {m : _} → Row_of-Expr m → Outcome
    value_in (more_of-Expr part rest) = value_of part
    -- no box is empty
    value_in end_of-Expr = o.NoValue

    pub values_in : {m : _} → Row_of-Expr m → List Outcome
    values_in end_of-Expr = []
    values_in (more_of-Expr part rest) = value_of part ∷ values_in rest

-- the value, or the fault: where there is no value, BadBounds at the expression's first token
abbrev pub judged : Span → Outcome → Result Constant Fault
judged at (o.Value c) = Ok c
judged at o.NoValue = Err (record { kind = BadBounds; at = at })
judged at (o.Fault x) = Err x

abbrev pub constant_of : (Span → List ℕ → Outcome) → (TypeName → Outcome) → Expr → Result Constant Fault
constant_of named sized e = judged (place_of e) (value_of named sized e)
