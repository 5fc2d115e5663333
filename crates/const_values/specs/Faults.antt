-- The faults of the names and types that an expression speaks of, in the order of the text.
use Rattle.std.specs.Prelude.{ℕ, Option, Some, None, List, [], ◌∷◌, ◌++◌}
use Rattle.fb_base.specs.declared.fault.Span.{Span}
use Rattle.fb_base.specs.declared.fault.Fault.{Fault}
use Rattle.fb_ast.specs.declared.ty.TypeName.{TypeName}
use Rattle.fb_ast.specs.declared.expr.Expr.{Expr, Row_of-Expr, end_of-Expr, more_of-Expr}
use Rattle.fb_ast.specs.declared.expr.Expr.TheVariants as e
use Rattle.const_values.specs.declared.outcome.Outcome.{Outcome}
use Rattle.const_values.specs.declared.outcome.Outcome.TheVariants as o

-- the fault that an outcome is, if it is one
abbrev pub told : Outcome → List Fault
told (o.Fault x) = x ∷ []
told (o.Value a) = []
told o.NoValue = []

abbrev pub first_of : List Fault → Option Fault
first_of [] = None
first_of (x ∷ faults) = Some x

-- Each name, and each type that is written, wherever it stands. A member's name is none, and This is none.
module _ (named : Span → List ℕ → Outcome) (sized : TypeName → Outcome) where
  abbrev mutual
    pub faults_of : Expr → List Fault
    faults_of (e.Number at n) = []
    faults_of (e.Str at text) = []
    faults_of (e.True at) = []
    faults_of (e.False at) = []
    faults_of (e.Name at name) = told (named at name)
    faults_of (e.This at) = []
    faults_of (e.Paren' at p inside) = faults_at inside
    faults_of (e.New at ty) = told (sized ty)
    faults_of (e.NewWith' at ty p args) = told (sized ty) ++ faults_in args
    faults_of (e.NewArray' at ty p count) = told (sized ty) ++ faults_at count
    faults_of (e.Cast' at ty p inside) = told (sized ty) ++ faults_at inside
    faults_of (e.CPtr' at ty p inside) = told (sized ty) ++ faults_at inside
    faults_of (e.SizeOf at ty) = told (sized ty)
    faults_of (e.IIf' at p c q a r b) = faults_at c ++ (faults_at a ++ faults_at b)
    faults_of (e.CallWord' at word p args) = faults_in args
    faults_of (e.Call' at p callee q args) = faults_at callee ++ faults_in args
    faults_of (e.Index' at p pointer q index) = faults_at pointer ++ faults_at index
    faults_of (e.Field' at p whole name) = faults_at whole
    faults_of (e.Arrow' at p pointer name) = faults_at pointer
    faults_of (e.Unary' at op p inside) = faults_at inside
    faults_of (e.Binary' at p left op place q right) = faults_at left ++ faults_at right

    -- those of the one part in a box
    pub faults_at : {m : _} → Row_of-Expr m → List Fault
    faults_at end_of-Expr = []
    faults_at (more_of-Expr part rest) = faults_of part

    -- those of arguments
    pub faults_in : {m : _} → Row_of-Expr m → List Fault
    faults_in end_of-Expr = []
    faults_in (more_of-Expr part rest) = faults_of part ++ faults_in rest
