-- Where an expression begins.
use Rattle.fb_base.specs.declared.fault.Span.{Span}
use Rattle.fb_ast.specs.declared.expr.Expr.{Expr, out-Expr}
use Rattle.fb_ast.specs.declared.expr.Expr.TheOpen.{Expr-F}

-- the place that is an expression's first part
abbrev pub first_part : Expr-F Expr → Span
first_part (Expr-F.Number at _) = at
first_part (Expr-F.Str at _) = at
first_part (Expr-F.True at) = at
first_part (Expr-F.False at) = at
first_part (Expr-F.Name at _) = at
first_part (Expr-F.This at) = at
first_part (Expr-F.Paren at _) = at
first_part (Expr-F.New at _) = at
first_part (Expr-F.NewWith at _ _) = at
first_part (Expr-F.NewArray at _ _) = at
first_part (Expr-F.Cast at _ _) = at
first_part (Expr-F.CPtr at _ _) = at
first_part (Expr-F.SizeOf at _) = at
first_part (Expr-F.IIf at _ _ _) = at
first_part (Expr-F.CallWord at _ _) = at
first_part (Expr-F.Call at _ _) = at
first_part (Expr-F.Index at _ _) = at
first_part (Expr-F.Field at _ _) = at
first_part (Expr-F.Arrow at _ _) = at
first_part (Expr-F.Unary at _ _) = at
first_part (Expr-F.Binary at _ _ _ _) = at

abbrev pub place_of : Expr → Span
place_of e = first_part (out-Expr e)
