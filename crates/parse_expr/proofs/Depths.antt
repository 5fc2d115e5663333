-- How deep the parts of an expression make it.
use Rattle.std.proofs.Common.{◌≤◌, ℕ, ◌+◌, List, [], arith}
use Rattle.fb_lexer.specs.declared.token.Token.{Token}
use Rattle.fb_ast.specs.declared.expr.Expr.{Expr}
use Rattle.fb_ast.specs.declared.ty.TypeName.{TypeName}
use Rattle.fb_ast.specs.declared.part.Name.{Name}
use Rattle.parse_expr.specs.Productions.{Production, gives, mark, typed, named, part, arguments, choice}
use Rattle.parse_expr.specs.Grammar.{Expression, Behind, Arguments, Is, primary, suffix, prefix, binary, nothing, a_mark, a_type, a_name, a_part, no_arguments, some_arguments, with_choice, without_choice, last_argument, one_argument}

pub args_grow : {deepest deeper : ℕ} {all : List Expr} {ts : List Token} → Is (Arguments deepest deeper all) ts → deepest ≤ deeper
args_grow (last_argument front t inner d deepest i kind) = omega arith
args_grow (one_argument front t back inner all d deepest deeper i kind more) = let g = args_grow more in omega arith

pub grows : {production : Production} {deepest depth : ℕ} {tree : Expr} {ts : List Token} → Is (Behind production deepest depth tree) ts → deepest + 1 ≤ depth
grows (nothing deepest tree) = omega arith
grows (a_mark t ts which production deepest depth tree kind r) = grows r
grows (a_type front back ty production deepest depth tree kind r) = grows r
grows (a_name t ts text production deepest depth tree kind r) = grows r
grows (a_part front back inner production d deepest depth tree i r) = let g = grows r in omega arith
grows (no_arguments t ts production deepest depth tree kind r) = grows r
grows (some_arguments front back all production deepest deeper depth tree a r) = let g = grows r in let h = args_grow a in omega arith
grows (with_choice t ts which one other deepest depth tree kind r) = grows r
grows (without_choice ts which one other deepest depth tree r) = grows r

pub positive : {level depth : ℕ} {tree : Expr} {ts : List Token} → Is (Expression level depth tree) ts → 1 ≤ depth
positive (primary t production ts level depth tree none begins low r) = let g = grows r in omega arith
positive (suffix front t back kind left d level depth tree k may low l r) = let g = grows r in omega arith
positive (prefix t ts operator k d level operand kind low i) = omega arith
positive (binary front t back operator k c d level left right kind low l r) = omega arith

-- a production that has a part expression
abbrev pub Deep : Production → Type 0
Deep (gives tree) = ⊥
Deep (mark which production) = Deep production
Deep (typed production) = (ty : TypeName) → Deep (production ty)
Deep (named production) = (name : Name) → Deep (production name)
Deep (part production) = Unit {0}
Deep (arguments production) = (all : List Expr) → Deep (production all)
Deep (choice which one other) = Deep one × Deep other

pub deep : {production : Production} {deepest depth : ℕ} {tree : Expr} {ts : List Token} → Deep production → Is (Behind production deepest depth tree) ts → 2 ≤ depth
deep d (nothing deepest tree) = absurd d
deep d (a_mark t ts which production deepest depth tree kind r) = deep d r
deep d (a_type front back ty production deepest depth tree kind r) = deep (d ty) r
deep d (a_name t ts text production deepest depth tree kind r) = deep (d (record { at = t.at; text = text })) r
deep d (a_part front back inner production c deepest depth tree i r) = let g = grows r in let p = positive i in omega arith
deep d (no_arguments t ts production deepest depth tree kind r) = deep (d []) r
deep d (some_arguments front back all production deepest deeper depth tree a r) = deep (d all) r
deep d (with_choice t ts which one other deepest depth tree kind r) = deep d.0 r
deep d (without_choice ts which one other deepest depth tree r) = deep d.1 r
