-- What an expression comes to is made of what its parts come to.
use mathlib.Core.Former.{this, list_count, list_put}
use mathlib.Core.List.{map as list_map}
use Rattle.std.proofs.Common.{◌≡◌, ℕ, ◌<◌, ◌≤◌, Option, List, [], ◌∷◌, map, length, get_or, refl, sym, ◌∙◌, ap, arith, ◌⊎◌, inl, inr}
use Rattle.word64.specs.declared.kind.Kind.{Kind}
use Rattle.fb_base.specs.declared.fault.Span.{Span}
use Rattle.fb_ast.specs.declared.operator.Binary.{Binary}
use Rattle.fb_ast.specs.declared.operator.Unary.{Unary}
use Rattle.fb_ast.specs.declared.operator.CallWord.{CallWord}
use Rattle.fb_ast.specs.declared.operator.CallWord.TheVariants.{Convert}
use Rattle.fb_ast.specs.declared.ty.TypeName.{TypeName}
use Rattle.fb_ast.specs.declared.expr.Expr.{Expr}
use Rattle.fb_ast.specs.declared.expr.Expr.TheVariants as e
use Rattle.const_values.specs.declared.outcome.Outcome.{Outcome}
use Rattle.const_values.specs.declared.outcome.Outcome.TheVariants.{NoValue}
use Rattle.fb_ast.specs.declared.part.Name.{Name}
use Rattle.const_values.specs.Values.{value_of, values_in, between, choice, cast, written_kind, converted, unary, called, after, without_value}

module _ (named : Span → List ℕ → Outcome) (sized : TypeName → Outcome) where
  pub of_paren : (at : Span) (inside : Expr) → value_of named sized (e.Paren at inside) ≡ value_of named sized inside
  unfolding Rattle.fb_ast.specs.declared.expr.Expr.TheBlock.hidden-the_row-Expr-0 denote.Hole.Carrier.hidden
  of_paren at inside = refl

  pub of_cast : (at : Span) (ty : TypeName) (inside : Expr) → value_of named sized (e.Cast at ty inside) ≡ after (sized ty) (cast (written_kind ty.base ty.pointers) (value_of named sized inside))
  unfolding Rattle.fb_ast.specs.declared.expr.Expr.TheBlock.hidden-the_row-Expr-0 denote.Hole.Carrier.hidden
  of_cast at ty inside = refl

  pub of_iif : (at : Span) (c a b : Expr) → value_of named sized (e.IIf at c a b) ≡ choice (value_of named sized c) (value_of named sized a) (value_of named sized b)
  unfolding Rattle.fb_ast.specs.declared.expr.Expr.TheBlock.hidden-the_row-Expr-0 denote.Hole.Carrier.hidden
  of_iif at c a b = refl

  pub of_unary : (at : Span) (op : Unary) (inside : Expr) → value_of named sized (e.Unary at op inside) ≡ unary op (value_of named sized inside)
  unfolding Rattle.fb_ast.specs.declared.expr.Expr.TheBlock.hidden-the_row-Expr-0 denote.Hole.Carrier.hidden
  of_unary at op inside = refl

  pub of_binary : (at : Span) (left : Expr) (op : Binary) (place : Span) (right : Expr) → value_of named sized (e.Binary at left op place right) ≡ between op (value_of named sized left) (value_of named sized right)
  unfolding Rattle.fb_ast.specs.declared.expr.Expr.TheBlock.hidden-the_row-Expr-0 denote.Hole.Carrier.hidden
  of_binary at left op place right = refl

  pub of_new_array : (at : Span) (ty : TypeName) (count : Expr) → value_of named sized (e.NewArray at ty count) ≡ after (sized ty) (after (value_of named sized count) NoValue)
  unfolding Rattle.fb_ast.specs.declared.expr.Expr.TheBlock.hidden-the_row-Expr-0 denote.Hole.Carrier.hidden
  of_new_array at ty count = refl

  pub of_cptr : (at : Span) (ty : TypeName) (inside : Expr) → value_of named sized (e.CPtr at ty inside) ≡ after (sized ty) (after (value_of named sized inside) NoValue)
  unfolding Rattle.fb_ast.specs.declared.expr.Expr.TheBlock.hidden-the_row-Expr-0 denote.Hole.Carrier.hidden
  of_cptr at ty inside = refl

  pub of_index : (at : Span) (pointer index : Expr) → value_of named sized (e.Index at pointer index) ≡ after (value_of named sized pointer) (after (value_of named sized index) NoValue)
  unfolding Rattle.fb_ast.specs.declared.expr.Expr.TheBlock.hidden-the_row-Expr-0 denote.Hole.Carrier.hidden
  of_index at pointer index = refl

  pub of_field : (at : Span) (whole : Expr) (name : Name) → value_of named sized (e.Field at whole name) ≡ after (value_of named sized whole) NoValue
  unfolding Rattle.fb_ast.specs.declared.expr.Expr.TheBlock.hidden-the_row-Expr-0 denote.Hole.Carrier.hidden
  of_field at whole name = refl

  pub of_arrow : (at : Span) (pointer : Expr) (name : Name) → value_of named sized (e.Arrow at pointer name) ≡ after (value_of named sized pointer) NoValue
  unfolding Rattle.fb_ast.specs.declared.expr.Expr.TheBlock.hidden-the_row-Expr-0 denote.Hole.Carrier.hidden
  of_arrow at pointer name = refl

  rows : (args : List Expr) → values_in named sized (Rattle.fb_ast.specs.declared.expr.Expr.TheBlock.back-the_row-Expr (list_count this (list_map (this.shape Expr) args) 0) (list_put this Expr args 0 tt)) ≡ map (value_of named sized) args
  unfolding Rattle.fb_ast.specs.declared.expr.Expr.TheBlock.hidden-the_row-Expr-0 Rattle.fb_ast.specs.declared.expr.Expr.TheBlock.hidden-the_row-Expr-1 denote.Hole.Carrier.hidden
  rows [] = refl
  rows (first ∷ rest) = ap (λ o. value_of named sized first ∷ o) (rows rest)

  pub of_call : (at : Span) (word : CallWord) (args : List Expr) → value_of named sized (e.CallWord at word args) ≡ called word (map (value_of named sized) args)
  unfolding Rattle.fb_ast.specs.declared.expr.Expr.TheBlock.hidden-the_row-Expr-0 Rattle.fb_ast.specs.declared.expr.Expr.TheBlock.hidden-the_row-Expr-1 denote.Hole.Carrier.hidden
  of_call at word args = ap (called word) (rows args)

  pub of_new_with : (at : Span) (ty : TypeName) (args : List Expr) → value_of named sized (e.NewWith at ty args) ≡ after (sized ty) (without_value (map (value_of named sized) args))
  unfolding Rattle.fb_ast.specs.declared.expr.Expr.TheBlock.hidden-the_row-Expr-0 Rattle.fb_ast.specs.declared.expr.Expr.TheBlock.hidden-the_row-Expr-1 denote.Hole.Carrier.hidden
  of_new_with at ty args = ap (λ o. after (sized ty) (without_value o)) (rows args)

  pub of_args : (at : Span) (callee : Expr) (args : List Expr) → value_of named sized (e.Call at callee args) ≡ after (value_of named sized callee) (without_value (map (value_of named sized) args))
  unfolding Rattle.fb_ast.specs.declared.expr.Expr.TheBlock.hidden-the_row-Expr-0 Rattle.fb_ast.specs.declared.expr.Expr.TheBlock.hidden-the_row-Expr-1 denote.Hole.Carrier.hidden
  of_args at callee args = ap (λ o. after (value_of named sized callee) (without_value o)) (rows args)

  -- what is computed of the parts is what is computed of the whole
  pub by_paren : (at : Span) (inside inside' : Expr) (part : Outcome) → inside' ≡ inside → part ≡ value_of named sized inside' → part ≡ value_of named sized (e.Paren at inside)
  by_paren at inside inside' part p x = rw (x, p) (sym (of_paren at inside))

  pub by_cast : (at : Span) (ty : TypeName) (inside inside' : Expr) (kind : Option Kind) (size part cast_is : Outcome) → inside' ≡ inside → kind ≡ written_kind ty.base ty.pointers → size ≡ sized ty
      → part ≡ value_of named sized inside' → cast_is ≡ cast kind part → after size cast_is ≡ value_of named sized (e.Cast at ty inside)
  by_cast at ty inside inside' kind size part cast_is p k z x y = rw (y, k, z, x, p) (sym (of_cast at ty inside))

  pub by_iif : (at : Span) (c a b c' a' b' : Expr) (one two three : Outcome) → c' ≡ c → a' ≡ a → b' ≡ b
      → one ≡ value_of named sized c' → two ≡ value_of named sized a' → three ≡ value_of named sized b' → choice one two three ≡ value_of named sized (e.IIf at c a b)
  by_iif at c a b c' a' b' one two three p q r x y z = rw (x, y, z, p, q, r) (sym (of_iif at c a b))

  pub by_unary : (at : Span) (op : Unary) (inside inside' : Expr) (part : Outcome) → inside' ≡ inside → part ≡ value_of named sized inside' → unary op part ≡ value_of named sized (e.Unary at op inside)
  by_unary at op inside inside' part p x = rw (x, p) (sym (of_unary at op inside))

  pub by_binary : (at : Span) (left : Expr) (op : Binary) (place : Span) (right left' right' : Expr) (one two : Outcome) → left' ≡ left → right' ≡ right
      → one ≡ value_of named sized left' → two ≡ value_of named sized right' → between op one two ≡ value_of named sized (e.Binary at left op place right)
  by_binary at left op place right left' right' one two p q x y = rw (x, y, p, q) (sym (of_binary at left op place right))

  pub by_word : (at : Span) (word : CallWord) (args args' : List Expr) (whole : Outcome) → args' ≡ args → whole ≡ called word (map (value_of named sized) args') → whole ≡ value_of named sized (e.CallWord at word args)
  by_word at word args args' whole p x = rw (x, p) (sym (of_call at word args))

  pub by_new_with : (at : Span) (ty : TypeName) (args args' : List Expr) (size parts : Outcome) → args' ≡ args → size ≡ sized ty → parts ≡ without_value (map (value_of named sized) args')
      → after size parts ≡ value_of named sized (e.NewWith at ty args)
  by_new_with at ty args args' size parts p z x = rw (z, x, p) (sym (of_new_with at ty args))

  pub by_new_array : (at : Span) (ty : TypeName) (count count' : Expr) (size part nothing : Outcome) → count' ≡ count → size ≡ sized ty → part ≡ value_of named sized count' → nothing ≡ after part NoValue
      → after size nothing ≡ value_of named sized (e.NewArray at ty count)
  by_new_array at ty count count' size part nothing p z x y = rw (y, z, x, p) (sym (of_new_array at ty count))

  pub by_cptr : (at : Span) (ty : TypeName) (inside inside' : Expr) (size part nothing : Outcome) → inside' ≡ inside → size ≡ sized ty → part ≡ value_of named sized inside' → nothing ≡ after part NoValue
      → after size nothing ≡ value_of named sized (e.CPtr at ty inside)
  by_cptr at ty inside inside' size part nothing p z x y = rw (y, z, x, p) (sym (of_cptr at ty inside))

  pub by_args : (at : Span) (callee callee' : Expr) (args args' : List Expr) (part parts : Outcome) → callee' ≡ callee → args' ≡ args → part ≡ value_of named sized callee'
      → parts ≡ without_value (map (value_of named sized) args') → after part parts ≡ value_of named sized (e.Call at callee args)
  by_args at callee callee' args args' part parts p q x y = rw (x, y, p, q) (sym (of_args at callee args))

  pub by_index : (at : Span) (pointer index pointer' index' : Expr) (one two nothing : Outcome) → pointer' ≡ pointer → index' ≡ index → one ≡ value_of named sized pointer' → two ≡ value_of named sized index'
      → nothing ≡ after two NoValue → after one nothing ≡ value_of named sized (e.Index at pointer index)
  by_index at pointer index pointer' index' one two nothing p q x y z = rw (z, x, y, p, q) (sym (of_index at pointer index))

  pub by_field : (at : Span) (whole whole' : Expr) (name : Name) (part : Outcome) → whole' ≡ whole → part ≡ value_of named sized whole' → after part NoValue ≡ value_of named sized (e.Field at whole name)
  by_field at whole whole' name part p x = rw (x, p) (sym (of_field at whole name))

  pub by_arrow : (at : Span) (pointer pointer' : Expr) (name : Name) (part : Outcome) → pointer' ≡ pointer → part ≡ value_of named sized pointer' → after part NoValue ≡ value_of named sized (e.Arrow at pointer name)
  by_arrow at pointer pointer' name part p x = rw (x, p) (sym (of_arrow at pointer name))

  -- a word that converts has a value with one argument alone
  single : (args : List Expr) (d : Expr) → 1 ≤ length args → length args < 2 → args ≡ get_or args 0 d ∷ []
  single [] d h k = absurd (omega arith)
  single (a ∷ []) d h k = refl
  single (a ∷ (b ∷ rest)) d h k = absurd (omega arith)

  pub by_one : (kind : Kind) (args : List Expr) (one : Expr) (part : Outcome) → 1 ≤ length args → length args < 2 → one ≡ get_or args 0 one → part ≡ value_of named sized one
      → converted kind part ≡ called (Convert kind) (map (value_of named sized) args)
  by_one kind args one part h k i x =
      let lone : args ≡ one ∷ [] = single args one h k ∙ ap (λ y. y ∷ []) (sym i) in
      ap (converted kind) x ∙ ap (λ y. called (Convert kind) (map (value_of named sized) y)) (sym lone)

  pub by_other : (kind : Kind) (args : List Expr) (parts : Outcome) → (length args < 1) ⊎ (2 ≤ length args) → parts ≡ without_value (map (value_of named sized) args) → parts ≡ called (Convert kind) (map (value_of named sized) args)
  by_other kind [] parts h x = x
  by_other kind (a ∷ []) parts (inl h) x = absurd (omega arith)
  by_other kind (a ∷ []) parts (inr h) x = absurd (omega arith)
  by_other kind (a ∷ (b ∷ rest)) parts h x = x
