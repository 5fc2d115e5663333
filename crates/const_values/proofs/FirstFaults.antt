-- The fault of an expression is the first one of a name or a type in it.
use Rattle.std.proofs.Common.{◌≡◌, ℕ, Option, Some, None, List, [], ◌∷◌, ◌++◌, refl, sym, ◌∙◌, ap, Result, Ok, Err, ◌⊎◌, inl, inr, ◌||◌}
use Rattle.word64.specs.declared.kind.Kind.{Kind}
use Rattle.word64.specs.Kinds.{has_sign}
use Rattle.fb_base.specs.declared.fault.Span.{Span}
use Rattle.fb_base.specs.declared.fault.Fault.{Fault}
use Rattle.fb_base.specs.declared.fault.FaultKind.TheVariants.{BadBounds}
use Rattle.fb_ast.specs.declared.operator.Binary.{Binary}
use Rattle.fb_ast.specs.declared.operator.Unary.{Unary}
use Rattle.fb_ast.specs.declared.operator.Unary.TheVariants.{Address, Deref, Minus, Not}
use Rattle.fb_ast.specs.declared.operator.CallWord.{CallWord}
use Rattle.fb_ast.specs.declared.operator.CallWord.TheVariants.{Convert}
use Rattle.fb_ast.specs.declared.ty.TypeName.{TypeName}
use Rattle.fb_ast.specs.declared.expr.Expr.{Expr, Row_of-Expr, end_of-Expr, more_of-Expr}
use Rattle.fb_ast.specs.declared.expr.Expr.TheVariants as e
use Rattle.fb_ast.specs.Places.{place_of}
use Rattle.const_values.specs.declared.outcome.Constant.{Constant}
use Rattle.const_values.specs.declared.outcome.Outcome.{Outcome}
use Rattle.const_values.specs.declared.outcome.Outcome.TheVariants as o
use Rattle.const_values.specs.Operators.{word_of, is_wide, kind_of, valued, operated}
use Rattle.const_values.specs.Values.{value_of, value_in, values_in, between, choice, cast, written_kind, converted, unary, called, after, without_value, judged, constant_of}
use Rattle.const_values.specs.Faults.{told, first_of, faults_of, faults_at, faults_in}

-- ---- what tells no fault of its own

unvalued_told : (a : Outcome) → told (after a o.NoValue) ≡ told a
unvalued_told (o.Value a) = refl
unvalued_told o.NoValue = refl
unvalued_told (o.Fault x) = refl

converted_told : (k : Kind) (a : Outcome) → told (converted k a) ≡ told a
converted_told k (o.Value a) = refl
converted_told k o.NoValue = refl
converted_told k (o.Fault x) = refl

cast_told : (k : Option Kind) (a : Outcome) → told (cast k a) ≡ told a
cast_told (Some k) a = converted_told k a
cast_told None (o.Value a) = refl
cast_told None o.NoValue = refl
cast_told None (o.Fault x) = refl

unary_told : (op : Unary) (a : Outcome) → told (unary op a) ≡ told a
unary_told op (o.Fault x) = refl
unary_told op o.NoValue = refl
unary_told Address (o.Value a) = refl
unary_told Deref (o.Value a) = refl
unary_told Minus (o.Value a) = refl
unary_told Not (o.Value a) = refl

valued_told : (k : Kind) (word : Option ℕ) → told (valued k word) ≡ []
valued_told k None = refl
valued_told k (Some w) = refl

operated_told : (op : Binary) (a b : Constant) → told (operated op a b) ≡ []
operated_told op a b = valued_told (kind_of op a.kind b.kind) (word_of op (is_wide a.kind || is_wide b.kind) (has_sign a.kind) a.word b.word)

between_told : (op : Binary) (a b : Outcome) → told (between op a b) ≡ told (after a b)
between_told op (o.Fault x) b = refl
between_told op o.NoValue (o.Fault x) = refl
between_told op o.NoValue o.NoValue = refl
between_told op o.NoValue (o.Value b) = refl
between_told op (o.Value a) (o.Fault x) = refl
between_told op (o.Value a) o.NoValue = refl
between_told op (o.Value a) (o.Value b) = operated_told op a b

choice_told : (c a b : Outcome) → told (choice c a b) ≡ told (after c (after a b))
choice_told (o.Fault x) a b = refl
choice_told (o.Value c) (o.Fault x) b = refl
choice_told o.NoValue (o.Fault x) b = refl
choice_told (o.Value c) (o.Value a) (o.Fault x) = refl
choice_told (o.Value c) (o.Value a) o.NoValue = refl
choice_told (o.Value c) (o.Value a) (o.Value b) = refl
choice_told (o.Value c) o.NoValue (o.Fault x) = refl
choice_told (o.Value c) o.NoValue o.NoValue = refl
choice_told (o.Value c) o.NoValue (o.Value b) = refl
choice_told o.NoValue (o.Value a) (o.Fault x) = refl
choice_told o.NoValue (o.Value a) o.NoValue = refl
choice_told o.NoValue (o.Value a) (o.Value b) = refl
choice_told o.NoValue o.NoValue (o.Fault x) = refl
choice_told o.NoValue o.NoValue o.NoValue = refl
choice_told o.NoValue o.NoValue (o.Value b) = refl

called_told : (word : CallWord) (parts : List Outcome) → told (called word parts) ≡ told (without_value parts)
called_told (Convert k) (part ∷ []) = converted_told k part ∙ sym (unvalued_told part)
called_told word parts = refl

-- ---- the first fault of two parts

joined : (a b : Outcome) (xs ys : List Fault) → first_of (told a) ≡ first_of xs → first_of (told b) ≡ first_of ys → first_of (told (after a b)) ≡ first_of (xs ++ ys)
joined (o.Fault x) b [] ys h k = absurd (cc)
joined (o.Fault x) b (y ∷ xs) ys h k = h
joined (o.Value a) b [] ys h k = k
joined (o.Value a) b (y ∷ xs) ys h k = absurd (cc)
joined o.NoValue b [] ys h k = k
joined o.NoValue b (y ∷ xs) ys h k = absurd (cc)

module _ (named : Span → List ℕ → Outcome) (sized : TypeName → Outcome) where
  typed : {m : _} (ty : TypeName) (part : Outcome) (row : Row_of-Expr m) → first_of (told part) ≡ first_of (faults_at named sized row) → first_of (told (after (sized ty) part)) ≡ first_of (told (sized ty) ++ faults_at named sized row)
  typed ty part row h = joined (sized ty) part (told (sized ty)) (faults_at named sized row) refl h

  unvalued : {m : _} (row : Row_of-Expr m) → first_of (told (value_in named sized row)) ≡ first_of (faults_at named sized row) → first_of (told (after (value_in named sized row) o.NoValue)) ≡ first_of (faults_at named sized row)
  unvalued row h = ap first_of (unvalued_told (value_in named sized row)) ∙ h

  mutual
    pub first_fault : (x : Expr) → first_of (told (value_of named sized x)) ≡ first_of (faults_of named sized x)
    first_fault (e.Number at n) = refl
    first_fault (e.Str at text) = refl
    first_fault (e.True at) = refl
    first_fault (e.False at) = refl
    first_fault (e.Name at name) = refl
    first_fault (e.This at) = refl
    first_fault (e.Paren' at p inside) = first_at inside
    first_fault (e.New at ty) = ap first_of (unvalued_told (sized ty))
    first_fault (e.NewWith' at ty p args) = joined (sized ty) (without_value (values_in named sized args)) (told (sized ty)) (faults_in named sized args) refl (first_in args)
    first_fault (e.NewArray' at ty p count) = typed ty _ count (unvalued count (first_at count))
    first_fault (e.Cast' at ty p inside) = typed ty _ inside (ap first_of (cast_told (written_kind ty.base ty.pointers) (value_in named sized inside)) ∙ first_at inside)
    first_fault (e.CPtr' at ty p inside) = typed ty _ inside (unvalued inside (first_at inside))
    first_fault (e.SizeOf at ty) = refl
    first_fault (e.IIf' at p c q a r b) =
        ap first_of (choice_told (value_in named sized c) (value_in named sized a) (value_in named sized b))
        ∙ joined (value_in named sized c) (after (value_in named sized a) (value_in named sized b)) (faults_at named sized c) (faults_at named sized a ++ faults_at named sized b) (first_at c)
        (joined (value_in named sized a) (value_in named sized b) (faults_at named sized a) (faults_at named sized b) (first_at a) (first_at b))
    first_fault (e.CallWord' at word p args) = ap first_of (called_told word (values_in named sized args)) ∙ first_in args
    first_fault (e.Call' at p callee q args) = joined (value_in named sized callee) (without_value (values_in named sized args)) (faults_at named sized callee) (faults_in named sized args) (first_at callee) (first_in args)
    first_fault (e.Index' at p pointer q index) =
        joined (value_in named sized pointer) (after (value_in named sized index) o.NoValue) (faults_at named sized pointer) (faults_at named sized index) (first_at pointer) (unvalued index (first_at index))
    first_fault (e.Field' at p whole name) = unvalued whole (first_at whole)
    first_fault (e.Arrow' at p pointer name) = unvalued pointer (first_at pointer)
    first_fault (e.Unary' at op p inside) = ap first_of (unary_told op (value_in named sized inside)) ∙ first_at inside
    first_fault (e.Binary' at p left op place q right) =
        ap first_of (between_told op (value_in named sized left) (value_in named sized right))
        ∙ joined (value_in named sized left) (value_in named sized right) (faults_at named sized left) (faults_at named sized right) (first_at left) (first_at right)

    first_at : {m : _} (row : Row_of-Expr m) → first_of (told (value_in named sized row)) ≡ first_of (faults_at named sized row)
    first_at end_of-Expr = refl
    first_at (more_of-Expr part rest) = first_fault part

    first_in : {m : _} (row : Row_of-Expr m) → first_of (told (without_value (values_in named sized row))) ≡ first_of (faults_in named sized row)
    first_in end_of-Expr = refl
    first_in (more_of-Expr part rest) = joined (value_of named sized part) (without_value (values_in named sized rest)) (faults_of named sized part) (faults_in named sized rest) (first_fault part) (first_in rest)

-- ---- what is answered

some_is : {x y : Fault} → Some x ≡ Some y → x ≡ y
some_is h = cc

answered : (at : Span) (found : Outcome) (x : Fault) → first_of (told found) ≡ Some x → judged at found ≡ Err x
answered at (o.Value a) x h = absurd (cc)
answered at o.NoValue x h = absurd (cc)
answered at (o.Fault y) x h = ap (λ f. Err f) (some_is h)

otherwise : (at : Span) (found : Outcome) → first_of (told found) ≡ None → ((c : Constant) × (judged at found ≡ Ok c)) ⊎ (judged at found ≡ Err (record { kind = BadBounds; at = at }))
otherwise at (o.Value a) h = inl (a, refl)
otherwise at o.NoValue h = inr refl
otherwise at (o.Fault x) h = absurd (cc)

pub fault_told : (named : Span → List ℕ → Outcome) (sized : TypeName → Outcome) (x : Expr) (fault : Fault) → first_of (faults_of named sized x) ≡ Some fault → constant_of named sized x ≡ Err fault
fault_told named sized x fault h = answered (place_of x) (value_of named sized x) fault (first_fault named sized x ∙ h)

pub none_told : (named : Span → List ℕ → Outcome) (sized : TypeName → Outcome) (x : Expr) → first_of (faults_of named sized x) ≡ None
    → ((c : Constant) × (constant_of named sized x ≡ Ok c)) ⊎ (constant_of named sized x ≡ Err (record { kind = BadBounds; at = place_of x }))
none_told named sized x h = otherwise (place_of x) (value_of named sized x) (first_fault named sized x ∙ h)
