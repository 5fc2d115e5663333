-- Operators and their levels, from the left.
use Rattle.std.proofs.Common.{◌≡◌, ◌≢◌, ◌⊎◌, inl, inr, ◌≤◌, ◌<◌, ℕ, nat_lt, Bool, true, false, List, [], ◌∷◌, Option, Some, None, refl, sym, ap, ◌∙◌, subst, arith}
use Rattle.std.proofs.lemmas.Bool.Decides.{nat_tests}
use Rattle.fb_base.specs.declared.fault.Span.{Span}
use Rattle.fb_lexer.specs.declared.token.Token.{Token}
use Rattle.fb_lexer.specs.declared.token.TokenKind.{TokenKind}
use Rattle.fb_lexer.specs.declared.token.TokenKind.TheVariants as kinds
use Rattle.fb_lexer.specs.declared.token.Mark.{Mark}
use Rattle.fb_lexer.specs.declared.token.Mark.TheVariants as marks
use Rattle.fb_lexer.specs.declared.word.Word.{Word}
use Rattle.fb_lexer.specs.declared.word.Word.TheVariants as w
use Rattle.fb_ast.specs.declared.expr.Expr.{Expr}
use Rattle.fb_ast.specs.declared.operator.Unary.{Unary}
use Rattle.fb_ast.specs.declared.operator.Binary.{Binary}
use Rattle.parse_expr.specs.declared.kinds.Operator.{Operator}
use Rattle.parse_expr.specs.Words.{prefix_of, binary_of, binary_mark, binary_word}
use Rattle.parse_expr.specs.Reading.{first, next}
use Rattle.parse_expr.specs.Expr.{operator_at, at_level}
use Rattle.parse_expr.specs.Grammar.{Expression, Is, primary, suffix, prefix, binary}

-- an expression of a level is one of each lower level
pub lower : {m d : ℕ} {tree : Expr} {ts : List Token} (k : ℕ) → k ≤ m → Is (Expression m d tree) ts → Is (Expression k d tree) ts
lower k below (primary t production ts m d tree a b c r) = primary t production ts k d tree a b (omega arith) r
lower k below (suffix front t back kind left c m d tree a b e l r) = suffix front t back kind left c k d tree a b (omega arith) l r
lower k below (prefix t ts operator n d m operand a b r) = prefix t ts operator n d k operand a (omega arith) r
lower k below (binary front t back operator n c d m left right a b l r) = binary front t back operator n c d k left right a (omega arith) l r

-- ---- the levels of operators between operands

abbrev pub Small : Option (Binary × ℕ) → Type 0
Small None = Unit {0}
Small (Some p) = (p.1 ≤ 13) × (p.1 ≢ 6)

mark_small : (mark : Mark) → Small (binary_mark mark)
mark_small marks.Star = (omega arith, λ e. absurd (omega arith))
mark_small marks.Backslash = (omega arith, λ e. absurd (omega arith))
mark_small marks.Plus = (omega arith, λ e. absurd (omega arith))
mark_small marks.Minus = (omega arith, λ e. absurd (omega arith))
mark_small marks.Ampersand = (omega arith, λ e. absurd (omega arith))
mark_small marks.Equal = (omega arith, λ e. absurd (omega arith))
mark_small marks.NotEqual = (omega arith, λ e. absurd (omega arith))
mark_small marks.Less = (omega arith, λ e. absurd (omega arith))
mark_small marks.LessEqual = (omega arith, λ e. absurd (omega arith))
mark_small marks.Greater = (omega arith, λ e. absurd (omega arith))
mark_small marks.GreaterEqual = (omega arith, λ e. absurd (omega arith))
mark_small mark = tt

word_small : (word : Word) → Small (binary_word word)
word_small w.KwMod = (omega arith, λ e. absurd (omega arith))
word_small w.KwShl = (omega arith, λ e. absurd (omega arith))
word_small w.KwShr = (omega arith, λ e. absurd (omega arith))
word_small w.KwAnd = (omega arith, λ e. absurd (omega arith))
word_small w.KwOr = (omega arith, λ e. absurd (omega arith))
word_small w.KwXor = (omega arith, λ e. absurd (omega arith))
word_small w.KwAndAlso = (omega arith, λ e. absurd (omega arith))
word_small w.KwOrElse = (omega arith, λ e. absurd (omega arith))
word_small word = tt

pub kind_small : (kind : TokenKind) → Small (binary_of kind)
kind_small (kinds.Mark mark) = mark_small mark
kind_small (kinds.Word word) = word_small word
kind_small (kinds.Name text) = tt
kind_small (kinds.Number value) = tt
kind_small (kinds.Str text) = tt
kind_small kinds.Colon = tt
kind_small kinds.LineEnd = tt

pub small_not : (kind : TokenKind) (p : Binary × ℕ) → binary_of kind ≡ Some p → (p.1 ≤ 13) × (p.1 ≢ 6)
small_not kind p is = subst Small is (kind_small kind)

pub small : (kind : TokenKind) (p : Binary × ℕ) → binary_of kind ≡ Some p → p.1 ≤ 13
small kind p is = (small_not kind p is).0

abbrev pub Low : Option (Unary × ℕ) → Type 0
Low None = Unit {0}
Low (Some p) = (p.1 ≡ 14) ⊎ (p.1 ≡ 6)

prefix_low : (kind : TokenKind) → Low (prefix_of kind)
prefix_low (kinds.Mark marks.At) = inl refl
prefix_low (kinds.Mark marks.Star) = inl refl
prefix_low (kinds.Mark marks.Minus) = inl refl
prefix_low (kinds.Word w.KwNot) = inr refl
prefix_low kind = tt

pub prefix_level : (kind : TokenKind) (p : Unary × ℕ) → prefix_of kind ≡ Some p → (p.1 ≡ 14) ⊎ (p.1 ≡ 6)
prefix_level kind p is = subst Low is (prefix_low kind)

pub prefix_small : (kind : TokenKind) (p : Unary × ℕ) → prefix_of kind ≡ Some p → p.1 ≤ 14
prefix_small kind p is = elim (prefix_level kind p is) [ inl e ↦ omega arith | inr e ↦ omega arith ]

-- the operator that comes next, of any level
abbrev pub coming : Option Token → Option (Binary × ℕ)
coming None = None
coming (Some t) = binary_of t.kind

-- no operator of a higher level comes next
abbrev pub AtMost : ℕ → List Token → Type 0
AtMost level ts = (p : Binary × ℕ) → coming (first ts) ≡ Some p → p.1 ≤ level

pub always : (level : ℕ) (ts : List Token) → 13 ≤ level → AtMost level ts
unfolding first
always level [] high p is = cc
always level (t ∷ ts) high p is = let below = small t.kind p is in omega arith

abbrev level_in : Option (Binary × ℕ) → ℕ
level_in None = 0
level_in (Some p) = p.1

abbrev operator_in : Operator → Option Operator → Operator
operator_in other None = other
operator_in other (Some operator) = operator

pub lt_is : (a b : ℕ) → nat_lt a b ≡ true → a < b
lt_is a b is = grind (arith, nat_tests)

pub lt_not : (a b : ℕ) → nat_lt a b ≡ false → b ≤ a
lt_not a b is = grind (arith, nat_tests)

above_if : (least : ℕ) (at : Span) (q p : Binary × ℕ) (b : Bool) → nat_lt q.1 least ≡ b → at_level least at (Some q) ≡ None → Some q ≡ Some p → p.1 < least
above_if least at q p true e ends is =
    let same : q.1 ≡ p.1 = ap (λ (o : Option (Binary × ℕ)). level_in o) is in
    let below = lt_is q.1 least e in
    omega arith
above_if least at q p false e ends is = let other : Some (record { which = q.0; level = q.1; at = at }) ≡ None = rw e at ends in cc

above : (least : ℕ) (at : Span) (o : Option (Binary × ℕ)) (p : Binary × ℕ) → at_level least at o ≡ None → o ≡ Some p → p.1 < least
above least at None p ends is = cc
above least at (Some q) p ends is = above_if least at q p (nat_lt q.1 least) refl ends is

-- where no operator of a level comes next, one that comes is of a lower level
pub ends_below : (least : ℕ) (ts : List Token) → operator_at least (first ts) ≡ None → (p : Binary × ℕ) → coming (first ts) ≡ Some p → p.1 < least
unfolding first
ends_below least [] ends p is = cc
ends_below least (t ∷ ts) ends p is = above least t.at (binary_of t.kind) p ends is

-- the operator that comes next is one, of its level and at its place
pub record Comes (least : ℕ) (operator : Operator) (ts : List Token) : Type 0 where
  pub token : Token
  pub is : ts ≡ token ∷ next ts
  pub kind : binary_of token.kind ≡ Some (operator.which, operator.level)
  pub high : least ≤ operator.level
  pub at : operator.at ≡ token.at
  pub coming_is : coming (first ts) ≡ Some (operator.which, operator.level)

comes_if : (least : ℕ) (t : Token) (ts : List Token) (q : Binary × ℕ) (operator : Operator) (b : Bool) → nat_lt q.1 least ≡ b → binary_of t.kind ≡ Some q
    → at_level least t.at (Some q) ≡ Some operator → Comes least operator (t ∷ ts)
unfolding first next
comes_if least t ts q operator true e kind is = let other : None ≡ Some operator = rw e at is in cc
comes_if least t ts q operator false e kind is =
    let same : Some (record { which = q.0; level = q.1; at = t.at }) ≡ Some operator = rw e at is in
    let one : record { which = q.0; level = q.1; at = t.at } ≡ operator = ap (λ (o : Option Operator). operator_in operator o) same in
    let k : binary_of t.kind ≡ Some (operator.which, operator.level) = kind ∙ ap (λ (o : Operator). Some (o.which, o.level)) one in
    let level : q.1 ≡ operator.level = ap (λ (o : Operator). o.level) one in
    let below = lt_not q.1 least e in
    record { token = t; is = refl; kind = k; high = omega arith; at = sym (ap (λ (o : Operator). o.at) one); coming_is = k }

comes_by : (least : ℕ) (t : Token) (ts : List Token) (o : Option (Binary × ℕ)) (operator : Operator) → binary_of t.kind ≡ o → at_level least t.at o ≡ Some operator → Comes least operator (t ∷ ts)
comes_by least t ts None operator kind is = cc
comes_by least t ts (Some q) operator kind is = comes_if least t ts q operator (nat_lt q.1 least) refl kind is

pub comes : (least : ℕ) (operator : Operator) (ts : List Token) → operator_at least (first ts) ≡ Some operator → Comes least operator ts
unfolding first
comes least operator [] is = cc
comes least operator (t ∷ ts) is = comes_by least t ts (binary_of t.kind) operator refl is

-- ---- where no operator of a level comes

pub is_lt : (a b : ℕ) → a < b → nat_lt a b ≡ true
is_lt a b below = grind (arith, nat_tests)

pub not_lt : (a b : ℕ) → b ≤ a → nat_lt a b ≡ false
not_lt a b below = grind (arith, nat_tests)

none_if : (k : ℕ) (at : Span) (q : Binary × ℕ) → q.1 < k → at_level k at (Some q) ≡ None
none_if k at q below = let e : nat_lt q.1 k ≡ true = is_lt q.1 k below in rw e refl

none_by : (k : ℕ) (t : Token) (o : Option (Binary × ℕ)) → binary_of t.kind ≡ o → ((p : Binary × ℕ) → o ≡ Some p → p.1 < k) → at_level k t.at o ≡ None
none_by k t None is below = refl
none_by k t (Some q) is below = none_if k t.at q (below q refl)

pub none_comes : (k : ℕ) (ts : List Token) → ((p : Binary × ℕ) → coming (first ts) ≡ Some p → p.1 < k) → operator_at k (first ts) ≡ None
unfolding first
none_comes k [] below = refl
none_comes k (t ∷ ts) below = none_by k t (binary_of t.kind) refl below

-- an operator of at least a level
pub some_comes : (least : ℕ) (t : Token) (p : Binary × ℕ) → binary_of t.kind ≡ Some p → least ≤ p.1 → operator_at least (Some t) ≡ Some (record { which = p.0; level = p.1; at = t.at })
some_comes least t p is high = let e : nat_lt p.1 least ≡ false = not_lt p.1 least high in rw (is, e) refl
