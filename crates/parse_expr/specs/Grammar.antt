-- The grammar of expressions: which tokens are which tree, and how deep it is.
use Rattle.std.specs.Prelude.{◌≡◌, ◌≤◌, ℕ, ◌+◌, max, Bool, true, false, List, [], ◌∷◌, ◌++◌, length, drop, Option, Some, None, ⊤}
use Rattle.fb_base.specs.declared.fault.Span.{Span}
use Rattle.fb_lexer.specs.declared.token.Token.{Token}
use Rattle.fb_lexer.specs.declared.token.TokenKind.TheVariants as kinds
use Rattle.fb_lexer.specs.declared.token.Mark.{Mark}
use Rattle.fb_lexer.specs.declared.token.Mark.TheVariants.{Close, Comma}
use Rattle.fb_ast.specs.declared.operator.Unary.{Unary}
use Rattle.fb_ast.specs.declared.operator.Binary.{Binary}
use Rattle.fb_ast.specs.declared.expr.Expr.{Expr, out-Expr}
use Rattle.fb_ast.specs.declared.expr.Expr.TheOpen.{Expr-F}
use Rattle.fb_ast.specs.declared.expr.Expr.TheVariants as e
use Rattle.fb_ast.specs.declared.ty.Base.{Base}
use Rattle.fb_ast.specs.declared.ty.TypeName.{TypeName}
use Rattle.fb_ast.specs.declared.part.Name.{Name}
use Rattle.fb_ast.specs.Places.{place_of}
use Rattle.parse_expr.specs.declared.kinds.Suffix.{Suffix}
use Rattle.parse_expr.specs.declared.kinds.Suffix.TheVariants as suffixes
use Rattle.parse_expr.specs.Words.{prefix_of, binary_of, suffix_of, base_of, is_pointer}
use Rattle.parse_expr.specs.Reading.{first, holds}
use Rattle.parse_expr.specs.Expr.{suffix_at, operator_at, fault_place}
use Rattle.parse_expr.specs.Productions.{Production, gives, mark, typed, named, part, arguments, choice, Start, Leaf, Inner, Nothing, start_of, suffix_production}

-- ---- types

abbrev pub ArePointers : List Token → Type 0
ArePointers [] = ⊤
ArePointers (t ∷ ts) = (is_pointer t.kind ≡ true) × ArePointers ts

-- the word of a type or a name, and then Ptr or Pointer any number of times
pub data IsType : List Token → TypeName → Type 0 where
  written : (t : Token) (base : Base) (pointers : List Token)
      → base_of t.kind ≡ Some base → ArePointers pointers
      → IsType (t ∷ pointers) (record { at = t.at; base = base; pointers = length pointers })

-- ---- expressions

-- the production of the production that a token begins
abbrev pub production_of : Start → Option Production
production_of (Leaf production) = Some production
production_of (Inner production) = Some production
production_of Nothing = None

-- Parentheses and brackets right behind the type of a New belong to it, so none of them follow one that has none.
abbrev pub may_follow_new : Suffix → Bool
may_follow_new suffixes.Call = false
may_follow_new suffixes.Index = false
may_follow_new suffixes.Field = true
may_follow_new suffixes.Arrow = true

abbrev pub may_follow_in : Expr-F Expr → Suffix → Bool
may_follow_in (Expr-F.New at ty) suffix = may_follow_new suffix
may_follow_in other suffix = true

abbrev pub may_follow : Expr → Suffix → Bool
may_follow left suffix = may_follow_in (out-Expr left) suffix

-- What tokens are.
pub data Symbol : Type 0 where
  -- An expression of at least this level and of this depth. An operator before its operand is of level 14, or 6 for
  -- Not, one between its operands of the levels 1 to 13, and all others are of level 15.
  Expression : (level depth : ℕ) → Expr → Symbol
  -- what a production asks for: the greatest depth of the parts before, and the depth and the tree of the whole
  Behind : Production → (deepest depth : ℕ) → Expr → Symbol
  -- expressions with commas between and a closing parenthesis: the greatest depth before them and with them
  Arguments : (deepest deeper : ℕ) → List Expr → Symbol

pub data Is : Symbol → List Token → Type 0 where
  -- a production from its first token on
  primary : (t : Token) (production : Production) (ts : List Token) (level depth : ℕ) (tree : Expr)
      → prefix_of t.kind ≡ None → production_of (start_of t.at t.kind) ≡ Some production → level ≤ 15
      → Is (Behind production 0 depth tree) ts
      → Is (Expression level depth tree) (t ∷ ts)
  -- a call, an index or a member, one deeper than what it goes on with
  suffix : (front : List Token) (t : Token) (back : List Token) (kind : Suffix) (left : Expr) (d level depth : ℕ) (tree : Expr)
      → suffix_of t.kind ≡ Some kind → may_follow left kind ≡ true → level ≤ 15
      → Is (Expression 15 d left) front → Is (Behind (suffix_production left kind) d depth tree) back
      → Is (Expression level depth tree) (front ++ t ∷ back)
  -- an operator before its operand
  prefix : (t : Token) (ts : List Token) (operator : Unary) (k d level : ℕ) (operand : Expr)
      → prefix_of t.kind ≡ Some (operator, k) → level ≤ k
      → Is (Expression k d operand) ts
      → Is (Expression level (d + 1) (e.Unary t.at operator operand)) (t ∷ ts)
  -- an operator between its operands: what is on its right binds tighter
  binary : (front : List Token) (t : Token) (back : List Token) (operator : Binary) (k c d level : ℕ) (left right : Expr)
      → binary_of t.kind ≡ Some (operator, k) → level ≤ k
      → Is (Expression k c left) front → Is (Expression (k + 1) d right) back
      → Is (Expression level (max c d + 1) (e.Binary (place_of left) left operator t.at right)) (front ++ t ∷ back)
  nothing : (deepest : ℕ) (tree : Expr) → Is (Behind (gives tree) deepest (deepest + 1) tree) []
  a_mark : (t : Token) (ts : List Token) (which : Mark) (production : Production) (deepest depth : ℕ) (tree : Expr)
      → t.kind ≡ kinds.Mark which → Is (Behind production deepest depth tree) ts
      → Is (Behind (mark which production) deepest depth tree) (t ∷ ts)
  a_type : (front back : List Token) (ty : TypeName) (production : TypeName → Production) (deepest depth : ℕ) (tree : Expr)
      → IsType front ty → Is (Behind (production ty) deepest depth tree) back
      → Is (Behind (typed production) deepest depth tree) (front ++ back)
  a_name : (t : Token) (ts : List Token) (text : List ℕ) (production : Name → Production) (deepest depth : ℕ) (tree : Expr)
      → t.kind ≡ kinds.Name text → Is (Behind (production (record { at = t.at; text = text })) deepest depth tree) ts
      → Is (Behind (named production) deepest depth tree) (t ∷ ts)
  a_part : (front back : List Token) (inner : Expr) (production : Expr → Production) (d deepest depth : ℕ) (tree : Expr)
      → Is (Expression 1 d inner) front → Is (Behind (production inner) (max deepest d) depth tree) back
      → Is (Behind (part production) deepest depth tree) (front ++ back)
  no_arguments : (t : Token) (ts : List Token) (production : List Expr → Production) (deepest depth : ℕ) (tree : Expr)
      → t.kind ≡ kinds.Mark Close → Is (Behind (production []) deepest depth tree) ts
      → Is (Behind (arguments production) deepest depth tree) (t ∷ ts)
  some_arguments : (front back : List Token) (all : List Expr) (production : List Expr → Production) (deepest deeper depth : ℕ) (tree : Expr)
      → Is (Arguments deepest deeper all) front → Is (Behind (production all) deeper depth tree) back
      → Is (Behind (arguments production) deepest depth tree) (front ++ back)
  with_choice : (t : Token) (ts : List Token) (which : Mark) (one other : Production) (deepest depth : ℕ) (tree : Expr)
      → t.kind ≡ kinds.Mark which → Is (Behind one deepest depth tree) ts
      → Is (Behind (choice which one other) deepest depth tree) (t ∷ ts)
  without_choice : (ts : List Token) (which : Mark) (one other : Production) (deepest depth : ℕ) (tree : Expr)
      → Is (Behind other deepest depth tree) ts
      → Is (Behind (choice which one other) deepest depth tree) ts
  last_argument : (front : List Token) (t : Token) (inner : Expr) (d deepest : ℕ)
      → Is (Expression 1 d inner) front → t.kind ≡ kinds.Mark Close
      → Is (Arguments deepest (max deepest d) (inner ∷ [])) (front ++ t ∷ [])
  one_argument : (front : List Token) (t : Token) (back : List Token) (inner : Expr) (all : List Expr) (d deepest deeper : ℕ)
      → Is (Expression 1 d inner) front → t.kind ≡ kinds.Mark Comma
      → Is (Arguments (max deepest d) deeper all) back
      → Is (Arguments deepest deeper (inner ∷ all)) (front ++ t ∷ back)

-- tokens that are an expression at most 200 deep
abbrev pub IsExpression : List Token → Expr → Type 0
IsExpression ts tree = (depth : ℕ) × (depth ≤ 200) × Is (Expression 1 depth tree) ts

-- tokens that some expression begins with, and those that one of any depth begins with
abbrev pub Begins : List Token → Type 0
Begins ts = (more : List Token) × (tree : Expr) × IsExpression (ts ++ more) tree

abbrev pub BeginsAtAnyDepth : List Token → Type 0
BeginsAtAnyDepth ts = (more : List Token) × (tree : Expr) × (depth : ℕ) × Is (Expression 1 depth tree) (ts ++ more)

-- From a place of the tokens on stand those of this expression, and it ends before the other place.
pub record Stands (tokens : List Token) (at end : ℕ) (tree : Expr) : Type 0 where
  pub front : List Token
  pub rest : List Token
  pub is : drop at tokens ≡ front ++ rest
  pub behind : end ≡ at + length front
  pub are : IsExpression front tree

-- Nothing that comes next goes on with an expression, or with a type that it ends with.
abbrev pub EndsBefore : List Token → Type 0
EndsBefore rest = (suffix_at (first rest) ≡ None) × (operator_at 1 (first rest) ≡ None) × (holds is_pointer (first rest) ≡ false)

-- Tokens with which no expression agrees from a place on: the front may agree with one, but none agrees with the next
-- token too, and where there is none the front is no expression. The fault stands at that token, or at the last one.
pub record EndsAt (tokens : List Token) (at : ℕ) (place : Span) : Type 0 where
  pub front : List Token
  pub rest : List Token
  pub is : drop at tokens ≡ front ++ rest
  pub place_is : place ≡ fault_place tokens rest
  pub none : (t : Token) (behind : List Token) → rest ≡ t ∷ behind → Begins (front ++ t ∷ []) → ⊥
  pub short : (tree : Expr) → rest ≡ [] → IsExpression front tree → ⊥
