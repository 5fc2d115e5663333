-- Phrases: which tokens stand for what, from a place of a text on.
use Rattle.std.specs.Prelude.{◌≡◌, ◌≤◌, ℕ, Bool, true, false, List, [], ◌∷◌, ◌++◌, Option, Some, None, ◌⊎◌}
use Rattle.fb_base.specs.declared.fault.Span.{Span}
use Rattle.fb_lexer.specs.declared.token.Token.{Token}
use Rattle.fb_lexer.specs.declared.token.TokenKind.TheVariants as kinds
use Rattle.fb_lexer.specs.declared.token.Mark.{Mark}
use Rattle.fb_lexer.specs.declared.token.Mark.TheVariants.{At, Minus, Comma}
use Rattle.fb_lexer.specs.declared.word.Word.{Word}
use Rattle.fb_ast.specs.declared.expr.Expr.{Expr}
use Rattle.fb_ast.specs.declared.part.Name.{Name}
use Rattle.fb_ast.specs.declared.ty.TypeName.{TypeName}
use Rattle.parse_expr.specs.Reading.{next, sees, sees_word}
use Rattle.parse_expr.specs.Grammar.{IsType, Is, Expression}
use Rattle.parse_parts.specs.declared.kinds.InLine.{InLine}
use Rattle.parse_parts.specs.Steps.{place_at, sees_sep}

-- ---- phrases

-- A phrase is a relation: of these tokens, the first ones stand for this, and those are left behind them.
abbrev pub Phrase : Type 0 → Type 1
Phrase A = List Token → A → List Token → Type 0

-- no token at all
abbrev pub gives : {A : Type 0} → A → Phrase A
gives a = λ ts b rest. (b ≡ a) × (rest ≡ ts)

-- one phrase, and then another, which may speak of what the first one stands for
pub record Then {A B : Type 0} (one : Phrase A) (other : A → Phrase B) (ts : List Token) (b : B) (rest : List Token) : Type 0 where
  pub given : A
  pub between : List Token
  pub front : one ts given between
  pub back : other given between b rest

infixl 10 ◌>>=◌
abbrev pub ◌>>=◌ : {A B : Type 0} → Phrase A → (A → Phrase B) → Phrase B
one >>= other = Then one other

infixl 10 ◌>>◌
abbrev pub ◌>>◌ : {A B : Type 0} → Phrase A → Phrase B → Phrase B
one >> other = Then one (λ _. other)

-- the one or the other
abbrev pub either : {A : Type 0} → Phrase A → Phrase A → Phrase A
either one other = λ ts a rest. one ts a rest ⊎ other ts a rest

-- a phrase only where this holds of the tokens behind it
abbrev pub before : {A : Type 0} → (List Token → Bool) → Phrase A → Phrase A
before test one = λ ts a rest. one ts a rest × (test rest ≡ true)

-- a token, which has to be such
abbrev pub taken : (List Token → Bool) → Phrase (Unit {0})
taken test = λ ts u rest. (test ts ≡ true) × (rest ≡ next ts)

abbrev pub mark : Mark → Phrase (Unit {0})
mark which = taken (sees which)

abbrev pub word : Word → Phrase (Unit {0})
word which = taken (sees_word which)

-- the first token, whatever it is
abbrev pub any_token : Phrase (Unit {0})
any_token = λ ts u rest. rest ≡ next ts

-- perhaps this mark, and a phrase behind it
abbrev pub behind_mark : {A : Type 0} → Mark → Phrase A → Phrase (Option A)
behind_mark which one = either (do mark which; a ← one; gives (Some a)) (gives None)

-- perhaps this word, and a phrase behind it
abbrev pub behind_word : {A : Type 0} → Word → Phrase A → Phrase (Option A)
behind_word which one = either (do word which; a ← one; gives (Some a)) (gives None)

-- perhaps such a phrase
abbrev pub maybe : {A : Type 0} → Phrase A → Phrase (Option A)
maybe one = either (do a ← one; gives (Some a)) (gives None)

-- a phrase, with a comma before each one but the first
pub data Listed {A : Type 0} (one : Phrase A) : List Token → List A → List Token → Type 0 where
  last : (ts rest : List Token) (a : A) → one ts a rest → Listed one ts (a ∷ []) rest
  another : (ts between rest : List Token) (a : A) (all : List A) → one ts a between → sees Comma between ≡ true
      → Listed one (next between) all rest → Listed one ts (a ∷ all) rest

-- ---- the smallest ones

-- the place of the next token
abbrev pub here : Phrase Span
here = λ ts at rest. (at ≡ place_at ts) × (rest ≡ ts)

-- the end of a statement
abbrev pub sep : InLine → Phrase (Unit {0})
sep line = taken (sees_sep line)

pub record IsName (ts : List Token) (found : Name) (rest : List Token) : Type 0 where
  pub token : Token
  pub text : List ℕ
  pub is : ts ≡ token ∷ rest
  pub kind : token.kind ≡ kinds.Name text
  pub named : found ≡ record { at = token.at; text = text }

abbrev pub name : Phrase Name
name = IsName

abbrev pub ty : Phrase TypeName
ty = λ ts x rest. (front : List Token) × (ts ≡ front ++ rest) × IsType front x

-- an expression that is at most so deep
abbrev pub IsWithin : ℕ → List Token → Expr → Type 0
IsWithin deepest front x = (depth : ℕ) × (depth ≤ deepest) × Is (Expression 1 depth x) front

abbrev pub expression : ℕ → Phrase Expr
expression most = λ ts x rest. (front : List Token) × (ts ≡ front ++ rest) × IsWithin most front x

-- what may stand on the left of `=`: an expression without operators but a `*` before it
abbrev pub place : ℕ → Phrase Expr
place most = λ ts x rest. (front : List Token) × (depth : ℕ) × (ts ≡ front ++ rest) × (depth ≤ most) × Is (Expression 14 depth x) front × (sees At ts ≡ false) × (sees Minus ts ≡ false)
