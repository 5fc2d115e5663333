-- What the first token of a statement says of it.
use Rattle.std.proofs.Common.{◌≡◌, true, false, Some, refl, ap, ◌∙◌, ◌⊎◌, inl, inr}
use Rattle.fb_base.specs.declared.fault.FaultKind.{FaultKind}
use Rattle.fb_base.specs.declared.fault.FaultKind.TheVariants.{Expected}
use Rattle.fb_lexer.specs.declared.token.Token.{Token}
use Rattle.fb_lexer.specs.declared.token.TokenKind.{TokenKind}
use Rattle.fb_lexer.specs.declared.token.TokenKind.TheVariants as kinds
use Rattle.fb_lexer.specs.declared.token.Mark.{Mark}
use Rattle.fb_lexer.specs.declared.token.Mark.TheVariants as marks
use Rattle.fb_lexer.specs.declared.word.Word.{Word}
use Rattle.fb_lexer.specs.declared.word.Word.TheVariants as w
use Rattle.parse_expr.specs.declared.kinds.OperandWord.{OperandWord}
use Rattle.parse_expr.specs.declared.kinds.OperandWord.TheVariants as operands
use Rattle.parse_expr.specs.Words.{prefix_of, operand_word}
use Rattle.parse_expr.specs.Reading.{is_mark, same_mark}
use Rattle.parse_expr.specs.Productions.{begins_some, word_start}
use Rattle.parse_expr.specs.Expr.{begins}
use Rattle.parse_expr.proofs.Completed.{here as at_start}
use Rattle.parse_parts.specs.declared.kinds.Level.{Level}
use Rattle.parse_parts.specs.declared.kinds.Level.TheVariants as levels
use Rattle.parse_parts.specs.declared.kinds.Lead.{Lead}
use Rattle.parse_parts.specs.declared.kinds.Lead.TheVariants as leads
use Rattle.parse_parts.specs.Words.{operand_lead, word_lead, allowed, static_at, lead_of}

pub expected_or : (kind : FaultKind) → (kind ≡ Expected) ⊎ (kind ≡ Expected → ⊥)
expected_or Expected = inl refl
expected_or kind = inr (λ is. cc)

-- a token that an assignment or a call may begin with: an operand, without an operator before it but `*`
pub record BeginsValue (t : Token) : Type 0 where
  pub begins_it : begins 14 (Some t) ≡ true
  pub no_at : is_mark marks.At t.kind ≡ false
  pub no_minus : is_mark marks.Minus t.kind ≡ false

abbrev BeginsKind : TokenKind → Type 0
BeginsKind kind = (t : Token) → t.kind ≡ kind → BeginsValue t

by_kind : (t : Token) (kind : TokenKind) → t.kind ≡ kind → begins 14 (Some (record { kind = kind; at = t.at })) ≡ true → is_mark marks.At kind ≡ false → is_mark marks.Minus kind ≡ false → BeginsValue t
by_kind t kind is b a m = record { begins_it = ap (λ (k : TokenKind). begins 14 (Some (record { kind = k; at = t.at }))) is ∙ b; no_at = ap (is_mark marks.At) is ∙ a; no_minus = ap (is_mark marks.Minus) is ∙ m }

static_no_value : (level : Level) → static_at level ≡ leads.Value → ⊥
static_no_value levels.Procedure is = cc
static_no_value levels.Main is = cc
static_no_value levels.Module is = cc

allowed_value : (level : Level) (lead : Lead) → allowed level lead ≡ leads.Value → lead ≡ leads.Value
allowed_value level leads.Static is = absurd (static_no_value level is)
allowed_value level lead is = is

operand_begins : (o : OperandWord) → operand_lead o ≡ leads.Value → begins_some (word_start at_start o) ≡ true
operand_begins operands.Nothing is = cc
operand_begins o is = refl

word_begins : (word : Word) → word_lead word ≡ leads.Value → (prefix_of (kinds.Word word) ≡ prefix_of kinds.Colon) × (operand_lead (operand_word word) ≡ leads.Value)
word_begins w.KwDim is = cc
word_begins w.KwStatic is = cc
word_begins w.KwConst is = cc
word_begins w.KwFunction is = cc
word_begins w.KwPrint is = cc
word_begins w.KwLine is = cc
word_begins w.KwIf is = cc
word_begins w.KwFor is = cc
word_begins w.KwWhile is = cc
word_begins w.KwDo is = cc
word_begins w.KwSelect is = cc
word_begins w.KwScope is = cc
word_begins w.KwExit is = cc
word_begins w.KwContinue is = cc
word_begins w.KwReturn is = cc
word_begins w.KwDelete is = cc
word_begins w.KwEnd is = cc
word_begins w.KwNot is = cc
word_begins word is = (refl, is)

mark_value : (t : Token) (which : Mark) → t.kind ≡ kinds.Mark which → lead_of levels.Main (kinds.Mark which) ≡ leads.Value → BeginsValue t
unfolding same_mark
mark_value t marks.Open kind is = by_kind t (kinds.Mark marks.Open) kind refl refl refl
mark_value t marks.Star kind is = by_kind t (kinds.Mark marks.Star) kind refl refl refl
mark_value t which kind is = cc

word_value : (t : Token) (word : Word) → t.kind ≡ kinds.Word word → word_lead word ≡ leads.Value → BeginsValue t
word_value t word kind is =
    let b = word_begins word is in
    by_kind t (kinds.Word word) kind (rw (b.0) (operand_begins (operand_word word) b.1)) refl refl

value_by : (level : Level) (t : Token) (kind : TokenKind) → t.kind ≡ kind → lead_of level kind ≡ leads.Value → BeginsValue t
value_by level t (kinds.Name text) kind is = by_kind t (kinds.Name text) kind refl refl refl
value_by level t (kinds.Number value) kind is = by_kind t (kinds.Number value) kind refl refl refl
value_by level t (kinds.Str text) kind is = by_kind t (kinds.Str text) kind refl refl refl
value_by level t (kinds.Mark which) kind is = mark_value t which kind is
value_by level t (kinds.Word word) kind is = word_value t word kind (allowed_value level (word_lead word) is)
value_by level t kinds.Colon kind is = cc
value_by level t kinds.LineEnd kind is = cc

pub begins_value : (level : Level) (t : Token) → lead_of level t.kind ≡ leads.Value → BeginsValue t
begins_value level t is = value_by level t t.kind refl is
