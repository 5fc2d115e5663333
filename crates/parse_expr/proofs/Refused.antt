-- A word that this profile doesn't have is nothing in an expression.
use Rattle.std.proofs.Common.{◌≡◌, ℕ, Bool, true, false, Some, None, refl, sym, ap, ◌∙◌, ◌⊎◌, inl, inr}
use Rattle.fb_base.specs.declared.fault.Span.{Span}
use Rattle.fb_base.specs.declared.fault.FaultKind.TheVariants.{Expected, OutOfProfile}
use Rattle.fb_lexer.specs.declared.token.TokenKind.{TokenKind}
use Rattle.fb_lexer.specs.declared.token.TokenKind.TheVariants as kinds
use Rattle.fb_lexer.specs.declared.word.Word.{Word}
use Rattle.fb_lexer.specs.declared.word.Word.TheVariants as w
use Rattle.fb_ast.specs.declared.operator.Unary.{Unary}
use Rattle.fb_ast.specs.declared.operator.Binary.{Binary}
use Rattle.parse_expr.specs.declared.kinds.Suffix.{Suffix}
use Rattle.parse_expr.specs.declared.kinds.OperandWord.TheVariants as begins_word
use Rattle.parse_expr.specs.Words.{is_refused, prefix_of, binary_of, binary_word, suffix_of, base_of, base_word, operand_word}
use Rattle.parse_expr.specs.Reading.{refusal_by}
use Rattle.parse_expr.specs.Productions.{Production, Nothing, start_of, word_start}
use Rattle.parse_expr.specs.Grammar.{production_of}
use Rattle.parse_expr.specs.Faults.{is_refused_kind}

pub record Nowhere (kind : TokenKind) : Type 0 where
  pub prefix : prefix_of kind ≡ None
  pub binary : binary_of kind ≡ None
  pub suffix : suffix_of kind ≡ None
  pub base : base_of kind ≡ None
  pub start : (at : Span) → start_of at kind ≡ Nothing
  pub refusal : refusal_by kind ≡ OutOfProfile

by_word : (word : Word) → prefix_of (kinds.Word word) ≡ None → binary_word word ≡ None → base_word word ≡ None → operand_word word ≡ begins_word.Nothing → is_refused word ≡ true → Nowhere (kinds.Word word)
by_word word p b a o r = record { prefix = p; binary = b; suffix = refl; base = a; start = λ at. ap (word_start at) o; refusal = rw r refl }

word_nowhere : (word : Word) → is_refused word ≡ true → Nowhere (kinds.Word word)
word_nowhere w.KwSingle is = by_word w.KwSingle refl refl refl refl refl
word_nowhere w.KwDouble is = by_word w.KwDouble refl refl refl refl refl
word_nowhere w.KwZString is = by_word w.KwZString refl refl refl refl refl
word_nowhere w.KwWString is = by_word w.KwWString refl refl refl refl refl
word_nowhere w.KwReDim is = by_word w.KwReDim refl refl refl refl refl
word_nowhere w.KwErase is = by_word w.KwErase refl refl refl refl refl
word_nowhere w.KwPreserve is = by_word w.KwPreserve refl refl refl refl refl
word_nowhere w.KwExtends is = by_word w.KwExtends refl refl refl refl refl
word_nowhere w.KwVirtual is = by_word w.KwVirtual refl refl refl refl refl
word_nowhere w.KwAbstract is = by_word w.KwAbstract refl refl refl refl refl
word_nowhere w.KwProperty is = by_word w.KwProperty refl refl refl refl refl
word_nowhere w.KwUnion is = by_word w.KwUnion refl refl refl refl refl
word_nowhere w.KwNamespace is = by_word w.KwNamespace refl refl refl refl refl
word_nowhere w.KwEnum is = by_word w.KwEnum refl refl refl refl refl
word_nowhere w.KwWith is = by_word w.KwWith refl refl refl refl refl
word_nowhere w.KwGoTo is = by_word w.KwGoTo refl refl refl refl refl
word_nowhere w.KwGoSub is = by_word w.KwGoSub refl refl refl refl refl
word_nowhere w.KwOn is = by_word w.KwOn refl refl refl refl refl
word_nowhere w.KwVar is = by_word w.KwVar refl refl refl refl refl
word_nowhere w.KwPublic is = by_word w.KwPublic refl refl refl refl refl
word_nowhere w.KwPrivate is = by_word w.KwPrivate refl refl refl refl refl
word_nowhere w.KwProtected is = by_word w.KwProtected refl refl refl refl refl
word_nowhere w.KwOpen is = by_word w.KwOpen refl refl refl refl refl
word_nowhere w.KwClose is = by_word w.KwClose refl refl refl refl refl
word_nowhere w.KwVal is = by_word w.KwVal refl refl refl refl refl
word_nowhere w.KwRnd is = by_word w.KwRnd refl refl refl refl refl
word_nowhere w.KwTimer is = by_word w.KwTimer refl refl refl refl refl
word_nowhere w.KwStrPtr is = by_word w.KwStrPtr refl refl refl refl refl
word_nowhere w.KwCommand is = by_word w.KwCommand refl refl refl refl refl
word_nowhere w.KwAsm is = by_word w.KwAsm refl refl refl refl refl
word_nowhere w.KwExtern is = by_word w.KwExtern refl refl refl refl refl
word_nowhere word is = cc

pub nowhere : (kind : TokenKind) → is_refused_kind kind ≡ true → Nowhere kind
nowhere (kinds.Word word) is = word_nowhere word is
nowhere (kinds.Mark which) is = cc
nowhere (kinds.Name text) is = cc
nowhere (kinds.Number value) is = cc
nowhere (kinds.Str text) is = cc
nowhere kinds.Colon is = cc
nowhere kinds.LineEnd is = cc

-- ---- so what is something is no such word

plain_by : (kind : TokenKind) (b : Bool) → is_refused_kind kind ≡ b → (Nowhere kind → ⊥) → b ≡ false
plain_by kind false is never = refl
plain_by kind true is never = absurd (never (nowhere kind is))

pub plain : (kind : TokenKind) → (Nowhere kind → ⊥) → is_refused_kind kind ≡ false
plain kind never = plain_by kind (is_refused_kind kind) refl never

pub prefix_plain : (kind : TokenKind) (p : Unary × ℕ) → prefix_of kind ≡ Some p → is_refused_kind kind ≡ false
prefix_plain kind p is = plain kind (λ n. let both : None ≡ Some p = sym n.prefix ∙ is in cc)

pub binary_plain : (kind : TokenKind) (p : Binary × ℕ) → binary_of kind ≡ Some p → is_refused_kind kind ≡ false
binary_plain kind p is = plain kind (λ n. let both : None ≡ Some p = sym n.binary ∙ is in cc)

pub suffix_plain : (kind : TokenKind) (s : Suffix) → suffix_of kind ≡ Some s → is_refused_kind kind ≡ false
suffix_plain kind s is = plain kind (λ n. let both : None ≡ Some s = sym n.suffix ∙ is in cc)

pub start_plain : (at : Span) (kind : TokenKind) (production : Production) → production_of (start_of at kind) ≡ Some production → is_refused_kind kind ≡ false
start_plain at kind production is = plain kind (λ n. let both : None ≡ Some production = sym (ap production_of (n.start at)) ∙ is in cc)

-- ---- what a refusal says

refused_word : (word : Word) (b : Bool) → is_refused word ≡ b → (refusal_by (kinds.Word word) ≡ Expected) ⊎ ((refusal_by (kinds.Word word) ≡ OutOfProfile) × (is_refused_kind (kinds.Word word) ≡ true))
refused_word word true is = inr (rw is refl, is)
refused_word word false is = inl (rw is refl)

pub refusals : (kind : TokenKind) → (refusal_by kind ≡ Expected) ⊎ ((refusal_by kind ≡ OutOfProfile) × (is_refused_kind kind ≡ true))
refusals (kinds.Word word) = refused_word word (is_refused word) refl
refusals (kinds.Mark which) = inl refl
refusals (kinds.Name text) = inl refl
refusals (kinds.Number value) = inl refl
refusals (kinds.Str text) = inl refl
refusals kinds.Colon = inl refl
refusals kinds.LineEnd = inl refl
