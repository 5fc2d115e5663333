-- The tokens that are left, and the steps that every production is read by.
use Rattle.std.specs.Prelude.{◌≡◌, ◌≢◌, ℕ, Bool, false, if◌then◌else◌, List, [], ◌∷◌, length, Option, Some, None, Result, Ok, Err}
use denote.Enum.Bare.{sameb}
use Rattle.fb_base.specs.declared.fault.FaultKind.{FaultKind}
use Rattle.fb_base.specs.declared.fault.FaultKind.TheVariants.{Expected, OutOfProfile}
use Rattle.fb_lexer.specs.declared.token.Token.{Token}
use Rattle.fb_lexer.specs.declared.token.TokenKind.{TokenKind}
use Rattle.fb_lexer.specs.declared.token.TokenKind.TheVariants as kinds
use Rattle.fb_lexer.specs.declared.token.Mark.{Mark}
use Rattle.fb_lexer.specs.contracts.token.Mark as mark_contracts
use Rattle.fb_lexer.specs.declared.word.Word.{Word}
use Rattle.fb_lexer.specs.contracts.word.Word as word_contracts
use Rattle.parse_expr.specs.declared.error.ReadErr.{ReadErr}
use Rattle.parse_expr.specs.declared.error.ReadErr.TheVariants.{NoMemory, Fault}
use Rattle.parse_expr.specs.Words.{is_refused}

-- ---- the next token

unfoldable pub first : List Token → Option Token
first [] = None
first (t ∷ ts) = Some t

unfoldable pub next : List Token → List Token
next [] = []
next (t ∷ ts) = ts

unfoldable pub same_mark : Mark → Mark → Bool
same_mark = sameb mark_contracts.the_type

unfoldable pub same_word : Word → Word → Bool
same_word = sameb word_contracts.the_type

abbrev pub is_mark : Mark → TokenKind → Bool
is_mark mark (kinds.Mark found) = same_mark found mark
is_mark mark kind = false

abbrev pub is_word : Word → TokenKind → Bool
is_word word (kinds.Word found) = same_word found word
is_word word kind = false

-- a test of the next token, which fails where there is none
abbrev pub holds : (TokenKind → Bool) → Option Token → Bool
holds test None = false
holds test (Some t) = test t.kind

unfoldable pub sees : Mark → List Token → Bool
sees mark ts = holds (is_mark mark) (first ts)

unfoldable pub sees_word : Word → List Token → Bool
sees_word word ts = holds (is_word word) (first ts)

-- ---- readers

-- what is read and the tokens behind it, or what is wrong and the tokens from there on
abbrev pub Outcome : Type 0 → Type 0
Outcome A = Result (A × List Token) (ReadErr × List Token)

abbrev pub Reader : Type 0 → Type 0
Reader A = List Token → Outcome A

abbrev pub and_then : {A B : Type 0} → Outcome A → (A → Reader B) → Outcome B
and_then (Ok p) f = f p.0 p.1
and_then (Err e) f = Err e

infixl 10 ◌>>=◌
abbrev pub ◌>>=◌ : {A B : Type 0} → Reader A → (A → Reader B) → Reader B
p >>= f = λ ts. and_then (p ts) f

infixl 10 ◌>>◌
abbrev pub ◌>>◌ : {A B : Type 0} → Reader A → Reader B → Reader B
p >> q = p >>= (λ _. q)

abbrev pub pure : {A : Type 0} → A → Reader A
pure a = λ ts. Ok (a, ts)

abbrev pub stop : {A : Type 0} → FaultKind → Reader A
stop kind = λ ts. Err (Fault kind, ts)

-- takes the next token
abbrev pub take_token : Reader (Unit {0})
take_token = λ ts. Ok (tt, next ts)

-- takes this mark, which has to come next
unfoldable pub expect : Mark → Reader (Unit {0})
expect mark = λ ts. if sees mark ts then Ok (tt, next ts) else Err (Fault Expected, ts)

unfoldable pub expect_word : Word → Reader (Unit {0})
expect_word word = λ ts. if sees_word word ts then Ok (tt, next ts) else Err (Fault Expected, ts)

-- why the next token begins no operand, type, field or statement where one may begin
abbrev pub refusal_by : TokenKind → FaultKind
refusal_by (kinds.Word word) = if is_refused word then OutOfProfile else Expected
refusal_by kind = Expected

abbrev pub refusal_at : Option Token → FaultKind
refusal_at None = Expected
refusal_at (Some t) = refusal_by t.kind

unfoldable pub refusal : List Token → FaultKind
refusal ts = refusal_at (first ts)

abbrev pub refuse : {A : Type 0} → Reader A
refuse = λ ts. Err (Fault (refusal ts), ts)

-- how many turns a loop has at most that takes a token in each
abbrev pub turns : List Token → ℕ
turns ts = length ts

-- ---- what a function that reads ensures: the reader's outcome, unless memory fails

abbrev pub Reads : {A : Type 0} → Outcome A → Result A ReadErr → List Token → Type 0
Reads outcome (Ok a) new = outcome ≡ Ok (a, new)
Reads outcome (Err e) new = e ≢ NoMemory → outcome ≡ Err (e, new)
