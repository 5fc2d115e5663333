-- The steps that statements are read by.
use Rattle.std.specs.Prelude.{◌≡◌, ◌≢◌, ℕ, zero, suc, ◌+◌, ◌-◌, Bool, true, false, if◌then◌else◌, List, [], ◌∷◌, ◌++◌, length, slice_get, Option, Some, None, Result, Ok, Err}
use Rattle.fb_base.specs.declared.fault.Span.{Span}
use Rattle.fb_base.specs.declared.fault.FaultKind.{FaultKind}
use Rattle.fb_base.specs.declared.fault.FaultKind.TheVariants.{Expected, ExtraText, OutOfProfile}
use Rattle.fb_lexer.specs.declared.token.Token.{Token}
use Rattle.fb_lexer.specs.declared.token.TokenKind.{TokenKind}
use Rattle.fb_lexer.specs.declared.token.TokenKind.TheVariants as kinds
use Rattle.fb_lexer.specs.declared.token.Mark.TheVariants.{At, Minus, Equal, Comma}
use Rattle.fb_lexer.specs.declared.word.Word.{Word}
use Rattle.fb_lexer.specs.declared.word.Word.TheVariants as w
use Rattle.fb_ast.specs.declared.expr.Expr.{Expr}
use Rattle.fb_ast.specs.declared.part.Name.{Name}
use Rattle.fb_ast.specs.declared.ty.TypeName.{TypeName}
use Rattle.parse_expr.specs.declared.error.ReadErr.{ReadErr}
use Rattle.parse_expr.specs.declared.error.ReadErr.TheVariants.{NoMemory, Fault}
use Rattle.parse_expr.specs.Reading.{Reader, Outcome, first, next, holds, sees, sees_word, refusal, pure, stop, refuse, ◌>>=◌, ◌>>◌}
use Rattle.parse_expr.specs.Types.{type_name, name}
use Rattle.parse_expr.specs.Expr.{expr, begins, place_or}
use Rattle.parse_parts.specs.declared.kinds.InLine.{InLine}
use Rattle.parse_parts.specs.Words.{is_sep}

-- ---- places

abbrev pub origin : Span
origin = record { line = 1; col = 1 }

-- the place of the next token
unfoldable pub place_at : List Token → Span
place_at ts = place_or origin (first ts)

-- the place of the last token before those that are left
unfoldable pub last_before : List Token → List Token → Span
last_before ts rest = place_or origin (slice_get ts (length ts - length rest - 1))

abbrev pub here : Reader Span
here = λ ts. Ok (place_at ts, ts)

-- ---- how many tokens are neither line ends nor colons

abbrev pub weight_of : TokenKind → ℕ
weight_of kinds.Colon = 0
weight_of kinds.LineEnd = 0
weight_of kind = 1

abbrev pub weight_at : Option Token → ℕ
weight_at None = 0
weight_at (Some t) = weight_of t.kind

-- among the first tokens, so many of them
unfoldable pub words : ℕ → List Token → ℕ
words zero ts = 0
words (suc n) ts = weight_at (first ts) + words n (next ts)

-- among those before the ones that are left
unfoldable pub words_before : List Token → List Token → ℕ
words_before ts rest = words (length ts - length rest) ts

-- ---- faults

abbrev pub kind_or : FaultKind → FaultKind → FaultKind
kind_or kind OutOfProfile = OutOfProfile
kind_or kind other = kind

-- What is wrong with a token that begins no statement where one may begin: a word that the profile doesn't have, or
-- else this. A text that ends too early is something else.
abbrev pub astray_at : FaultKind → FaultKind → Option Token → FaultKind
astray_at kind refused None = Expected
astray_at kind refused (Some t) = kind_or kind refused

unfoldable pub astray : FaultKind → List Token → FaultKind
astray kind ts = astray_at kind (refusal ts) (first ts)

abbrev pub extra_at : Option Token → FaultKind
extra_at None = Expected
extra_at (Some t) = ExtraText

-- where the end of a statement would do
unfoldable pub extra : List Token → FaultKind
extra ts = extra_at (first ts)

-- ---- the ends of statements

unfoldable pub sees_sep : InLine → List Token → Bool
sees_sep line ts = holds (is_sep line) (first ts)

-- the end of a statement, which has to come next
unfoldable pub sep : InLine → Reader (Unit {0})
sep line = λ ts. if sees_sep line ts then Ok (tt, next ts) else Err (Fault (extra ts), ts)

-- ---- expressions

unfoldable pub whole : ℕ → Reader Expr
whole most = expr most 1 >>= (λ x. pure x.0)

-- a place: an expression with nothing before it but `*`
unfoldable pub place : ℕ → Reader Expr
place most = λ ts. if sees At ts then Err (Fault Expected, ts) else if sees Minus ts then Err (Fault Expected, ts) else (expr most 14 >>= (λ x. pure x.0)) ts

-- where an operand may begin and none does
abbrev pub pass_by : FaultKind → Reader (Unit {0})
pass_by OutOfProfile = stop OutOfProfile
pass_by kind = pure tt

unfoldable pub no_value : Reader (Unit {0})
no_value = λ ts. pass_by (refusal ts) ts

unfoldable pub sees_value : List Token → Bool
sees_value ts = begins 1 (first ts)

-- an expression, if one begins
unfoldable pub any_value : ℕ → Reader (Option Expr)
any_value most = λ ts. if sees_value ts then (do x ← whole most; pure (Some x)) ts else (no_value >> pure None) ts

-- an expression behind this word, if it comes next
unfoldable pub value_behind : ℕ → Word → Reader (Option Expr)
value_behind most word = λ ts. if sees_word word ts then (do x ← whole most; pure (Some x)) (next ts) else Ok (None, ts)

-- `=` and a value, if it comes next
unfoldable pub initial : ℕ → Reader (Option Expr)
initial most = λ ts. if sees Equal ts then (do x ← whole most; pure (Some x)) (next ts) else Ok (None, ts)

-- ---- names and types

abbrev pub is_name : TokenKind → Bool
is_name (kinds.Name text) = true
is_name kind = false

unfoldable pub sees_name : List Token → Bool
sees_name ts = holds is_name (first ts)

unfoldable pub any_name : Reader (Option Name)
any_name = λ ts. if sees_name ts then (do n ← name; pure (Some n)) ts else Ok (None, ts)

-- As and a type, if it comes next
unfoldable pub any_type : Reader (Option TypeName)
any_type = λ ts. if sees_word w.KwAs ts then (do ty ← type_name; pure (Some ty)) (next ts) else Ok (None, ts)

-- ---- series of things

-- A turn gives what there is by now, and whether to go on.
abbrev pub Turn : Type 0 → Type 0
Turn S = S → Reader (S × Bool)

unfoldable pub repeat : {S : Type 0} → Turn S → ℕ → S → Reader S
repeat turn zero found = refuse
repeat turn (suc n) found = turn found >>= (λ p. if p.1 then repeat turn n p.0 else pure p.0)

-- one turn more than there are tokens, since each but the last takes one
abbrev pub all_of : {S : Type 0} → Turn S → S → Reader S
all_of turn found = λ ts. repeat turn (length ts + 1) found ts

-- what a turn gave, and a comma behind it, where it goes on
unfoldable pub comma_behind : {A : Type 0} → List A → A → Reader (List A × Bool)
comma_behind found x = λ ts. if sees Comma ts then Ok ((found ++ x ∷ [], true), next ts) else Ok ((found ++ x ∷ [], false), ts)

-- what a function that does a turn ensures
abbrev pub Turns : {S : Type 0} → Outcome (S × Bool) → S → Result Bool ReadErr → List Token → Type 0
Turns outcome found (Ok more) new = outcome ≡ Ok ((found, more), new)
Turns outcome found (Err e) new = e ≢ NoMemory → outcome ≡ Err (e, new)
