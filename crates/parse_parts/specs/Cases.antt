-- The tests of a Do, and what the branches of a Select are chosen by.
use Rattle.std.specs.Prelude.{ℕ, Bool, if◌then◌else◌, List, [], Option, Some, None, Ok}
use Rattle.fb_base.specs.declared.fault.Span.{Span}
use Rattle.fb_base.specs.declared.fault.FaultKind.TheVariants.{Expected}
use Rattle.fb_lexer.specs.declared.token.Token.{Token}
use Rattle.fb_lexer.specs.declared.word.Word.TheVariants as w
use Rattle.fb_ast.specs.declared.expr.Expr.{Expr}
use Rattle.fb_ast.specs.declared.operator.Comparison.{Comparison}
use Rattle.fb_ast.specs.declared.stmt.Until.{Until}
use Rattle.fb_ast.specs.declared.stmt.Test.{Test}
use Rattle.fb_ast.specs.declared.stmt.Case.{Case}
use Rattle.fb_ast.specs.declared.stmt.Case.TheVariants as case
use Rattle.fb_ast.specs.declared.stmt.Cases.{Cases}
use Rattle.fb_ast.specs.declared.stmt.Cases.TheVariants as cases
use Rattle.parse_expr.specs.Reading.{Reader, first, next, sees_word, pure, stop, ◌>>=◌, ◌>>◌, take_token}
use Rattle.parse_parts.specs.Words.{comparison_of, until_of}
use Rattle.parse_parts.specs.Steps.{place_at, whole, Turn, all_of, comma_behind}

-- ---- tests and cases

abbrev pub until_at : Option Token → Option Until
until_at None = None
until_at (Some t) = until_of t.kind

abbrev pub test_by : ℕ → Span → Option Until → Reader (Option Test)
test_by most at None = pure None
test_by most at (Some word) = do
  take_token
  condition ← whole most
  pure (Some (record { at = at; word = word; condition = condition }))

-- the test of a Do, if it comes next
unfoldable pub any_test : ℕ → Reader (Option Test)
any_test most = λ ts. test_by most (place_at ts) (until_at (first ts)) ts

-- a Do has one test at most
unfoldable pub last_test : ℕ → Bool → Reader (Option Test)
last_test most tested = if tested then pure None else any_test most

abbrev pub comparison_at : Option Token → Option Comparison
comparison_at None = None
comparison_at (Some t) = comparison_of t.kind

abbrev pub is_by : ℕ → Span → Option Comparison → Reader Case
is_by most at None = stop Expected
is_by most at (Some which) = do
  take_token
  pure (case.Is at which (← whole most))

-- behind Is
unfoldable pub is_case : ℕ → Span → Reader Case
is_case most at = λ ts. is_by most at (comparison_at (first ts)) ts

unfoldable pub case_from : ℕ → Expr → Reader Case
case_from most low = λ ts. if sees_word w.KwTo ts then (do high ← whole most; pure (case.Range low high)) (next ts) else Ok (case.Value low, ts)

unfoldable pub one_case : ℕ → Reader Case
one_case most = λ ts. if sees_word w.KwIs ts then is_case most (place_at ts) (next ts) else (whole most >>= case_from most) ts

unfoldable pub case_turn : ℕ → Turn (List Case)
case_turn most found = one_case most >>= comma_behind found

unfoldable pub case_list : ℕ → Reader (List Case)
case_list most = all_of (case_turn most) []

-- behind Case
unfoldable pub cases_ : ℕ → Reader Cases
cases_ most = λ ts. if sees_word w.KwElse ts then Ok (cases.Else, next ts) else (do all ← case_list most; pure (cases.List all)) ts
