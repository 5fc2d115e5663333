-- Statements without statements inside.
use Rattle.std.specs.Prelude.{ℕ, Bool, true, false, if◌then◌else◌, List, [], ◌∷◌, ◌++◌, Option, Some, None, Ok}
use Rattle.fb_base.specs.declared.fault.Span.{Span}
use Rattle.fb_base.specs.declared.fault.FaultKind.TheVariants.{Expected}
use Rattle.fb_lexer.specs.declared.token.Token.{Token}
use Rattle.fb_lexer.specs.declared.token.TokenKind.{TokenKind}
use Rattle.fb_lexer.specs.declared.token.TokenKind.TheVariants as kinds
use Rattle.fb_lexer.specs.declared.token.Mark.TheVariants.{Open, OpenBracket, CloseBracket, Dot, Arrow, Equal, Semicolon, Comma}
use Rattle.fb_lexer.specs.declared.word.Word.TheVariants as w
use Rattle.fb_ast.specs.declared.expr.Expr.{Expr, out-Expr}
use Rattle.fb_ast.specs.declared.expr.Expr.TheOpen.{Expr-F}
use Rattle.fb_ast.specs.declared.expr.Expr.TheVariants as e
use Rattle.fb_ast.specs.declared.operator.Assignment.{Assignment}
use Rattle.fb_ast.specs.declared.operator.CallWord.{CallWord}
use Rattle.fb_ast.specs.declared.part.Name.{Name}
use Rattle.fb_ast.specs.declared.stmt.End.{End}
use Rattle.fb_ast.specs.declared.stmt.Printed.{Printed}
use Rattle.fb_ast.specs.declared.stmt.Printed.TheVariants as printed
use Rattle.fb_ast.specs.declared.stmt.Stmt.{Stmt}
use Rattle.fb_ast.specs.declared.stmt.Stmt.TheVariants as s
use Rattle.parse_expr.specs.Reading.{Reader, first, next, holds, sees, expect, expect_word, pure, stop, ◌>>=◌, ◌>>◌, take_token}
use Rattle.parse_expr.specs.Types.{name}
use Rattle.parse_parts.specs.Words.{assignment_of, exit_of, continue_of}
use Rattle.parse_parts.specs.Steps.{place_at, whole, place, any_value, sees_value, no_value, sees_name, Turn, all_of, comma_behind}

-- ---- assignments and calls

abbrev pub with_place : Span → Option Assignment → Option (Assignment × Span)
with_place at None = None
with_place at (Some which) = Some (which, at)

-- the mark of an assignment, if it comes next, and its place
abbrev pub assignment_at : Option Token → Option (Assignment × Span)
assignment_at None = None
assignment_at (Some t) = with_place t.at (assignment_of t.kind)

-- from the mark on
unfoldable pub assign : ℕ → Span → Expr → Assignment → Span → Reader Stmt
assign most at left which mark_at = do
  take_token
  pure (s.Assign at left which mark_at (← whole most))

abbrev pub assign_by : ℕ → Span → Expr → Reader Stmt → Option (Assignment × Span) → Reader Stmt
assign_by most at left other None = other
assign_by most at left other (Some p) = assign most at left p.0 p.1

-- what is no call has to be assigned to
unfoldable pub must_assign : ℕ → Span → Expr → Reader Stmt
must_assign most at left = λ ts. assign_by most at left (stop Expected) (assignment_at (first ts)) ts

unfoldable pub may_assign : ℕ → Span → Expr → Reader Stmt
may_assign most at left = λ ts. assign_by most at left (pure (s.Call at left)) (assignment_at (first ts)) ts

unfoldable pub value_turn : ℕ → Turn (List Expr)
value_turn most found = whole most >>= comma_behind found

unfoldable pub values : ℕ → Reader (List Expr)
values most = all_of (value_turn most) []

-- arguments without parentheses, perhaps none
unfoldable pub arguments : ℕ → Reader (List Expr)
arguments most = λ ts. if sees_value ts then values most ts else (no_value >> pure []) ts

unfoldable pub call_name : ℕ → Span → Name → Reader Stmt
call_name most at n = do pure (s.CallName at n (← arguments most))

-- behind a name with which nothing goes on
unfoldable pub named : ℕ → Span → Name → Reader Stmt
named most at n = λ ts. assign_by most at (e.Name n.at n.text) (call_name most at n) (assignment_at (first ts)) ts

abbrev pub is_call_in : Expr-F Expr → Bool
is_call_in (Expr-F.Call _ _ _) = true
is_call_in (Expr-F.CallWord _ _ _) = true
is_call_in other = false

abbrev pub is_call : Expr → Bool
is_call x = is_call_in (out-Expr x)

unfoldable pub headed : ℕ → Span → Expr → Reader Stmt
headed most at x = if is_call x then may_assign most at x else must_assign most at x

-- a mark that goes on with a name
abbrev pub goes_on : TokenKind → Bool
goes_on (kinds.Mark Open) = true
goes_on (kinds.Mark OpenBracket) = true
goes_on (kinds.Mark Dot) = true
goes_on (kinds.Mark Arrow) = true
goes_on kind = false

-- a name comes next, and nothing goes on with it
unfoldable pub sees_bare : List Token → Bool
sees_bare ts = if sees_name ts then (if holds goes_on (first (next ts)) then false else true) else false

-- a statement that begins with an operand: an assignment or a call
unfoldable pub valued : ℕ → Span → Reader Stmt
valued most at = λ ts. if sees_bare ts then (name >>= named most at) ts else (place most >>= headed most at) ts

abbrev pub sees_open_behind : List Token → Bool
sees_open_behind ts = sees Open (next ts)

-- a word that is called and gives nothing, with parentheses or without
unfoldable pub called : ℕ → Span → CallWord → Reader Stmt
called most at word = λ ts.
    if sees_open_behind ts then valued most at ts
    else (do take_token; pure (s.CallWord at word (← arguments most))) ts

-- `Function = e`
unfoldable pub result_ : ℕ → Span → Reader Stmt
result_ most at = do
  take_token
  expect Equal
  pure (s.Result at (← whole most))

-- ---- input and output

unfoldable pub sees_between : List Token → Bool
sees_between ts = if sees Semicolon ts then true else sees Comma ts

-- behind an expression only what stands between goes on
unfoldable pub printed_value : List Printed → Expr → Reader (List Printed × Bool)
printed_value found x = λ ts. Ok ((found ++ printed.Expr x ∷ [], sees_between ts), ts)

unfoldable pub print_turn : ℕ → Turn (List Printed)
print_turn most found = λ ts.
    if sees Semicolon ts then Ok ((found ++ printed.Semicolon (place_at ts) ∷ [], true), next ts)
    else if sees Comma ts then Ok ((found ++ printed.Comma (place_at ts) ∷ [], true), next ts)
    else if sees_value ts then (whole most >>= printed_value found) ts
    else (no_value >> pure (found, false)) ts

unfoldable pub all_printed : ℕ → Reader (List Printed)
all_printed most = all_of (print_turn most) []

unfoldable pub print : ℕ → Span → Reader Stmt
print most at = do
  take_token
  pure (s.Print at (← all_printed most))

unfoldable pub line_input : ℕ → Span → Reader Stmt
line_input most at = do
  take_token
  expect_word w.KwInput
  pure (s.LineInput at (← place most))

-- ---- leaving

abbrev pub exit_at : Option Token → Option End
exit_at None = None
exit_at (Some t) = exit_of t.kind

abbrev pub exit_by : Span → Option End → Reader Stmt
exit_by at None = stop Expected
exit_by at (Some which) = take_token >> pure (s.Exit at which)

unfoldable pub exit : Span → Reader Stmt
exit at = take_token >> (λ ts. exit_by at (exit_at (first ts)) ts)

abbrev pub continue_at : Option Token → Option End
continue_at None = None
continue_at (Some t) = continue_of t.kind

abbrev pub continue_by : Span → Option End → Reader Stmt
continue_by at None = stop Expected
continue_by at (Some which) = take_token >> pure (s.Continue at which)

unfoldable pub continue_ : Span → Reader Stmt
continue_ at = take_token >> (λ ts. continue_by at (continue_at (first ts)) ts)

unfoldable pub return_ : ℕ → Span → Reader Stmt
return_ most at = do
  take_token
  pure (s.Return at (← any_value most))

unfoldable pub brackets : Reader Bool
brackets = λ ts. if sees OpenBracket ts then (expect CloseBracket >> pure true) (next ts) else Ok (false, ts)

unfoldable pub delete : ℕ → Span → Reader Stmt
delete most at = do
  take_token
  all ← brackets
  pure (s.Delete at all (← whole most))

unfoldable pub end_ : ℕ → Span → Reader Stmt
end_ most at = do
  take_token
  pure (s.End at (← any_value most))
