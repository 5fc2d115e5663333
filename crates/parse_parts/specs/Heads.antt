-- Parameters, and the heads of procedures.
use Rattle.std.specs.Prelude.{Bool, true, false, if◌then◌else◌, List, [], Option, Some, None, Ok}
use Rattle.fb_base.specs.declared.fault.Span.{Span}
use Rattle.fb_base.specs.declared.fault.FaultKind.TheVariants.{Expected}
use Rattle.fb_lexer.specs.declared.token.Token.{Token}
use Rattle.fb_lexer.specs.declared.token.Mark.TheVariants.{Open, Close, Comma, Dot}
use Rattle.fb_lexer.specs.declared.word.Word.TheVariants as w
use Rattle.fb_ast.specs.declared.operator.Binary.{Binary}
use Rattle.fb_ast.specs.declared.part.Name.{Name}
use Rattle.fb_ast.specs.declared.part.Mode.{Mode}
use Rattle.fb_ast.specs.declared.part.Mode.TheVariants as mode
use Rattle.fb_ast.specs.declared.part.Param.{Param}
use Rattle.fb_ast.specs.declared.part.Head.{Head}
use Rattle.fb_ast.specs.declared.part.Head.TheVariants as head
use Rattle.fb_ast.specs.declared.part.ProcedureKind.{ProcedureKind}
use Rattle.fb_ast.specs.declared.part.ProcedureKind.TheVariants as kind
use Rattle.fb_ast.specs.declared.part.Item.{Item}
use Rattle.fb_ast.specs.declared.part.Item.TheVariants as item
use Rattle.parse_expr.specs.Reading.{Reader, first, next, sees, sees_word, expect, expect_word, pure, stop, ◌>>=◌, ◌>>◌, take_token}
use Rattle.parse_expr.specs.Types.{type_name, name}
use Rattle.parse_parts.specs.declared.kinds.ProcedureWord.{ProcedureWord}
use Rattle.parse_parts.specs.declared.kinds.ProcedureWord.TheVariants as words
use Rattle.parse_parts.specs.declared.kinds.Closer.{Closer}
use Rattle.parse_parts.specs.declared.kinds.Closer.TheVariants as closers
use Rattle.parse_parts.specs.Words.{operator_of}
use Rattle.parse_parts.specs.Steps.{here, sees_name, any_name, any_type, Turn, all_of, comma_behind}

-- ---- parameters

unfoldable pub any_mode : Reader (Option Mode)
any_mode = λ ts.
    if sees_word w.KwByVal ts then Ok (Some mode.ByVal, next ts)
    else if sees_word w.KwByRef ts then Ok (Some mode.ByRef, next ts)
    else Ok (None, ts)

-- a parameter's name, which may be missing only in a Declare and in a Type
abbrev pub param_name : Bool → Reader (Option Name)
param_name true = any_name
param_name false = do n ← name; pure (Some n)

unfoldable pub param : Bool → Reader Param
param nameless = do
  at ← here
  m ← any_mode
  n ← param_name nameless
  expect_word w.KwAs
  pure (record { at = at; mode = m; name = n; ty = (← type_name) })

unfoldable pub param_turn : Bool → Turn (List Param)
param_turn nameless found = param nameless >>= comma_behind found

unfoldable pub param_list : Bool → Reader (List Param)
param_list nameless = all_of (param_turn nameless) []

-- parameters and the closing parenthesis
unfoldable pub some_params : Bool → Reader (List Param)
some_params nameless = do
  all ← param_list nameless
  expect Close
  pure all

-- behind the opening parenthesis
unfoldable pub params_behind : Bool → Reader (List Param)
params_behind nameless = λ ts. if sees Close ts then Ok ([], next ts) else some_params nameless ts

-- parameters in parentheses, if those come next
unfoldable pub any_params : Bool → Reader (List Param)
any_params nameless = λ ts. if sees Open ts then params_behind nameless (next ts) else Ok ([], ts)

-- one parameter in parentheses
unfoldable pub one_param : Bool → Reader Param
one_param nameless = do
  expect Open
  p ← param nameless
  expect Close
  pure p

-- empty parentheses, if they come next
unfoldable pub no_params : Reader (Unit {0})
no_params = λ ts. if sees Open ts then expect Close (next ts) else Ok (tt, ts)

-- ---- heads

unfoldable pub overload : Reader Bool
overload = λ ts. if sees_word w.KwOverload ts then Ok (true, next ts) else Ok (false, ts)

-- behind Sub and its name
unfoldable pub sub_head : Span → Name → Bool → Reader Head
sub_head at n nameless = do
  more ← overload
  pure (head.Sub at n more (← any_params nameless))

-- behind Function and its name
unfoldable pub function_head : Span → Name → Bool → Reader Head
function_head at n nameless = do
  more ← overload
  all ← any_params nameless
  expect_word w.KwAs
  pure (head.Function at n more all (← type_name))

-- the head of a Declare, which has no body
abbrev pub head_at : Span → Reader Head
head_at at = λ ts.
    if sees_word w.KwSub ts then (take_token >> name >>= (λ n. sub_head at n true)) ts
    else (expect_word w.KwFunction >> name >>= (λ n. function_head at n true)) ts

unfoldable pub declared_head : Reader Head
declared_head = here >>= head_at

abbrev pub operator_at : Option Token → Option Binary
operator_at None = None
operator_at (Some t) = operator_of t.kind

abbrev pub mark_by : Option Binary → Reader Binary
mark_by None = stop Expected
mark_by (Some which) = take_token >> pure which

-- the mark of an operator that a text may declare
unfoldable pub operator_mark : Reader Binary
operator_mark = λ ts. mark_by (operator_at (first ts)) ts

-- behind Declare Operator
unfoldable pub declared_operator : Span → Reader Item
declared_operator at = do
  mark_at ← here
  which ← operator_mark
  expect Open
  all ← some_params true
  expect_word w.KwAs
  pure (item.DeclareOperator at which mark_at all (← type_name))

-- behind Declare
unfoldable pub declared : Span → Reader Item
declared at = λ ts.
    if sees_word w.KwOperator ts then declared_operator at (next ts)
    else (do h ← declared_head; pure (item.Declare at h)) ts

-- ---- procedures

-- the head of a procedure with a body, and what its body is ended by
abbrev pub Opening : Type 0
Opening = ProcedureKind × Closer

-- behind Sub, a Type's name and the dot
unfoldable pub member_sub : Span → Name → Reader Opening
member_sub at ty = do
  n ← name
  all ← any_params false
  result ← any_type
  pure (kind.MemberSub at ty n all result, closers.Sub)

unfoldable pub member_function : Span → Name → Reader Opening
member_function at ty = do
  n ← name
  all ← any_params false
  result ← any_type
  pure (kind.MemberFunction at ty n all result, closers.Function)

unfoldable pub module_sub : Span → Name → Reader Opening
module_sub at n = do
  h ← sub_head at n false
  pure (kind.Module h, closers.Sub)

unfoldable pub module_function : Span → Name → Reader Opening
module_function at n = do
  h ← function_head at n false
  pure (kind.Module h, closers.Function)

unfoldable pub sub_behind : Span → Name → Reader Opening
sub_behind at n = λ ts. if sees Dot ts then member_sub at n (next ts) else module_sub at n ts

unfoldable pub function_behind : Span → Name → Reader Opening
function_behind at n = λ ts. if sees Dot ts then member_function at n (next ts) else module_function at n ts

unfoldable pub constructor : Span → Reader Opening
constructor at = do
  n ← name
  all ← any_params false
  pure (kind.Constructor at n all, closers.Constructor)

unfoldable pub destructor : Span → Reader Opening
destructor at = do
  n ← name
  no_params
  pure (kind.Destructor at n, closers.Destructor)

-- behind Operator, where a Type's name comes next
unfoldable pub let_operator : Span → Reader Opening
let_operator at = do
  n ← name
  expect Dot
  let_at ← here
  expect_word w.KwLet
  p ← one_param false
  pure (kind.Let at n let_at p, closers.Operator)

unfoldable pub two_params : Reader (Param × Param)
two_params = do
  expect Open
  one ← param false
  expect Comma
  other ← param false
  expect Close
  pure (one, other)

-- behind Operator, where a mark comes next
unfoldable pub mark_operator : Span → Reader Opening
mark_operator at = do
  mark_at ← here
  which ← operator_mark
  both ← two_params
  expect_word w.KwAs
  ty ← type_name
  pure (kind.Operator at which mark_at both.0 both.1 ty, closers.Operator)

unfoldable pub operator_behind : Span → Reader Opening
operator_behind at = λ ts. if sees_name ts then let_operator at ts else mark_operator at ts

unfoldable pub sub_opened : Span → Reader Opening
sub_opened at = name >>= sub_behind at

unfoldable pub function_opened : Span → Reader Opening
function_opened at = name >>= function_behind at

-- a procedure's head by its first word, which has been taken
abbrev pub opened : ProcedureWord → Span → Reader Opening
opened words.Sub at = sub_opened at
opened words.Function at = function_opened at
opened words.Constructor at = constructor at
opened words.Destructor at = destructor at
opened words.Operator at = operator_behind at
