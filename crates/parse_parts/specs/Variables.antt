-- Dim, Static and Const.
use Rattle.std.specs.Prelude.{ℕ, Bool, true, false, if◌then◌else◌, List, [], Option, Some, None, Ok}
use Rattle.fb_base.specs.declared.fault.Span.{Span}
use Rattle.fb_lexer.specs.declared.token.Mark.TheVariants.{Open, Close, Equal}
use Rattle.fb_lexer.specs.declared.word.Word.TheVariants as w
use Rattle.fb_ast.specs.declared.expr.Expr.{Expr}
use Rattle.fb_ast.specs.declared.part.Bounds.{Bounds}
use Rattle.fb_ast.specs.declared.part.Name.{Name}
use Rattle.fb_ast.specs.declared.stmt.Storage.{Storage}
use Rattle.fb_ast.specs.declared.stmt.Storage.TheVariants as storage
use Rattle.fb_ast.specs.declared.stmt.Var.{Var}
use Rattle.fb_ast.specs.declared.stmt.Listed.{Listed}
use Rattle.fb_ast.specs.declared.stmt.Stmt.{Stmt}
use Rattle.fb_ast.specs.declared.stmt.Stmt.TheVariants as s
use Rattle.parse_expr.specs.Reading.{Reader, next, sees, sees_word, expect, expect_word, pure, ◌>>=◌, ◌>>◌, take_token}
use Rattle.parse_expr.specs.Types.{type_name, name}
use Rattle.parse_parts.specs.declared.kinds.Level.{Level}
use Rattle.parse_parts.specs.declared.kinds.Level.TheVariants as levels
use Rattle.parse_parts.specs.Steps.{whole, initial, any_type, Turn, all_of, comma_behind}

-- behind the first expression
unfoldable pub bounds_from : ℕ → Expr → Reader Bounds
bounds_from most one = λ ts.
    if sees_word w.KwTo ts then (do high ← whole most; pure (record { low = Some one; high = high })) (next ts)
    else Ok (record { low = None; high = one }, ts)

unfoldable pub bounds : ℕ → Reader Bounds
bounds most = do
  one ← whole most
  all ← bounds_from most one
  expect Close
  pure all

-- the bounds of an array in parentheses, if they come next
unfoldable pub any_bounds : ℕ → Reader (Option Bounds)
any_bounds most = λ ts. if sees Open ts then (do b ← bounds most; pure (Some b)) (next ts) else Ok (None, ts)

-- behind a variable's name and bounds: its type and its initial value
unfoldable pub var_behind : ℕ → Name → Option Bounds → Reader Var
var_behind most n b = do
  expect_word w.KwAs
  ty ← type_name
  pure (record { name = n; bounds = b; ty = ty; init = (← initial most) })

-- a variable with a type of its own
unfoldable pub var : ℕ → Reader Var
var most = do
  n ← name
  b ← any_bounds most
  var_behind most n b

unfoldable pub var_turn : ℕ → Turn (List Var)
var_turn most found = var most >>= comma_behind found

unfoldable pub vars : ℕ → Reader (List Var)
vars most = all_of (var_turn most) []

-- a variable behind the type that it shares
unfoldable pub listed : ℕ → Reader Listed
listed most = do
  n ← name
  b ← any_bounds most
  pure (record { name = n; bounds = b; init = (← initial most) })

unfoldable pub listed_turn : ℕ → Turn (List Listed)
listed_turn most found = listed most >>= comma_behind found

unfoldable pub all_listed : ℕ → Reader (List Listed)
all_listed most = all_of (listed_turn most) []

-- behind As
unfoldable pub dim_as : ℕ → Span → Storage → Reader Stmt
dim_as most at where_ = do
  ty ← type_name
  pure (s.DimAs at where_ ty (← all_listed most))

unfoldable pub dim_vars : ℕ → Span → Storage → Reader Stmt
dim_vars most at where_ = do pure (s.Dim at where_ (← vars most))

-- behind Dim, Dim Shared or Static
unfoldable pub dim_behind : ℕ → Span → Storage → Reader Stmt
dim_behind most at where_ = λ ts. if sees_word w.KwAs ts then dim_as most at where_ (next ts) else dim_vars most at where_ ts

-- Dim Shared stands at the module's level alone
abbrev pub may_share : Level → Bool
may_share levels.Module = true
may_share levels.Main = false
may_share levels.Procedure = false

abbrev pub dim_by : ℕ → Bool → Span → Reader Stmt
dim_by most true at = λ ts. if sees_word w.KwShared ts then dim_behind most at storage.Shared (next ts) else dim_behind most at storage.Scope ts
dim_by most false at = dim_behind most at storage.Scope

unfoldable pub dim : ℕ → Span → Level → Reader Stmt
dim most at level = take_token >> dim_by most (may_share level) at

unfoldable pub static_ : ℕ → Span → Reader Stmt
static_ most at = take_token >> dim_behind most at storage.Static

unfoldable pub constant : ℕ → Span → Reader Stmt
constant most at = do
  take_token
  n ← name
  ty ← any_type
  expect Equal
  pure (s.Const at n ty (← whole most))
