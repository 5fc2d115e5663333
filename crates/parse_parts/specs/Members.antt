-- Types and their members.
use Rattle.std.specs.Prelude.{ℕ, Bool, true, false, if◌then◌else◌, List, [], ◌∷◌, ◌++◌, Ok, Err}
use Rattle.fb_base.specs.declared.fault.Span.{Span}
use Rattle.fb_base.specs.declared.fault.FaultKind.TheVariants.{Expected}
use Rattle.fb_lexer.specs.declared.word.Word.TheVariants as w
use Rattle.fb_ast.specs.declared.part.Member.{Member}
use Rattle.fb_ast.specs.declared.part.Member.TheVariants as member
use Rattle.fb_ast.specs.declared.part.Item.{Item}
use Rattle.fb_ast.specs.declared.part.Item.TheVariants as item
use Rattle.parse_expr.specs.declared.error.ReadErr.TheVariants.{Fault}
use Rattle.parse_expr.specs.Reading.{Reader, next, sees_word, expect_word, pure, refuse, ◌>>=◌, ◌>>◌, take_token}
use Rattle.parse_expr.specs.Types.{type_name, name}
use Rattle.parse_parts.specs.declared.kinds.InLine.TheVariants as lines
use Rattle.parse_parts.specs.Steps.{place_at, here, sep, sees_name, Turn, all_of}
use Rattle.parse_parts.specs.Variables.{any_bounds}
use Rattle.parse_parts.specs.Heads.{any_params, no_params, one_param, declared_head}

-- ---- Types

unfoldable pub field : ℕ → Reader Member
field most = do
  n ← name
  b ← any_bounds most
  expect_word w.KwAs
  pure (member.Field n b (← type_name))

-- behind Declare Operator
unfoldable pub let_member : Span → Reader Member
let_member at = do
  let_at ← here
  expect_word w.KwLet
  pure (member.Let at let_at (← one_param true))

unfoldable pub constructor_member : Span → Reader Member
constructor_member at = do
  word_at ← here
  take_token
  pure (member.Constructor at word_at (← any_params true))

unfoldable pub destructor_member : Span → Reader Member
destructor_member at = do
  word_at ← here
  take_token
  no_params
  pure (member.Destructor at word_at)

unfoldable pub head_member : Span → Reader Member
head_member at = do
  h ← declared_head
  pure (member.Declare at h)

-- behind Declare in a Type
unfoldable pub declared_member : Span → Reader Member
declared_member at = λ ts.
    if sees_word w.KwConstructor ts then constructor_member at ts
    else if sees_word w.KwDestructor ts then destructor_member at ts
    else if sees_word w.KwOperator ts then let_member at (next ts)
    else head_member at ts

-- a field or a Declare
unfoldable pub one_member : ℕ → Reader Member
one_member most = λ ts.
    if sees_word w.KwDeclare ts then declared_member (place_at ts) (next ts)
    else if sees_name ts then field most ts
    else refuse ts

unfoldable pub ended_member : List Member → Member → Reader (List Member × Bool)
ended_member found x = sep lines.Free >> pure (found ++ x ∷ [], true)

abbrev pub is_field : Member → Bool
is_field (member.Field _ _ _) = true
is_field other = false

unfoldable pub has_field : List Member → Bool
has_field [] = false
has_field (m ∷ ms) = if is_field m then true else has_field ms

-- a Type has a field at least
unfoldable pub member_turn : ℕ → Turn (List Member)
member_turn most found = λ ts.
    if sees_word w.KwEnd ts then (if has_field found then Ok ((found, false), ts) else Err (Fault Expected, ts))
    else (one_member most >>= ended_member found) ts

unfoldable pub members : ℕ → Reader (List Member)
members most = all_of (member_turn most) []

-- a Type from its word on up to the word behind End
unfoldable pub type_def : ℕ → Reader Item
type_def most = do
  at ← here
  take_token
  n ← name
  sep lines.Free
  all ← members most
  expect_word w.KwEnd
  expect_word w.KwType
  pure (item.Type at n all)
