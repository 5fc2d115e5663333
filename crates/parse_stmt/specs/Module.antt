-- What a module is made of.
use Rattle.std.specs.Prelude.{suc, ℕ, ◌+◌, Bool, true, false, if◌then◌else◌, List, [], ◌∷◌, ◌++◌, Option, Some, None, Result, Ok, Err}
use Rattle.fb_base.specs.declared.fault.FaultKind.TheVariants.{ExtraText}
use Rattle.fb_lexer.specs.TokenList.{TokenList}
use Rattle.fb_lexer.specs.declared.token.Token.{Token}
use Rattle.fb_lexer.specs.declared.token.Mark.TheVariants.{Equal}
use Rattle.fb_lexer.specs.declared.word.Word.TheVariants as w
use Rattle.fb_ast.specs.declared.part.Item.{Item}
use Rattle.fb_ast.specs.declared.part.Item.TheVariants as item
use Rattle.fb_ast.specs.declared.stmt.Stmt.{Stmt}
use Rattle.fb_ast.specs.declared.tree.Tree.{Tree}
use Rattle.parse_expr.specs.declared.error.ParseErr.{ParseErr}
use Rattle.parse_expr.specs.Reading.{Reader, Outcome, first, next, sees, sees_word, pure, ◌>>=◌, ◌>>◌, take_token}
use Rattle.parse_expr.specs.Expr.{error_of}
use Rattle.parse_parts.specs.declared.kinds.Level.TheVariants as levels
use Rattle.parse_parts.specs.declared.kinds.InLine.TheVariants as lines
use Rattle.parse_parts.specs.declared.kinds.ProcedureWord.{ProcedureWord}
use Rattle.parse_parts.specs.declared.kinds.ProcedureWord.TheVariants as words
use Rattle.parse_parts.specs.Steps.{here, words_before, sees_sep, sep, Turn, all_of}
use Rattle.parse_parts.specs.Heads.{declared}
use Rattle.parse_parts.specs.Members.{type_def}
use Rattle.parse_stmt.specs.declared.module.Found.{Found}
use Rattle.parse_stmt.specs.Blocks.{stmt}
use Rattle.parse_stmt.specs.Procedures.{procedure}

-- ---- the module

unfoldable pub declare : Reader Item
declare = do
  at ← here
  take_token
  declared at

-- The end of the text ends what stands at the module's level, too.
abbrev pub ended_by : Option Token → Reader (Unit {0})
ended_by None = pure tt
ended_by (Some t) = sep lines.Free

unfoldable pub ended_item : Found → Item → Reader (Found × Bool)
ended_item found x = (λ ts. ended_by (first ts) ts) >> pure (record { items = found.items ++ x ∷ []; tokens = found.tokens }, true)

-- a statement, and how many tokens it has
unfoldable pub main_stmt : ℕ → ℕ → Reader (Stmt × ℕ)
main_stmt most room = λ ts. (stmt most (suc room) (record { level = levels.Module; line = lines.Free; other = ExtraText }) >>= (λ x rest. Ok ((x, words_before ts rest), rest))) ts

unfoldable pub ended_stmt : Found → Stmt × ℕ → Reader (Found × Bool)
ended_stmt found x = (λ ts. ended_by (first ts) ts) >> pure (record { items = found.items ++ item.Stmt x.0 ∷ []; tokens = found.tokens + x.1 }, true)

-- Function begins a procedure, unless `=` stands behind it
unfoldable pub function_begins : List Token → Bool
function_begins ts = if sees_word w.KwFunction ts then (if sees Equal (next ts) then false else true) else false

-- the word that a procedure begins with, if one comes next
unfoldable pub procedure_word : List Token → Option ProcedureWord
procedure_word ts =
    if sees_word w.KwSub ts then Some words.Sub
    else if function_begins ts then Some words.Function
    else if sees_word w.KwConstructor ts then Some words.Constructor
    else if sees_word w.KwDestructor ts then Some words.Destructor
    else if sees_word w.KwOperator ts then Some words.Operator
    else None

abbrev pub item_by : ℕ → ℕ → Found → Option ProcedureWord → Reader (Found × Bool)
item_by most room found None = main_stmt most room >>= ended_stmt found
item_by most room found (Some word) = procedure most room word >>= ended_item found

unfoldable pub one_item : ℕ → ℕ → Found → Reader (Found × Bool)
one_item most room found = λ ts.
    if sees_word w.KwDeclare ts then (declare >>= ended_item found) ts
    else if sees_word w.KwType ts then (type_def most >>= ended_item found) ts
    else item_by most room found (procedure_word ts) ts

unfoldable pub more_items : ℕ → ℕ → Found → Reader (Found × Bool)
more_items most room found = λ ts. if sees_sep lines.Free ts then Ok ((found, true), next ts) else one_item most room found ts

abbrev pub item_at : ℕ → ℕ → Found → Option Token → Reader (Found × Bool)
item_at most room found None = pure (found, false)
item_at most room found (Some t) = more_items most room found

unfoldable pub item_turn : ℕ → ℕ → Turn Found
item_turn most room found = λ ts. item_at most room found (first ts) ts

unfoldable pub module_ : ℕ → ℕ → Reader Found
module_ most room = all_of (item_turn most room) (record { items = []; tokens = 0 })

abbrev pub told : TokenList → Outcome Found → Result Tree ParseErr
told tokens (Ok p) = Ok (record { items = p.0.items; tokens = p.0.tokens; last_line = tokens.last_line })
told tokens (Err e) = Err (error_of tokens.items e.0 e.1)

-- The tree of a text's tokens, or the first fault.
abbrev pub tree_of : TokenList → Result Tree ParseErr
tree_of tokens = told tokens (module_ 200 199 tokens.items)
