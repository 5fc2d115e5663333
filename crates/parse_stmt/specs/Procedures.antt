-- Procedures with their bodies.
use Rattle.std.specs.Prelude.{ℕ, Ok}
use Rattle.fb_ast.specs.declared.part.ProcedureKind.{ProcedureKind}
use Rattle.fb_ast.specs.declared.part.Item.{Item}
use Rattle.fb_ast.specs.declared.part.Item.TheVariants as item
use Rattle.fb_ast.specs.declared.stmt.Block.{Block}
use Rattle.parse_expr.specs.Reading.{Reader, pure, ◌>>=◌, ◌>>◌, take_token}
use Rattle.parse_parts.specs.declared.kinds.Level.TheVariants as levels
use Rattle.parse_parts.specs.declared.kinds.InLine.TheVariants as lines
use Rattle.parse_parts.specs.declared.kinds.ProcedureWord.{ProcedureWord}
use Rattle.parse_parts.specs.declared.kinds.Closer.{Closer}
use Rattle.parse_parts.specs.Steps.{here, words_before, sep}
use Rattle.parse_parts.specs.Heads.{opened}
use Rattle.parse_stmt.specs.Blocks.{body, stmt}

unfoldable pub statements : ℕ → ℕ → Closer → Reader Block
statements most room closer = body most (stmt most room) room levels.Procedure lines.Free closer

-- behind the head, up to the word behind End
unfoldable pub procedure_body : ℕ → ℕ → Closer → Reader Block
procedure_body most room closer = do
  sep lines.Free
  b ← statements most room closer
  take_token
  take_token
  pure b

unfoldable pub procedure_parts : ℕ → ℕ → ProcedureWord → Reader (ProcedureKind × Block)
procedure_parts most room word = do
  at ← here
  take_token
  o ← opened word at
  b ← procedure_body most room o.1
  pure (o.0, b)

-- a procedure from its first word on up to the word behind End
unfoldable pub procedure : ℕ → ℕ → ProcedureWord → Reader Item
procedure most room word = λ ts. (procedure_parts most room word >>= (λ p rest. Ok (item.Procedure (record { kind = p.0; body = p.1; tokens = words_before ts rest }), rest))) ts
