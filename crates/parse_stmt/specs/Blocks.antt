-- Statements with statements inside, and how deep they may be.
use Rattle.std.specs.Prelude.{ℕ, zero, suc, ◌==◌, Bool, true, false, if◌then◌else◌, List, [], ◌∷◌, ◌++◌, Option, Some, None, is_some, Ok, Err}
use Rattle.fb_base.specs.declared.fault.Span.{Span}
use Rattle.fb_base.specs.declared.fault.FaultKind.{FaultKind}
use Rattle.fb_base.specs.declared.fault.FaultKind.TheVariants.{Expected, ExtraText, DeepNesting}
use Rattle.fb_lexer.specs.declared.token.Token.{Token}
use Rattle.fb_lexer.specs.declared.token.Mark.TheVariants.{Equal}
use Rattle.fb_lexer.specs.declared.word.Word.{Word}
use Rattle.fb_lexer.specs.declared.word.Word.TheVariants as w
use Rattle.fb_ast.specs.declared.expr.Expr.{Expr}
use Rattle.fb_ast.specs.declared.part.Name.{Name}
use Rattle.fb_ast.specs.declared.ty.TypeName.{TypeName}
use Rattle.fb_ast.specs.declared.stmt.Block.{Block, roll-Block}
use Rattle.fb_ast.specs.declared.stmt.Branch.{Branch, roll-Branch}
use Rattle.fb_ast.specs.declared.stmt.CaseBranch.{CaseBranch, roll-CaseBranch}
use Rattle.fb_ast.specs.declared.stmt.Stmt.{Stmt}
use Rattle.fb_ast.specs.declared.stmt.Stmt.TheVariants as s
use Rattle.parse_expr.specs.declared.error.ReadErr.TheVariants.{Fault}
use Rattle.parse_expr.specs.Reading.{Reader, first, next, sees_word, expect, expect_word, pure, stop, ◌>>=◌, ◌>>◌, take_token}
use Rattle.parse_expr.specs.Types.{name}
use Rattle.parse_parts.specs.declared.kinds.Level.{Level}
use Rattle.parse_parts.specs.declared.kinds.InLine.{InLine}
use Rattle.parse_parts.specs.declared.kinds.InLine.TheVariants as lines
use Rattle.parse_parts.specs.declared.kinds.Spot.{Spot}
use Rattle.parse_parts.specs.declared.kinds.Lead.{Lead}
use Rattle.parse_parts.specs.declared.kinds.Lead.TheVariants as leads
use Rattle.parse_parts.specs.declared.kinds.Closer.{Closer}
use Rattle.parse_parts.specs.declared.kinds.Closer.TheVariants as closers
use Rattle.parse_parts.specs.Words.{level_within, line_within, lead_of, ends_with_end}
use Rattle.parse_parts.specs.Steps.{place_at, last_before, here, astray, extra, sees_sep, sep, whole, value_behind, sees_value, any_name, any_type, Turn, all_of}
use Rattle.parse_parts.specs.Variables.{dim, static_, constant}
use Rattle.parse_parts.specs.Cases.{any_test, last_test, cases_}
use Rattle.parse_parts.specs.Simple.{valued, called, result_, print, line_input, exit, continue_, return_, delete, end_}

-- ---- the ends of blocks

-- End and this word come next
unfoldable pub sees_end : Word → List Token → Bool
sees_end word ts = if sees_word w.KwEnd ts then sees_word word (next ts) else false

abbrev pub closed : Closer → List Token → Bool
closed closers.Next ts = sees_word w.KwNext ts
closed closers.Wend ts = sees_word w.KwWend ts
closed closers.Loop ts = sees_word w.KwLoop ts
closed closers.Scope ts = sees_end w.KwScope ts
closed closers.Cases ts = if sees_word w.KwCase ts then true else sees_end w.KwSelect ts
closed closers.Branches ts = if sees_word w.KwElseIf ts then true else if sees_word w.KwElse ts then true else sees_end w.KwIf ts
closed closers.Else ts = sees_end w.KwIf ts
closed closers.Sub ts = sees_end w.KwSub ts
closed closers.Function ts = sees_end w.KwFunction ts
closed closers.Constructor ts = sees_end w.KwConstructor ts
closed closers.Destructor ts = sees_end w.KwDestructor ts
closed closers.Operator ts = sees_end w.KwOperator ts

-- End and this word, and the place of End
unfoldable pub end_of : Word → Reader Span
end_of word = do
  at ← here
  expect_word w.KwEnd
  expect_word word
  pure at

-- What is wrong behind an End that may not begin a statement, since no statement can be deep enough, but may end the
-- block: only what would make it a statement is forbidden by the depth.
unfoldable pub behind_end : InLine → List Token → FaultKind
behind_end line ts = astray (if sees_value ts then DeepNesting else if sees_sep line ts then DeepNesting else Expected) ts

unfoldable pub deep_end : InLine → Reader Stmt
deep_end line = take_token >> (λ ts. Err (Fault (behind_end line ts), ts))

-- ---- statements with statements inside, by the reader of those, which may be so many levels deep

module _ (most : ℕ) (inner : Spot → Reader Stmt) (room : ℕ) where
  -- End comes next, which can't begin a statement, since none can be deep enough
  unfoldable pub end_is_deep : Closer → List Token → Bool
  end_is_deep closer ts = if room == 0 then (if ends_with_end closer then sees_word w.KwEnd ts else false) else false

  unfoldable pub block_stmt : Level → InLine → Closer → Reader Stmt
  block_stmt level line closer = λ ts.
      if end_is_deep closer ts then deep_end line ts
      else inner (record { level = level; line = line; other = ExtraText }) ts

  unfoldable pub ended : InLine → List Stmt → Stmt → Reader (List Stmt × Bool)
  ended line found x = sep line >> pure (found ++ x ∷ [], true)

  unfoldable pub block_turn : Level → InLine → Closer → Turn (List Stmt)
  block_turn level line closer found = λ ts.
      if sees_sep line ts then Ok ((found, true), next ts)
      else if closed closer ts then Ok ((found, false), ts)
      else (block_stmt level line closer >>= ended line found) ts

  unfoldable pub block : Level → InLine → Closer → Reader (List Stmt)
  block level line closer = all_of (block_turn level line closer) []

  -- a block, and the place of what ends it, which comes next
  unfoldable pub body : Level → InLine → Closer → Reader Block
  body level line closer = do
    all ← block level line closer
    end ← here
    pure (roll-Block (record { stmts = all; end = end }))

  -- ---- the one-line If

  unfoldable pub series_turn : Level → Turn (List Stmt)
  series_turn level found = λ ts.
      if sees_sep lines.Series ts then (do x ← inner (record { level = level; line = lines.Series; other = Expected }); pure (found ++ x ∷ [], true)) (next ts)
      else Ok ((found, false), ts)

  unfoldable pub series_from : Level → Stmt → Reader (List Stmt)
  series_from level x = all_of (series_turn level) (x ∷ [])

  -- statements with colons between, up to the line's end or Else
  unfoldable pub series : Level → FaultKind → Reader (List Stmt)
  series level other = inner (record { level = level; line = lines.Series; other = other }) >>= series_from level

  unfoldable pub series_end : List Token → List Token → Span
  series_end ts rest = if sees_word w.KwElse rest then place_at rest else last_before ts rest

  unfoldable pub series_then : Level → Reader Block
  series_then level = λ ts. (series level ExtraText >>= (λ all rest. Ok (roll-Block (record { stmts = all; end = series_end ts rest }), rest))) ts

  unfoldable pub series_else : Level → Reader Block
  series_else level = λ ts. (series level Expected >>= (λ all rest. Ok (roll-Block (record { stmts = all; end = last_before ts rest }), rest))) ts

  unfoldable pub series_other : Level → Reader (Option (Span × Block))
  series_other level = λ ts. if sees_word w.KwElse ts then (do b ← series_else level; pure (Some (place_at ts, b))) (next ts) else Ok (None, ts)

  unfoldable pub if_series : Span → Expr → Level → Reader Stmt
  if_series at condition level = do
    one ← series_then level
    pure (s.IfLine at condition one (← series_other level))

  -- ---- the If of several lines

  unfoldable pub branch : Span → Expr → Level → InLine → Reader Branch
  branch at condition level line = do
    b ← body level line closers.Branches
    pure (roll-Branch (record { at = at; condition = condition; body = b }))

  -- behind ElseIf
  unfoldable pub else_if : Span → Level → InLine → Reader Branch
  else_if at level line = do
    condition ← whole most
    expect_word w.KwThen
    sep line
    branch at condition level line

  unfoldable pub branch_turn : Level → InLine → Turn (List Branch)
  branch_turn level line found = λ ts.
      if sees_word w.KwElseIf ts then (do b ← else_if (place_at ts) level line; pure (found ++ b ∷ [], true)) (next ts)
      else Ok ((found, false), ts)

  unfoldable pub branches : Level → InLine → Branch → Reader (List Branch)
  branches level line one = all_of (branch_turn level line) (one ∷ [])

  -- behind Else
  unfoldable pub else_body : Level → InLine → Reader Block
  else_body level line = sep line >> body level line closers.Else

  unfoldable pub any_else : Level → InLine → Reader (Option (Span × Block))
  any_else level line = λ ts. if sees_word w.KwElse ts then (do b ← else_body level line; pure (Some (place_at ts, b))) (next ts) else Ok (None, ts)

  unfoldable pub if_block : Span → Expr → Level → InLine → Reader Stmt
  if_block at condition level line = do
    one ← branch at condition level line
    all ← branches level line one
    other ← any_else level line
    pure (s.If at all other (← end_of w.KwIf))

  -- In a block that is part of a one-line If no one-line If stands.
  abbrev pub if_by : InLine → Span → Expr → Level → Reader Stmt
  if_by lines.Free at condition level = if_series at condition level
  if_by lines.Series at condition level = if_series at condition level
  if_by lines.Inner at condition level = λ ts. Err (Fault (extra ts), ts)

  -- behind Then
  unfoldable pub if_behind : Span → Expr → Level → InLine → Reader Stmt
  if_behind at condition level line = λ ts.
      if sees_sep line ts then if_block at condition (level_within level) (line_within line) (next ts)
      else if_by line at condition (level_within level) ts

  unfoldable pub if_ : Span → Level → InLine → Reader Stmt
  if_ at level line = do
    take_token
    condition ← whole most
    expect_word w.KwThen
    if_behind at condition level line

  -- ---- loops

  -- start, end and step
  unfoldable pub range : Reader (Expr × Expr × Option Expr)
  range = do
    start ← whole most
    expect_word w.KwTo
    end ← whole most
    step ← value_behind most w.KwStep
    pure (start, end, step)

  unfoldable pub for_head : Reader (Name × Option TypeName × (Expr × Expr × Option Expr))
  for_head = do
    n ← name
    ty ← any_type
    expect Equal
    values ← range
    pure (n, ty, values)

  -- the body, and the name behind Next
  unfoldable pub for_tail : Level → InLine → Reader (Block × Option Name)
  for_tail level line = do
    sep line
    b ← body level line closers.Next
    take_token
    last ← any_name
    pure (b, last)

  unfoldable pub for_ : Span → Level → InLine → Reader Stmt
  for_ at level line = do
    take_token
    head ← for_head
    tail ← for_tail level line
    pure (s.For at head.0 head.1 head.2.0 head.2.1 head.2.2 tail.0 tail.1)

  unfoldable pub while_ : Span → Level → InLine → Reader Stmt
  while_ at level line = do
    take_token
    condition ← whole most
    sep line
    b ← body level line closers.Wend
    take_token
    pure (s.While at condition b)

  unfoldable pub do_ : Span → Level → InLine → Reader Stmt
  do_ at level line = do
    take_token
    test ← any_test most
    sep line
    b ← body level line closers.Loop
    take_token
    pure (s.Do at test b (← last_test most (is_some test)))

  -- ---- Select and Scope

  -- behind Case
  unfoldable pub case_branch : Span → Level → InLine → Reader CaseBranch
  case_branch at level line = do
    all ← cases_ most
    sep line
    b ← body level line closers.Cases
    pure (roll-CaseBranch (record { at = at; cases = all; body = b }))

  unfoldable pub select_turn : Level → InLine → Turn (List CaseBranch)
  select_turn level line found = λ ts.
      if sees_word w.KwCase ts then (do b ← case_branch (place_at ts) level line; pure (found ++ b ∷ [], true)) (next ts)
      else Ok ((found, false), ts)

  unfoldable pub case_branches : Level → InLine → Reader (List CaseBranch)
  case_branches level line = all_of (select_turn level line) []

  unfoldable pub select : Span → Level → InLine → Reader Stmt
  select at level line = do
    take_token
    expect_word w.KwCase
    value ← whole most
    sep line
    all ← case_branches level line
    pure (s.Select at value all (← end_of w.KwSelect))

  unfoldable pub scope : Span → Level → InLine → Reader Stmt
  scope at level line = do
    take_token
    sep line
    b ← body level line closers.Scope
    end_of w.KwScope
    pure (s.Scope at b)

  -- ---- statements

  abbrev pub led : Span → Spot → Lead → Reader Stmt
  led at spot leads.Dim = dim most at spot.level
  led at spot leads.Static = static_ most at
  led at spot leads.Const = constant most at
  led at spot leads.Function = result_ most at
  led at spot leads.Print = print most at
  led at spot leads.Line = line_input most at
  led at spot leads.If = if_ at spot.level spot.line
  led at spot leads.For = for_ at (level_within spot.level) (line_within spot.line)
  led at spot leads.While = while_ at (level_within spot.level) (line_within spot.line)
  led at spot leads.Do = do_ at (level_within spot.level) (line_within spot.line)
  led at spot leads.Select = select at (level_within spot.level) (line_within spot.line)
  led at spot leads.Scope = scope at (level_within spot.level) (line_within spot.line)
  led at spot leads.Exit = exit at
  led at spot leads.Continue = continue_ at
  led at spot leads.Return = return_ most at
  led at spot leads.Delete = delete most at
  led at spot leads.End = end_ most at
  led at spot (leads.Call word) = called most at word
  led at spot leads.Value = valued most at
  led at spot leads.Nothing = λ ts. Err (Fault (astray spot.other ts), ts)

  abbrev pub statement_at : Spot → Option Token → Reader Stmt
  statement_at spot None = stop Expected
  statement_at spot (Some t) = led t.at spot (lead_of spot.level t.kind)

  unfoldable pub statement : Spot → Reader Stmt
  statement spot = λ ts. statement_at spot (first ts) ts

-- where no statement can be deep enough
abbrev pub deep_by : Spot → List Token → Lead → FaultKind
deep_by spot ts leads.Nothing = astray spot.other ts
deep_by spot ts lead = DeepNesting

abbrev pub deep_at : Spot → List Token → Option Token → FaultKind
deep_at spot ts None = Expected
deep_at spot ts (Some t) = deep_by spot ts (lead_of spot.level t.kind)

unfoldable pub no_room : Spot → Reader Stmt
no_room spot = λ ts. Err (Fault (deep_at spot ts (first ts)), ts)

-- A statement that is at most so deep.
unfoldable pub stmt : ℕ → ℕ → Spot → Reader Stmt
stmt most zero spot = no_room spot
stmt most (suc room) spot = statement most (stmt most room) room spot
