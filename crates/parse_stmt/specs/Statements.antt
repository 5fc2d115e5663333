-- The grammar of statements (FreeBASIC Manual, Statements and Control Flow).
use Rattle.std.specs.Prelude.{◌≡◌, ℕ, zero, suc, Bool, true, false, if◌then◌else◌, List, [], ◌∷◌, Option, Some, None, ◌⊎◌}
use Rattle.fb_base.specs.declared.fault.Span.{Span}
use Rattle.fb_lexer.specs.declared.token.Token.{Token}
use Rattle.fb_lexer.specs.declared.token.Mark.TheVariants.{Open, Close, OpenBracket, CloseBracket, Equal, Semicolon, Comma}
use Rattle.fb_lexer.specs.declared.word.Word.{Word}
use Rattle.fb_lexer.specs.declared.word.Word.TheVariants as w
use Rattle.fb_ast.specs.declared.expr.Expr.{Expr}
use Rattle.fb_ast.specs.declared.operator.Assignment.{Assignment}
use Rattle.fb_ast.specs.declared.operator.CallWord.{CallWord}
use Rattle.fb_ast.specs.declared.part.Bounds.{Bounds}
use Rattle.fb_ast.specs.declared.part.Name.{Name}
use Rattle.fb_ast.specs.declared.ty.TypeName.{TypeName}
use Rattle.fb_ast.specs.declared.stmt.Storage.{Storage}
use Rattle.fb_ast.specs.declared.stmt.Storage.TheVariants as storage
use Rattle.fb_ast.specs.declared.stmt.Var.{Var}
use Rattle.fb_ast.specs.declared.stmt.Listed.{Listed as SharedVar}
use Rattle.fb_ast.specs.declared.stmt.Printed.{Printed}
use Rattle.fb_ast.specs.declared.stmt.Printed.TheVariants as printed
use Rattle.fb_ast.specs.declared.stmt.Test.{Test}
use Rattle.fb_ast.specs.declared.stmt.Case.{Case}
use Rattle.fb_ast.specs.declared.stmt.Case.TheVariants as case
use Rattle.fb_ast.specs.declared.stmt.Cases.{Cases}
use Rattle.fb_ast.specs.declared.stmt.Cases.TheVariants as cases
use Rattle.fb_ast.specs.declared.stmt.Block.{Block, roll-Block}
use Rattle.fb_ast.specs.declared.stmt.Branch.{Branch, roll-Branch}
use Rattle.fb_ast.specs.declared.stmt.CaseBranch.{CaseBranch, roll-CaseBranch}
use Rattle.fb_ast.specs.declared.stmt.Stmt.{Stmt}
use Rattle.fb_ast.specs.declared.stmt.Stmt.TheVariants as s
use Rattle.parse_expr.specs.Reading.{first, next, sees, sees_word}
use Rattle.parse_parts.specs.declared.kinds.Level.{Level}
use Rattle.parse_parts.specs.declared.kinds.InLine.{InLine}
use Rattle.parse_parts.specs.declared.kinds.InLine.TheVariants as lines
use Rattle.parse_parts.specs.declared.kinds.Lead.{Lead}
use Rattle.parse_parts.specs.declared.kinds.Lead.TheVariants as leads
use Rattle.parse_parts.specs.Words.{level_within, line_within, lead_of}
use Rattle.parse_parts.specs.Steps.{place_at, last_before, sees_sep}
use Rattle.parse_parts.specs.Variables.{may_share}
use Rattle.parse_parts.specs.Simple.{assignment_at, is_call, exit_at, continue_at}
use Rattle.parse_parts.specs.Cases.{until_at, comparison_at}
use Rattle.parse_stmt.specs.Phrases.{Phrase, gives, ◌>>=◌, ◌>>◌, either, maybe, behind_mark, behind_word, before, mark, word, Listed, any_token, here, sep, name, ty, expression, place}

-- ---- variables

-- `expr [ To expr ] )`
abbrev pub bounds : ℕ → Phrase Bounds
bounds most = do
  one ← expression most
  b ← either (do word w.KwTo; high ← expression most; gives (record { low = Some one; high = high })) (gives (record { low = None; high = one }))
  mark Close
  gives b

-- a variable with its type
abbrev pub var : ℕ → Phrase Var
var most = do
  n ← name
  b ← behind_mark Open (bounds most)
  word w.KwAs
  t ← ty
  init ← behind_mark Equal (expression most)
  gives (record { name = n; bounds = b; ty = t; init = init })

-- a variable behind the type that all share
abbrev pub shared_var : ℕ → Phrase SharedVar
shared_var most = do
  n ← name
  b ← behind_mark Open (bounds most)
  init ← behind_mark Equal (expression most)
  gives (record { name = n; bounds = b; init = init })

abbrev pub variables : ℕ → Span → Storage → Phrase Stmt
variables most at where_ = either
    (do word w.KwAs; t ← ty; all ← Listed (shared_var most); gives (s.DimAs at where_ t all))
    (do all ← Listed (var most); gives (s.Dim at where_ all))

-- Dim Shared stands at the module's level alone.
abbrev pub dim_with : ℕ → Bool → Span → Phrase Stmt
dim_with most true at = either (word w.KwShared >> variables most at storage.Shared) (variables most at storage.Scope)
dim_with most false at = variables most at storage.Scope

abbrev pub constant : ℕ → Span → Phrase Stmt
constant most at = do
  n ← name
  t ← behind_word w.KwAs ty
  mark Equal
  x ← expression most
  gives (s.Const at n t x)

-- ---- assignments and calls

-- a mark or a word that the table has
pub record Chosen {A : Type 0} (table : Option Token → Option A) (ts : List Token) (a : A) (rest : List Token) : Type 0 where
  pub is : table (first ts) ≡ Some a
  pub behind : rest ≡ next ts

-- `=`, or an operator and `=`, and its place
abbrev pub assigns : Phrase (Assignment × Span)
assigns = Chosen assignment_at

abbrev pub values : ℕ → Phrase (List Expr)
values most = either (Listed (expression most)) (gives [])

-- No parenthesis comes next: a name takes one that does as the beginning of its arguments in parentheses.
abbrev pub is_alone : List Token → Bool
is_alone ts = if sees Open ts then false else true

-- a place that is assigned to
abbrev pub assignment : ℕ → Span → Phrase Stmt
assignment most at = do
  left ← place most
  how ← assigns
  x ← expression most
  gives (s.Assign at left how.0 how.1 x)

abbrev pub call_only : Expr → Phrase Expr
call_only x = λ ts y rest. (is_call x ≡ true) × (y ≡ x) × (rest ≡ ts)

-- a call with parentheses
abbrev pub call : ℕ → Span → Phrase Stmt
call most at = do
  x ← place most
  call_only x
  gives (s.Call at x)

-- a call without parentheses: no parenthesis follows the name
abbrev pub call_name : ℕ → Span → Phrase Stmt
call_name most at = do
  n ← before is_alone name
  all ← values most
  gives (s.CallName at n all)

abbrev pub valued : ℕ → Span → Phrase Stmt
valued most at = either (assignment most at) (either (call most at) (call_name most at))

-- a word that is called and gives nothing: with parentheses, or without
abbrev pub call_word : ℕ → Span → CallWord → Phrase Stmt
call_word most at which = λ ts x rest.
    ((sees Open (next ts) ≡ true) × valued most at ts x rest)
    ⊎ ((sees Open (next ts) ≡ false) × (do any_token; all ← values most; gives (s.CallWord at which all)) ts x rest)

-- ---- input and output

-- What Print prints. An expression may come next at the beginning, and behind a semicolon or a comma.
pub data AllPrinted (most : ℕ) : Bool → List Token → List Printed → List Token → Type 0 where
  nothing : (fresh : Bool) (ts : List Token) → AllPrinted most fresh ts [] ts
  semicolon : (fresh : Bool) (ts rest : List Token) (all : List Printed) → sees Semicolon ts ≡ true → AllPrinted most true (next ts) all rest
      → AllPrinted most fresh ts (printed.Semicolon (place_at ts) ∷ all) rest
  comma : (fresh : Bool) (ts rest : List Token) (all : List Printed) → sees Comma ts ≡ true → AllPrinted most true (next ts) all rest
      → AllPrinted most fresh ts (printed.Comma (place_at ts) ∷ all) rest
  value : (ts between rest : List Token) (x : Expr) (all : List Printed) → expression most ts x between → AllPrinted most false between all rest
      → AllPrinted most true ts (printed.Expr x ∷ all) rest

-- ---- parts of loops and of Select

-- the values of a counter: the first, the last, and the step
abbrev pub range : ℕ → Phrase (Expr × Expr × Option Expr)
range most = do
  start ← expression most
  word w.KwTo
  end ← expression most
  step ← behind_word w.KwStep (expression most)
  gives (start, end, step)

-- a counter, its type if it is written, and its values
abbrev pub for_head : ℕ → Phrase (Name × Option TypeName × (Expr × Expr × Option Expr))
for_head most = do
  n ← name
  t ← behind_word w.KwAs ty
  mark Equal
  all ← range most
  gives (n, t, all)

-- the test of a Do
abbrev pub test : ℕ → Phrase Test
test most = do
  at ← here
  which ← Chosen until_at
  x ← expression most
  gives (record { at = at; word = which; condition = x })

-- A Do has one test at most.
abbrev pub last_test : ℕ → Option Test → Phrase (Option Test)
last_test most None = maybe (test most)
last_test most (Some other) = gives None

abbrev pub one_case : ℕ → Phrase Case
one_case most = either (do at ← here; word w.KwIs; which ← Chosen comparison_at; x ← expression most; gives (case.Is at which x))
    (do low ← expression most; either (do word w.KwTo; high ← expression most; gives (case.Range low high)) (gives (case.Value low)))

abbrev pub all_cases : ℕ → Phrase Cases
all_cases most = either (word w.KwElse >> gives cases.Else) (do all ← Listed (one_case most); gives (cases.List all))

-- a phrase any number of times
pub data Many {A : Type 0} (one : Phrase A) : List Token → List A → List Token → Type 0 where
  none : (ts : List Token) → Many one ts [] ts
  some : (ts between rest : List Token) (a : A) (all : List A) → one ts a between → Many one between all rest → Many one ts (a ∷ all) rest

-- End and this word, and the place of End
abbrev pub end_of : Word → Phrase Span
end_of which = do
  at ← here
  word w.KwEnd
  word which
  gives at

-- ---- statements with statements inside

-- statements, each with an end, and further ends
pub data Statements (one : Phrase Stmt) (line : InLine) : List Token → List Stmt → List Token → Type 0 where
  none : (ts : List Token) → Statements one line ts [] ts
  blank : (ts rest : List Token) (all : List Stmt) → sees_sep line ts ≡ true → Statements one line (next ts) all rest → Statements one line ts all rest
  some : (ts between rest : List Token) (x : Stmt) (all : List Stmt) → one ts x between → sees_sep line between ≡ true
      → Statements one line (next between) all rest → Statements one line ts (x ∷ all) rest

-- The statements of a one-line If, with colons between, up to the line's end or an Else: no colon follows.
pub data Series (one : Phrase Stmt) : List Token → List Stmt → List Token → Type 0 where
  last : (ts rest : List Token) (x : Stmt) → one ts x rest → sees_sep lines.Series rest ≡ false → Series one ts (x ∷ []) rest
  another : (ts between rest : List Token) (x : Stmt) (all : List Stmt) → one ts x between → sees_sep lines.Series between ≡ true
      → Series one (next between) all rest → Series one ts (x ∷ all) rest

-- The statements inside stand for themselves, by where they stand in the module and in their line.
module _ (most : ℕ) (inner : Level → InLine → Phrase Stmt) where
  -- a block, up to the place of what ends it
  abbrev pub body : Level → InLine → Phrase Block
  body level line = do
    all ← Statements (inner level line) line
    end ← here
    gives (roll-Block (record { stmts = all; end = end }))

  -- ---- If

  -- what is done then, up to the Else or the last token
  abbrev pub then_series : Level → Phrase Block
  then_series level = λ ts b rest. (all : List Stmt) × Series (inner level lines.Series) ts all rest
      × (b ≡ roll-Block (record { stmts = all; end = if sees_word w.KwElse rest then place_at rest else last_before ts rest }))

  abbrev pub else_series : Level → Phrase Block
  else_series level = λ ts b rest. (all : List Stmt) × Series (inner level lines.Series) ts all rest
      × (b ≡ roll-Block (record { stmts = all; end = last_before ts rest }))

  -- An Else belongs to the innermost If that can take it.
  abbrev pub series_other : Level → Phrase (Option (Span × Block))
  series_other level = either (do at ← here; word w.KwElse; b ← else_series level; gives (Some (at, b)))
      (before (λ rest. if sees_word w.KwElse rest then false else true) (gives None))

  abbrev pub if_series : Span → Expr → Level → Phrase Stmt
  if_series at condition level = do
    one ← then_series level
    other ← series_other level
    gives (s.IfLine at condition one other)

  abbrev pub branch : Span → Expr → Level → InLine → Phrase Branch
  branch at condition level line = do
    b ← body level line
    gives (roll-Branch (record { at = at; condition = condition; body = b }))

  abbrev pub else_if : Level → InLine → Phrase Branch
  else_if level line = do
    at ← here
    word w.KwElseIf
    condition ← expression most
    word w.KwThen
    sep line
    branch at condition level line

  abbrev pub last_else : Level → InLine → Phrase (Option (Span × Block))
  last_else level line = either (do at ← here; word w.KwElse; b ← (sep line >> body level line); gives (Some (at, b))) (gives None)

  abbrev pub if_block : Span → Expr → Level → InLine → Phrase Stmt
  if_block at condition level line = do
    one ← branch at condition level line
    more ← Many (else_if level line)
    other ← last_else level line
    end ← end_of w.KwIf
    gives (s.If at (one ∷ more) other end)

  -- In a block that is part of a one-line If no one-line If stands.
  abbrev pub if_line : InLine → Span → Expr → Level → Phrase Stmt
  if_line lines.Free at condition level = if_series at condition level
  if_line lines.Series at condition level = if_series at condition level
  if_line lines.Inner at condition level = λ ts x rest. ⊥

  abbrev pub if_ : Span → Level → InLine → Phrase Stmt
  if_ at level line = do
    any_token
    condition ← expression most
    word w.KwThen
    either (sep line >> if_block at condition (level_within level) (line_within line)) (if_line line at condition (level_within level))

  -- ---- loops

  -- the body, and the name behind Next
  abbrev pub for_tail : Level → InLine → Phrase (Block × Option Name)
  for_tail level line = do
    sep line
    b ← body level line
    word w.KwNext
    again ← maybe name
    gives (b, again)

  abbrev pub for_ : Span → Level → InLine → Phrase Stmt
  for_ at level line = do
    any_token
    head ← for_head most
    tail ← for_tail level line
    gives (s.For at head.0 head.1 head.2.0 head.2.1 head.2.2 tail.0 tail.1)

  abbrev pub while_ : Span → Level → InLine → Phrase Stmt
  while_ at level line = do
    any_token
    condition ← expression most
    sep line
    b ← body level line
    word w.KwWend
    gives (s.While at condition b)

  abbrev pub do_ : Span → Level → InLine → Phrase Stmt
  do_ at level line = do
    any_token
    one ← maybe (test most)
    sep line
    b ← body level line
    word w.KwLoop
    other ← last_test most one
    gives (s.Do at one b other)

  -- ---- Select and Scope

  abbrev pub case_branch : Level → InLine → Phrase CaseBranch
  case_branch level line = do
    at ← here
    word w.KwCase
    all ← all_cases most
    sep line
    b ← body level line
    gives (roll-CaseBranch (record { at = at; cases = all; body = b }))

  abbrev pub select : Span → Level → InLine → Phrase Stmt
  select at level line = do
    any_token
    word w.KwCase
    x ← expression most
    sep line
    all ← Many (case_branch level line)
    end ← end_of w.KwSelect
    gives (s.Select at x all end)

  abbrev pub scope : Span → Level → InLine → Phrase Stmt
  scope at level line = do
    any_token
    sep line
    b ← body level line
    end_of w.KwScope
    gives (s.Scope at b)

  -- ---- statements

  -- a statement from its first token on, by what that is
  abbrev pub led : Span → Level → InLine → Lead → Phrase Stmt
  led at level line leads.Dim = any_token >> dim_with most (may_share level) at
  led at level line leads.Static = any_token >> variables most at storage.Static
  led at level line leads.Const = any_token >> constant most at
  led at level line leads.Function = do any_token; mark Equal; x ← expression most; gives (s.Result at x)
  led at level line leads.Print = do any_token; all ← AllPrinted most true; gives (s.Print at all)
  led at level line leads.Line = do any_token; word w.KwInput; x ← place most; gives (s.LineInput at x)
  led at level line leads.If = if_ at level line
  led at level line leads.For = for_ at (level_within level) (line_within line)
  led at level line leads.While = while_ at (level_within level) (line_within line)
  led at level line leads.Do = do_ at (level_within level) (line_within line)
  led at level line leads.Select = select at (level_within level) (line_within line)
  led at level line leads.Scope = scope at (level_within level) (line_within line)
  led at level line leads.Exit = do any_token; which ← Chosen exit_at; gives (s.Exit at which)
  led at level line leads.Continue = do any_token; which ← Chosen continue_at; gives (s.Continue at which)
  led at level line leads.Return = do any_token; x ← maybe (expression most); gives (s.Return at x)
  led at level line leads.Delete = do
    any_token
    all ← either (do mark OpenBracket; mark CloseBracket; gives true) (gives false)
    x ← expression most
    gives (s.Delete at all x)
  led at level line leads.End = do any_token; x ← maybe (expression most); gives (s.End at x)
  led at level line (leads.Call which) = call_word most at which
  led at level line leads.Value = valued most at
  led at level line leads.Nothing = λ ts x rest. ⊥

  abbrev pub statement : Level → InLine → Phrase Stmt
  statement level line = λ ts x rest. (t : Token) × (more : List Token) × (ts ≡ t ∷ more) × led t.at level line (lead_of level t.kind) ts x rest

-- A statement that is at most so deep: those inside are at most one less deep.
abbrev pub stmt : ℕ → ℕ → Level → InLine → Phrase Stmt
stmt most zero level line = λ ts x rest. ⊥
stmt most (suc room) level line = statement most (stmt most room) level line
