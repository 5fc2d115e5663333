-- What a program's lines are read as.
use Rattle.std.specs.Prelude.{ℕ, suc, ◌+◌, ◌^◌, max, nat_le, nat_lt, if◌then◌else◌, Bool, true, false, List, [], ◌∷◌, ◌++◌, length, Option, Some, None, option_map, option_and_then}
use Rattle.first_language.specs.declared.tree.Operator.{Operator}
use Rattle.first_language.specs.declared.tree.Operator.TheVariants.{Same}
use Rattle.first_language.specs.declared.token.Token.{Token}
use Rattle.first_language.specs.declared.token.Token.TheVariants as t
use Rattle.first_language.specs.Grammar.{Tokens, Names, place_of, looseness, Line, Nothing, Declares, DeclaresWith, Does, OpensIf, ClosesIf, OpensWhile, ClosesWhile}
use Rattle.first_language.specs.Tree.{Tree, Literal, Variable, Parenthesised, Apply, Statement, Declare, DeclareWith, Assign, Print, If, While, Block, End, Then, Program}

-- ---- expressions

-- a part of an expression, with its depth
pub record Part : Type 0 where
  pub tree : Tree
  pub deep : ℕ

-- what waits for its end: a parenthesis that is open, or an operator with its left side
pub data Waiting : Type 0 where
  Opened : Waiting
  Waits : (left : Part) (op : Operator) → Waiting

-- Where the reading of an expression stands, with what waits, the last first.
pub data Standing : Type 0 where
  -- an operand has to come
  Wants : (waiting : List Waiting) → Standing
  -- an operand has come
  Has : (part : Part) (waiting : List Waiting) → Standing

-- a part without parts
abbrev pub leaf : Tree → Part
leaf tree = record { tree = tree; deep = 1 }

-- a part one deeper than so many, where that isn't too deep
abbrev pub above : Tree → ℕ → Option Part
above tree deep = if nat_lt deep 200 then Some (record { tree = tree; deep = 1 + deep }) else None

abbrev pub joined : Part → Operator → Part → Option Part
joined left op right = above (Apply op left.tree right.tree) (max left.deep right.deep)

abbrev pub enclosed : Part → Option Part
enclosed inside = above (Parenthesised inside.tree) inside.deep

-- A part takes in what waits for it, up to this looseness.
abbrev pub reduced : ℕ → Part → List Waiting → Option (Part × List Waiting)
reduced bound part [] = Some (part, [])
reduced bound part (Opened ∷ waiting) = Some (part, Opened ∷ waiting)
reduced bound part (Waits left op ∷ waiting) =
    if nat_le (looseness op) bound then option_and_then (λ whole. reduced bound whole waiting) (joined left op part)
    else Some (part, Waits left op ∷ waiting)

-- an operator comes
abbrev pub sign_waits : Operator → Part × List Waiting → Standing
sign_waits op (part, waiting) = Wants (Waits part op ∷ waiting)

-- a parenthesis is closed
abbrev pub closed : Part → List Waiting → Option Standing
closed part [] = None
closed part (Opened ∷ waiting) = option_map (λ whole. Has whole waiting) (enclosed part)
closed part (Waits left op ∷ waiting) = None

-- a token further, where an operand has to come
abbrev pub wanting : Names → List Waiting → Token → Option Standing
wanting names waiting (t.Number n) = if nat_lt n (2 ^ 63) then Some (Has (leaf (Literal n)) waiting) else None
wanting names waiting (t.Name name) = option_map (λ x. Has (leaf (Variable x)) waiting) (place_of names name)
wanting names waiting t.Open = Some (Wants (Opened ∷ waiting))
wanting names waiting other = None

-- a token further, where an operand has come
abbrev pub having : Part → List Waiting → Token → Option Standing
having part waiting (t.Sign op) = option_map (sign_waits op) (reduced (looseness op) part waiting)
having part waiting t.Close = option_and_then (λ r. closed r.0 r.1) (reduced 4 part waiting)
having part waiting other = None

abbrev pub further : Names → Standing → Token → Option Standing
further names (Wants waiting) token = wanting names waiting token
further names (Has part waiting) token = having part waiting token

-- an expression that ends, where nothing waits
abbrev pub whole : Part → List Waiting → Option Tree
whole part [] = Some part.tree
whole part (first ∷ waiting) = None

abbrev pub ended : Standing → Option Tree
ended (Wants waiting) = None
ended (Has part waiting) = option_and_then (λ r. whole r.0 r.1) (reduced 4 part waiting)

abbrev pub read_row : Names → Standing → Tokens → Option Tree
read_row names standing [] = ended standing
read_row names standing (token ∷ tokens) = option_and_then (λ next. read_row names next tokens) (further names standing token)

-- the expression of these tokens
abbrev pub expression_of : Names → Tokens → Option Tree
expression_of names tokens = read_row names (Wants []) tokens

-- ---- lines

-- behind Dim
abbrev pub declaration : Names → Tokens → Option Line
declaration names (t.Name name ∷ t.As ∷ t.Integer ∷ []) = Some (Declares name)
declaration names (t.Name name ∷ t.As ∷ t.Integer ∷ t.Sign Same ∷ tokens) = option_map (DeclaresWith name) (expression_of names tokens)
declaration names other = None

-- behind a name at a line's beginning
abbrev pub assignment : Names → ℕ → List ℕ → Tokens → Option Line
assignment names number name (t.Sign Same ∷ tokens) =
    option_and_then (λ x. option_map (λ value. Does (Assign x value number)) (expression_of names tokens)) (place_of names name)
assignment names number name other = None

abbrev pub is_then : Token → Bool
is_then t.Then = true
is_then other = false

-- the tokens before a Then at their end
abbrev pub before_then : Tokens → Option Tokens
before_then [] = None
before_then (token ∷ []) = if is_then token then Some [] else None
before_then (token ∷ next ∷ tokens) = option_map (λ front. token ∷ front) (before_then (next ∷ tokens))

-- behind If
abbrev pub condition : Names → Tokens → Option Line
condition names tokens = option_and_then (λ front. option_map OpensIf (expression_of names front)) (before_then tokens)

-- what a line says
abbrev pub line_of : Names → ℕ → Tokens → Option Line
line_of names number [] = Some Nothing
line_of names number (t.Dim ∷ tokens) = declaration names tokens
line_of names number (t.Name name ∷ tokens) = assignment names number name tokens
line_of names number (t.Print ∷ tokens) = option_map (λ value. Does (Print value number)) (expression_of names tokens)
line_of names number (t.If ∷ tokens) = condition names tokens
line_of names number (t.End ∷ t.If ∷ []) = Some ClosesIf
line_of names number (t.While ∷ tokens) = option_map OpensWhile (expression_of names tokens)
line_of names number (t.Wend ∷ []) = Some ClosesWhile
line_of names number other = None

-- ---- statements

-- these statements, and then those
abbrev pub joined_blocks : Block → Block → Block
joined_blocks End others = others
joined_blocks (Then first rest) others = Then first (joined_blocks rest others)

-- one statement more
abbrev pub with_last : Block → Statement → Block
with_last block statement = joined_blocks block (Then statement End)

-- a block that is open: its test, the number of its first line, and the statements before it
pub data Opening : Type 0 where
  InIf : (test : Tree) (line : ℕ) (before : Block) → Opening
  InWhile : (test : Tree) (line : ℕ) (before : Block) → Opening

-- Where the reading of a program stands: the blocks that are open, the innermost first; the statements so far of the
-- innermost; the names that are declared; and how many lines are read.
pub record Progress : Type 0 where
  pub open_blocks : List Opening
  pub here : Block
  pub names : Names
  pub above : ℕ

abbrev pub start : Progress
start = record { open_blocks = []; here = End; names = []; above = 0 }

-- a statement comes
abbrev pub with_statement : Progress → Statement → Option Progress
with_statement p statement =
    if nat_lt (length p.open_blocks) 200 then Some (record p { here = with_last p.here statement; above = suc p.above }) else None

-- a block opens
abbrev pub with_opening : Progress → Opening → Option Progress
with_opening p opening =
    if nat_lt (length p.open_blocks) 200 then Some (record p { open_blocks = opening ∷ p.open_blocks; here = End; above = suc p.above }) else None

-- a name is declared, by this statement
abbrev pub with_name : Progress → List ℕ → Statement → List Opening → Option ℕ → Option Progress
with_name p name statement [] None = Some (record { open_blocks = []; here = with_last p.here statement; names = p.names ++ name ∷ []; above = suc p.above })
with_name p name statement [] (Some x) = None
with_name p name statement (opening ∷ open_blocks) found = None

-- an If ends
abbrev pub without_if : Progress → List Opening → Option Progress
without_if p [] = None
without_if p (InIf test line before ∷ open_blocks) =
    Some (record { open_blocks = open_blocks; here = with_last before (If test p.here line); names = p.names; above = suc p.above })
without_if p (InWhile test line before ∷ open_blocks) = None

-- a While ends
abbrev pub without_while : Progress → List Opening → Option Progress
without_while p [] = None
without_while p (InIf test line before ∷ open_blocks) = None
without_while p (InWhile test line before ∷ open_blocks) =
    Some (record { open_blocks = open_blocks; here = with_last before (While test p.here line (suc p.above)); names = p.names; above = suc p.above })

-- a line further, which says this
abbrev pub with_line : Progress → Line → Option Progress
with_line p Nothing = Some (record p { above = suc p.above })
with_line p (Declares name) = with_name p name (Declare (length p.names) (suc p.above)) p.open_blocks (place_of p.names name)
with_line p (DeclaresWith name value) = with_name p name (DeclareWith (length p.names) value (suc p.above)) p.open_blocks (place_of p.names name)
with_line p (Does statement) = with_statement p statement
with_line p (OpensIf test) = with_opening p (InIf test (suc p.above) p.here)
with_line p ClosesIf = without_if p p.open_blocks
with_line p (OpensWhile test) = with_opening p (InWhile test (suc p.above) p.here)
with_line p ClosesWhile = without_while p p.open_blocks

abbrev pub with_tokens : Progress → Tokens → Option Progress
with_tokens p line = option_and_then (with_line p) (line_of p.names (suc p.above) line)

-- a program that ends, where no block is open
abbrev pub finished : Progress → List Opening → Option Program
finished p [] = Some (record { statements = p.here; variables = length p.names; last_line = p.above })
finished p (opening ∷ open_blocks) = None

abbrev pub read_lines : Progress → List Tokens → Option Program
read_lines p [] = finished p p.open_blocks
read_lines p (line ∷ lines) = option_and_then (λ next. read_lines next lines) (with_tokens p line)

-- the program of these lines
abbrev pub program_of_lines : List Tokens → Option Program
program_of_lines lines = read_lines start lines
