-- The form of a program's text.
use Rattle.std.specs.Prelude.{ℕ, suc, ◌+◌, ◌^◌, ◌≡◌, ◌≢◌, ◌<◌, ◌≤◌, List, [], ◌∷◌, ◌++◌, length, drop, position, Bool, true, false, Option, Some, None}
use Rattle.std.specs.Str.{bytes_eq}
use Rattle.fb_lexer.specs.declared.token.TokenKind.{TokenKind}
use Rattle.fb_lexer.specs.Letters.{is_blank}
use Rattle.fb_lexer.specs.declared.piece.Piece.TheVariants as pieces
use Rattle.fb_lexer.specs.Grammar.{IsPiece}
use Rattle.first_language.specs.declared.tree.Operator.{Operator}
use Rattle.first_language.specs.declared.tree.Operator.TheVariants.{Times, Quotient, Remainder, Plus, Minus, Same, Other, Less, AtMost, More, AtLeast}
use Rattle.first_language.specs.declared.token.Token.{Token}
use Rattle.first_language.specs.declared.token.Token.TheVariants as t
use Rattle.first_language.specs.Tokens.{token_of}
use Rattle.first_language.specs.Tree.{Tree, Literal, Variable, Parenthesised, Apply, Statement, Declare, DeclareWith, Assign, Print, If, While, Block, End, Then, Program, depth, block_depth}

-- ---- tokens

-- the tokens of a line
abbrev pub Tokens : Type 0
Tokens = List Token

-- A text's lines, each as its tokens. A byte 10 ends a line, and the text's end the last one. White space may stand
-- between tokens; each is the longest that stands there, and begins with no &.
pub data HasLines : List ℕ → List Tokens → Type 0 where
  ends : HasLines [] ([] ∷ [])
  newline : (text : List ℕ) (lines : List Tokens) → HasLines text lines → HasLines (10 ∷ text) ([] ∷ lines)
  white : (b : ℕ) (text : List ℕ) (lines : List Tokens) → is_blank b ≡ true → HasLines text lines → HasLines (b ∷ text) lines
  token : (b : ℕ) (text : List ℕ) (n : ℕ) (kind : TokenKind) (one : Token) (line : Tokens) (lines : List Tokens)
      → b ≢ 38 → IsPiece (b ∷ text) (pieces.Token kind n) → token_of kind ≡ Some one → HasLines (drop n (b ∷ text)) (line ∷ lines)
      → HasLines (b ∷ text) ((one ∷ line) ∷ lines)

-- ---- expressions

-- the names that are declared, each in lower case
abbrev pub Names : Type 0
Names = List (List ℕ)

-- how many names are declared before the one that is spelt so
abbrev pub place_of : Names → List ℕ → Option ℕ
place_of names name = position (λ other. bytes_eq other name) names

-- the order of the operators: the tightest first
abbrev pub looseness : Operator → ℕ
looseness Times = 0
looseness Quotient = 1
looseness Remainder = 2
looseness Plus = 3
looseness Minus = 3
looseness Same = 4
looseness Other = 4
looseness Less = 4
looseness AtMost = 4
looseness More = 4
looseness AtLeast = 4

-- Operands with operators between them: all outside parentheses are tighter than a bound. They group from the left.
pub data IsRow (names : Names) : ℕ → Tokens → Tree → Type 0 where
  literal : (n : ℕ) → n < 2 ^ 63 → IsRow names 0 (t.Number n ∷ []) (Literal n)
  variable : (name : List ℕ) (x : ℕ) → place_of names name ≡ Some x → IsRow names 0 (t.Name name ∷ []) (Variable x)
  parenthesised : (tokens : Tokens) (inside : Tree) → IsRow names 5 tokens inside → IsRow names 0 (t.Open ∷ (tokens ++ t.Close ∷ [])) (Parenthesised inside)
  tighter : (bound : ℕ) (tokens : Tokens) (tree : Tree) → IsRow names bound tokens tree → IsRow names (suc bound) tokens tree
  apply : (op : Operator) (before after : Tokens) (left right : Tree)
      → IsRow names (suc (looseness op)) before left → IsRow names (looseness op) after right
      → IsRow names (suc (looseness op)) (before ++ t.Sign op ∷ after) (Apply op left right)

-- a whole expression, at most 200 deep
pub record IsExpression (names : Names) (tokens : Tokens) (tree : Tree) : Type 0 where
  pub row : IsRow names 5 tokens tree
  pub shallow : depth tree ≤ 200

-- ---- lines

-- what a line says
pub data Line : Type 0 where
  Nothing : Line
  Declares : (name : List ℕ) → Line
  DeclaresWith : (name : List ℕ) (value : Tree) → Line
  Does : (statement : Statement) → Line
  OpensIf : (test : Tree) → Line
  ClosesIf : Line
  OpensWhile : (test : Tree) → Line
  ClosesWhile : Line

-- The tokens of a line of this number, where these names are declared on earlier lines.
pub data IsLine (names : Names) (number : ℕ) : Tokens → Line → Type 0 where
  nothing : IsLine names number [] Nothing
  declares : (name : List ℕ) → IsLine names number (t.Dim ∷ t.Name name ∷ t.As ∷ t.Integer ∷ []) (Declares name)
  declares_with : (name : List ℕ) (tokens : Tokens) (value : Tree) → IsExpression names tokens value
      → IsLine names number (t.Dim ∷ t.Name name ∷ t.As ∷ t.Integer ∷ t.Sign Same ∷ tokens) (DeclaresWith name value)
  assigns : (name : List ℕ) (x : ℕ) (tokens : Tokens) (value : Tree) → place_of names name ≡ Some x → IsExpression names tokens value
      → IsLine names number (t.Name name ∷ t.Sign Same ∷ tokens) (Does (Assign x value number))
  prints : (tokens : Tokens) (value : Tree) → IsExpression names tokens value → IsLine names number (t.Print ∷ tokens) (Does (Print value number))
  opens_if : (tokens : Tokens) (test : Tree) → IsExpression names tokens test → IsLine names number (t.If ∷ (tokens ++ t.Then ∷ [])) (OpensIf test)
  closes_if : IsLine names number (t.End ∷ t.If ∷ []) ClosesIf
  opens_while : (tokens : Tokens) (test : Tree) → IsExpression names tokens test → IsLine names number (t.While ∷ tokens) (OpensWhile test)
  closes_while : IsLine names number (t.Wend ∷ []) ClosesWhile

-- ---- statements

-- Statements on lines, of which so many lines stand above the first: first the names that are declared there, and last
-- those that are declared at their end. No statement inside a block declares a name.
pub data AreStatements : (inside : Bool) (names : Names) (above : ℕ) (lines : List Tokens) (block : Block) (all : Names) → Type 0 where
  none : (inside : Bool) (names : Names) (above : ℕ) → AreStatements inside names above [] End names
  nothing : (inside : Bool) (names : Names) (above : ℕ) (line : Tokens) (lines : List Tokens) (block : Block) (all : Names)
      → IsLine names (suc above) line Nothing
      → AreStatements inside names (suc above) lines block all
      → AreStatements inside names above (line ∷ lines) block all
  declares : (names : Names) (above : ℕ) (line : Tokens) (lines : List Tokens) (name : List ℕ) (block : Block) (all : Names)
      → IsLine names (suc above) line (Declares name) → place_of names name ≡ None
      → AreStatements false (names ++ name ∷ []) (suc above) lines block all
      → AreStatements false names above (line ∷ lines) (Then (Declare (length names) (suc above)) block) all
  declares_with : (names : Names) (above : ℕ) (line : Tokens) (lines : List Tokens) (name : List ℕ) (value : Tree) (block : Block) (all : Names)
      → IsLine names (suc above) line (DeclaresWith name value) → place_of names name ≡ None
      → AreStatements false (names ++ name ∷ []) (suc above) lines block all
      → AreStatements false names above (line ∷ lines) (Then (DeclareWith (length names) value (suc above)) block) all
  does : (inside : Bool) (names : Names) (above : ℕ) (line : Tokens) (lines : List Tokens) (statement : Statement) (block : Block) (all : Names)
      → IsLine names (suc above) line (Does statement)
      → AreStatements inside names (suc above) lines block all
      → AreStatements inside names above (line ∷ lines) (Then statement block) all
  if_block : (inside : Bool) (names : Names) (above : ℕ) (line : Tokens) (between : List Tokens) (last : Tokens) (lines : List Tokens)
      (test : Tree) (body block : Block) (below : ℕ) (all : Names)
      → IsLine names (suc above) line (OpensIf test)
      → AreStatements true names (suc above) between body names
      → below ≡ suc above + length between
      → IsLine names (suc below) last ClosesIf
      → AreStatements inside names (suc below) lines block all
      → AreStatements inside names above (line ∷ (between ++ last ∷ lines)) (Then (If test body (suc above)) block) all
  while_block : (inside : Bool) (names : Names) (above : ℕ) (line : Tokens) (between : List Tokens) (last : Tokens) (lines : List Tokens)
      (test : Tree) (body block : Block) (below : ℕ) (all : Names)
      → IsLine names (suc above) line (OpensWhile test)
      → AreStatements true names (suc above) between body names
      → below ≡ suc above + length between
      → IsLine names (suc below) last ClosesWhile
      → AreStatements inside names (suc below) lines block all
      → AreStatements inside names above (line ∷ (between ++ last ∷ lines)) (Then (While test body (suc above) (suc below)) block) all

-- These lines are a program's.
pub record AreProgram (lines : List Tokens) (program : Program) : Type 0 where
  pub names : Names
  pub statements : AreStatements false [] 0 lines program.statements names
  pub shallow : block_depth program.statements ≤ 200
  pub variables : program.variables ≡ length names
  pub last_line : program.last_line ≡ length lines

-- This text is a program's.
pub record IsProgram (text : List ℕ) (program : Program) : Type 0 where
  pub lines : List Tokens
  pub has_lines : HasLines text lines
  pub are_program : AreProgram lines program
