-- What holds of each program that a text has.
use Rattle.std.specs.Prelude.{ℕ, ◌^◌, ◌<◌, ◌≤◌, ⊤}
use Rattle.first_language.specs.Tree.{Tree, Literal, Variable, Parenthesised, Apply, Statement, Declare, DeclareWith, Assign, Print, If, While, Block, End, Then, Program, depth, block_depth}

-- literals are below 2^63, and variables below a number
abbrev pub HasParts : ℕ → Tree → Type 0
HasParts variables (Literal n) = n < 2 ^ 63
HasParts variables (Variable x) = x < variables
HasParts variables (Parenthesised inside) = HasParts variables inside
HasParts variables (Apply op left right) = HasParts variables left × HasParts variables right

-- such an expression, at most 200 deep
pub record IsSoundTree (variables : ℕ) (tree : Tree) : Type 0 where
  pub parts : HasParts variables tree
  pub shallow : depth tree ≤ 200

-- a line of a text with so many
abbrev pub IsLineOf : ℕ → ℕ → Type 0
IsLineOf last line = (1 ≤ line) × (line ≤ last)

-- statements whose expressions are such, and whose lines are those of a text with so many
abbrev mutual
  pub IsSoundStatement : ℕ → ℕ → Statement → Type 0
  IsSoundStatement variables last (Declare x line) = (x < variables) × IsLineOf last line
  IsSoundStatement variables last (DeclareWith x value line) = (x < variables) × IsSoundTree variables value × IsLineOf last line
  IsSoundStatement variables last (Assign x value line) = (x < variables) × IsSoundTree variables value × IsLineOf last line
  IsSoundStatement variables last (Print value line) = IsSoundTree variables value × IsLineOf last line
  IsSoundStatement variables last (If test body line) = IsSoundTree variables test × IsSoundBlock variables last body × IsLineOf last line
  IsSoundStatement variables last (While test body line back) = IsSoundTree variables test × IsSoundBlock variables last body × IsLineOf last line × IsLineOf last back

  pub IsSoundBlock : ℕ → ℕ → Block → Type 0
  IsSoundBlock variables last End = ⊤
  IsSoundBlock variables last (Then first rest) = IsSoundStatement variables last first × IsSoundBlock variables last rest

-- a program of such statements, at most 200 deep
pub record IsSound (program : Program) : Type 0 where
  pub statements : IsSoundBlock program.variables program.last_line program.statements
  pub shallow : block_depth program.statements ≤ 200
