-- The trees of a program, as plain data.
use Rattle.std.specs.Prelude.{ℕ, ◌+◌, max, List, [], ◌∷◌}
use Rattle.first_language.specs.declared.tree.Operator.{Operator}
use Rattle.first_language.specs.declared.tree.Expr.{Expr, Row_of-Expr, end_of-Expr, more_of-Expr}
use Rattle.first_language.specs.declared.tree.Expr.TheVariants as e
use Rattle.first_language.specs.declared.tree.Stmt.{Stmt, Row_of-Stmt, end_of-Stmt, more_of-Stmt}
use Rattle.first_language.specs.declared.tree.Stmt.TheVariants as s
use Rattle.first_language.specs.declared.tree.Program.{Program as Kept}

-- A whole-number expression. A variable is known by the number of variables that are declared before it.
pub data Tree : Type 0 where
  Literal : (n : ℕ) → Tree
  Variable : (x : ℕ) → Tree
  Parenthesised : (inside : Tree) → Tree
  Apply : (op : Operator) (left right : Tree) → Tree

-- A statement, with the line of its first token, from 1; and statements in a row.
mutual
  pub data Statement : Type 0 where
    Declare : (x line : ℕ) → Statement
    DeclareWith : (x : ℕ) (value : Tree) (line : ℕ) → Statement
    Assign : (x : ℕ) (value : Tree) (line : ℕ) → Statement
    Print : (value : Tree) (line : ℕ) → Statement
    If : (test : Tree) (body : Block) (line : ℕ) → Statement
    -- back is the line of the Wend
    While : (test : Tree) (body : Block) (line back : ℕ) → Statement

  pub data Block : Type 0 where
    End : Block
    Then : (first : Statement) (rest : Block) → Block

-- A whole program: its statements, how many variables are declared, and the number of the text's last line.
pub record Program : Type 0 where
  pub statements : Block
  pub variables : ℕ
  pub last_line : ℕ

-- An expression without part expressions is 1 deep; every other one is one deeper than the deepest of its parts.
abbrev pub depth : Tree → ℕ
depth (Literal n) = 1
depth (Variable x) = 1
depth (Parenthesised inside) = 1 + depth inside
depth (Apply op left right) = 1 + max (depth left) (depth right)

-- A statement without part statements is 1 deep; every other one is one deeper than the deepest of its parts.
abbrev mutual
  pub statement_depth : Statement → ℕ
  statement_depth (Declare x line) = 1
  statement_depth (DeclareWith x value line) = 1
  statement_depth (Assign x value line) = 1
  statement_depth (Print value line) = 1
  statement_depth (If test body line) = 1 + block_depth body
  statement_depth (While test body line back) = 1 + block_depth body

  pub block_depth : Block → ℕ
  block_depth End = 0
  block_depth (Then first rest) = max (statement_depth first) (block_depth rest)

-- the expression that the code keeps
abbrev mutual
  pub tree_of : Expr → Tree
  tree_of (e.Literal n) = Literal n
  tree_of (e.Variable x) = Variable x
  tree_of (e.Parenthesised' p inside) = Parenthesised (tree_in inside)
  tree_of (e.Apply' op p left q right) = Apply op (tree_in left) (tree_in right)

  pub tree_in : {m : _} → Row_of-Expr m → Tree
  tree_in (more_of-Expr part rest) = tree_of part
  -- no box is empty
  tree_in end_of-Expr = Literal 0

-- the statement that the code keeps
abbrev mutual
  pub statement_of : Stmt → Statement
  statement_of (s.Declare x line) = Declare x line
  statement_of (s.DeclareWith x value line) = DeclareWith x (tree_of value) line
  statement_of (s.Assign x value line) = Assign x (tree_of value) line
  statement_of (s.Print value line) = Print (tree_of value) line
  statement_of (s.If' test m body line) = If (tree_of test) (row_block body) line
  statement_of (s.While' test m body line back) = While (tree_of test) (row_block body) line back

  pub row_block : {m : _} → Row_of-Stmt m → Block
  row_block end_of-Stmt = End
  row_block (more_of-Stmt first rest) = Then (statement_of first) (row_block rest)

-- the statements of a list of the code's
abbrev pub block_of : List Stmt → Block
block_of [] = End
block_of (first ∷ rest) = Then (statement_of first) (block_of rest)

-- the program that the code keeps
abbrev pub program_of : Kept → Program
program_of kept = record { statements = block_of kept.statements; variables = kept.variables; last_line = kept.last_line }
