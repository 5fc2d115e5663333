-- Middle code of a program. An expression's value comes into the temporary register of its height; a variable has the
-- register of its number.
use Rattle.std.specs.Prelude.{ℕ, zero, suc, List, [], ◌∷◌, Option, Some, None}
use Rattle.mid_code.specs.declared.reg.Reg.TheVariants.{Temp, Var}
use Rattle.mid_code.specs.declared.op.WordOp.TheVariants as w
use Rattle.mid_code.specs.declared.op.Division.TheVariants.{DivS, RemS}
use Rattle.mid_code.specs.declared.op.MidOp.{MidOp}
use Rattle.mid_code.specs.declared.op.MidOp.TheVariants.{Const, Copy, Both, Divide, Runtime}
use Rattle.mid_code.specs.declared.op.LinedOp.{LinedOp}
use Rattle.mid_flow.specs.Structure as c
use Rattle.mid_flow.specs.Structure.{Code, When, Loop, LeaveUnless, Round, spot}
use Rattle.mid_flow.specs.Flat.{lined, flat, end_of}
use Rattle.first_language.specs.declared.tree.Operator.{Operator}
use Rattle.first_language.specs.declared.tree.Operator.TheVariants.{Times, Quotient, Remainder, Plus, Minus, Same, Other, Less, AtMost, More, AtLeast}
use Rattle.first_language.specs.Tree.{Tree, Literal, Variable, Parenthesised, Apply, Statement, Declare, DeclareWith, Assign, Print, If, While, Block, End, Then, Program}
use Rattle.first_lowering.specs.Meaning.{print_signed, print_line, main_end}

-- the operation between the values at a height and the next one
abbrev pub operation : Operator → ℕ → MidOp
operation Times d = Both w.Times (Temp d) (Temp d) (Temp (suc d))
operation Quotient d = Divide DivS (Temp d) (Temp d) (Temp (suc d))
operation Remainder d = Divide RemS (Temp d) (Temp d) (Temp (suc d))
operation Plus d = Both w.Plus (Temp d) (Temp d) (Temp (suc d))
operation Minus d = Both w.Minus (Temp d) (Temp d) (Temp (suc d))
operation Same d = Both w.Same (Temp d) (Temp d) (Temp (suc d))
operation Other d = Both w.Other (Temp d) (Temp d) (Temp (suc d))
operation Less d = Both w.LessS (Temp d) (Temp d) (Temp (suc d))
operation AtMost d = Both w.AtMostS (Temp d) (Temp d) (Temp (suc d))
operation More d = Both w.LessS (Temp d) (Temp (suc d)) (Temp d)
operation AtLeast d = Both w.AtMostS (Temp d) (Temp (suc d)) (Temp d)

-- an expression of some line, at a height
abbrev pub expression : ℕ → ℕ → Tree → Code → Code
expression line d (Literal n) rest = c.Then (Const (Temp d) n) line rest
expression line d (Variable x) rest = c.Then (Copy (Temp d) (Var x)) line rest
expression line d (Parenthesised e) rest = expression line d e rest
expression line d (Apply op left right) rest = expression line d left (expression line (suc d) right (c.Then (operation op d) line rest))

-- a runtime call, with the first temporary register as its argument or with none
abbrev pub call_with_value : ℕ → MidOp
call_with_value number = Runtime number (Some (Temp 0)) None None None None

abbrev pub call : ℕ → MidOp
call number = Runtime number None None None None None

-- the first temporary register into that of a variable
abbrev pub keep : ℕ → MidOp
keep x = Copy (Var x) (Temp 0)

-- statements in front of what follows
abbrev mutual
  pub statement : Statement → Code → Code
  statement (Declare x line) rest = c.Then (Const (Var x) 0) line rest
  statement (DeclareWith x e line) rest = expression line 0 e (c.Then (keep x) line rest)
  statement (Assign x e line) rest = expression line 0 e (c.Then (keep x) line rest)
  statement (Print e line) rest = expression line 0 e (c.Then (call_with_value print_signed) line (c.Then (call print_line) line rest))
  statement (If test body line) rest = expression line 0 test (When (Temp 0) line (block body c.End) rest)
  statement (While test body line back) rest = Loop (expression line 0 test (LeaveUnless (Temp 0) line (block body (Round back)))) rest

  pub block : Block → Code → Code
  block End rest = rest
  block (Then first others) rest = statement first (block others rest)

-- the block of the main module, and what it is left to
abbrev pub main_block : Program → Code
main_block p = block p.statements c.End

abbrev pub last_op : Program → LinedOp
last_op p = lined (call main_end) p.last_line

-- the main module's operations
abbrev pub main_ops : Program → List LinedOp
main_ops p = flat (main_block p) (spot (end_of (main_block p) 0) 0 ∷ []) 0 (last_op p ∷ [])

-- all procedures of a program: the main module is the only one
abbrev pub lowered : Program → List (List LinedOp)
lowered p = main_ops p ∷ []
