use Rattle.std.proofs.Common.{◌≡◌, ℕ, zero, suc, List, [], ◌∷◌, Option, Some, None, refl, lit<, lit≤, arith}
use Rattle.thread_system.specs.Memory.{Memory}
use Rattle.thread_system.specs.Segment as segment
use Rattle.thread_system.proofs.Carrying.{carries}
use Rattle.mid_code.specs.declared.op.MidOp.{MidOp}
use Rattle.mid_code.specs.declared.op.LinedOp.{LinedOp}
use Rattle.mid_code.specs.Operations.{op_in, line_from, line_in, code_of}
use Rattle.mid_code.specs.Step.{MidState, mid_step, first_state}
use Rattle.mid_flow.specs.Structure as c
use Rattle.mid_flow.specs.Structure.{Code, After, spot}
use Rattle.mid_flow.specs.Flat.{end_of}
use Rattle.mid_flow.specs.Laws.{IsStraight, IsWhole, At}
use Rattle.mid_flow.specs.Standing.{Here, at, nothing_lies, then_lies, no_blocks, after_lies, Stands}
use Rattle.mid_flow.specs.Values.{bottom}
use Rattle.mid_flow.proofs.Lawful.{flat_lawful}
use Rattle.mid_flow.proofs.Positions.{flat_lies}
use Rattle.first_language.specs.declared.tree.Operator.{Operator}
use Rattle.first_language.specs.declared.tree.Operator.TheVariants.{Times, Quotient, Remainder, Plus, Minus, Same, Other, Less, AtMost, More, AtLeast}
use Rattle.first_language.specs.Tree.{Tree, Literal, Variable, Parenthesised, Apply, Statement, Declare, DeclareWith, Assign, Print, If, While, Block, End, Then, Program}
use Rattle.first_lowering.specs.Meaning.{State, step, first_of, main_end}
use Rattle.first_lowering.specs.Lowering.{operation, expression, statement, block, call, main_block, last_op, main_ops, lowered}
use Rattle.first_lowering.specs.Relation.{Related}
use Rattle.first_lowering.specs.Promise.{LoweringStarts, LoweringIsLawful, SegmentsKept}
use Rattle.first_lowering.proofs.Simulation.{lowering_keeps}

operation_straight : (op : Operator) (d : ℕ) → IsStraight (operation op d)
operation_straight Times d = tt
operation_straight Quotient d = tt
operation_straight Remainder d = tt
operation_straight Plus d = tt
operation_straight Minus d = tt
operation_straight Same d = tt
operation_straight Other d = tt
operation_straight Less d = tt
operation_straight AtMost d = tt
operation_straight More d = tt
operation_straight AtLeast d = tt

-- no part of a program's code is broken
expression_whole : (line d : ℕ) (e : Tree) (rest : Code) → IsWhole rest → IsWhole (expression line d e rest)
expression_whole line d (Literal n) rest whole = (tt, whole)
expression_whole line d (Variable x) rest whole = (tt, whole)
expression_whole line d (Parenthesised e) rest whole = expression_whole line d e rest whole
expression_whole line d (Apply op left right) rest whole = expression_whole line d left _ (expression_whole line (suc d) right _ (operation_straight op d, whole))

mutual
  statement_whole : (s : Statement) (rest : Code) → IsWhole rest → IsWhole (statement s rest)
  statement_whole (Declare x line) rest whole = (tt, whole)
  statement_whole (DeclareWith x e line) rest whole = expression_whole line 0 e _ (tt, whole)
  statement_whole (Assign x e line) rest whole = expression_whole line 0 e _ (tt, whole)
  statement_whole (Print e line) rest whole = expression_whole line 0 e _ (lit< tt, (lit< tt, whole))
  statement_whole (If test body line) rest whole = expression_whole line 0 test _ (block_whole body c.End tt, whole)
  statement_whole (While test body line back) rest whole = (expression_whole line 0 test _ (block_whole body (c.Round back) tt), whole)

  pub block_whole : (b : Block) (rest : Code) → IsWhole rest → IsWhole (block b rest)
  block_whole End rest whole = whole
  block_whole (Then first others) rest whole = statement_whole first _ (block_whole others rest whole)

-- a list's operations stand one after another
at_later : (ops : ℕ → Option MidOp) (lines : ℕ → ℕ) (k : ℕ) (os : List LinedOp) → At (λ i. ops (suc i)) (λ i. lines (suc i)) k os → At ops lines (suc k) os
at_later ops lines k [] h = h
at_later ops lines k (o ∷ os) h = (record { op_is = h.0.op_is; line_is = h.0.line_is }, at_later ops lines (suc k) os h.1)

at_list : (before : ℕ) (os : List LinedOp) → At (op_in os) (line_from before os) 0 os
at_list before [] = refl
at_list before (o ∷ os) = (record { op_is = refl; line_is = refl }, at_later (op_in (o ∷ os)) (line_from before (o ∷ os)) 0 os (at_list o.line os))

-- The main module's code stands at its beginning.
pub main_stands : (p : Program) → Stands (code_of (lowered p)) 0 (main_block p) (After (c.Then (call main_end) p.last_line c.Nothing) ∷ []) 0
main_stands p =
    let code = main_block p in
    let ops = main_ops p in
    let end = end_of code 0 in
    let lies = flat_lies (op_in ops) (line_in ops) code (spot end 0 ∷ []) 0 (last_op p ∷ []) (block_whole p.statements c.End tt) refl (at_list 1 ops) in
    record {
      spots = spot end 0 ∷ [];
      lies = lies.0;
      blocks = after_lies (c.Then (call main_end) p.last_line c.Nothing) [] (spot end 0) [] (then_lies [] (call main_end) p.last_line c.Nothing end end (at end) lies.1.0 (nothing_lies [] (suc end) lies.1.1)) (no_blocks []);
    }

-- The first states are related.
pub lowering_starts : LoweringStarts
lowering_starts p = record { d = 0; values_are = bottom; vars_are = λ x. refl; stands = main_stands p }

-- Segments are carried.
pub segments_kept : SegmentsKept
segments_kept m turns before after a s e r segment =
    let w = carries step (mid_step m) (Related m) (lowering_keeps m) turns before a s after e r segment in
    (w.end, w.segment, w.same)

-- A program's middle code keeps what every list of operations keeps.
pub lowering_lawful : LoweringIsLawful
lowering_lawful p =
    flat_lawful (main_block p) (spot (end_of (main_block p) 0) 0 ∷ []) 0 (last_op p ∷ []) (block_whole p.statements c.End tt) refl (omega arith) (lit< tt, tt)
