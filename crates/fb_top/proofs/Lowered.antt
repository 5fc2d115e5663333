-- Middle code of a text's program is what selection asks for.
use Rattle.std.proofs.Common.{◌≡◌, ℕ, zero, suc, ◌≤◌, List, [], ◌∷◌, length, Some, None, refl, arith}
use Rattle.std.specs.List.{AllByRecursion}
use Rattle.mid_code.specs.declared.op.MidOp.{MidOp}
use Rattle.mid_code.specs.declared.op.LinedOp.{LinedOp}
use Rattle.mid_code.specs.declared.reg.Reg.{Reg}
use Rattle.mid_code.specs.Operations.{code_of}
use Rattle.mid_code.specs.Flow.{Live, reads_now, reads_later, IsSound}
use Rattle.mid_flow.specs.Structure as c
use Rattle.mid_flow.specs.Structure.{Code, Spot, spot}
use Rattle.mid_flow.specs.Flat.{flat, end_of}
use Rattle.first_language.specs.Tree.{Tree, Literal, Variable, Parenthesised, Apply, Statement, Declare, DeclareWith, Assign, Print, If, While, Block, End, Then, Program}
use Rattle.first_language.specs.Grammar.{Tokens, HasLines, ends, newline, white, token, IsProgram}
use Rattle.first_language.specs.Sound.{IsSoundStatement, IsSoundBlock}
use Rattle.first_language.proofs.Sound.{each_is_sound}
use Rattle.first_lowering.specs.Lowering.{expression, statement, block, main_block, last_op, main_ops, lowered}
use Rattle.first_lowering.proofs.Beginning.{lowering_lawful}
use Rattle.first_lowering.proofs.Declares.{programs_declared}
use Rattle.first_lowering.proofs.Sound.{lowering_sound}
use Rattle.rv_select.specs.Laws.{HaveLines, IsProgram as IsMidProgram}

-- the lines of structured code count from 1
abbrev CodeHasLines : Code → Type 0
CodeHasLines c.Broken = Unit {0}
CodeHasLines c.Nothing = Unit {0}
CodeHasLines (c.Then op line rest) = (1 ≤ line) × CodeHasLines rest
CodeHasLines (c.When test line body rest) = (1 ≤ line) × CodeHasLines body × CodeHasLines rest
CodeHasLines (c.Loop body rest) = CodeHasLines body × CodeHasLines rest
CodeHasLines (c.LeaveUnless test line rest) = (1 ≤ line) × CodeHasLines rest
CodeHasLines (c.Round line) = 1 ≤ line
CodeHasLines c.End = Unit {0}

flat_lines : (code : Code) (ss : List Spot) (k : ℕ) (more : List LinedOp) → CodeHasLines code → HaveLines more → HaveLines (flat code ss k more)
flat_lines c.Broken ss k more h m = m
flat_lines c.Nothing ss k more h m = m
flat_lines (c.Then op line rest) ss k more h m = (h.0, flat_lines rest ss (suc k) more h.1 m)
flat_lines (c.When test line body rest) ss k more h m = (h.0, flat_lines body _ (suc k) _ h.1 (flat_lines rest ss _ more h.2 m))
flat_lines (c.Loop body rest) ss k more h m = flat_lines body _ k _ h.0 (flat_lines rest ss _ more h.1 m)
flat_lines (c.LeaveUnless test line rest) ss k more h m = (h.0, flat_lines rest ss (suc k) more h.1 m)
flat_lines (c.Round line) ss k more h m = (h, m)
flat_lines c.End ss k more h m = m

expression_lines : (line d : ℕ) (e : Tree) (rest : Code) → 1 ≤ line → CodeHasLines rest → CodeHasLines (expression line d e rest)
expression_lines line d (Literal n) rest l h = (l, h)
expression_lines line d (Variable x) rest l h = (l, h)
expression_lines line d (Parenthesised e) rest l h = expression_lines line d e rest l h
expression_lines line d (Apply op left right) rest l h = expression_lines line d left _ l (expression_lines line (suc d) right _ l (l, h))

mutual
  statement_lines : (variables last : ℕ) (s : Statement) (rest : Code) → IsSoundStatement variables last s → CodeHasLines rest → CodeHasLines (statement s rest)
  statement_lines variables last (Declare x line) rest s h = (s.1.0, h)
  statement_lines variables last (DeclareWith x e line) rest s h = expression_lines line 0 e _ s.2.0 (s.2.0, h)
  statement_lines variables last (Assign x e line) rest s h = expression_lines line 0 e _ s.2.0 (s.2.0, h)
  statement_lines variables last (Print e line) rest s h = expression_lines line 0 e _ s.1.0 (s.1.0, (s.1.0, h))
  statement_lines variables last (If test body line) rest s h = expression_lines line 0 test _ s.2.0 (s.2.0, block_lines variables last body c.End s.1 tt, h)
  statement_lines variables last (While test body line back) rest s h = (expression_lines line 0 test _ s.2.0 (s.2.0, block_lines variables last body (c.Round back) s.1 s.3.0), h)

  block_lines : (variables last : ℕ) (b : Block) (rest : Code) → IsSoundBlock variables last b → CodeHasLines rest → CodeHasLines (block b rest)
  block_lines variables last End rest s h = h
  block_lines variables last (Then first others) rest s h = statement_lines variables last first _ s.0 (block_lines variables last others rest s.1 h)

-- a text has a line
some_line : (text : List ℕ) (lines : List Tokens) → HasLines text lines → 1 ≤ length lines
some_line text lines ends = omega arith
some_line text lines (newline rest others h) = omega arith
some_line text lines (white b rest _ blank h) = some_line rest lines h
some_line text lines (token b rest n kind one line others differs long is h) = omega arith

last_line_counts : (text : List ℕ) (p : Program) → IsProgram text p → 1 ≤ p.last_line
last_line_counts text p is = omega (arith, is.are_program.last_line, some_line text is.lines is.has_lines)

main_lines : (text : List ℕ) (p : Program) → IsProgram text p → HaveLines (main_ops p)
main_lines text p is =
    let sound = each_is_sound text p is in
    flat_lines (main_block p) (spot (end_of (main_block p) 0) 0 ∷ []) 0 (last_op p ∷ []) (block_lines p.variables p.last_line p.statements c.End sound.statements tt) (last_line_counts text p is, tt)

-- there is no other procedure
nothing_live : (p : Program) (q i : ℕ) (r : Reg) → Live (code_of (lowered p)) (suc q) i r → ⊥
nothing_live p q i r (reads_now _ _ op is among) = cc
nothing_live p q i r (reads_later _ j _ op is goes other later) = cc

each_sound : (text : List ℕ) (p : Program) → IsProgram text p → (q : ℕ) → IsSound (code_of (lowered p)) q
each_sound text p is zero = lowering_sound p (programs_declared text p is) zero (omega arith)
each_sound text p is (suc q) = record { written = nothing_live p q 0; targets = λ i t op here target. absurd cc }

-- Middle code of a text's program is a program of middle code.
pub is_mid_program : (text : List ℕ) (p : Program) → IsProgram text p → IsMidProgram (lowered p)
is_mid_program text p is = record {
  some = omega arith;
  lawful = (lowering_lawful p, tt);
  lines = (main_lines text p is, tt);
  sound = each_sound text p is;
}
