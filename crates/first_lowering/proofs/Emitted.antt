use Rattle.std.proofs.Common.{◌≡◌, ℕ, suc, List, [], ◌∷◌, ◌++◌, length, set, drop, refl, sym, ◌∙◌, ap, subst}
use Rattle.mid_code.specs.declared.reg.Reg.TheVariants.{Temp}
use Rattle.mid_code.specs.declared.op.MidOp.TheVariants.{Back, Unless}
use Rattle.mid_code.specs.declared.op.LinedOp.{LinedOp}
use Rattle.mid_flow.specs.Structure.{Code, Then, When, Loop, LeaveUnless, Round, End, spot}
use Rattle.mid_flow.specs.Flat.{lined, end_of}
use Rattle.mid_flow.specs.Emission.{Emits}
use Rattle.mid_flow.proofs.Emitting.{emits_none, emits_op, emits_both, emits_when, emits_loop}
use Rattle.first_language.specs.declared.tree.Operator.{Operator}
use Rattle.first_language.specs.declared.tree.Stmt.{Stmt}
use Rattle.first_language.specs.Tree.{Tree, Apply, If, While, Block, Program, block_of, statement_of}
use Rattle.first_lowering.specs.Lowering.{operation, expression, statement, block, main_block, last_op, main_ops}

pub emits_apply : (op : Operator) (line d : ℕ) (left right : Tree) (a b c e : List LinedOp)
    → Emits (expression line d left) a b → Emits (expression line (suc d) right) b c → e ≡ c ++ lined (operation op d) line ∷ []
    → Emits (expression line d (Apply op left right)) a e
emits_apply op line d left right a b c e first second is =
    emits_both (expression line d left) (λ rest. expression line (suc d) right (Then (operation op d) line rest)) a b e first
    (emits_both (expression line (suc d) right) (Then (operation op d) line) b c e second (rw is (emits_op (operation op d) line c)))

pub emits_if : (test : Tree) (body : Block) (line : ℕ) (a b c d : List LinedOp) (held : LinedOp)
    → Emits (expression line 0 test) a b → Emits (block body) (b ++ held ∷ []) c → d ≡ set c (length b) (lined (Unless (Temp 0) (length c)) line)
    → Emits (statement (If test body line)) a d
emits_if test body line a b c d held first second is =
    emits_both (expression line 0 test) (When (Temp 0) line (block body End)) a b d first (rw is (emits_when (block body) (Temp 0) line b c held second))

pub emits_while : (test : Tree) (body : Block) (line back : ℕ) (a b c d e : List LinedOp) (held : LinedOp)
    → Emits (expression line 0 test) a b → Emits (block body) (b ++ held ∷ []) c → d ≡ c ++ lined (Back (length a)) back ∷ [] → e ≡ set d (length b) (lined (Unless (Temp 0) (length d)) line)
    → Emits (statement (While test body line back)) a e
emits_while test body line back a b c d e held first second returns is =
    rw (is, returns) (emits_loop (expression line 0 test) (block body) (Temp 0) line back a b c held first second)

-- a statement, and those behind it
pub emits_next : (body rest : List Stmt) (one : Stmt) (a b c : List LinedOp) → body ≡ one ∷ rest → Emits (statement (statement_of one)) a b → Emits (block (block_of rest)) b c → Emits (block (block_of body)) a c
emits_next body rest one a b c is first second = rw is (emits_both (statement (statement_of one)) (block (block_of rest)) a b c first second)

-- the whole main module
pub emitted_main : (p : Program) (ops all : List LinedOp) → Emits (block p.statements) [] ops → all ≡ ops ++ last_op p ∷ [] → all ≡ main_ops p
emitted_main p ops all h is =
    is ∙ (ap (λ xs. xs ++ last_op p ∷ []) h.new_is ∙ sym (h.flat_is End (spot (end_of (main_block p) 0) 0 ∷ []) (last_op p ∷ [])))
