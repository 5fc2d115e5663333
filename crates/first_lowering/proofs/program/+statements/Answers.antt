use Rattle.std.proofs.Common.{◌≡◌, ℕ, suc, ◌+◌, List, ◌∷◌, [], ◌++◌, length, drop, arith, refl, sym, ◌∙◌, ap, subst}
use Rattle.std.proofs.lemmas.Result.{on_ok_weaker}
use Rattle.std.proofs.lemmas.List.{drop_more, drop_all}
use Rattle.mid_flow.specs.Emission.{Emits}
use Rattle.mid_flow.proofs.Emitting.{emits_none}
use Rattle.first_language.specs.Tree.{If, While, block_of, statement_of, tree_of}
use Rattle.first_language.proofs.Trees.{statement_if, statement_while}
use Rattle.first_lowering.specs.Lowering.{block, expression, statement}
use Rattle.first_lowering.proofs.Emitted.{emits_if, emits_while, emits_next}
use Rattle.first_lowering.proofs.program.+statements.Goals as goal

pub put_block-loop-one-preserved : goal.put_block-loop-one-preserved
put_block-loop-one-preserved t c = λ end h.
    let i = c.loop-one.one-index in
    let body = c.args.body.now in
    let at : drop i body ≡ c.one-item.result ∷ drop (i + 1) body = drop_more body i c.one-item.result c.loop-one-test.true ∙ ap (λ x. x ∷ drop (i + 1) body) (sym c.one-item.is) in
    c.loop-one.invariant end (emits_next (drop i body) (drop (i + 1) body) c.one-item.result _ _ end at c.in_ok-put_statement.ensures h)

pub put_block-returns : goal.put_block-returns
put_block-returns t c =
    let all : drop c.loop-one.one-index c.args.body.now ≡ [] = drop_all c.loop-one.one-index c.args.body.now c.loop-one-test.false in
    c.loop-one.invariant _ (rw all (emits_none _))

pub put_if-returns : goal.put_if-returns
put_if-returns t c =
    let at : c.len-at.result ≡ length c.put_expression.new.ops.items = c.len-at.ensures ∙ c.put_expression.new.ops.ok.0 in
    rw (← c.in_ok-line.ensures.0) (on_ok_weaker c.put_test.result
    (λ new. emits_if (tree_of c.args.test.now) (block_of c.args.body.now) c.in_ok-line.line _ _ _ _ _ c.in_ok-put_expression.ensures (rw c.in_ok-put.ensures at c.in_ok-put_block.ensures) (rw at at new))
    c.put_test.ensures)

pub put_statement-returns-in-If : goal.put_statement-returns-in-If
put_statement-returns-in-If t c =
    let is : statement_of c.args.one.now ≡ If (tree_of c.in-If.test) (block_of c.as_slice.result.now) c.in-If.line = ap statement_of c.in-If.is ∙ (statement_if c.in-If.test _ c.in-If.line ∙ ap (λ b. If (tree_of c.in-If.test) (block_of b) c.in-If.line) (sym c.as_slice.ensures)) in
    rw is c.put_if.ensures

pub put_statement-returns-in-While : goal.put_statement-returns-in-While
put_statement-returns-in-While t c =
    let is : statement_of c.args.one.now ≡ While (tree_of c.in-While.test) (block_of c.as_slice-in-While.result.now) c.in-While.line c.in-While.back = ap statement_of c.in-While.is ∙ (statement_while c.in-While.test _ c.in-While.line c.in-While.back ∙ ap (λ b. While (tree_of c.in-While.test) (block_of b) c.in-While.line c.in-While.back) (sym c.as_slice-in-While.ensures)) in
    rw is c.put_while.ensures

pub put_while-returns : goal.put_while-returns
put_while-returns t c =
    let at : c.len-at.result ≡ length c.put_expression.new.ops.items = c.len-at.ensures ∙ c.put_expression.new.ops.ok.0 in
    let top : c.in_ok-target.target ≡ length c.args.ops.now.items = c.in_ok-target.ensures.0 ∙ (c.len.ensures ∙ c.args.ops.now.ok.0) in
    rw (← c.in_ok-line.ensures.0, ← c.in_ok-back.ensures.0) (on_ok_weaker c.put_test.result
    (λ new. emits_while (tree_of c.args.condition.now) (block_of c.args.body.now) c.in_ok-line.line c.in_ok-back.back _ _ _ _ _ _ c.in_ok-put_expression.ensures (rw c.in_ok-put.ensures at c.in_ok-put_block.ensures) (rw top at c.in_ok-put-2.ensures) (rw at at new))
    c.put_test.ensures)
