use Rattle.std.proofs.Common.{◌≡◌, ℕ, suc, ◌+◌, ◌∷◌, [], ◌++◌, arith, refl, sym, ◌∙◌, ap, subst}
use Rattle.std.proofs.lemmas.Result.{on_ok_weaker}
use Rattle.mid_flow.specs.Emission.{Emits}
use Rattle.first_language.specs.Tree.{Parenthesised, Apply, tree_of}
use Rattle.first_language.proofs.Trees.{tree_parenthesised, tree_apply}
use Rattle.first_lowering.specs.Lowering.{expression, operation}
use Rattle.first_lowering.proofs.Emitted.{emits_apply}
use Rattle.first_lowering.proofs.program.+put_expression.Goals as goal

pub returns-in-Parenthesised : goal.returns-in-Parenthesised
returns-in-Parenthesised t c =
    let is : tree_of c.args.e.now ≡ Parenthesised (tree_of c.get.result.now) = ap tree_of c.in-Parenthesised.is ∙ (tree_parenthesised _ ∙ ap (λ x. Parenthesised (tree_of x)) (sym c.get.ensures)) in
    rw is c.put_expression.ensures

pub returns-in_ok-put_expression-in-Apply-2 : goal.returns-in_ok-put_expression-in-Apply-2
returns-in_ok-put_expression-in-Apply-2 t c =
    let l = tree_of c.get-in-Apply.result.now in
    let r = tree_of c.get-in-Apply-2.result.now in
    let is : tree_of c.args.e.now ≡ Apply c.in-Apply.op l r = ap tree_of c.in-Apply.is ∙ (tree_apply c.in-Apply.op _ _ ∙ rw (c.get-in-Apply.ensures, c.get-in-Apply-2.ensures) refl) in
    let up : c.args.d + 1 ≡ suc c.args.d = omega arith in
    rw is (on_ok_weaker c.put-in-Apply.result
    (λ new. emits_apply c.in-Apply.op c.args.line c.args.d l r _ _ _ _ c.in_ok-put_expression-in-Apply.ensures (rw up at c.in_ok-put_expression-in-Apply-2.ensures) (rw c.in_ok-op-in-Apply.ensures.0 at new))
    c.put-in-Apply.ensures)
