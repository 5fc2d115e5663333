use Rattle.std.proofs.Common.{◌≡◌, ◌+◌, [], ◌∷◌, sym, subst, ◌∙◌, ap, arith}
use Rattle.name_scope.specs.declared.scopes.Step.TheVariants.{Entered}
use Rattle.name_scope.specs.Kept.{IsKept, pile_of, scopes_of}
use Rattle.name_scope.proofs.Steps.{pile_last, kept_entered, depth_low}
use Rattle.name_scope.proofs.scopes.Scopes.enter.Goals as goal

pub overflow_add-self : goal.overflow_add-self
overflow_add-self c =
    let low = depth_low c.self.inside.names c.self.inside.steps.items c.self.inside.depth c.self.invariant in
    let small = c.self.inside.steps.small in
    let ok = c.self.inside.steps.ok in
    omega arith

pub invariant_of-self-2 : goal.invariant_of-self-2
invariant_of-self-2 c =
    let on_top : pile_of c.push.new.self.items ≡ Entered ∷ pile_of c.self.inside.steps.items = ap pile_of c.in_ok-push.ensures.items ∙ pile_last c.self.inside.steps.items Entered in
    subst (λ p. IsKept c.self.inside.names p (c.self.inside.depth + 1)) (sym on_top) (kept_entered c.self.inside.names (pile_of c.self.inside.steps.items) c.self.inside.depth c.self.invariant)

pub returns-clause-ok : goal.returns-clause-ok
returns-clause-ok c =
    let on_top : pile_of c.push.new.self.items ≡ Entered ∷ pile_of c.self.inside.steps.items = ap pile_of c.in_ok-push.ensures.items ∙ pile_last c.self.inside.steps.items Entered in
    ap scopes_of on_top ∙ ap (λ s. [] ∷ s) c.self.view_is
