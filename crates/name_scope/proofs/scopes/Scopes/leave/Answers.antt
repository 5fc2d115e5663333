use Rattle.std.proofs.Common.{◌≡◌, ◌∷◌, sym, subst, ◌∙◌, ap}
use Rattle.name_scope.specs.declared.scopes.Step.TheVariants.{Entered, Added}
use Rattle.name_scope.specs.Scopes.{outer_scopes}
use Rattle.name_scope.specs.Kept.{IsKept, pile_of, scopes_of}
use Rattle.name_scope.proofs.Steps.{pile_last, kept_left, kept_restored, newest_held, outer_added}
use Rattle.name_scope.proofs.scopes.Scopes.leave.Goals as goal

pub invariant_of-self : goal.invariant_of-self
invariant_of-self c =
    let on_top : pile_of c.loop-step.self-inside.steps.items ≡ Entered ∷ pile_of c.pop.new.self.items = ap pile_of c.in-Some.ensures.items ∙ (pile_last c.pop.new.self.items c.in-Some.step ∙ ap (λ s. s ∷ pile_of c.pop.new.self.items) c.in-Entered.is) in
    kept_left c.loop-step.self-inside.names (pile_of c.pop.new.self.items) c.loop-step.self-inside.depth (subst (λ p. IsKept c.loop-step.self-inside.names p c.loop-step.self-inside.depth) on_top c.loop-step.invariant.kept)

pub returns-in-Entered : goal.returns-in-Entered
returns-in-Entered c =
    let on_top : pile_of c.loop-step.self-inside.steps.items ≡ Entered ∷ pile_of c.pop.new.self.items = ap pile_of c.in-Some.ensures.items ∙ (pile_last c.pop.new.self.items c.in-Some.step ∙ ap (λ s. s ∷ pile_of c.pop.new.self.items) c.in-Entered.is) in
    sym (ap (λ p. outer_scopes (scopes_of p)) on_top) ∙ c.loop-step.invariant.outer

pub restore-requires : goal.restore-requires
restore-requires c =
    let on_top : pile_of c.loop-step.self-inside.steps.items ≡ Added c.in-Added.name c.in-Added.field-1 c.in-Added.hidden ∷ pile_of c.pop.new.self.items = ap pile_of c.in-Some.ensures.items ∙ (pile_last c.pop.new.self.items c.in-Some.step ∙ ap (λ s. s ∷ pile_of c.pop.new.self.items) c.in-Added.is) in
    newest_held c.loop-step.self-inside.names (pile_of c.pop.new.self.items) c.loop-step.self-inside.depth c.in-Added.name c.in-Added.field-1 c.in-Added.hidden (subst (λ p. IsKept c.loop-step.self-inside.names p c.loop-step.self-inside.depth) on_top c.loop-step.invariant.kept)

pub loop-step-preserved : goal.loop-step-preserved
loop-step-preserved c =
    let on_top : pile_of c.loop-step.self-inside.steps.items ≡ Added c.in-Added.name c.in-Added.field-1 c.in-Added.hidden ∷ pile_of c.pop.new.self.items = ap pile_of c.in-Some.ensures.items ∙ (pile_last c.pop.new.self.items c.in-Some.step ∙ ap (λ s. s ∷ pile_of c.pop.new.self.items) c.in-Added.is) in
    let kept = subst (λ p. IsKept c.loop-step.self-inside.names p c.loop-step.self-inside.depth) on_top c.loop-step.invariant.kept in
    record {
      kept = kept_restored c.loop-step.self-inside.names c.restore.new.names (pile_of c.pop.new.self.items) c.loop-step.self-inside.depth c.in-Added.name c.in-Added.field-1 c.in-Added.hidden kept c.restore.ensures;
      within = kept.steps_are.0.within;
      outer = sym (outer_added c.in-Added.name.items c.in-Added.field-1 (scopes_of (pile_of c.pop.new.self.items))) ∙ (sym (ap (λ p. outer_scopes (scopes_of p)) on_top) ∙ c.loop-step.invariant.outer);
    }
