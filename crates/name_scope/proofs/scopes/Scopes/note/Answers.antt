use Rattle.std.proofs.Common.{◌≡◌, ℕ, ◌≤◌, Some, List, [], ◌∷◌, ◌++◌, length, sym, subst, ◌∙◌, ap, arith}
use Rattle.std.specs.Str.{bytes_eq}
use Rattle.std.specs.Map.{update}
use Rattle.name_scope.specs.declared.scopes.Step.TheVariants.{Added}
use Rattle.name_scope.specs.Scopes.{with_name}
use Rattle.name_scope.specs.Kept.{IsKept, held, pile_of, scopes_of}
use Rattle.name_scope.proofs.Steps.{pile_last, kept_added}
use Rattle.name_scope.proofs.scopes.Scopes.note.Goals as goal

pub invariant_of-self-2 : goal.invariant_of-self-2
invariant_of-self-2 c =
    let steps = c.self.inside.steps.items in
    let own = c.in_ok-own.own in
    let pushed : c.push.new.self.items ≡ steps ++ Added own c.args.sym c.in_ok-hidden.hidden ∷ [] = c.in-Ok.ensures.items ∙ ap (λ xs. xs ++ Added own c.args.sym c.in_ok-hidden.hidden ∷ []) c.in_ok-reserve.ensures.items in
    let on_top : pile_of c.push.new.self.items ≡ Added own c.args.sym c.in_ok-hidden.hidden ∷ pile_of steps = ap pile_of pushed ∙ pile_last steps (Added own c.args.sym c.in_ok-hidden.hidden) in
    let same : c.in_ok-key.key.items ≡ own.items = c.in_ok-key.ensures.items ∙ sym c.in_ok-own.ensures.items in
    let entered : length (scopes_of (pile_of steps)) ≡ length c.args.self.now = ap length c.self.view_is in
    let depth = c.self.invariant.depth_is in
    let some : 1 ≤ c.self.inside.depth = omega arith in
    subst (λ p. IsKept c.put.new.names p c.self.inside.depth) (sym on_top)
    (kept_added c.self.inside.names c.put.new.names (pile_of steps) c.self.inside.depth own c.args.sym c.in_ok-hidden.hidden c.self.invariant some
    (subst (λ b. c.in_ok-hidden.hidden ≡ held c.self.inside.names b) same c.in_ok-hidden.ensures.old)
    (subst (λ b. (q : List ℕ) → held c.put.new.names q ≡ update bytes_eq (held c.self.inside.names) b (Some (record { sym = c.args.sym; depth = c.self.inside.depth })) q) same c.in_ok-hidden.ensures.put))

pub returns-clause-ok : goal.returns-clause-ok
returns-clause-ok c =
    let steps = c.self.inside.steps.items in
    let own = c.in_ok-own.own in
    let pushed : c.push.new.self.items ≡ steps ++ Added own c.args.sym c.in_ok-hidden.hidden ∷ [] = c.in-Ok.ensures.items ∙ ap (λ xs. xs ++ Added own c.args.sym c.in_ok-hidden.hidden ∷ []) c.in_ok-reserve.ensures.items in
    let on_top : pile_of c.push.new.self.items ≡ Added own c.args.sym c.in_ok-hidden.hidden ∷ pile_of steps = ap pile_of pushed ∙ pile_last steps (Added own c.args.sym c.in_ok-hidden.hidden) in
    ap scopes_of on_top
    ∙ (ap (λ b. with_name b c.args.sym (scopes_of (pile_of steps))) c.in_ok-own.ensures.items
    ∙ ap (with_name c.args.name.now c.args.sym) c.self.view_is)
