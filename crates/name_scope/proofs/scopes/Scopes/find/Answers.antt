use Rattle.std.proofs.Common.{sym, ◌∙◌, ap}
use Rattle.std.specs.Option.{option_map}
use Rattle.name_scope.specs.Scopes.{innermost}
use Rattle.name_scope.specs.Kept.{pile_of}
use Rattle.name_scope.proofs.Steps.{found}
use Rattle.name_scope.proofs.scopes.Scopes.find.Goals as goal

pub returns-in-Some : goal.returns-in-Some
returns-in-Some c =
    ap (option_map (λ s. s.sym)) (sym c.in-Some.is ∙ c.find.ensures)
    ∙ (found c.self.inside.names (pile_of c.self.inside.steps.items) c.self.inside.depth c.self.invariant c.args.name.now
    ∙ ap (λ s. innermost s c.args.name.now) c.self.view_is)

pub returns-in-None : goal.returns-in-None
returns-in-None c =
    ap (option_map (λ s. s.sym)) (sym c.in-None.is ∙ c.find.ensures)
    ∙ (found c.self.inside.names (pile_of c.self.inside.steps.items) c.self.inside.depth c.self.invariant c.args.name.now
    ∙ ap (λ s. innermost s c.args.name.now) c.self.view_is)
