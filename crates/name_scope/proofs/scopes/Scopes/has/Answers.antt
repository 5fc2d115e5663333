use Rattle.std.proofs.Common.{sym, ◌∙◌, ap}
use Rattle.std.specs.Option.{is_some}
use Rattle.name_scope.specs.Scopes.{in_scope, first_scope}
use Rattle.name_scope.specs.Kept.{is_of, pile_of}
use Rattle.name_scope.proofs.Steps.{has_name}
use Rattle.name_scope.proofs.scopes.Scopes.has.Goals as goal

pub returns-in-Some : goal.returns-in-Some
returns-in-Some c =
    ap (is_of c.self.inside.depth) (sym c.in-Some.is ∙ c.find.ensures)
    ∙ (has_name c.self.inside.names (pile_of c.self.inside.steps.items) c.self.inside.depth c.self.invariant c.args.name.now
    ∙ ap (λ s. is_some (in_scope (first_scope s) c.args.name.now)) c.self.view_is)

pub returns-in-None : goal.returns-in-None
returns-in-None c =
    ap (is_of c.self.inside.depth) (sym c.in-None.is ∙ c.find.ensures)
    ∙ (has_name c.self.inside.names (pile_of c.self.inside.steps.items) c.self.inside.depth c.self.invariant c.args.name.now
    ∙ ap (λ s. is_some (in_scope (first_scope s) c.args.name.now)) c.self.view_is)
