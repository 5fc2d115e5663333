use Rattle.std.proofs.Common.{◌∙◌, ap}
use Rattle.places.specs.Place.{cell_over}
use Rattle.places.proofs.Tables.{told_within}
use Rattle.places.proofs.offsets.Offsets.over.Goals as goal

pub returns-clause-number : goal.returns-clause-number
returns-clause-number c = c.over.ensures ∙ c.self.invariant.over c.args.o ∙ ap (λ cells. cell_over cells c.args.o) c.self.view_is

pub returns-clause-within : goal.returns-clause-within
returns-clause-within c = told_within c.args.self.now c.args.o c.over.result (c.over.ensures ∙ c.self.invariant.over c.args.o ∙ ap (λ cells. cell_over cells c.args.o) c.self.view_is)
