use Rattle.std.proofs.Common.{◌∙◌, ap}
use Rattle.type_table.specs.Layouts.{known_of}
use Rattle.type_table.proofs.Planned.{known_is}
use Rattle.type_table.proofs.plan.Plan.laid.Goals as goal

pub returns-clause-known : goal.returns-clause-known
returns-clause-known c = known_is c.self.inside.rows c.self.inside.known.items c.self.inside.waiting.items c.self.invariant ∙ ap known_of c.self.view_is
