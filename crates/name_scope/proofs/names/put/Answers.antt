use Rattle.std.proofs.Common.{Some, refl}
use Rattle.name_scope.proofs.Tables.{held_changed}
use Rattle.name_scope.proofs.names.put.Goals as goal

pub returns-clause-put : goal.returns-clause-put
returns-clause-put c = held_changed c.args.name.items c.args.name.items c.args.names.now c.insert.new.self (Some c.args.seen) refl c.in_ok-insert.ensures.updates
