use Rattle.std.proofs.Common.{Some, None, refl}
use Rattle.name_scope.proofs.Tables.{held_changed}
use Rattle.name_scope.proofs.names.restore.Goals as goal

pub returns-in-Ok : goal.returns-in-Ok
returns-in-Ok c = rw c.in-Some.is (held_changed c.args.name.items c.args.name.items c.args.names.now c.insert.new.self (Some c.in-Some.seen) refl c.in-Ok.ensures.updates)

pub returns-in-None : goal.returns-in-None
returns-in-None c = rw c.in-None.is (held_changed c.as_slice.result.now c.args.name.items c.args.names.now c.remove.new.self None c.as_slice.ensures.value c.remove.ensures.updates)
