use Rattle.std.proofs.Common.{◌≡◌, [], take, drop}
use Rattle.type_table.specs.Members.{with_members}
use Rattle.type_table.proofs.members.put_members.Given as goal

abbrev pub invariant-loop-i : goal.invariant-loop-i
invariant-loop-i l =
    with_members l.scope.types.now l.scope.entries.now l.scope.known.now (take l.i l.members) l.row (drop l.i l.members)
    ≡ with_members l.scope.types.now l.scope.entries.now l.scope.known.now [] l.initial.row l.members
