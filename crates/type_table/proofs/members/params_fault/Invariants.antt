use Rattle.std.proofs.Common.{◌≡◌, drop}
use Rattle.type_table.specs.Members.{params_fault}
use Rattle.type_table.proofs.members.params_fault.Given as goal

abbrev pub invariant-loop-param : goal.invariant-loop-param
invariant-loop-param l = params_fault l.scope.types.now l.scope.entries.now l.params ≡ params_fault l.scope.types.now l.scope.entries.now (drop l.param-index l.params)
