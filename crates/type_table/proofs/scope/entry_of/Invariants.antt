use Rattle.std.proofs.Common.{◌≡◌, drop}
use Rattle.type_table.specs.Names.{entry_of}
use Rattle.type_table.proofs.scope.entry_of.Given as goal

abbrev pub invariant-loop-entry : goal.invariant-loop-entry
invariant-loop-entry l = entry_of l.entries l.name ≡ entry_of (drop l.entry-index l.entries) l.name
