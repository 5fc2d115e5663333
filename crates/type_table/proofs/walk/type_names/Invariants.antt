use Rattle.std.proofs.Common.{◌≡◌, ◌++◌, drop}
use Rattle.type_table.specs.Walks.{type_names}
use Rattle.type_table.proofs.walk.type_names.Given as goal

abbrev pub invariant-loop-item : goal.invariant-loop-item
invariant-loop-item l = l.names ++ type_names (drop l.item-index l.items) ≡ type_names l.items
