use Rattle.std.proofs.Common.{◌≡◌, drop}
use Rattle.type_table.specs.Walks.{nothing, walked}
use Rattle.type_table.proofs.walk.walked.Given as goal

abbrev pub invariant-loop-item : goal.invariant-loop-item
invariant-loop-item l = walked l.types l.walk (drop l.item-index l.items) ≡ walked l.types nothing l.items
