use Rattle.std.proofs.Common.{◌≡◌}
use Rattle.type_table.specs.Names.{pointed}
use Rattle.type_table.proofs.scope.pointed.Given as goal

abbrev pub invariant-loop-turn : goal.invariant-loop-turn
invariant-loop-turn l = l.ty ≡ pointed l._turn l.initial.ty
