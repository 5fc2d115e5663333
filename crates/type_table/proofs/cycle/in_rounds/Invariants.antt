use Rattle.std.proofs.Common.{◌≡◌}
use Rattle.type_table.specs.Cycles.{led}
use Rattle.type_table.proofs.cycle.in_rounds.Given as goal

abbrev pub invariant-loop-turn : goal.invariant-loop-turn
invariant-loop-turn l = l.marks.items ≡ led l.rows l.target l._turn
