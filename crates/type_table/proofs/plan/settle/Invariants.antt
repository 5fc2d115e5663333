use Rattle.type_table.specs.Plans.{Stands}
use Rattle.type_table.proofs.plan.settle.Given as goal

abbrev pub invariant-loop-turn : goal.invariant-loop-turn
invariant-loop-turn l = Stands l.rows l.known.items l.waiting.items l.pending.items
