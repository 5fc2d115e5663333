use Rattle.std.proofs.Common.{◌≡◌, drop}
use Rattle.type_table.specs.Cycles.{labels_fall}
use Rattle.type_table.proofs.cycle.labels_fall.Given as goal

abbrev pub invariant-loop-i : goal.invariant-loop-i
invariant-loop-i l = labels_fall l.labels 0 l.rows ≡ labels_fall l.labels l.i (drop l.i l.rows)
