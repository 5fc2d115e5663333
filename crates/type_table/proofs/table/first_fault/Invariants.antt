use Rattle.std.proofs.Common.{◌≡◌, drop}
use Rattle.type_table.specs.Tables.{first_fault}
use Rattle.type_table.proofs.table.first_fault.Given as goal

abbrev pub invariant-loop-i : goal.invariant-loop-i
invariant-loop-i l = first_fault l.rows l.known 0 l.rows ≡ first_fault l.rows l.known l.i (drop l.i l.rows)
