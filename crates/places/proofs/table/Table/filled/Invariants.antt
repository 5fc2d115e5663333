use Rattle.std.proofs.Common.{◌≡◌, ◌*◌, ◌/◌, ◌≤◌, length, drop, replicate}
use Rattle.places.specs.Table.{with_cells}
use Rattle.places.proofs.table.Table.filled.Given as goal

abbrev pub invariant-loop-k : goal.invariant-loop-k
invariant-loop-k l = record {
  rest : with_cells l.k (drop l.k l.offsets) l.table ≡ with_cells 0 l.offsets (replicate (l.size / 8) 0);
  long : length l.table ≡ l.size / 8;
  few : length l.offsets * 24 ≤ 16777216;
}
