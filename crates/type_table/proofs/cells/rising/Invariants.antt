use Rattle.std.proofs.Common.{◌≡◌, ◌-◌, ◌<◌, length, get_or, take}
use Rattle.std.specs.List.Sorted.{IsStrictlyIncreasing}
use Rattle.type_table.proofs.cells.rising.Given as goal

-- the offsets so far are there, rising, and all below the next one that may come
abbrev pub invariant-loop-offset : goal.invariant-loop-offset
invariant-loop-offset l = record {
  same : l.cells ≡ take l.offset-index l.offsets;
  rising : IsStrictlyIncreasing l.cells;
  below : 0 < length l.cells → get_or l.cells (length l.cells - 1) 0 < l.next;
}
