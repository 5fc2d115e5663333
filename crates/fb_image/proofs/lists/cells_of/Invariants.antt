use Rattle.std.proofs.Common.{◌≡◌, ◌-◌, ◌<◌, length, get_or}
use Rattle.std.specs.List.Sorted.{IsStrictlyIncreasing}
use Rattle.fb_image.specs.Format.{after_cell}
use Rattle.fb_image.specs.Reading.{many_at, cell_at}
use Rattle.fb_image.proofs.Loop.{with_front}
use Rattle.fb_image.proofs.lists.cells_of.Given as goal

abbrev pub invariant-loop : goal.invariant-loop
invariant-loop l = record {
  read : with_front l.cells (many_at (cell_at l.size) after_cell l.low (l.count - l.counter) l.rest) ≡ many_at (cell_at l.size) after_cell 0 l.count l.bytes;
  rising : IsStrictlyIncreasing l.cells;
  below : 0 < length l.cells → get_or l.cells (length l.cells - 1) 0 < l.low;
}
