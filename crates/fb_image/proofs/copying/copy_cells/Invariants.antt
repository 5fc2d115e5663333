use Rattle.std.proofs.Common.{◌≡◌, take}
use Rattle.fb_image.proofs.copying.copy_cells.Given as goal

abbrev pub invariant-loop-offset : goal.invariant-loop-offset
invariant-loop-offset l = l.copy ≡ take l.offset-index l.cells
