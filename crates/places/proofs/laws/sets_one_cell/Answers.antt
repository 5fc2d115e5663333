use Rattle.places.proofs.Seen.{set_cell_keeps_bytes, set_cell_keeps_live, set_cell_keeps_heads}
use Rattle.places.proofs.OneCell.{set_cell_here, set_cell_elsewhere}
use Rattle.places.proofs.laws.sets_one_cell.Goals as goal

pub returns : goal.returns
returns c = record { cell = set_cell_here; cells = set_cell_elsewhere; bytes = set_cell_keeps_bytes; live = set_cell_keeps_live; heads = set_cell_keeps_heads }
