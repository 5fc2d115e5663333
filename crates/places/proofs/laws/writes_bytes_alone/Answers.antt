use Rattle.places.proofs.Seen.{write_bytes, write_keeps_live, write_keeps_cells, write_keeps_heads}
use Rattle.places.proofs.laws.writes_bytes_alone.Goals as goal

pub returns : goal.returns
returns c = record { bytes = write_bytes; live = write_keeps_live; cells = write_keeps_cells; heads = write_keeps_heads }
