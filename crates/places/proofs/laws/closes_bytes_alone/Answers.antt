use Rattle.places.proofs.Seen.{close_keeps_cells, close_keeps_heads}
use Rattle.places.proofs.Here.{close_live, close_bytes}
use Rattle.places.proofs.laws.closes_bytes_alone.Goals as goal

pub returns : goal.returns
returns c = record { live = close_live; bytes = close_bytes; cells = close_keeps_cells; heads = close_keeps_heads }
