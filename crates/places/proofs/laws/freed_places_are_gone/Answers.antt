use Rattle.places.proofs.Seen.{freed_gone, freed_others, freed_next}
use Rattle.places.proofs.Here.{freed_bytes_gone, freed_live_gone, freed_cells_gone, freed_bytes, freed_live, freed_cells}
use Rattle.places.proofs.laws.freed_places_are_gone.Goals as goal

pub returns : goal.returns
returns c = record {
  gone = freed_gone;
  others = freed_others;
  next = freed_next;
  no_bytes = freed_bytes_gone;
  none_live = freed_live_gone;
  no_cells = freed_cells_gone;
  bytes = freed_bytes;
  live = freed_live;
  cells = freed_cells;
}
