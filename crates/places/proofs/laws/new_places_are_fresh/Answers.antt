use Rattle.places.proofs.Seen.{made_address, made_place, made_others, made_next, unused}
use Rattle.places.proofs.New.{made_bytes_here, made_live_here, made_cells_here, made_bytes, made_live, made_cells}
use Rattle.places.proofs.laws.new_places_are_fresh.Goals as goal

pub returns : goal.returns
returns c = record {
  address = made_address;
  fresh = made_place;
  others = made_others;
  next = made_next;
  unused = unused;
  new_bytes = made_bytes_here;
  new_live = made_live_here;
  new_cells = made_cells_here;
  bytes = made_bytes;
  live = made_live;
  cells = made_cells;
}
