use Rattle.places.proofs.Here.{begun_keeps_bytes, begun_keeps_live, begun_keeps_cells, begun_head, begun_heads, begun_count, begun_next}
use Rattle.places.proofs.laws.dying_places_stay.Goals as goal

pub returns : goal.returns
returns c = record {
  bytes = begun_keeps_bytes;
  live = begun_keeps_live;
  cells = begun_keeps_cells;
  dying = begun_head;
  heads = begun_heads;
  count = begun_count;
  next = begun_next;
}
