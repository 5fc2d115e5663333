use Rattle.std.proofs.Common.{◌≡◌, ◌++◌, drop}
use Rattle.rv_select.specs.Slots.{place_of}
use Rattle.rv_select.specs.Starts.{starts_from, end_from}
use Rattle.rv_select.proofs.layout.starts_for.Given as goal

-- the starts so far, with those of what is left
abbrev pub invariant-loop-at : goal.invariant-loop-at
invariant-loop-at l = record {
  places : l.places.items ++ starts_from (place_of l.slots) l.end (drop l.at-index l.ops) ≡ starts_from (place_of l.slots) l.base l.ops;
  end : end_from (place_of l.slots) l.end (drop l.at-index l.ops) ≡ end_from (place_of l.slots) l.base l.ops;
}
