use Rattle.std.proofs.Common.{◌≡◌, ◌+◌, ◌-◌}
use Rattle.places.specs.Place.{is_live_in}
use Rattle.places.specs.Memory.{each_byte}
use Rattle.places.proofs.place.Place.are_live.Given as goal

abbrev pub invariant-loop-at : goal.invariant-loop-at
invariant-loop-at l = each_byte (is_live_in l.self) l.at (l.o + l.len - l.at) ≡ each_byte (is_live_in l.self) l.o l.len
