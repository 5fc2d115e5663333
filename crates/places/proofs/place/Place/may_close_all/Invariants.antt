use Rattle.std.proofs.Common.{◌≡◌, ◌+◌, ◌-◌}
use Rattle.places.specs.Place.{may_close_in}
use Rattle.places.specs.Memory.{each_byte}
use Rattle.places.proofs.place.Place.may_close_all.Given as goal

abbrev pub invariant-loop-at : goal.invariant-loop-at
invariant-loop-at l = each_byte (may_close_in l.self) l.at (l.o + l.len - l.at) ≡ each_byte (may_close_in l.self) l.o l.len
