use Rattle.std.proofs.Common.{◌≡◌, ◌+◌, ◌-◌, is_some}
use Rattle.places.specs.Place.{byte_in}
use Rattle.places.specs.Memory.{each_byte}
use Rattle.places.proofs.place.Place.is_open.Given as goal

abbrev pub invariant-loop-at : goal.invariant-loop-at
invariant-loop-at l = each_byte (λ q. is_some (byte_in l.self q)) l.at (l.o + l.width - l.at) ≡ each_byte (λ q. is_some (byte_in l.self q)) l.o l.width
