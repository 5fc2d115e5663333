use Rattle.std.proofs.Common.{◌≡◌, ◌-◌}
use Rattle.places.specs.Place.{size_of, first_from}
use Rattle.places.specs.Calls.{begins_alive}
use Rattle.places.proofs.place.Place.first_alive.Given as goal

abbrev pub invariant-loop-at : goal.invariant-loop-at
invariant-loop-at l = first_from (begins_alive l.self) l.at (size_of l.self.head - l.at) ≡ first_from (begins_alive l.self) l.from (size_of l.self.head - l.from)
