use Rattle.std.proofs.Common.{◌≡◌, ◌+◌, ◌*◌, ◌/◌, Some, subst, rules}
use Rattle.places.specs.Place.{cell_number}
use Rattle.places.specs.Standing.{IsPlace}
use Rattle.places.proofs.Cells.{cell_within}
use Rattle.places.proofs.place.Place.cell_number.Goals as goal

pub returns-clause-within : goal.returns-clause-within
returns-clause-within c =
    let e : cell_number c.args.self.now.head c.args.o ≡ Some (c.args.o / c.self.inside.size * c.len.result + c.in_ok-k.k) = search rules in
    cell_within c.args.self.now c.args.o _ (subst IsPlace c.self.view_is c.self.invariant) c.requires e
