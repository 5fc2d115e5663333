use Rattle.std.proofs.Common.{◌≡◌, true, is_some, ap, sym, ◌∙◌, arith, rules}
use Rattle.places.specs.Place.{begins_cell}
use Rattle.places.proofs.Cells.{cell_in_past, begun_cell}
use Rattle.places.proofs.place.Place.beginning.Goals as goal

pub returns-then-not-has-clause-begins : goal.returns-then-not-has-clause-begins
returns-then-not-has-clause-begins c = sym (ap is_some (cell_in_past c.args.self.now c.args.o c.has.ensures.place (omega (arith, c.if-not-has.ensures.beyond))))

pub returns-clause-begins : goal.returns-clause-begins
returns-clause-begins c =
    let begins : begins_cell c.args.self.now.head c.args.o ≡ true = search rules in
    ap is_some c.cell_number.ensures.number ∙ begun_cell c.args.self.now c.args.o c.has.ensures.place (omega (arith, c.if-not-has.ensures.within)) begins
