use Rattle.std.proofs.Common.{◌≡◌, ◌<◌, ◌-◌, Some, length, ap, sym, subst, ◌∙◌, arith, rules}
use Rattle.std.specs.Option.{option_map}
use Rattle.places.specs.Memory.{place_at}
use Rattle.places.specs.Standing.{IsPlace, Stands}
use Rattle.places.proofs.Done.{boxed}
use Rattle.places.proofs.memory.Memory.place.Goals as goal

pub returns-in-Some-clause-lawful : goal.returns-in-Some-clause-lawful
returns-in-Some-clause-lawful c =
    let within : c.args.number - 1 < length c.self.inside.places.items = search rules in
    let at : place_at c.args.self.now c.args.number ≡ Some c.in-Some.place.value = boxed c.self.inside.places.items c.args.self.now c.args.number c.index.result.now c.self.view_is (omega arith) within c.index.ensures ∙ ap (λ x. option_map (λ b. b.value) x) c.in-Some.is in
    let stands : Stands c.args.self.now = subst Stands c.self.view_is c.self.invariant.stands in
    subst IsPlace (sym c.deref.ensures) (stands.each c.args.number c.in-Some.place.value at)
