use Rattle.std.proofs.Common.{◌≡◌, sym, ◌∙◌, ap}
use Rattle.overload_pick.specs.Types.{Pointer, type_of, same_type}
use Rattle.overload_pick.proofs.Pointers.{type_pointer}
use Rattle.overload_pick.proofs.cost.+same.Goals as goal

pub returns-in-Ptr-other : goal.returns-in-Ptr-other
returns-in-Ptr-other t c =
    let one : type_of c.args.one.now ≡ Pointer (type_of c.get.result.now) = ap type_of c.in-Ptr.is ∙ (type_pointer _ ∙ ap (λ x. Pointer (type_of x)) (sym c.get.ensures)) in
    let other : type_of c.args.other.now ≡ Pointer (type_of c.get-in-Ptr-other.result.now) = ap type_of c.in-Ptr-other.is ∙ (type_pointer _ ∙ ap (λ x. Pointer (type_of x)) (sym c.get-in-Ptr-other.ensures)) in
    c.same.ensures ∙ sym (ap (λ x. same_type x (type_of c.args.other.now)) one ∙ ap (same_type (Pointer (type_of c.get.result.now))) other)
