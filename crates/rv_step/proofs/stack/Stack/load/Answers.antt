use Rattle.std.proofs.Common.{◌≡◌, ℕ, rules, ◌∙◌, ap, get_or, []}
use Rattle.rv_isa.specs.Words.{loaded}
use Rattle.rv_step.specs.Pages.{byte_in, page_of}
use Rattle.rv_step.proofs.Pages.{loaded_there}
use Rattle.rv_step.proofs.stack.Stack.load.Goals as goal

pub returns-in-Some-load : goal.returns-in-Some-load
returns-in-Some-load c =
    let e : c.in-Some.page.now ≡ get_or c.deref.result.now c.index_of.result [] = c.in-Some.ensures.lookup.3.1 [] in
    let d = c.deref.ensures.value in
    let v = c.self.view_is in
    let i = c.index_of.ensures in
    let p : c.in-Some.page.now ≡ page_of c.args.self.now c.args.o = cc in
    c.in-Some-load.ensures.value ∙ ap (λ k. loaded (byte_in c.in-Some.page.now) k c.args.width) c.place_of.ensures.value
    ∙ loaded_there c.args.self.now c.in-Some.page.now c.args.o c.args.width p (rw (← c.place_of.ensures.value) c.in-Some-load.ensures.within)
