use Rattle.std.proofs.Common.{◌≡◌, ◌/◌, Some, None, List, map, slice_get, length, refl, ◌∙◌, subst, ap}
use Rattle.std.proofs.lemmas.Option.{slice_get_read, slice_get_past}
use Rattle.rv_isa.specs.Encoding.{inst_of}
use Rattle.rv_step.proofs.Programs.{nothing_there, in_range}
use Rattle.rv_step.proofs.program.Program.fetch.Goals as goal

pub returns-in-Some-clause-ranges : goal.returns-in-Some-clause-ranges
returns-in-Some-clause-ranges c =
    let all : c.deref.result.now ≡ map inst_of c.self.inside.image.code = c.deref.ensures.value ∙ c.self.invariant.each in
    let there : slice_get c.deref.result.now (c.args.pc / 4) ≡ Some c.in-Some.inst.now = slice_get_read c.deref.result.now (length c.deref.result.now) (c.args.pc / 4) c.in-Some.inst.now refl c.in-Some.ensures.lookup.3.0 (c.in-Some.ensures.lookup.3.1 c.in-Some.inst.now) in
    in_range c.self.inside.image.code (c.args.pc / 4) c.in-Some.inst.now c.self.invariant.rules.types.code (subst (λ insts. slice_get insts (c.args.pc / 4) ≡ Some c.in-Some.inst.now) all there)

pub returns-in-None-clause-value : goal.returns-in-None-clause-value
returns-in-None-clause-value c =
    let all : c.deref.result.now ≡ map inst_of c.args.self.now.code = c.deref.ensures.value ∙ c.self.invariant.each ∙ ap (λ image. map inst_of image.code) c.self.view_is in
    let gone : slice_get c.deref.result.now (c.args.pc / 4) ≡ None = slice_get_past c.deref.result.now (c.args.pc / 4) c.in-None.ensures.lookup.3 in
    nothing_there c.args.self.now.code c.args.pc (subst (λ insts. slice_get insts (c.args.pc / 4) ≡ None) all gone)
