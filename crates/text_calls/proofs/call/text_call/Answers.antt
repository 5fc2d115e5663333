use Rattle.std.proofs.Common.{sym, subst}
use Rattle.text_calls.specs.declared.outcome.Outcome.{Outcome}
use Rattle.text_calls.specs.Strings.{strings_of}
use Rattle.text_calls.specs.Outcomes.{Fits}
use Rattle.text_calls.specs.Answers.{Answers}
use Rattle.text_calls.proofs.Fitting.{outcome_fits}
use Rattle.text_calls.proofs.call.text_call.Goals as goal

pub carry_out-requires-clause-fits : goal.carry_out-requires-clause-fits
carry_out-requires-clause-fits c =
    subst (λ (o : Outcome). Fits (strings_of c.args.mem.now c.args.heap.now) o) (sym c.in_ok-outcome.ensures) (outcome_fits (strings_of c.args.mem.now c.args.heap.now) c.args.literals.now c.args.number c.args.args)

pub returns-clause-answers : goal.returns-clause-answers
returns-clause-answers c = subst (λ (o : Outcome). Answers o c.args.mem.now c.args.heap.now c.carry_out.new.mem c.carry_out.new.heap c.carry_out.result) c.in_ok-outcome.ensures c.carry_out.ensures.answers
