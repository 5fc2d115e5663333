use Rattle.std.proofs.Common.{◌<◌, [], ◌∷◌, ◌++◌, sym, subst, arith}
use Rattle.overload_pick.specs.Best.{IsBest}
use Rattle.overload_pick.proofs.Leads.{best_stays, first_leads, less_than_one, less_than_two, equal_to_one, more_than_one, not_less_than_two}
use Rattle.overload_pick.proofs.choosing.better.Goals as goal

pub returns-in-None : goal.returns-in-None
returns-in-None c = λ sums at led. subst (λ o. IsBest (sums ++ o ∷ []) c.args.best) (sym c.in-None.is) (best_stays sums c.args.best led)

pub returns-in-Nobody : goal.returns-in-Nobody
returns-in-Nobody c = λ sums at led. first_leads sums c.args.sum c.in-Some.sum c.args.number c.args.best c.in-Some.is at led c.in-Nobody.is

pub returns-then-sum-least : goal.returns-then-sum-least
returns-then-sum-least c = λ sums at led. less_than_one sums c.args.sum c.in-Some.sum c.args.number c.in-One.least c.in-One.first c.args.best c.in-Some.is at led c.in-One.is c.if-sum-least.true

pub returns-then-sum-least-2 : goal.returns-then-sum-least-2
returns-then-sum-least-2 c = λ sums at led. equal_to_one sums c.args.sum c.in-Some.sum c.args.number c.in-One.least c.in-One.first c.args.best c.in-Some.is at led c.in-One.is c.if-sum-least-2.true

pub returns-else-sum-least-2 : goal.returns-else-sum-least-2
returns-else-sum-least-2 c = λ sums at led.
    let h : c.in-One.least < c.in-Some.sum = omega arith in
    more_than_one sums c.args.sum c.in-Some.sum c.in-One.least c.in-One.first c.args.best c.in-Some.is led c.in-One.is h

pub returns-then-sum-least-3 : goal.returns-then-sum-least-3
returns-then-sum-least-3 c = λ sums at led. less_than_two sums c.args.sum c.in-Some.sum c.args.number c.in-Tie.least c.in-Tie.field-1 c.in-Tie.field-2 c.args.best c.in-Some.is at led c.in-Tie.is c.if-sum-least-3.true

pub returns-else-sum-least-3 : goal.returns-else-sum-least-3
returns-else-sum-least-3 c = λ sums at led. not_less_than_two sums c.args.sum c.in-Some.sum c.in-Tie.least c.in-Tie.field-1 c.in-Tie.field-2 c.args.best c.in-Some.is led c.in-Tie.is c.if-sum-least-3.false
