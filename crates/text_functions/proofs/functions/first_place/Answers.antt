use Rattle.std.proofs.Common.{sym, arith}
use Rattle.text_functions.proofs.Finds.{first_some, first_none}
use Rattle.text_functions.proofs.functions.first_place.Goals as goal

pub returns-in-Some : goal.returns-in-Some
returns-in-Some c = sym (first_some c.args.at c.args.s.now c.args.t.now c.in-Some.k c.requires.some c.in-Some.ensures.1 (λ j h o. c.in-Some.ensures.0.before j (omega arith) h o))

pub returns-in-None : goal.returns-in-None
returns-in-None c = sym (first_none c.args.at c.args.s.now c.args.t.now (λ k o. c.in-None.ensures k (omega arith) (omega (arith, o.fits)) o))
