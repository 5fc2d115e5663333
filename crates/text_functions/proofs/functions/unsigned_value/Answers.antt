use Rattle.std.proofs.Common.{◌≡◌, ◌+◌, ◌-◌, ◌*◌, ◌%◌, ◌^◌, get_or, true, arith, ◌∙◌, rules, tests}
use Rattle.text_functions.specs.Functions.{is_digit}
use Rattle.text_functions.proofs.Digits.{digits_more}
use Rattle.text_functions.proofs.functions.unsigned_value.Goals as goal

pub loop-b-preserved : goal.loop-b-preserved
loop-b-preserved c =
    let digit : is_digit (get_or c.args.s.now c.loop-b.b-index 0) ≡ true = first_of (cc, search (rules, tests)) in
    digits_more c.args.s.now c.loop-b.b-index c.loop-b.value ((c.loop-b.value * 10 % 2 ^ 64 + (get_or c.args.s.now c.loop-b.b-index 0 - 48)) % 2 ^ 64) (omega arith) digit (omega arith) ∙ c.loop-b.invariant
