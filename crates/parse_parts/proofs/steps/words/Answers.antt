use Rattle.std.proofs.Common.{arith, rules}
use Rattle.parse_parts.proofs.Loops.{words_on, words_out}
use Rattle.parse_parts.proofs.steps.words.Goals as goal

pub loop-turn-preserved : goal.loop-turn-preserved
loop-turn-preserved c =
    let e = words_on c.args.count c.loop-turn._turn c.loop-turn.cursor c.loop-turn-test.true in
    first_of (search rules, grind (arith, e))

pub returns-clause-value : goal.returns-clause-value
returns-clause-value c =
    let e = words_out c.args.count c.loop-turn._turn c.loop-turn.cursor c.loop-turn-test.false in
    omega (arith, e, c.loop-turn.invariant.value)
