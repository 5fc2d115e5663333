use Rattle.std.proofs.Common.{◌≡◌, true, false, arith, rules}
use Rattle.std.proofs.lemmas.Grind.{common_steps}
use Rattle.parse_parts.proofs.Loops.{one, on, last, out}
use Rattle.parse_parts.proofs.turns.all_of.Goals as goal

pub returns-in_err-more : goal.returns-in_err-more
returns-in_err-more g c =
    let e = one (g.P.Turning.turned c.args.turning.now) _ c.loop-turn._turn c.loop-turn.found c.loop-turn.cursor c.loop-turn.invariant c.loop-turn-test.true in
    first_of (search rules, grind (arith, common_steps, e))

pub returns-then-not-more : goal.returns-then-not-more
returns-then-not-more g c =
    let stops : c.in_ok-more.more ≡ false = first_of (cc, search rules, grind (arith, common_steps)) in
    last (g.P.Turning.turned c.args.turning.now) _ c.loop-turn._turn c.loop-turn.found c.loop-turn.cursor c.loop-turn.invariant c.turn.new.found c.in_ok-more.more c.turn.new.cursor c.loop-turn-test.true c.in_ok-more.ensures stops

pub loop-turn-preserved : goal.loop-turn-preserved
loop-turn-preserved g c =
    let goes : c.in_ok-more.more ≡ true = first_of (cc, search rules, grind (arith, common_steps)) in
    on (g.P.Turning.turned c.args.turning.now) _ c.loop-turn._turn c.loop-turn.found c.loop-turn.cursor c.loop-turn.invariant c.turn.new.found c.in_ok-more.more c.turn.new.cursor c.loop-turn-test.true c.in_ok-more.ensures goes

pub returns : goal.returns
returns g c =
    let e = out (g.P.Turning.turned c.args.turning.now) _ c.loop-turn._turn c.loop-turn.found c.loop-turn.cursor c.loop-turn.invariant c.loop-turn-test.false in
    first_of (search rules, grind (arith, common_steps, e))
