use Rattle.std.proofs.Common.{◌≡◌, true, false, arith, rules}
use Rattle.std.proofs.lemmas.Grind.{common_steps}
use Rattle.parse_stmt.specs.Module.{module_, item_turn}
use Rattle.parse_parts.proofs.Loops.{one, on, last, out}
use Rattle.parse_stmt.proofs.module.module_.Goals as goal

pub returns-in_err-more : goal.returns-in_err-more
unfolding module_
returns-in_err-more c =
    let e = one (item_turn 200 199) _ c.loop-turn._turn c.loop-turn.found c.loop-turn.cursor c.loop-turn.invariant.reads c.loop-turn-test.true in
    first_of (search rules, grind (arith, common_steps, e))

pub returns-then-not-more : goal.returns-then-not-more
unfolding module_
returns-then-not-more c =
    let stops : c.in_ok-more.more ≡ false = first_of (cc, search rules, grind (arith, common_steps)) in
    last (item_turn 200 199) _ c.loop-turn._turn c.loop-turn.found c.loop-turn.cursor c.loop-turn.invariant.reads c.item_turn.new.found c.in_ok-more.more c.item_turn.new.cursor c.loop-turn-test.true c.in_ok-more.ensures.turns stops

pub loop-turn-preserved : goal.loop-turn-preserved
loop-turn-preserved c =
    let goes : c.in_ok-more.more ≡ true = first_of (cc, search rules, grind (arith, common_steps)) in
    let more = c.item_turn.ensures.few in
    let few = c.loop-turn.invariant.few in
    record {
      reads = on (item_turn 200 199) _ c.loop-turn._turn c.loop-turn.found c.loop-turn.cursor c.loop-turn.invariant.reads c.item_turn.new.found c.in_ok-more.more c.item_turn.new.cursor c.loop-turn-test.true c.in_ok-more.ensures.turns goes;
      few = omega (arith, more, few);
      turns = c.loop-turn.invariant.turns;
    }

pub returns : goal.returns
unfolding module_
returns c =
    let e = out (item_turn 200 199) _ c.loop-turn._turn c.loop-turn.found c.loop-turn.cursor c.loop-turn.invariant.reads c.loop-turn-test.false in
    first_of (search rules, grind (arith, common_steps, e))
