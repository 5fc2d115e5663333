use Rattle.std.proofs.Common.{◌≡◌, ◌+◌, ◌-◌, ◌∙◌, sym, refl, Option, Some, None, rules, arith}
use Rattle.std.proofs.lemmas.Grind.{common_steps}
use Rattle.parse_expr.specs.Reading.{first}
use Rattle.parse_expr.specs.Expr.{expr, climb_from, operator_at}
use Rattle.parse_expr.proofs.Turns.{one_more, no_more}
use Rattle.parse_expr.proofs.Loops.{climb_none, climb_some, level_small}
use Rattle.parse_expr.proofs.grammar.Grammar.climb.Goals as goal

pub operated-requires-clause-level : goal.operated-requires-clause-level
operated-requires-clause-level g c =
    let at : operator_at c.args.least (first c.loop-turn.cursor) ≡ Some c.in-Some.operator = sym c.operator_at.ensures ∙ c.in-Some.is in
    level_small c.args.least c.in-Some.operator c.loop-turn.cursor at

pub returns-in_default-clause-reads : goal.returns-in_default-clause-reads
returns-in_default-clause-reads g c =
    let room = c.args.self.now.room in
    let e = one_more (λ n. climb_from (expr room) room c.args.least n c.loop-turn.left c.loop-turn.cursor) _ c.loop-turn._turn c.loop-turn-test.true c.loop-turn.invariant.reads in
    let at : operator_at c.args.least (first c.loop-turn.cursor) ≡ None = first_of (cc, search rules, grind (arith, common_steps)) in
    e ∙ climb_none (expr room) room c.args.least _ c.loop-turn.left c.loop-turn.cursor at

pub returns-in_err-left-clause-reads : goal.returns-in_err-left-clause-reads
returns-in_err-left-clause-reads g c =
    let room = c.args.self.now.room in
    let e = one_more (λ n. climb_from (expr room) room c.args.least n c.loop-turn.left c.loop-turn.cursor) _ c.loop-turn._turn c.loop-turn-test.true c.loop-turn.invariant.reads in
    let at : operator_at c.args.least (first c.loop-turn.cursor) ≡ Some c.in-Some.operator = sym c.operator_at.ensures ∙ c.in-Some.is in
    let one = climb_some (expr room) room c.args.least (c.left-turn-end.result - (c.loop-turn._turn + 1)) c.loop-turn.left c.loop-turn.cursor c.in-Some.operator at in
    first_of (search rules, grind (arith, common_steps, e, one))

pub loop-turn-preserved : goal.loop-turn-preserved
loop-turn-preserved g c =
    let room = c.args.self.now.room in
    let e = one_more (λ n. climb_from (expr room) room c.args.least n c.loop-turn.left c.loop-turn.cursor) _ c.loop-turn._turn c.loop-turn-test.true c.loop-turn.invariant.reads in
    let at : operator_at c.args.least (first c.loop-turn.cursor) ≡ Some c.in-Some.operator = sym c.operator_at.ensures ∙ c.in-Some.is in
    let one = climb_some (expr room) room c.args.least (c.left-turn-end.result - (c.loop-turn._turn + 1)) c.loop-turn.left c.loop-turn.cursor c.in-Some.operator at in
    let reads = c.in_ok-left.ensures.reads in
    record { reads = e ∙ one ∙ rw reads refl; deep = c.in_ok-left.ensures.within }

pub returns-clause-reads : goal.returns-clause-reads
unfolding climb_from
returns-clause-reads g c =
    let room = c.args.self.now.room in
    no_more (λ n. climb_from (expr room) room c.args.least n c.loop-turn.left c.loop-turn.cursor) _ c.loop-turn._turn c.loop-turn-test.false c.loop-turn.invariant.reads
