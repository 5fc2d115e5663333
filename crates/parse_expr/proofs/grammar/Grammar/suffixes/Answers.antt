use Rattle.std.proofs.Common.{◌≡◌, ◌+◌, ◌-◌, ◌∙◌, sym, refl, Option, Some, None, rules, arith}
use Rattle.std.proofs.lemmas.Grind.{common_steps}
use Rattle.parse_expr.specs.Reading.{first}
use Rattle.parse_expr.specs.Expr.{expr, suffixes_from, suffix_at}
use Rattle.parse_expr.proofs.Turns.{one_more, no_more}
use Rattle.parse_expr.proofs.Loops.{suffix_none, suffix_some}
use Rattle.parse_expr.proofs.grammar.Grammar.suffixes.Goals as goal

pub returns-in_default-clause-reads : goal.returns-in_default-clause-reads
returns-in_default-clause-reads g c =
    let room = c.args.self.now.room in
    let e = one_more (λ n. suffixes_from (expr room) room n c.loop-turn.left c.loop-turn.cursor) _ c.loop-turn._turn c.loop-turn-test.true c.loop-turn.invariant.reads in
    let at : suffix_at (first c.loop-turn.cursor) ≡ None = first_of (cc, search rules, grind (arith, common_steps)) in
    e ∙ suffix_none (expr room) room _ c.loop-turn.left c.loop-turn.cursor at

pub returns-in_err-left-clause-reads : goal.returns-in_err-left-clause-reads
returns-in_err-left-clause-reads g c =
    let room = c.args.self.now.room in
    let e = one_more (λ n. suffixes_from (expr room) room n c.loop-turn.left c.loop-turn.cursor) _ c.loop-turn._turn c.loop-turn-test.true c.loop-turn.invariant.reads in
    let at : suffix_at (first c.loop-turn.cursor) ≡ Some c.in-Some.suffix = sym c.suffix_at.ensures ∙ c.in-Some.is in
    let one = suffix_some (expr room) room (c.left-turn-end.result - (c.loop-turn._turn + 1)) c.loop-turn.left c.loop-turn.cursor c.in-Some.suffix at in
    first_of (search rules, grind (arith, common_steps, e, one))

pub loop-turn-preserved : goal.loop-turn-preserved
loop-turn-preserved g c =
    let room = c.args.self.now.room in
    let e = one_more (λ n. suffixes_from (expr room) room n c.loop-turn.left c.loop-turn.cursor) _ c.loop-turn._turn c.loop-turn-test.true c.loop-turn.invariant.reads in
    let at : suffix_at (first c.loop-turn.cursor) ≡ Some c.in-Some.suffix = sym c.suffix_at.ensures ∙ c.in-Some.is in
    let one = suffix_some (expr room) room (c.left-turn-end.result - (c.loop-turn._turn + 1)) c.loop-turn.left c.loop-turn.cursor c.in-Some.suffix at in
    let reads = c.in_ok-left.ensures.reads in
    record { reads = e ∙ one ∙ rw reads refl; deep = c.in_ok-left.ensures.within }

pub returns-clause-reads : goal.returns-clause-reads
unfolding suffixes_from
returns-clause-reads g c =
    let room = c.args.self.now.room in
    no_more (λ n. suffixes_from (expr room) room n c.loop-turn.left c.loop-turn.cursor) _ c.loop-turn._turn c.loop-turn-test.false c.loop-turn.invariant.reads
