use Rattle.std.proofs.Common.{◌≡◌, ◌+◌, ◌∙◌, sym, refl, length, [], ◌∷◌, ◌++◌, true, rules, arith, tests}
use Rattle.std.proofs.lemmas.Grind.{common_steps}
use Rattle.fb_lexer.specs.declared.token.Mark.TheVariants.{Comma}
use Rattle.parse_expr.specs.Reading.{sees}
use Rattle.parse_expr.specs.Expr.{expr, arguments_from}
use Rattle.parse_expr.proofs.Turns.{one_more}
use Rattle.parse_expr.proofs.grammar.Grammar.some_arguments.Goals as goal

pub loop-turn-preserved : goal.loop-turn-preserved
unfolding arguments_from
loop-turn-preserved g c =
    let room = c.args.self.now.room in
    let e = one_more (λ n. arguments_from (expr room) room n c.loop-turn.found c.loop-turn.deepest c.loop-turn.cursor) _ c.loop-turn._turn c.loop-turn-test.true c.loop-turn.invariant.reads in
    first_of (search rules, grind (arith, common_steps))
