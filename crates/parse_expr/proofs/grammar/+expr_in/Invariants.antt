use Rattle.parse_expr.proofs.grammar.+expr_in.Given as goal

abbrev pub decreases-expr_in : goal.decreases-expr_in
decreases-expr_in l = l.room
