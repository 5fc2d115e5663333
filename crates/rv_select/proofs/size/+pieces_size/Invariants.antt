use Rattle.rv_select.proofs.size.+pieces_size.Given as goal

abbrev pub decreases-pieces_size : goal.decreases-pieces_size
decreases-pieces_size l = l.pieces
