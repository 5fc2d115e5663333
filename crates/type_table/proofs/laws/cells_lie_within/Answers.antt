use Rattle.type_table.proofs.CellsWithin.{within}
use Rattle.type_table.proofs.laws.cells_lie_within.Goals as goal

pub returns : goal.returns
returns c = λ rows ty layout is. within rows ty layout is
