use Rattle.type_table.proofs.Found.{circle_found}
use Rattle.type_table.proofs.laws.circles_are_found.Goals as goal

pub returns : goal.returns
returns c = λ rows number circle. circle_found rows number circle
