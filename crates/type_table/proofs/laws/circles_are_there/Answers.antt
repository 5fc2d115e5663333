use Rattle.type_table.proofs.Circles.{contains_itself}
use Rattle.type_table.proofs.laws.circles_are_there.Goals as goal

pub returns : goal.returns
returns c = λ rows number is. contains_itself rows number is
