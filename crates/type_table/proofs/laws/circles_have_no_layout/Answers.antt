use Rattle.type_table.proofs.Stuck.{no_layout}
use Rattle.type_table.proofs.laws.circles_have_no_layout.Goals as goal

pub returns : goal.returns
returns c = λ rows n number circle. no_layout rows n number circle
