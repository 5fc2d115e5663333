use Rattle.type_table.proofs.Within.{next_multiple}
use Rattle.type_table.proofs.laws.next_multiples.Goals as goal

pub returns : goal.returns
returns c = λ align n. next_multiple align n
