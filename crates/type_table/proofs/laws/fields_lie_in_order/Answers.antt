use Rattle.type_table.proofs.Within.{whole}
use Rattle.type_table.proofs.laws.fields_lie_in_order.Goals as goal

pub returns : goal.returns
returns c = λ known row layout is. whole known row layout is
