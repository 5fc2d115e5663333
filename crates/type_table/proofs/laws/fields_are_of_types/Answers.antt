use Rattle.type_table.proofs.Numbers.{numbered}
use Rattle.type_table.proofs.laws.fields_are_of_types.Goals as goal

pub returns : goal.returns
returns c = λ items number part row is has. numbered items number part row is has
