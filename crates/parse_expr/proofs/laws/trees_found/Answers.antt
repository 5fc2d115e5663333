use Rattle.parse_expr.proofs.Unique.{found}
use Rattle.parse_expr.proofs.laws.trees_found.Goals as goal

pub returns : goal.returns
returns c = found
