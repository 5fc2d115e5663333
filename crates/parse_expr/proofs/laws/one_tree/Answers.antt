use Rattle.parse_expr.proofs.Unique.{one_tree}
use Rattle.parse_expr.proofs.laws.one_tree.Goals as goal

pub returns : goal.returns
returns c = one_tree
