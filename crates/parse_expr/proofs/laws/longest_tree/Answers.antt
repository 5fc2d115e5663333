use Rattle.parse_expr.proofs.Firsts.{longest}
use Rattle.parse_expr.proofs.laws.longest_tree.Goals as goal

pub returns : goal.returns
returns c = longest
