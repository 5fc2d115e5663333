use Rattle.parse_expr.proofs.Answered.{stands}
use Rattle.parse_expr.proofs.laws.trees_read.Goals as goal

pub returns : goal.returns
returns c = stands
