use Rattle.parse_expr.proofs.Firsts.{ends_at}
use Rattle.parse_expr.proofs.laws.no_early_fault.Goals as goal

pub returns : goal.returns
returns c = ends_at
