use Rattle.parse_expr.proofs.FirstFault.{first_fault}
use Rattle.parse_expr.proofs.laws.first_fault.Goals as goal

pub returns : goal.returns
returns c = first_fault
