use Rattle.parse_expr.proofs.FirstFault.{fault_found}
use Rattle.parse_expr.proofs.laws.faults_found.Goals as goal

pub returns : goal.returns
returns c = fault_found
