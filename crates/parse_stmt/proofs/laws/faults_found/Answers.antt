use Rattle.parse_stmt.proofs.OneFault.{fault_found}
use Rattle.parse_stmt.proofs.laws.faults_found.Goals as goal

pub returns : goal.returns
returns c = fault_found
