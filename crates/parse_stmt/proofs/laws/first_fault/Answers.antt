use Rattle.parse_stmt.proofs.LateFaults.{found_first}
use Rattle.parse_stmt.proofs.laws.first_fault.Goals as goal

pub returns : goal.returns
returns c = found_first
