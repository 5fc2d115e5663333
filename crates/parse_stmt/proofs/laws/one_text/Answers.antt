use Rattle.parse_stmt.proofs.Whole.{one_text}
use Rattle.parse_stmt.proofs.laws.one_text.Goals as goal

pub returns : goal.returns
returns c = one_text
