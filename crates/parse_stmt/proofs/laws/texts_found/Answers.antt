use Rattle.parse_stmt.proofs.Whole.{text_found}
use Rattle.parse_stmt.proofs.laws.texts_found.Goals as goal

pub returns : goal.returns
returns c = text_found
