use Rattle.parse_stmt.proofs.Whole.{text_read}
use Rattle.parse_stmt.proofs.laws.texts_read.Goals as goal

pub returns : goal.returns
returns c = text_read
