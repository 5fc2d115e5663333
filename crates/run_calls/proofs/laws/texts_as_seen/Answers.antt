use Rattle.run_calls.proofs.TextRows.{text_rows}
use Rattle.run_calls.proofs.Texts.{text_as_seen}
use Rattle.run_calls.proofs.laws.texts_as_seen.Goals as goal

pub returns : goal.returns
returns c = record { seen = text_as_seen; rows = text_rows }
