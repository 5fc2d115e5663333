use Rattle.places.proofs.Tables.{table_made}
use Rattle.places.proofs.table.Table.new.Goals as goal

pub returns : goal.returns
returns c = table_made c.args.size c.args.offsets.now c.filled.result c.requires.cells c.filled.ensures
