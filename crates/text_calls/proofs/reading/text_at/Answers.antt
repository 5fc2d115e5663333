use Rattle.std.proofs.Common.{sym}
use Rattle.text_calls.proofs.reading.text_at.Goals as goal

pub bytes-requires : goal.bytes-requires
bytes-requires c = c.requires.live c.args.a c.in-Some.cell (sym c.in-Some.ensures) c.if-cell.true
