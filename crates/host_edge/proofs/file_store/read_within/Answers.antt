use Rattle.std.proofs.Common.{take, arith, length-take}
use Rattle.host_edge.proofs.Taking.{takes_piece}
use Rattle.host_edge.proofs.file_store.read_within.Goals as goal

pub returns-in-Ok-clause-taken : goal.returns-in-Ok-clause-taken
returns-in-Ok-clause-taken g c =
    takes_piece _ _ _ c.loop.bytes.items (take c.in-Ok.count c.read.new.buf) _
    c.loop.invariant.taken c.in-Ok.ensures.bytes.0 (grind (arith, length-take))

pub returns-in_err-map_err-in-Ok-2-clause-taken : goal.returns-in_err-map_err-in-Ok-2-clause-taken
returns-in_err-map_err-in-Ok-2-clause-taken g c =
    takes_piece _ _ _ c.loop.bytes.items (take c.in-Ok.count c.read.new.buf) _
    c.loop.invariant.taken c.in-Ok.ensures.bytes.0 (grind (arith, length-take))
