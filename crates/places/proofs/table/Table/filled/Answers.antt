use Rattle.std.proofs.Common.{◌+◌, ◌∙◌, ap, drop, length, arith, rules}
use Rattle.places.specs.Table.{with_cells}
use Rattle.places.proofs.Cells.{cells_fit}
use Rattle.places.proofs.Tables.{words_fit, cells_next, cells_end, length_words}
use Rattle.places.proofs.table.Table.filled.Goals as goal

pub loop-k-init : goal.loop-k-init
loop-k-init c = record { rest = search rules; long = search rules; few = omega (arith, cells_fit c.args.size c.args.offsets.now c.requires.cells) }

pub put-requires : goal.put-requires
put-requires c = words_fit c.args.size c.loop-k.k 0 c.args.offsets.now c.loop-k.table c.requires.cells c.loop-k.invariant.long (omega arith)

pub loop-k-preserved : goal.loop-k-preserved
loop-k-preserved c = record { rest = ap (with_cells (c.loop-k.k + 1) (drop (c.loop-k.k + 1) c.args.offsets.now)) c.put.ensures ∙ cells_next c.args.offsets.now c.loop-k.table _ c.loop-k.k 0 (omega arith) c.loop-k.invariant.rest; long = ap length c.put.ensures ∙ length_words c.loop-k.table _ _ ∙ c.loop-k.invariant.long; few = c.loop-k.invariant.few }

pub returns : goal.returns
returns c = cells_end c.args.offsets.now c.loop-k.table _ c.loop-k.k (omega arith) c.loop-k.invariant.rest
