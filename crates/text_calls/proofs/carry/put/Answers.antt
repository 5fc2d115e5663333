use Rattle.std.proofs.Common.{refl}
use Rattle.text_calls.proofs.Moves.{alive_is, put_index, put_kept, put_leaves}
use Rattle.text_calls.proofs.Used.{put_used}
use Rattle.text_calls.proofs.carry.put.Goals as goal

pub alive_cell-old-requires : goal.alive_cell-old-requires
alive_cell-old-requires c = alive_is c.args.mem.now c.args.heap.now c.args.cell (c.requires.fits.0, c.requires.fits.1)

pub set_byte-requires-clause-live : goal.set_byte-requires-clause-live
set_byte-requires-clause-live c = c.requires.kept.live c.args.cell c.alive_cell-old.result c.alive_cell-old.ensures.cell c.alive_cell-old.ensures.alive

pub set_byte-requires-clause-index : goal.set_byte-requires-clause-index
set_byte-requires-clause-index c = put_index c.args.mem.now c.args.heap.now c.args.cell c.args.index c.args.byte c.alive_cell-old.result c.requires.kept c.alive_cell-old.ensures.cell c.alive_cell-old.ensures.alive c.requires.fits

pub returns-clause-kept : goal.returns-clause-kept
returns-clause-kept c = put_kept _ _ _ _ _ _ _ c.requires.kept c.alive_cell-old.ensures.cell c.alive_cell-old.ensures.alive c.set_byte.ensures.changed c.set_byte.ensures.kept

pub returns-clause-used : goal.returns-clause-used
returns-clause-used c = put_used _ _ _ _ _ _ c.alive_cell-old.ensures.cell c.alive_cell-old.ensures.alive c.set_byte.ensures.changed

pub returns-clause-answers : goal.returns-clause-answers
returns-clause-answers c = (refl, refl, put_leaves _ _ _ _ _ _ _ c.requires.kept c.alive_cell-old.ensures.cell c.alive_cell-old.ensures.alive c.set_byte.ensures.changed c.set_byte.ensures.kept)
