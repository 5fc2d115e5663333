use Rattle.std.proofs.Common.{refl}
use Rattle.text_calls.proofs.Moves.{alive_is, there_is, drop_kept, drop_leaves}
use Rattle.text_calls.proofs.Used.{drop_used}
use Rattle.text_calls.proofs.carry.drop_string.Goals as goal

pub alive_cell-old-requires : goal.alive_cell-old-requires
alive_cell-old-requires c = alive_is c.args.mem.now c.args.heap.now c.args.cell c.requires.alive

pub release-requires : goal.release-requires
release-requires c = c.requires.kept.live c.args.cell c.alive_cell-old.result c.alive_cell-old.ensures.cell c.alive_cell-old.ensures.alive

pub set_cell-requires : goal.set_cell-requires
set_cell-requires c = there_is c.args.mem.now c.args.cell c.alive_cell-old.result c.alive_cell-old.ensures.cell

pub returns-clause-kept : goal.returns-clause-kept
returns-clause-kept c = drop_kept _ _ _ _ _ _ _ c.requires.kept c.alive_cell-old.ensures.cell c.alive_cell-old.ensures.alive c.set_cell.ensures c.release.ensures.kept

pub returns-clause-used : goal.returns-clause-used
returns-clause-used c = drop_used _ _ _ _ _ _ _ c.alive_cell-old.ensures.cell c.set_cell.ensures c.release.ensures.released

pub returns-clause-answers : goal.returns-clause-answers
returns-clause-answers c = (refl, refl, drop_leaves _ _ _ _ _ _ _ c.requires.kept c.alive_cell-old.ensures.cell c.alive_cell-old.ensures.alive c.set_cell.ensures c.release.ensures.kept)
