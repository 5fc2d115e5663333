use Rattle.std.proofs.Common.{refl}
use Rattle.text_calls.proofs.Moves.{dead_there, made_kept, made_leaves}
use Rattle.text_calls.proofs.Used.{made_used}
use Rattle.text_calls.proofs.carry.make.Goals as goal

pub set_cell-requires : goal.set_cell-requires
set_cell-requires c = dead_there c.args.mem.now c.args.heap.now c.args.cell c.requires.dead

pub returns-clause-kept : goal.returns-clause-kept
returns-clause-kept c = made_kept _ _ _ _ _ _ _ c.requires.kept c.set_cell.ensures c.in_ok-desc.ensures.stored c.in_ok-desc.ensures.kept

pub returns-clause-used : goal.returns-clause-used
returns-clause-used c = made_used _ _ _ _ _ _ _ c.set_cell.ensures c.in_ok-desc.ensures.stored c.requires.dead

pub returns-clause-answers : goal.returns-clause-answers
returns-clause-answers c = (refl, refl, made_leaves _ _ _ _ _ _ _ c.requires.kept c.set_cell.ensures c.in_ok-desc.ensures.stored c.in_ok-desc.ensures.kept)
