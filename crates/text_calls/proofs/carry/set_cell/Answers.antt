use Rattle.text_calls.proofs.Cells.{sets_one}
use Rattle.text_calls.proofs.carry.set_cell.Goals as goal

pub returns-in-Some : goal.returns-in-Some
returns-in-Some c = sets_one c.args.mem.now c.set_cell.new.self c.args.a c.args.cell c.facts.ensures c.in-Some.ensures
