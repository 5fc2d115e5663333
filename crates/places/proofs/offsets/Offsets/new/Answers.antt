use Rattle.places.proofs.Cells.{cells_fit}
use Rattle.places.proofs.offsets.Offsets.new.Goals as goal

pub returns-in_err-table-clause-few : goal.returns-in_err-table-clause-few
returns-in_err-table-clause-few c = cells_fit c.args.size c.args.offsets.now c.requires.cells

pub returns-in_err-from_slice-clause-few : goal.returns-in_err-from_slice-clause-few
returns-in_err-from_slice-clause-few c = cells_fit c.args.size c.args.offsets.now c.requires.cells

pub returns-clause-few : goal.returns-clause-few
returns-clause-few c = cells_fit c.args.size c.args.offsets.now c.requires.cells
