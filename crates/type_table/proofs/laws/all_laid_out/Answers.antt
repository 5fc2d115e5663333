use Rattle.type_table.specs.Tables.{rows_of}
use Rattle.type_table.proofs.LaidOut.{laid_out}
use Rattle.type_table.proofs.Numbers.{numbered}
use Rattle.type_table.proofs.laws.all_laid_out.Goals as goal

pub returns : goal.returns
returns c = λ items number none below. laid_out (rows_of items) (numbered items) none number below
