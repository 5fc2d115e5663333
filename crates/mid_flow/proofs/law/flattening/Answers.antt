use Rattle.mid_flow.proofs.Lawful.{flat_lawful}
use Rattle.mid_flow.proofs.Positions.{flat_lies}
use Rattle.mid_flow.proofs.law.flattening.Goals as goal

pub returns-clause-lies : goal.returns-clause-lies
returns-clause-lies c = flat_lies

pub returns-clause-lawful : goal.returns-clause-lawful
returns-clause-lawful c = flat_lawful
