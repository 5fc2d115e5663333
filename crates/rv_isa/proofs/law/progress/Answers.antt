use Rattle.rv_isa.proofs.Ahead.{ahead, within, bounded}
use Rattle.rv_isa.proofs.law.progress.Goals as goal

pub returns-clause-ahead : goal.returns-clause-ahead
returns-clause-ahead c = ahead

pub returns-clause-within : goal.returns-clause-within
returns-clause-within c = within

pub returns-clause-bound : goal.returns-clause-bound
returns-clause-bound c = bounded
