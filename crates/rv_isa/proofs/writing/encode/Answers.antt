use Rattle.rv_isa.proofs.Again.{read_again}
use Rattle.rv_isa.proofs.writing.encode.Goals as goal

pub returns-clause-read : goal.returns-clause-read
returns-clause-read c = rw c.spell.ensures.value (read_again c.args.inst c.spell.ensures.ranges)
