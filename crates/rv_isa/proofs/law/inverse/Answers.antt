use Rattle.rv_isa.proofs.Again.{read_again}
use Rattle.rv_isa.proofs.Spelt.{spelt}
use Rattle.rv_isa.proofs.law.inverse.Goals as goal

pub returns-clause-read_again : goal.returns-clause-read_again
returns-clause-read_again c = λ i r. read_again i r

pub returns-clause-spelt : goal.returns-clause-spelt
returns-clause-spelt c = λ w i h e. spelt w i h e
