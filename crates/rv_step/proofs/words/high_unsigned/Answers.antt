use Rattle.std.proofs.Common.{◌≡◌, rules, refl}
use Rattle.rv_isa.specs.Words.{high_unsigned}
use Rattle.rv_step.proofs.words.high_unsigned.Goals as goal

pub returns : goal.returns
unfolding high_unsigned
returns c = refl
