use Rattle.std.proofs.Common.{◌≡◌, rules, ◌∙◌}
use Rattle.word64.specs.Words.{signed}
use Rattle.rv_isa.specs.Words.{high_signed}
use Rattle.rv_step.proofs.words.high_signed.Goals as goal

pub returns : goal.returns
unfolding high_signed
returns c = search rules
