use Rattle.std.proofs.Common.{◌≡◌, rules, ◌∙◌}
use Rattle.word64.specs.Words.{signed}
use Rattle.rv_isa.specs.Words.{high_mixed}
use Rattle.rv_step.proofs.words.high_mixed.Goals as goal

pub returns : goal.returns
unfolding high_mixed
returns c = search rules
