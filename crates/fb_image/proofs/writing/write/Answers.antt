use Rattle.fb_image.proofs.Readings.{is_again}
use Rattle.fb_image.proofs.writing.write.Goals as goal

pub returns-clause-again : goal.returns-clause-again
returns-clause-again c = is_again c.spell.result c.args.image.now c.spell.ensures.rules c.spell.ensures.spelt
