use Rattle.first_language.proofs.Sound.{each_is_sound}
use Rattle.first_language.proofs.reader.programs_are_sound.Goals as goal

pub returns : goal.returns
returns c = each_is_sound
