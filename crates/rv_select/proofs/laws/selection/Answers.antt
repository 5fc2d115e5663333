use Rattle.rv_select.proofs.Images.{image_rules, words_read, first_states, steps_kept, segments_kept}
use Rattle.rv_select.proofs.Sizes.{size_is}
use Rattle.rv_select.proofs.laws.selection.Goals as goal

pub returns-clause-image : goal.returns-clause-image
returns-clause-image c = image_rules

pub returns-clause-words : goal.returns-clause-words
returns-clause-words c = words_read

pub returns-clause-begins : goal.returns-clause-begins
returns-clause-begins c = first_states

pub returns-clause-steps : goal.returns-clause-steps
returns-clause-steps c = steps_kept

pub returns-clause-segments : goal.returns-clause-segments
returns-clause-segments c = segments_kept

pub returns-clause-sizes : goal.returns-clause-sizes
returns-clause-sizes c = size_is
