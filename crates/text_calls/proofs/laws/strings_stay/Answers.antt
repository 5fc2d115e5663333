use Rattle.text_calls.proofs.Others.{none_kept, made_kept, freed_kept, same_kept}
use Rattle.text_calls.proofs.laws.strings_stay.Goals as goal

pub returns : goal.returns
returns c = record { none = none_kept; made = made_kept; freed = freed_kept; same = same_kept }
