use Rattle.text_calls.proofs.Others.{none_used, made_used, same_used}
use Rattle.text_calls.proofs.laws.strings_are_used.Goals as goal

pub returns : goal.returns
returns c = record { none = none_used; made = made_used; same = same_used }
