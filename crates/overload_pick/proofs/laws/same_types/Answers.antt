use Rattle.overload_pick.proofs.Same.{same_is, is_same}
use Rattle.overload_pick.proofs.laws.same_types.Goals as goal

pub returns : goal.returns
returns c = λ one other. (same_is one other, is_same one other)
