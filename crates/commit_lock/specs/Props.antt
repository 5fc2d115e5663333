-- Facts that hold in one way at most.
use Rattle.std.specs.Prelude.{◌≡◌, ℕ, List}
use mathlib.Core.List.{IsPrefix}
use base.Growing.{prefix_prop}
use base.Stored.{coded_ℕ, coded_list, Coded-set}
use Rattle.atomic_table.specs.Seated.{TableId, table_id_coded}
use Rattle.commit_lock.specs.Views.{TurnSeen, turn_coded}

pub TableId-set : (a b : TableId) → IsProp (a ≡ b)
TableId-set = Coded-set table_id_coded

pub TurnSeen-set : (a b : TurnSeen) → IsProp (a ≡ b)
TurnSeen-set = Coded-set turn_coded

pub IsPrefix-prop : (a b : List ℕ) → IsProp (IsPrefix a b)
IsPrefix-prop = prefix_prop (Coded-set (coded_list coded_ℕ))
