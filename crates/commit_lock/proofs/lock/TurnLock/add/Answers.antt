use Rattle.std.proofs.Common.{rules, ◌∙◌}
use Rattle.commit_lock.specs.Packs.{FitsPack}
use Rattle.commit_lock.proofs.Taking.{turn_joins, turn_counts}
use Rattle.commit_lock.proofs.lock.TurnLock.add.Goals as goal

pub join_seat-requires : goal.join_seat-requires
join_seat-requires g c =
    (c.requires.own.0, c.requires.own.1, c.requires.bare.1, search rules, turn_joins (FitsPack g.V.Kept.base g.V.Kept.hist) _ _ _ _ _ _ c.requires.free.0 c.requires.free.1 c.requires.free.2)

pub load-requires : goal.load-requires
load-requires g c = (c.join_seat.ensures.0 ∙ c.requires.own.0, search rules, turn_counts (FitsPack g.V.Kept.base g.V.Kept.hist) _ _ _ _ _)
