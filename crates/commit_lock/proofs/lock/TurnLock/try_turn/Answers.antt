use Rattle.std.proofs.Common.{rules}
use Rattle.commit_lock.specs.Packs.{FitsPack}
use Rattle.commit_lock.proofs.Taking.{turn_takes}
use Rattle.commit_lock.proofs.lock.TurnLock.try_turn.Goals as goal

pub compare_exchange-requires : goal.compare_exchange-requires
compare_exchange-requires g c =
    (c.requires.own, search rules, turn_takes (FitsPack g.V.Kept.base g.V.Kept.hist) _ _ _ _ _ c.requires.waits.0 c.requires.waits.1 c.requires.waits.2)
