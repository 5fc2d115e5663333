use Rattle.std.proofs.Common.{subst}
use Rattle.commit_lock.specs.Steps.{HasTurn}
use Rattle.commit_lock.specs.Packs.{FitsPack}
use Rattle.commit_lock.proofs.lock.TurnLock.spin_for_turn.Goals as goal

pub returns-then-try_turn-clause-turn : goal.returns-then-try_turn-clause-turn
returns-then-try_turn-clause-turn g c =
    subst (λ m. HasTurn (FitsPack g.V.Kept.base g.V.Kept.hist) m c.try_turn.new.turn.me) c.loop.invariant.1 c.if-try_turn.ensures.turn
