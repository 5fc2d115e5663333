use Rattle.std.proofs.Common.{Some}
use Rattle.commit_lock.proofs.Taking.{alone}
use Rattle.commit_lock.proofs.lock.TurnLock.take_out.Goals as goal

pub exchange-requires : goal.exchange-requires
exchange-requires g c = let slot = c.requires.slot in (c.requires.own, (Some slot.0, alone c.args.turn.me.1 (0, Some slot.0) slot.1))
