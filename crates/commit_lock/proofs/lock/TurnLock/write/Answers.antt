use Rattle.std.proofs.Common.{rules, subst, sym}
use mathlib.Core.List.{IsPrefix}
use Rattle.commit_lock.proofs.Pages.{book_writes}
use Rattle.commit_lock.proofs.lock.TurnLock.write.Goals as goal

pub load-requires : goal.load-requires
load-requires g c =
    (c.requires.own.book, search rules, book_writes _ _ _ _ _ c.args.pen.now.pens (subst (IsPrefix c.args.pen.now.seat.me.0.seen) (sym c.requires.said) c.requires.more))
