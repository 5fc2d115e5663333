use Rattle.std.proofs.Common.{◌≡◌, rules, ap, subst, sym, ◌∙◌}
use mathlib.Core.List.{IsPrefix}
use base.Growing.{prefix_refl, prefix_trans, prefix_anti}
use Rattle.commit_lock.proofs.Pages.{book_splits}
use Rattle.commit_lock.proofs.lock.TurnLock.leave.Goals as goal

pub split_seat-copy-requires : goal.split_seat-copy-requires
split_seat-copy-requires g c = (c.write.ensures.own.book, search rules, book_splits _ _ _)

pub returns-clause-seen : goal.returns-clause-seen
returns-clause-seen g c =
    let hist = g.V.Kept.hist c.args.held.value in
    let copy : c.split_seat-copy.result.me.0.seen ≡ hist = ap (λ m. m.0.seen) c.split_seat-copy.ensures.4 ∙ c.write.ensures.wrote.1 in
    let before : IsPrefix c.args.held.seat.book.me.0.seen hist = prefix_trans _ _ _ c.args.held.begins c.requires.value.1 in
    prefix_anti _ _
    (c.learn-book.ensures.no_more hist before (subst (λ l. IsPrefix l hist) (sym copy) (prefix_refl hist)))
    (subst (λ l. IsPrefix l c.learn-book.result.me.0.seen) copy c.learn-book.ensures.seen.1)
