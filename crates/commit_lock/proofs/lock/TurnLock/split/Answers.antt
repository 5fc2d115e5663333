use Rattle.std.proofs.Common.{◌≤◌, rules, ap, subst, sym, ◌∙◌}
use Rattle.commit_lock.specs.Packs.{FitsPack}
use Rattle.commit_lock.proofs.Taking.{badge_is, turn_splits}
use Rattle.commit_lock.proofs.Pages.{book_splits}
use Rattle.commit_lock.proofs.lock.TurnLock.split.Goals as goal

pub split_seat-other-requires : goal.split_seat-other-requires
split_seat-other-requires g c =
    let is = badge_is c.into_seat-turn.result.me.0 c.args.seat.badge.views _ _ c.into_seat-turn.ensures.2 c.requires.0.view in (
      c.into_seat-turn.ensures.0 ∙ c.requires.0.turn,
      search rules,
      turn_splits (FitsPack g.V.Kept.base g.V.Kept.hist) _ _ _ _ (ap (λ v. v.turn) is) (subst (λ n. 2 ≤ n) (sym (ap (λ v. v.parts) is)) c.requires.1),
    )

pub split_seat-copy-requires : goal.split_seat-copy-requires
split_seat-copy-requires g c = (c.requires.0.book, search rules, book_splits _ _ _)
