use Rattle.std.proofs.Common.{rules, arith, ◌∙◌}
use Rattle.commit_lock.proofs.Pages.{book_joins, book_tells}
use Rattle.commit_lock.proofs.lock.learn.Goals as goal

pub join_seat-requires : goal.join_seat-requires
join_seat-requires g c =
    (c.requires.own.0, c.requires.own.1, c.requires.bare.1, search rules, book_joins _ _ _ _ _ (omega (arith, c.requires.live.0)) (omega (arith, c.requires.live.1)) c.requires.live.2)

pub load-requires : goal.load-requires
load-requires g c = (c.join_seat.ensures.0 ∙ c.requires.own.0, search rules, book_tells _ _ _ _)
