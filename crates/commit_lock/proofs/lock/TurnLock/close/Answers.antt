use Rattle.std.proofs.Common.{ap, subst, sym, ◌∙◌, arith}
use mathlib.Core.List.{IsPrefix}
use Rattle.commit_lock.specs.Packs.{FitsPack}
use Rattle.commit_lock.proofs.Taking.{badge_is, turn_closes, turn_found}
use Rattle.commit_lock.proofs.lock.TurnLock.close.Goals as goal

pub unreachable-requires : goal.unreachable-requires
unreachable-requires g c =
    let is = badge_is c.into_seat.result.me.0 c.args.seat.badge.views _ _ c.into_seat.ensures.2 c.requires.0.view in
    let full = turn_closes (FitsPack g.V.Kept.base g.V.Kept.hist) _ _ _ _ _ _ (ap (λ v. v.parts) is ∙ c.requires.1) (ap (λ v. v.turn) is) c.close_with-closed.ensures.values.2 _ c.take.ensures.value in
    c.in_default.not-Some full.0 full.1

pub learn-own-requires-clause-own : goal.learn-own-requires-clause-own
learn-own-requires-clause-own g c =
    let is = badge_is c.into_seat.result.me.0 c.args.seat.badge.views _ _ c.into_seat.ensures.2 c.requires.0.view in
    let fits = turn_found (FitsPack g.V.Kept.base g.V.Kept.hist) _ _ _ _ _ _ (ap (λ v. v.parts) is ∙ c.requires.1) (ap (λ v. v.turn) is) c.close_with-closed.ensures.values.2 _ c.take.ensures.value c.in-Some.pack c.in-Some.is in
    (fits.of ∙ c.args.self.named, c.requires.0.book)

pub learn-own-requires-clause-bare : goal.learn-own-requires-clause-bare
learn-own-requires-clause-bare g c =
    let is = badge_is c.into_seat.result.me.0 c.args.seat.badge.views _ _ c.into_seat.ensures.2 c.requires.0.view in
    let fits = turn_found (FitsPack g.V.Kept.base g.V.Kept.hist) _ _ _ _ _ _ (ap (λ v. v.parts) is ∙ c.requires.1) (ap (λ v. v.turn) is) c.close_with-closed.ensures.values.2 _ c.take.ensures.value c.in-Some.pack c.in-Some.is in
    (fits.bare, c.requires.0.bare)

pub returns : goal.returns
returns g c =
    let is = badge_is c.into_seat.result.me.0 c.args.seat.badge.views _ _ c.into_seat.ensures.2 c.requires.0.view in
    let fits = turn_found (FitsPack g.V.Kept.base g.V.Kept.hist) _ _ _ _ _ _ (ap (λ v. v.parts) is ∙ c.requires.1) (ap (λ v. v.turn) is) c.close_with-closed.ensures.values.2 _ c.take.ensures.value c.in-Some.pack c.in-Some.is in
    let told = c.learn-own.ensures in (
      sym fits.based ∙ (sym told.base.0 ∙ told.base.1),
      subst (IsPrefix c.args.seat.book.me.0.seen) (told.pen (omega (arith, c.in-Some.pack.pen.pens)) ∙ fits.seen) told.seen.1,
    )
