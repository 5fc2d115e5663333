use Rattle.std.proofs.Common.{◌≡◌, ◌≤◌, [], ◌∷◌, Option, Some, rules, ap, subst, sym, ◌∙◌}
use Rattle.atomic_table.specs.Table.{Me, rest}
use Rattle.commit_lock.specs.declared.seat.Pack.{Pack}
use Rattle.commit_lock.specs.Views.{TurnSeen}
use Rattle.commit_lock.specs.Packs.{FitsPack}
use Rattle.commit_lock.proofs.Taking.{turn_gives}
use Rattle.commit_lock.proofs.lock.TurnLock.put_back.Goals as goal

pub store-requires : goal.store-requires
store-requires g c =
    let base = g.V.Kept.base in
    let hist = g.V.Kept.hist in
    let now = c.exchange.new.seat.me in
    let same : now.0 ≡ c.args.turn.me.0 = ap (λ (m : Me (Option (Pack g.row.V.Denot)) TurnSeen). m.0) c.exchange.ensures.3 in
    let full : now.1 ≡ (0, Some c.args.pack) ∷ [] = ap (λ (m : Me (Option (Pack g.row.V.Denot)) TurnSeen). m.1) c.exchange.ensures.3 ∙ ap (λ r. (0, Some c.args.pack) ∷ r) (ap rest c.requires.turn.0) in (
      c.exchange.ensures.0 ∙ c.requires.own,
      search rules,
      turn_gives (FitsPack base hist) _ _ _ _ _ c.args.pack c.args.self.now.words.1 full
          (ap (λ v. v.turn) same ∙ c.requires.turn.1)
          (subst (λ n. 1 ≤ n) (sym (ap (λ v. v.parts) same)) c.requires.turn.2)
          (subst (λ b. FitsPack base hist b c.args.pack) (sym (ap (λ v. v.book) same)) c.requires.pack),
    )
