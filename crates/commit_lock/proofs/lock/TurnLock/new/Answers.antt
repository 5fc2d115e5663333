use Rattle.std.proofs.Common.{ℕ, rules, ap, ◌∙◌, sym}
use Rattle.atomic_table.specs.Table.{Me}
use Rattle.commit_lock.specs.Views.{BookSeen}
use Rattle.commit_lock.specs.Packs.{FitsPack}
use Rattle.commit_lock.proofs.Taking.{turn_opens}
use Rattle.commit_lock.proofs.Pages.{book_opens, book_splits}
use Rattle.commit_lock.proofs.lock.TurnLock.new.Goals as goal

pub of_words-requires : goal.of_words-requires
of_words-requires g c = book_opens _ _ _

pub split_seat-copy-requires : goal.split_seat-copy-requires
split_seat-copy-requires g c = (c.in-Ok.ensures.2, search rules, book_splits _ _ _)

pub new-requires : goal.new-requires
new-requires g c =
    let base = g.V.Kept.base in
    let hist = g.V.Kept.hist in
    let own = ap (λ (m : Me ℕ BookSeen). m.0) c.split_seat-copy.ensures.2 ∙ ap (λ (m : Me ℕ BookSeen). m.0) c.in-Ok.ensures.4 in
    rw c.in-Ok-one_slot.ensures.ok (turn_opens (FitsPack base hist) _ _ _ c.ranges.parts.fits (record {
      of = c.split_seat-copy.ensures.0 ∙ sym (ap (λ s. s.table_id) c.of.ensures);
      based = ap (λ v. v.base) own ∙ ap base c.of-key.ensures;
      seen = ap (λ v. v.seen) own ∙ ap hist c.of-key.ensures;
      bare = ap (λ (m : Me ℕ BookSeen). m.1) c.split_seat-copy.ensures.2 ∙ ap (λ (m : Me ℕ BookSeen). m.1) c.in-Ok.ensures.4;
    }))

pub only_pack-requires : goal.only_pack-requires
only_pack-requires g c = (_, c.in-Err-new.ensures.err ∙ c.in-Ok-one_slot.ensures.ok)
