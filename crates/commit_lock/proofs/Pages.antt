-- Each step of the book table keeps its rule, and what the steps tell.
use Rattle.std.proofs.Common.{◌≡◌, ℕ, ◌<◌, ◌≤◌, ◌≢◌, List, [], ◌∷◌, length, set, true, false, nat_lt, sym, refl, ap, subst, ◌∙◌, ⊎_elim, arith}
use Rattle.std.proofs.lemmas.Bool.Decides.{nat_tests}
use mathlib.Core.List.{IsPrefix}
use mathlib.Core.Option.{some}
use base.Growing.{prefix_refl, prefix_trans}
use lib.ListN.{get_elem?}
use Rattle.atomic_table.specs.Table.{Me, keeps, opening, Allows, Splits, Joins}
use Rattle.atomic_table.proofs.Lists.{at_set, at_snoc, set_again, set_else}
use Rattle.commit_lock.specs.Views.{BookSeen, page, book_first, book_spent}
use Rattle.commit_lock.specs.Steps.{AreOld, wrote, told, book_copy, longer, book_both}
use Rattle.commit_lock.specs.Rules.{total, Knows, Book}
use Rattle.commit_lock.proofs.Sums.{only_one, total-append, total-set, terms_le}
use Rattle.commit_lock.proofs.Begins.{old_further, picked_within, picked_after}

abbrev pens : BookSeen → ℕ
pens v = v.pens

-- ---- the history that a join keeps

pen_is : (n : ℕ) → 0 < n → nat_lt 0 n ≡ true
pen_is n h = grind (arith, nat_tests)

is_pen : (n : ℕ) → nat_lt 0 n ≡ true → 0 < n
is_pen n e = grind (arith, nat_tests)

is_shorter : (m n : ℕ) → nat_lt m n ≡ true → m ≤ n
is_shorter m n e = grind (arith, nat_tests)

is_longer : (m n : ℕ) → nat_lt m n ≡ false → n ≤ m
is_longer m n e = grind (arith, nat_tests)

pub longer_pen : (v w : BookSeen) → 0 < v.pens → longer v w ≡ v.seen
longer_pen v w h = rw (pen_is v.pens h) refl

pub longer_within : (v w : BookSeen) (last : List ℕ) → IsPrefix v.seen last → IsPrefix w.seen last → IsPrefix (longer v w) last
longer_within v w last p q = picked_within v.seen w.seen last (nat_lt 0 v.pens) (nat_lt (length v.seen) (length w.seen)) p q

longer_after : (v w : BookSeen) (last : List ℕ) → IsPrefix v.seen last → IsPrefix w.seen last → (0 < v.pens → v.seen ≡ last)
    → IsPrefix v.seen (longer v w) × IsPrefix w.seen (longer v w)
longer_after v w last p q all =
    picked_after v.seen w.seen last (nat_lt 0 v.pens) (nat_lt (length v.seen) (length w.seen)) p q
    (λ e. all (is_pen v.pens e))
    (is_shorter (length v.seen) (length w.seen))
    (is_longer (length v.seen) (length w.seen))

-- ---- the rule

module _ (base : List ℕ) where
  spent_knows : (last : List ℕ) → Knows base last book_spent
  spent_knows last = record {
    based = λ h. absurd (omega arith);
    known = (last, refl);
    whole = λ h. absurd (omega arith);
    olds = tt;
  }

  both_knows : (last : List ℕ) (v w : BookSeen) → 0 < v.live → 0 < w.live → Knows base last v → Knows base last w → Knows base last (book_both v w)
  both_knows last v w lv lw kv kw =
      let more = longer_after v w last kv.known kw.known kv.whole in record {
        based = kv.based;
        known = longer_within v w last kv.known kw.known;
        whole = λ h. longer_pen v w h ∙ kv.whole h;
        olds = ((refl, more.0), ((kw.based lw ∙ sym (kv.based lv), more.1), old_further v.base v.seen (longer v w) v.olds more.0 kv.olds));
      }

module _ (base : List ℕ) {S : Type 0} where
  pub book_opens : (words : List ℕ) (hist : List ℕ) → Book base {S = S} (opening words [] (book_first base hist))
  book_opens words hist = record {
    last = hist;
    one_pen = refl;
    each = λ j v e. subst (Knows base hist) (only_one (book_first base hist) j v e) (record { based = λ _. refl; known = prefix_refl hist; whole = λ _. refl; olds = tt });
  }

  pub book_splits : (id : ℕ) (v : BookSeen) → Splits (Book base {S = S}) id v v (book_copy v)
  book_splits id v s r at =
      let same = set_again s.views id v at in
      let kv = r.each id v at in record {
        last = r.last;
        one_pen = omega (arith, total-append pens (set s.views id v) (book_copy v ∷ []), ap (total pens) same, r.one_pen);
        each = λ j u e. ⊎_elim (λ x. r.each j u (subst (λ l. get_elem? l j ≡ some u) same x))
            (λ x. subst (Knows base r.last) x (record { based = kv.based; known = kv.known; whole = λ h. absurd (omega arith); olds = tt }))
            (at_snoc (set s.views id v) (book_copy v) u j e);
      }

  pub book_joins : (id : ℕ) (v : BookSeen) (other : ℕ) (w : BookSeen) → 0 < v.live → 0 < w.live → w.pens ≡ 0 → Joins (Book base {S = S}) id v other w (book_both v w) book_spent
  book_joins id v other w lv lw none s r at apart there =
      let mid = set s.views id (book_both v w) in
      let kv = r.each id v at in
      let kw = r.each other w (sym (set_else s.views id other (book_both v w) apart) ∙ there) in record {
        last = r.last;
        one_pen = omega (arith, total-set pens s.views id v (book_both v w) at, total-set pens mid other w book_spent there, r.one_pen, none);
        each = λ j u e. ⊎_elim (λ (x : (j ≡ other) × (book_spent ≡ u)). subst (Knows base r.last) x.1 (spent_knows base r.last))
            (λ (x : (j ≢ other) × (get_elem? mid j ≡ some u)). ⊎_elim (λ (y : (j ≡ id) × (book_both v w ≡ u)). subst (Knows base r.last) y.1 (both_knows base r.last v w lv lw kv kw))
            (λ (y : (j ≢ id) × (get_elem? s.views j ≡ some u)). r.each j u y.1) (at_set s.views id j (book_both v w) u x.1)) (at_set mid other j book_spent u e);
      }

  pub book_tells : (n id : ℕ) (m : Me S BookSeen) → Allows (Book base {S = S}) n id m 0 (λ x. x) (λ _ k. told m k)
  book_tells n id m s r wide at _ =
      let same = set_again s.views id m.0 at in (
        m.0,
        keeps,
        tt,
        record {
          last = r.last;
          one_pen = ap (total pens) same ∙ r.one_pen;
          each = λ j u e. r.each j u (subst (λ l. get_elem? l j ≡ some u) same e);
        },
        (refl, (r.each id m.0 at).olds),
      )

  pub book_writes : (n id : ℕ) (m : Me S BookSeen) (list : List ℕ) → m.0.pens ≡ 1 → IsPrefix m.0.seen list → Allows (Book base {S = S}) n id m 0 (λ x. x) (λ _ k. wrote list m k)
  book_writes n id m list pen more s r wide at _ =
      let km = r.each id m.0 at in
      let new = page m.0.base list m.0.olds m.0.live m.0.pens in
      let was : m.0.seen ≡ r.last = km.whole (omega arith) in (
        new,
        keeps,
        tt,
        record {
          last = list;
          one_pen = omega (arith, total-set pens s.views id m.0 new at, r.one_pen);
          each = λ j u e. ⊎_elim (λ (x : (j ≡ id) × (new ≡ u)). subst (Knows base list) x.1 (record { based = km.based; known = prefix_refl list; whole = λ _. refl; olds = old_further m.0.base m.0.seen list m.0.olds more km.olds }))
              (λ (x : (j ≢ id) × (get_elem? s.views j ≡ some u)). let ku = r.each j u x.1 in record {
                based = ku.based;
                known = prefix_trans u.seen r.last list ku.known (subst (λ l. IsPrefix l list) was more);
                whole = λ p. absurd (omega (arith, terms_le pens s.views id j m.0 u x.0 at x.1, r.one_pen, pen));
                olds = ku.olds;
              }) (at_set s.views id j new u e);
        },
        refl,
      )

-- what a seat learns that took another in
pub joined_tells : {S : Type 0} (v w : BookSeen) (l : List (ℕ × S)) (m n : Me S BookSeen) → m ≡ (book_both v w, l) → told m n
    → (n ≡ (book_both v w, l)) × (w.base ≡ v.base) × IsPrefix v.seen (longer v w) × IsPrefix w.seen (longer v w)
joined_tells {S} v w l m n is t =
    let old = subst (λ (k : Me S BookSeen). AreOld k.0.base k.0.seen k.0.olds) is t.1 in (t.0 ∙ is, old.1.0.0, old.0.1, old.1.0.1)
