-- Each step of the turn table keeps its rule, and what the steps tell.
use Rattle.std.proofs.Common.{◌≡◌, ℕ, ◌^◌, ◌<◌, ◌≤◌, ◌≢◌, List, [], ◌∷◌, set, get_or, eqb, Option, Some, sym, refl, ap, subst, ◌∙◌, ⊎_elim, arith, length-set, get_or-set_same}
use mathlib.Core.Option.{some, some-injective}
use prog.Atomic.{either}
use lib.ListN.{get_elem?}
use Rattle.atomic_table.specs.Seated.{TableId}
use Rattle.atomic_table.specs.Table.{State, Me, Act, keeps, takes, gives, opening, rest, stepped, carried_after, Valid, Allows, Splits, Joins, Final, Seen}
use Rattle.atomic_table.proofs.Lists.{at_set, at_snoc, set_here, set_again, exchanged}
use Rattle.commit_lock.specs.Views.{TurnSeen, share, turn_spent}
use Rattle.commit_lock.specs.Steps.{took, counted, gave, turn_left, turn_right, turn_both}
use Rattle.commit_lock.specs.Rules.{total, Turns}
use Rattle.commit_lock.proofs.Sums.{only_one, total-append, total-set, term_le, total_le}

abbrev parts : TurnSeen → ℕ
parts v = v.parts

abbrev turn : TurnSeen → ℕ
turn v = v.turn

-- what the rule says of each seat
abbrev Fair : TableId → TurnSeen → Type 0
Fair book v = (v.turn ≤ v.parts) × (0 < v.parts → v.book ≡ book)

abbrev AreFair : TableId → List TurnSeen → Type 0
AreFair book views = (j : ℕ) (v : TurnSeen) → get_elem? views j ≡ some v → Fair book v

each_set : (book : TableId) (views : List TurnSeen) (id : ℕ) (now : TurnSeen) → AreFair book views → Fair book now → AreFair book (set views id now)
each_set book views id now each fair = λ j v e. ⊎_elim (λ (x : (j ≡ id) × (now ≡ v)). subst (Fair book) x.1 fair) (λ (x : (j ≢ id) × (get_elem? views j ≡ some v)). each j v x.1) (at_set views id j now v e)

-- what a badge of one view says of the seat that is made of it
pub badge_is : (v : TurnSeen) (views : List TurnSeen) (book : TableId) (n : ℕ) → views ≡ v ∷ [] → views ≡ share book n 0 ∷ [] → v ≡ share book n 0
badge_is v views book n p q = cc

-- the list of the slots that a seat has, where it has one
pub alone : {P : Type 0} (slots : List (ℕ × P)) (slot : ℕ × P) → slots ≡ slot ∷ [] → slots ≡ slot ∷ rest slots
alone slots slot e = e ∙ ap (λ r. slot ∷ r) (sym (ap rest e))

same_some : {P : Type 0} (a b : P) → Some a ≡ Some b → a ≡ b
same_some a b e = cc

module _ {P : Type 0} (Fits : TableId → P → Type 0) (book : TableId) (whole : ℕ) where
  abbrev Rule : State (Option P) TurnSeen → Type 0
  Rule = Turns book whole (Fits book)

  pub turn_opens : (p : P) → whole < 2 ^ 32 → Fits book p → Rule (opening (0 ∷ []) (Some p ∷ []) (share book whole 0))
  turn_opens p few fits = record {
    one_word = refl;
    few = few;
    parts = omega arith;
    turns = refl;
    most = omega arith;
    each = λ j v e. subst (Fair book) (only_one (share book whole 0) j v e) (omega arith, λ _. refl);
    home = λ _. (p, refl, fits);
  }

  -- a step that changes nothing
  stands : (s : State (Option P) TurnSeen) (id : ℕ) (v : TurnSeen) (l : List (ℕ × Option P)) → Rule s → get_elem? s.views id ≡ some v → Rule (stepped s 0 (get_or s.words 0 0) id l v keeps)
  stands s id v l r at =
      let one = get_or-set_same s.words 0 (get_or s.words 0 0) 0 (omega (arith, r.one_word)) in
      let same = set_again s.views id v at in record {
        one_word = length-set s.words 0 (get_or s.words 0 0) ∙ r.one_word;
        few = r.few;
        parts = ap (total parts) same ∙ r.parts;
        turns = ap (total turn) same ∙ (r.turns ∙ sym one);
        most = omega (arith, one, r.most);
        each = λ j u e. r.each j u (subst (λ l. get_elem? l j ≡ some u) same e);
        home = λ e. r.home (sym one ∙ e);
      }

  pub turn_takes : (n id : ℕ) (m : Me (Option P) TurnSeen) → m.1 ≡ [] → m.0.turn ≡ 0 → 1 ≤ m.0.parts
      → Allows Rule n id m 0 (λ x. either (eqb x 0) 1 x) (λ r k. took Fits m r k)
  turn_takes n id m bare waits some-part s r wide at _ =
      let fair = r.each id m.0 at in
      let found = get_or s.words 0 0 in
      let F : ℕ → Type 0 = λ x. (w : TurnSeen) × (a : Act (Option P)) × Valid s.homes m.1 a × Rule (stepped s 0 x id m.1 w a) × took Fits m found (w, carried_after m.1 a) in
      exchanged found 0 1 F
      (λ free. let h = r.home free in let now = share m.0.book m.0.parts 1 in let one = get_or-set_same s.words 0 1 0 (omega (arith, r.one_word)) in (
        now,
        takes 0 (Some h.0),
        h.1,
        record {
          one_word = length-set s.words 0 1 ∙ r.one_word;
          few = r.few;
          parts = omega (arith, total-set parts s.views id m.0 now at, r.parts);
          turns = omega (arith, total-set turn s.views id m.0 now at, r.turns, one, free, waits);
          most = omega (arith, one);
          each = each_set book s.views id now r.each (some-part, fair.1);
          home = λ e. absurd (omega (arith, one));
        },
        (λ _. (refl, (h.0, ap (λ l. (0, Some h.0) ∷ l) bare, subst (λ b. Fits b h.0) (sym (fair.1 (omega arith))) h.2)), λ ne. absurd (ne free)),
      ))
      (λ busy. (m.0, keeps, tt, stands s id m.0 m.1 r at, (λ free. absurd (busy free), λ _. refl)))

  pub turn_counts : (n id : ℕ) (m : Me (Option P) TurnSeen) → Allows Rule n id m 0 (λ x. x) (λ _ k. counted m k)
  turn_counts n id m s r wide at _ = (m.0, keeps, tt, stands s id m.0 m.1 r at, (refl, omega (arith, term_le parts s.views id m.0 at, r.parts, r.few)))

  pub turn_gives : (n id : ℕ) (m : Me (Option P) TurnSeen) (p : P) → n ≡ 1 → m.1 ≡ (0, Some p) ∷ [] → m.0.turn ≡ 1 → 1 ≤ m.0.parts → Fits m.0.book p
      → Allows Rule n id m 0 (λ _. 0) (λ _ k. gave m k)
  turn_gives n id m p single has turned some-part fits = let v = m.0 in subst (λ (l : List (ℕ × Option P)). Allows Rule n id (v, l) 0 (λ _. 0) (λ _ k. gave (v, l) k)) (sym has) (λ s r wide at _.
      let now = share v.book v.parts 0 in let zero-now = get_or-set_same s.words 0 0 0 (omega (arith, r.one_word)) in (
        now,
        gives,
        tt,
        record {
          one_word = length-set s.words 0 0 ∙ r.one_word;
          few = r.few;
          parts = omega (arith, total-set parts s.views id v now at, r.parts);
          turns = omega (arith, total-set turn s.views id v now at, term_le turn s.views id v at, r.turns, r.most, zero-now, turned);
          most = omega (arith, zero-now);
          each = each_set book s.views id now r.each (omega arith, (r.each id v at).1);
          home = λ _. (p, set_here s.homes 0 (some (Some p)) (omega (arith, wide, single)), subst (λ b. Fits b p) ((r.each id v at).1 (omega arith)) fits);
        },
        refl,
      ))

  pub turn_splits : (id : ℕ) (v : TurnSeen) → v.turn ≡ 0 → 2 ≤ v.parts → Splits Rule id v (turn_left v) (turn_right v)
  turn_splits id v waits two s r at =
      let first = set s.views id (turn_left v) in
      let fair = r.each id v at in
      let known : v.book ≡ book = fair.1 (omega arith) in record {
        one_word = r.one_word;
        few = r.few;
        parts = omega (arith, total-append parts first (turn_right v ∷ []), total-set parts s.views id v (turn_left v) at, r.parts);
        turns = omega (arith, total-append turn first (turn_right v ∷ []), total-set turn s.views id v (turn_left v) at, r.turns);
        most = r.most;
        each = λ j u e. ⊎_elim (each_set book s.views id (turn_left v) r.each (omega arith, λ _. known) j u)
            (λ x. subst (Fair book) x (omega arith, λ _. known))
            (at_snoc first (turn_right v) u j e);
        home = r.home;
      }

  pub turn_joins : (id : ℕ) (v : TurnSeen) (other : ℕ) (w : TurnSeen) → v.turn ≡ 0 → w.turn ≡ 0 → 1 ≤ v.parts → Joins Rule id v other w (turn_both v w) turn_spent
  turn_joins id v other w waits rests some-part s r at apart there =
      let mid = set s.views id (turn_both v w) in
      let fair = r.each id v at in
      let known : v.book ≡ book = fair.1 (omega arith) in record {
        one_word = r.one_word;
        few = r.few;
        parts = omega (arith, total-set parts s.views id v (turn_both v w) at, total-set parts mid other w turn_spent there, r.parts);
        turns = omega (arith, total-set turn s.views id v (turn_both v w) at, total-set turn mid other w turn_spent there, r.turns);
        most = r.most;
        each = each_set book mid other turn_spent (each_set book s.views id (turn_both v w) r.each (omega arith, λ _. known)) (omega arith, λ l. absurd (omega arith));
        home = r.home;
      }

  -- where one seat has all parts, no seat has the turn, and the value is at home
  pub turn_ends : (id : ℕ) (v : TurnSeen) (ws : List ℕ) (xs : List (Option P)) → v.parts ≡ whole → v.turn ≡ 0 → Final (Seen Rule id v) ws xs
      → (p : P) × (get_elem? xs 0 ≡ some (Some p)) × Fits book p
  turn_ends id v ws xs all waits (s, (r, at), words, long, values) =
      let others = set s.views id turn_spent in
      let few = total_le turn parts others (λ j u e. (each_set book s.views id turn_spent r.each (omega arith, λ l. absurd (omega arith)) j u e).0) in
      let h = r.home (omega (arith, few, total-set parts s.views id v turn_spent at, total-set turn s.views id v turn_spent at, r.parts, r.turns)) in
      (h.0, values 0 (Some h.0) h.1, h.2)

  -- so the slot is full, and what is found in it fits
  pub turn_closes : (id : ℕ) (v : TurnSeen) (ws : List ℕ) (xs : List (Option P)) → v.parts ≡ whole → v.turn ≡ 0 → Final (Seen Rule id v) ws xs
      → (x : Option P) → get_elem? xs 0 ≡ some x → (p : P) × (x ≡ Some p) × Fits book p
  turn_closes id v ws xs all waits final x there =
      let h = turn_ends id v ws xs all waits final in (h.0, some-injective x (Some h.0) (sym there ∙ h.1), h.2)

  pub turn_found : (id : ℕ) (v : TurnSeen) (ws : List ℕ) (xs : List (Option P)) → v.parts ≡ whole → v.turn ≡ 0 → Final (Seen Rule id v) ws xs
      → (x : Option P) → get_elem? xs 0 ≡ some x → (p : P) → x ≡ Some p → Fits book p
  turn_found id v ws xs all waits final x there p is =
      let h = turn_closes id v ws xs all waits final x there in subst (Fits book) (same_some h.0 p (sym h.1 ∙ is)) h.2
