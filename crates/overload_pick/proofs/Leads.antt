-- Who leads after one candidate more, and that a choice has one answer.
use Rattle.std.proofs.Common.{◌≡◌, ℕ, zero, suc, ◌<◌, ◌≤◌, ◌⊎◌, inl, inr, Option, None, Some, List, [], ◌∷◌, ◌++◌, length, refl, sym, ◌∙◌, ap, subst, arith}
use Rattle.overload_pick.specs.declared.answer.Pick.{Pick}
use Rattle.overload_pick.specs.declared.answer.Pick.TheVariants.{One, Nobody, Tie}
use Rattle.overload_pick.specs.Choice.{sum_at, IsLeast, IsAlone, AreFirst, NoneFits, IsPick, IsThePick}
use Rattle.overload_pick.specs.declared.choosing.Best.{Best}
use Rattle.overload_pick.specs.declared.choosing.Best.TheVariants as best
use Rattle.overload_pick.specs.Best.{LeadsAlone, LeadTogether, IsBest}

some_sum : (one other : ℕ) → Some one ≡ Some other → one ≡ other
some_sum one other e = cc

no_sum : (o : Option ℕ) (sum : ℕ) → o ≡ None → o ≡ Some sum → ⊥
no_sum o sum e f = cc

-- a candidate that fits is there
within : (sums : List (Option ℕ)) (i c : ℕ) → sum_at sums i ≡ Some c → i < length sums
within [] i c e = absurd (no_sum None c refl e)
within (s ∷ ss) zero c e = omega arith
within (s ∷ ss) (suc i) c e = let h = within ss i c e in omega arith

at_end : (sums : List (Option ℕ)) (x : Option ℕ) → sum_at (sums ++ x ∷ []) (length sums) ≡ x
at_end [] x = refl
at_end (s ∷ ss) x = at_end ss x

-- what fitted before fits still
still : (sums : List (Option ℕ)) (x : Option ℕ) (i c : ℕ) → sum_at sums i ≡ Some c → sum_at (sums ++ x ∷ []) i ≡ Some c
still [] x i c e = absurd (no_sum None c refl e)
still (s ∷ ss) x zero c e = e
still (s ∷ ss) x (suc i) c e = still ss x i c e

-- what stands at a number is what stood there, or it is the newest
at_more : (sums : List (Option ℕ)) (x : Option ℕ) (i : ℕ) → (sum_at (sums ++ x ∷ []) i ≡ sum_at sums i) ⊎ ((i ≡ length sums) × (sum_at (sums ++ x ∷ []) i ≡ x))
at_more [] x zero = inr (refl, refl)
at_more [] x (suc i) = inl refl
at_more (s ∷ ss) x zero = inl refl
at_more (s ∷ ss) x (suc i) = elim (at_more ss x i) [ inl e ↦ inl e | inr e ↦ inr (ap suc e.0, e.1) ]

-- what fits fitted before, or it is the newest
was : (sums : List (Option ℕ)) (x : Option ℕ) (i c : ℕ) → sum_at (sums ++ x ∷ []) i ≡ Some c → (sum_at sums i ≡ Some c) ⊎ ((i ≡ length sums) × (x ≡ Some c))
was sums x i c e = elim (at_more sums x i) [ inl same ↦ inl (sym same ∙ e) | inr new ↦ inr (new.0, sym new.1 ∙ e) ]

-- nobody fits still
pub none_stays : (sums : List (Option ℕ)) → NoneFits sums → NoneFits (sums ++ None ∷ [])
none_stays sums none i = elim (at_more sums None i) [ inl same ↦ same ∙ none i | inr new ↦ new.1 ]

leads_least : (sums : List (Option ℕ)) (s other d : ℕ) → ((j c : ℕ) → sum_at sums j ≡ Some c → s < c)
    → (sum_at sums other ≡ Some d) ⊎ ((other ≡ length sums) × (Some s ≡ Some d)) → s ≤ d
leads_least sums s other d below (inl h) = let b = below other d h in omega arith
leads_least sums s other d below (inr h) = let e = some_sum s d h.1 in omega arith

leads_only : (sums : List (Option ℕ)) (s other : ℕ) → ((j c : ℕ) → sum_at sums j ≡ Some c → s < c)
    → (sum_at sums other ≡ Some s) ⊎ ((other ≡ length sums) × (Some s ≡ Some s)) → other ≡ length sums
leads_only sums s other below (inl h) = let b = below other s h in absurd (omega arith)
leads_only sums s other below (inr h) = h.0

-- the newest leads where it has less than all
pub leads : (sums : List (Option ℕ)) (s : ℕ) → ((j c : ℕ) → sum_at sums j ≡ Some c → s < c) → LeadsAlone (sums ++ Some s ∷ []) s (length sums)
leads sums s below = record {
  is_least = record {
    fits = at_end sums (Some s);
    least = λ other d e. leads_least sums s other d below (was sums (Some s) other d e);
  };
  alone = λ other e. leads_only sums s other below (was sums (Some s) other s e);
}

stays_least : (sums : List (Option ℕ)) (x : Option ℕ) (c other d : ℕ) → ((j d : ℕ) → sum_at sums j ≡ Some d → c ≤ d) → ((d : ℕ) → x ≡ Some d → c ≤ d)
    → (sum_at sums other ≡ Some d) ⊎ ((other ≡ length sums) × (x ≡ Some d)) → c ≤ d
stays_least sums x c other d old new (inl h) = old other d h
stays_least sums x c other d old new (inr h) = new d h.1

still_least : (sums : List (Option ℕ)) (x : Option ℕ) (c i : ℕ) → IsLeast sums i c → ((d : ℕ) → x ≡ Some d → c ≤ d) → IsLeast (sums ++ x ∷ []) i c
still_least sums x c i old new = record {
  fits = still sums x i c old.fits;
  least = λ other d e. stays_least sums x c other d old.least new (was sums x other d e);
}

stays_alone : (sums : List (Option ℕ)) (x : Option ℕ) (c i other : ℕ) → LeadsAlone sums c i → ((d : ℕ) → x ≡ Some d → c < d)
    → (sum_at sums other ≡ Some c) ⊎ ((other ≡ length sums) × (x ≡ Some c)) → other ≡ i
stays_alone sums x c i other old new (inl h) = old.alone other h
stays_alone sums x c i other old new (inr h) = let b = new c h.1 in absurd (omega arith)

-- who leads alone leads still where the newest has more, or doesn't fit
pub alone_stays : (sums : List (Option ℕ)) (x : Option ℕ) (c i : ℕ) → LeadsAlone sums c i → ((d : ℕ) → x ≡ Some d → c < d) → LeadsAlone (sums ++ x ∷ []) c i
alone_stays sums x c i old new = record {
  is_least = still_least sums x c i old.is_least (λ d e. let b = new d e in omega arith);
  alone = λ other e. stays_alone sums x c i other old new (was sums x other c e);
}

before_newest : (sums : List (Option ℕ)) (x : Option ℕ) (c other second i : ℕ) → other < second → second ≤ length sums
    → (sum_at sums other ≡ Some c → other ≡ i)
    → (sum_at sums other ≡ Some c) ⊎ ((other ≡ length sums) × (x ≡ Some c)) → other ≡ i
before_newest sums x c other second i h w old (inl e) = old e
before_newest sums x c other second i h w old (inr e) = absurd (omega (arith, e.0))

-- the newest is the second where it has as much as who leads alone
pub second_leads : (sums : List (Option ℕ)) (c i : ℕ) → LeadsAlone sums c i → LeadTogether (sums ++ Some c ∷ []) c i (length sums)
second_leads sums c i old = record {
  rising = within sums i c old.is_least.fits;
  is_least = still_least sums (Some c) c i old.is_least (λ d e. let s = some_sum c d e in omega arith);
  also = at_end sums (Some c);
  none_before = λ other h e. before_newest sums (Some c) c other (length sums) i h (omega arith) (old.alone other) (was sums (Some c) other c e);
}

-- two lead still where the newest hasn't less
pub together_stays : (sums : List (Option ℕ)) (x : Option ℕ) (c i j : ℕ) → LeadTogether sums c i j → ((d : ℕ) → x ≡ Some d → c ≤ d) → LeadTogether (sums ++ x ∷ []) c i j
together_stays sums x c i j old new =
    let w = within sums j c old.also in
    record {
      rising = old.rising;
      is_least = still_least sums x c i old.is_least new;
      also = still sums x j c old.also;
      none_before = λ other h e. before_newest sums x c other j i h (omega arith) (old.none_before other h) (was sums x other c e);
    }

-- all but the newest have more than it where the least of them has
pub more_than : (sums : List (Option ℕ)) (s c i : ℕ) → IsLeast sums i c → s < c → (j d : ℕ) → sum_at sums j ≡ Some d → s < d
more_than sums s c i old h j d e = let b = old.least j d e in omega arith

-- what doesn't fit has no sum
pub nothing_less : (c d : ℕ) → None ≡ Some d → c < d
nothing_less c d e = absurd (no_sum None d refl e)

-- one that doesn't fit changes nothing
pub best_stays : (sums : List (Option ℕ)) (b : Best) → IsBest sums b → IsBest (sums ++ None ∷ []) b
best_stays sums best.Nobody led = none_stays sums led
best_stays sums (best.One c i) led = alone_stays sums None c i led (λ d e. nothing_less c d e)
best_stays sums (best.Tie c i j) led = together_stays sums None c i j led (λ d e. absurd (no_sum None d refl e))

newest : (sums : List (Option ℕ)) (o : Option ℕ) (s n : ℕ) → o ≡ Some s → n ≡ length sums → ((j d : ℕ) → sum_at sums j ≡ Some d → s < d) → LeadsAlone (sums ++ o ∷ []) s n
newest sums o s n e at below = subst (λ m. LeadsAlone (sums ++ o ∷ []) s m) (sym at) (subst (λ x. LeadsAlone (sums ++ x ∷ []) s (length sums)) (sym e) (leads sums s below))

pub first_leads : (sums : List (Option ℕ)) (o : Option ℕ) (s n : ℕ) (b : Best) → o ≡ Some s → n ≡ length sums → IsBest sums b → b ≡ best.Nobody → LeadsAlone (sums ++ o ∷ []) s n
first_leads sums o s n b e at led is =
    let none : NoneFits sums = subst (IsBest sums) is led in
    newest sums o s n e at (λ j d f. absurd (no_sum (sum_at sums j) d (none j) f))

pub less_than_one : (sums : List (Option ℕ)) (o : Option ℕ) (s n c i : ℕ) (b : Best) → o ≡ Some s → n ≡ length sums → IsBest sums b → b ≡ best.One c i → s < c → LeadsAlone (sums ++ o ∷ []) s n
less_than_one sums o s n c i b e at led is h =
    let alone : LeadsAlone sums c i = subst (IsBest sums) is led in
    newest sums o s n e at (more_than sums s c i alone.is_least h)

pub less_than_two : (sums : List (Option ℕ)) (o : Option ℕ) (s n c i j : ℕ) (b : Best) → o ≡ Some s → n ≡ length sums → IsBest sums b → b ≡ best.Tie c i j → s < c → LeadsAlone (sums ++ o ∷ []) s n
less_than_two sums o s n c i j b e at led is h =
    let two : LeadTogether sums c i j = subst (IsBest sums) is led in
    newest sums o s n e at (more_than sums s c i two.is_least h)

pub equal_to_one : (sums : List (Option ℕ)) (o : Option ℕ) (s n c i : ℕ) (b : Best) → o ≡ Some s → n ≡ length sums → IsBest sums b → b ≡ best.One c i → s ≡ c → LeadTogether (sums ++ o ∷ []) c i n
equal_to_one sums o s n c i b e at led is h =
    let alone : LeadsAlone sums c i = subst (IsBest sums) is led in
    subst (λ m. LeadTogether (sums ++ o ∷ []) c i m) (sym at) (subst (λ x. LeadTogether (sums ++ x ∷ []) c i (length sums)) (sym (e ∙ ap Some h)) (second_leads sums c i alone))

pub more_than_one : (sums : List (Option ℕ)) (o : Option ℕ) (s c i : ℕ) (b : Best) → o ≡ Some s → IsBest sums b → b ≡ best.One c i → c < s → LeadsAlone (sums ++ o ∷ []) c i
more_than_one sums o s c i b e led is h =
    let alone : LeadsAlone sums c i = subst (IsBest sums) is led in
    alone_stays sums o c i alone (λ d f. let g = some_sum s d (sym e ∙ f) in omega arith)

pub not_less_than_two : (sums : List (Option ℕ)) (o : Option ℕ) (s c i j : ℕ) (b : Best) → o ≡ Some s → IsBest sums b → b ≡ best.Tie c i j → c ≤ s → LeadTogether (sums ++ o ∷ []) c i j
not_less_than_two sums o s c i j b e led is h =
    let two : LeadTogether sums c i j = subst (IsBest sums) is led in
    together_stays sums o c i j two (λ d f. let g = some_sum s d (sym e ∙ f) in omega arith)

same_least : (sums : List (Option ℕ)) (i j c d : ℕ) → IsLeast sums i c → IsLeast sums j d → c ≡ d
same_least sums i j c d one other =
    let a = one.least j d other.fits in
    let b = other.least i c one.fits in
    omega arith

one_number : (sums : List (Option ℕ)) (i j : ℕ) → IsAlone sums i → IsAlone sums j → j ≡ i
one_number sums i j one other =
    let e = same_least sums i j one.sum other.sum one.is_least other.is_least in
    one.alone j (rw e other.is_least.fits)

not_together : (sums : List (Option ℕ)) (i j k : ℕ) → IsAlone sums i → AreFirst sums j k → ⊥
not_together sums i j k one two =
    let e = same_least sums i j one.sum two.sum one.is_least two.is_least in
    let a : j ≡ i = one.alone j (rw e two.is_least.fits) in
    let b : k ≡ i = one.alone k (rw e two.also) in
    let r = two.rising in
    omega arith

not_none : (sums : List (Option ℕ)) (i c : ℕ) → IsLeast sums i c → NoneFits sums → ⊥
not_none sums i c one none = no_sum (sum_at sums i) c (none i) one.fits

less_or_not : (a b : ℕ) → (a < b) ⊎ (b ≤ a)
less_or_not zero zero = inr (omega arith)
less_or_not zero (suc b) = inl (omega arith)
less_or_not (suc a) zero = inr (omega arith)
less_or_not (suc a) (suc b) = elim (less_or_not a b) [ inl h ↦ inl (omega (arith, h)) | inr h ↦ inr (omega (arith, h)) ]

-- the firsts of two rows are one where each stands before what the other has second
firsts_are_one : (i j k l : ℕ) → i < j → k < l → (k < j → k ≡ i) → (i < l → i ≡ k) → (k < j) ⊎ (j ≤ k) → k ≡ i
firsts_are_one i j k l r s a c (inl h) = a h
firsts_are_one i j k l r s a c (inr h) = sym (c (omega arith))

seconds_above : (i j k l : ℕ) → i < j → k < l → k ≡ i → (l < j → l ≡ i) → (l < j) ⊎ (j ≤ l) → j ≤ l
seconds_above i j k l r s e b (inl h) = let f = b h in absurd (omega arith)
seconds_above i j k l r s e b (inr h) = h

seconds_below : (i j k l : ℕ) → i < j → k < l → k ≡ i → (j < l → j ≡ k) → (j < l) ⊎ (l ≤ j) → l ≤ j
seconds_below i j k l r s e d (inl h) = let f = d h in absurd (omega arith)
seconds_below i j k l r s e d (inr h) = h

one_first : (sums : List (Option ℕ)) (i j k l : ℕ) → AreFirst sums i j → AreFirst sums k l → (k ≡ i) × (l ≡ j)
one_first sums i j k l one other =
    let e = same_least sums i k one.sum other.sum one.is_least other.is_least in
    let a : k < j → k ≡ i = λ h. one.none_before k h (rw e other.is_least.fits) in
    let b : l < j → l ≡ i = λ h. one.none_before l h (rw e other.also) in
    let c : i < l → i ≡ k = λ h. other.none_before i h (rw (← e) one.is_least.fits) in
    let d : j < l → j ≡ k = λ h. other.none_before j h (rw (← e) one.also) in
    let first : k ≡ i = firsts_are_one i j k l one.rising other.rising a c (less_or_not k j) in
    let up = seconds_above i j k l one.rising other.rising first b (less_or_not l j) in
    let down = seconds_below i j k l one.rising other.rising first d (less_or_not j l) in
    (first, omega arith)

both_tied : (i j k l : ℕ) → (k ≡ i) × (l ≡ j) → Tie k l ≡ Tie i j
both_tied i j k l e = rw (e.0, e.1) refl

one_pick : (sums : List (Option ℕ)) (p q : Pick) → IsPick sums p → IsPick sums q → q ≡ p
one_pick sums (One i) (One j) one other = ap One (one_number sums i j one other)
one_pick sums (One i) Nobody one other = absurd (not_none sums i one.sum one.is_least other)
one_pick sums (One i) (Tie k l) one other = absurd (not_together sums i k l one other)
one_pick sums Nobody (One j) one other = absurd (not_none sums j other.sum other.is_least one)
one_pick sums Nobody Nobody one other = refl
one_pick sums Nobody (Tie k l) one other = absurd (not_none sums k other.sum other.is_least one)
one_pick sums (Tie i j) (One k) one other = absurd (not_together sums k i j other one)
one_pick sums (Tie i j) Nobody one other = absurd (not_none sums i one.sum one.is_least other)
one_pick sums (Tie i j) (Tie k l) one other = both_tied i j k l (one_first sums i j k l one other)

-- an answer is the answer
pub the_pick : (sums : List (Option ℕ)) (p : Pick) → IsPick sums p → IsThePick sums p
the_pick sums p is = record { is = is; only = λ q other. one_pick sums p q is other }

-- who leads among all is the answer
pub none_picked : (sums : List (Option ℕ)) (b : Best) → IsBest sums b → b ≡ best.Nobody → IsThePick sums Nobody
none_picked sums b led is =
    let none : NoneFits sums = subst (IsBest sums) is led in
    the_pick sums Nobody none

pub alone_picked : (sums : List (Option ℕ)) (b : Best) (c i : ℕ) → IsBest sums b → b ≡ best.One c i → IsThePick sums (One i)
alone_picked sums b c i led is =
    let one : LeadsAlone sums c i = subst (IsBest sums) is led in
    the_pick sums (One i) (record { sum = c; is_least = one.is_least; alone = one.alone })

pub together_picked : (sums : List (Option ℕ)) (b : Best) (c i j : ℕ) → IsBest sums b → b ≡ best.Tie c i j → IsThePick sums (Tie i j)
together_picked sums b c i j led is =
    let two : LeadTogether sums c i j = subst (IsBest sums) is led in
    the_pick sums (Tie i j) (record { sum = c; rising = two.rising; is_least = two.is_least; also = two.also; none_before = two.none_before })
