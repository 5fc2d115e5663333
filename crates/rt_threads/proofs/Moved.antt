use Rattle.std.proofs.Common.{◌≡◌, ap₂, inl, inr, ℕ, zero, suc, ◌<◌, ◌≤◌, List, [], ◌∷◌, ◌++◌, Option, Some, None, length, get_or, set, map, drop, refl, ap, sym, subst, ◌∙◌, arith}
use Rattle.rt_threads.specs.declared.queues.Ends.{Ends}
use Rattle.rt_threads.specs.Lists.{Lists, times, first_of, StandsNowhere}
use Rattle.rt_threads.specs.Linked.{first_link, last_link, line_of, line_at, Lies, last_of, linked, joined, shortened, IsLinked, LastIsWithin}
use Rattle.rt_threads.proofs.Times.{times_here, times_push_same, times_push_other, spread}
use Rattle.rt_threads.proofs.Lines.{walk_none, length_walk, walk_lies, Lies_same, last_times, last_push, lies_joined, linked_other, length_linked}
use Rattle.std.proofs.lemmas.List.{get_or-set_same, get_or-set_other, length-set, length-map, get_or-map, get_or_past, get_or_read, get_or_append_left, length_push, ext_get_or, map-append}
use Rattle.std.proofs.lemmas.Bool.{cases_eq, cases_lt}

-- What the queues are after a member came or went.

pub list_at : (b : List (Option ℕ)) (ends : List (Option Ends)) (k : ℕ) → get_or (map (line_of b) ends) k [] ≡ line_at b ends k
list_at b ends k =
    elim (cases_lt k (length ends)) [
      | inl h ↦ get_or-map (line_of b) ends k None [] h
      | inr h ↦ get_or_past (map (line_of b) ends) k [] (omega (arith, length-map ends (line_of b))) ∙ sym (ap (line_of b) (get_or_past ends k None h) ∙ walk_none (length b) b)
    ]

-- From some queues to others in which one alone is new.
pub record Changed (b b' : List (Option ℕ)) (ends ends' : List (Option Ends)) (q : ℕ) (new : List ℕ) : Type 0 where
  pub here : line_at b' ends' q ≡ new
  pub other : (k : ℕ) → (k ≡ q → ⊥) → line_at b' ends' k ≡ line_at b ends k
  pub lies : (k : ℕ) → Lies b' (first_link (get_or ends' k None)) (line_at b' ends' k)
  pub last : (k : ℕ) → last_of (line_at b' ends' k) ≡ last_link (get_or ends' k None)
  pub size : length b' ≡ length b
  pub count : length ends' ≡ length ends

pub changed_lists : {b b' : List (Option ℕ)} {ends ends' : List (Option Ends)} {q : ℕ} {new : List ℕ} → Changed b b' ends ends' q new → q < length ends → map (line_of b') ends' ≡ set (map (line_of b) ends) q new
changed_lists {b} {b'} {ends} {ends'} {q} {new} c hq =
    let long : q < length (map (line_of b) ends) = omega (arith, length-map ends (line_of b)) in
    ext_get_or [] (map (line_of b') ends') (set (map (line_of b) ends) q new)
    (omega (arith, length-map ends' (line_of b'), length-set (map (line_of b) ends) q new, length-map ends (line_of b), c.count))
    (λ i h. elim (cases_eq i q) [
      | inl e ↦ list_at b' ends' i ∙ (ap (line_at b' ends') e ∙ (c.here ∙ (sym (get_or-set_same (map (line_of b) ends) q new [] long) ∙ ap (λ z. get_or (set (map (line_of b) ends) q new) z []) (sym e))))
      | inr n ↦ list_at b' ends' i ∙ (c.other i n ∙ (sym (list_at b ends i) ∙ sym (get_or-set_other (map (line_of b) ends) q i new [] n)))
    ])

-- fewer members stand there
pub linked_fewer : {b b' : List (Option ℕ)} {ends ends' : List (Option Ends)} {q : ℕ} {new : List ℕ} → Changed b b' ends ends' q new → IsLinked b ends → ((t : ℕ) → times t new ≤ times t (line_at b ends q)) → IsLinked b' ends'
linked_fewer {b} {b'} {ends} {ends'} {q} {new} c l fewer =
    let less : (k t : ℕ) → times t (line_at b' ends' k) ≤ times t (line_at b ends k) = λ k t. elim (cases_eq k q) [
      | inl e ↦ rw (e, c.here) (fewer t)
      | inr n ↦ rw (c.other k n) (omega arith)
    ] in
    record {
      lies = c.lies;
      last = c.last;
      within = λ k t h. omega (arith, l.within k t, less k t, c.size);
      once = λ k t. omega (arith, l.once k t, less k t);
      apart = λ j k t n. omega (arith, l.apart j k t n, less j t, less k t);
    }

-- one more member, who stood nowhere, stands at the end
pub linked_more : {b b' : List (Option ℕ)} {ends ends' : List (Option Ends)} {q t : ℕ} → Changed b b' ends ends' q (line_at b ends q ++ t ∷ []) → IsLinked b ends → t < length b → ((k : ℕ) → times t (line_at b ends k) ≡ 0) → IsLinked b' ends'
linked_more {b} {b'} {ends} {ends'} {q} {t} c l ht nowhere =
    let old : (k x : ℕ) → (x ≡ t → ⊥) → times x (line_at b' ends' k) ≡ times x (line_at b ends k) = λ k x n. elim (cases_eq k q) [
      | inl e ↦ rw (e, c.here) (times_push_other x t (line_at b ends q) (λ h. n (sym h)))
      | inr m ↦ rw (c.other k m) refl
    ] in
    let one : (k : ℕ) → times t (line_at b' ends' k) ≤ 1 = λ k. elim (cases_eq k q) [
      | inl e ↦ rw (e, c.here) (omega (arith, times_push_same t (line_at b ends q), nowhere q))
      | inr m ↦ rw (c.other k m) (omega (arith, nowhere k))
    ] in
    let none : (k : ℕ) → (k ≡ q → ⊥) → times t (line_at b' ends' k) ≡ 0 = λ k n. rw (c.other k n) (nowhere k) in
    record {
      lies = c.lies;
      last = c.last;
      within = λ k x h. elim (cases_eq x t) [ inl e ↦ omega (arith, c.size) | inr n ↦ omega (arith, l.within k x, old k x n, c.size) ];
      once = λ k x. elim (cases_eq x t) [ inl e ↦ rw e (one k) | inr n ↦ omega (arith, l.once k x, old k x n) ];
      apart = λ j k x n. elim (cases_eq x t) [
        | inl e ↦ rw e (elim (cases_eq j q) [
          | inl f ↦ omega (arith, one j, none k (λ g. n (f ∙ sym g)))
          | inr m ↦ omega (arith, one k, none j m)
        ])
        | inr m ↦ omega (arith, l.apart j k x n, old j x m, old k x m)
      ];
    }

joined_last : (e : Option Ends) (t : ℕ) → (joined e t).last ≡ t
joined_last None t = refl
joined_last (Some e) t = refl

pub push_changed : (b : List (Option ℕ)) (ends : List (Option Ends)) (q t : ℕ) → IsLinked b ends → q < length ends → t < length b → ((k : ℕ) → times t (line_at b ends k) ≡ 0) → Changed b (linked b (get_or ends q None) t) ends (set ends q (Some (joined (get_or ends q None) t))) q (line_at b ends q ++ t ∷ [])
push_changed b ends q t l hq ht nowhere =
    let e = get_or ends q None in
    let b' = linked b e t in
    let ends' = set ends q (Some (joined e t)) in
    let same : get_or ends' q None ≡ Some (joined e t) = get_or-set_same ends q (Some (joined e t)) None hq in
    let others : (k : ℕ) → (k ≡ q → ⊥) → get_or ends' k None ≡ get_or ends k None = λ k n. get_or-set_other ends q k (Some (joined e t)) None n in
    let lie : Lies b' (Some (joined e t).first) (line_at b ends q ++ t ∷ []) = lies_joined b e (line_at b ends q) t ht (l.within q) (l.once q) (nowhere q) (l.last q) (l.lies q) in
    let short : length (line_at b ends q ++ t ∷ []) ≤ length b' = rw (length_linked b e t) (spread (length b) (line_at b ends q ++ t ∷ [])
    (λ x. elim (cases_eq x t) [ inl h ↦ rw h (omega (arith, times_push_same t (line_at b ends q), nowhere q)) | inr n ↦ omega (arith, times_push_other x t (line_at b ends q) (λ h. n (sym h)), l.once q x) ])
    (λ x has. elim (cases_eq x t) [ inl h ↦ omega arith | inr n ↦ omega (arith, times_push_other x t (line_at b ends q) (λ h. n (sym h)), l.within q x) ])) in
    let here : line_at b' ends' q ≡ line_at b ends q ++ t ∷ [] = ap (line_of b') same ∙ walk_lies b' (length b') (Some (joined e t).first) (line_at b ends q ++ t ∷ []) lie short in
    let lies_other : (k : ℕ) → (k ≡ q → ⊥) → Lies b' (first_link (get_or ends k None)) (line_at b ends k) = λ k n. Lies_same b b' (first_link (get_or ends k None)) (line_at b ends k) (λ x h. linked_other b e (line_at b ends q) t x (l.last q) (λ g. omega (arith, nowhere k, ap (λ z. times z (line_at b ends k)) g)) (omega (arith, l.apart k q x n))) (l.lies k) in
    let other : (k : ℕ) → (k ≡ q → ⊥) → line_at b' ends' k ≡ line_at b ends k = λ k n. ap (line_of b') (others k n) ∙ walk_lies b' (length b') (first_link (get_or ends k None)) (line_at b ends k) (lies_other k n) (omega (arith, length_walk (length b) b (first_link (get_or ends k None)), length_linked b e t)) in
    record {
      here = here;
      other = other;
      lies = λ k. elim (cases_eq k q) [
        | inl h ↦ rw (h, here, same) lie
        | inr n ↦ rw (other k n, others k n) (lies_other k n)
      ];
      last = λ k. elim (cases_eq k q) [
        | inl h ↦ rw (h, here, same) (last_push (line_at b ends q) t ∙ ap Some (sym (joined_last e t)))
        | inr n ↦ rw (other k n, others k n) (l.last k)
      ];
      size = length_linked b e t;
      count = length-set ends q (Some (joined e t));
    }

-- what is left of a queue once its first member is taken
pub record Popped (b : List (Option ℕ)) (ends : Ends) (queue : List ℕ) : Type 0 where
  pub first : first_of queue ≡ Some ends.first
  pub lies : Lies b (first_link (shortened (get_or b ends.first None) ends)) (drop 1 queue)
  pub last : last_of (drop 1 queue) ≡ last_link (shortened (get_or b ends.first None) ends)
  pub has : 0 < times ends.first queue

pub popped : (b : List (Option ℕ)) (ends : Ends) (queue : List ℕ) → Lies b (Some ends.first) queue → last_of queue ≡ Some ends.last → Popped b ends queue
popped b ends [] lies last = cc
popped b ends (x ∷ []) lies last =
    let e : ends.first ≡ x = cc in
    let n : get_or b ends.first None ≡ None = ap (λ z. get_or b z None) e ∙ lies.1 in
    record { first = ap Some (sym e); lies = rw n refl; last = rw n refl; has = omega (arith, times_here ends.first x [] (sym e)) }
popped b ends (x ∷ (y ∷ r)) lies last =
    let e : ends.first ≡ x = cc in
    let n : get_or b ends.first None ≡ Some y = ap (λ z. get_or b z None) e ∙ lies.1.0 in
    record { first = ap Some (sym e); lies = rw n (refl, lies.1.1); last = rw n last; has = omega (arith, times_here ends.first x (y ∷ r) (sym e)) }

pub times_rest : (t : ℕ) (xs : List ℕ) → times t (drop 1 xs) ≤ times t xs
times_rest t [] = omega arith
times_rest t (x ∷ xs) = omega arith

pub length_rest : (xs : List ℕ) → length (drop 1 xs) ≤ length xs
length_rest [] = omega arith
length_rest (x ∷ xs) = omega arith

pub pop_popped : (b : List (Option ℕ)) (ends : List (Option Ends)) (q : ℕ) (e : Ends) → IsLinked b ends → get_or ends q None ≡ Some e → Popped b e (line_at b ends q)
pop_popped b ends q e l is =
    popped b e (line_at b ends q) (subst (λ (z : Option Ends). Lies b (first_link z) (line_at b ends q)) is (l.lies q)) (l.last q ∙ ap last_link is)

pub pop_changed : (b : List (Option ℕ)) (ends : List (Option Ends)) (q : ℕ) (e : Ends) → IsLinked b ends → q < length ends → get_or ends q None ≡ Some e → Changed b b ends (set ends q (shortened (get_or b e.first None) e)) q (drop 1 (line_at b ends q))
pop_changed b ends q e l hq is =
    let p = pop_popped b ends q e l is in
    let s = shortened (get_or b e.first None) e in
    let ends' = set ends q s in
    let same : get_or ends' q None ≡ s = get_or-set_same ends q s None hq in
    let others : (k : ℕ) → (k ≡ q → ⊥) → get_or ends' k None ≡ get_or ends k None = λ k n. get_or-set_other ends q k s None n in
    let here : line_at b ends' q ≡ drop 1 (line_at b ends q) = ap (line_of b) same ∙ walk_lies b (length b) (first_link s) (drop 1 (line_at b ends q)) p.lies (omega (arith, length_rest (line_at b ends q), length_walk (length b) b (first_link (get_or ends q None)))) in
    record {
      here = here;
      other = λ k n. ap (line_of b) (others k n);
      lies = λ k. elim (cases_eq k q) [
        | inl h ↦ rw (h, here, same) p.lies
        | inr n ↦ rw (others k n) (l.lies k)
      ];
      last = λ k. elim (cases_eq k q) [
        | inl h ↦ rw (h, here, same) p.last
        | inr n ↦ rw (others k n) (l.last k)
      ];
      size = refl;
      count = length-set ends q s;
    }

-- one more queue, without members
pub none_push : (ends : List (Option Ends)) (k : ℕ) → get_or (ends ++ None ∷ []) k None ≡ get_or ends k None
none_push [] zero = refl
none_push [] (suc k) = refl
none_push (x ∷ xs) zero = refl
none_push (x ∷ xs) (suc k) = none_push xs k

pub linked_queue : (b : List (Option ℕ)) (ends : List (Option Ends)) → IsLinked b ends → IsLinked b (ends ++ None ∷ [])
linked_queue b ends l = record {
  lies = λ k. rw (none_push ends k) (l.lies k);
  last = λ k. rw (none_push ends k) (l.last k);
  within = λ k t. rw (none_push ends k) (l.within k t);
  once = λ k t. rw (none_push ends k) (l.once k t);
  apart = λ j k t. rw (none_push ends j, none_push ends k) (l.apart j k t);
}

pub lists_queue : (b : List (Option ℕ)) (ends : List (Option Ends)) → map (line_of b) (ends ++ None ∷ []) ≡ map (line_of b) ends ++ [] ∷ []
lists_queue b ends = map-append (line_of b) ends (None ∷ []) ∙ ap (λ (z : List ℕ). map (line_of b) ends ++ z ∷ []) (walk_none (length b) b)

-- one more member, who stands nowhere
pub line_member : (b : List (Option ℕ)) (ends : List (Option Ends)) → IsLinked b ends → (k : ℕ) → Lies (b ++ None ∷ []) (first_link (get_or ends k None)) (line_at b ends k) × (line_at (b ++ None ∷ []) ends k ≡ line_at b ends k)
line_member b ends l k =
    let lie : Lies (b ++ None ∷ []) (first_link (get_or ends k None)) (line_at b ends k) = Lies_same b (b ++ None ∷ []) (first_link (get_or ends k None)) (line_at b ends k) (λ x h. get_or_append_left b (None ∷ []) None x (l.within k x h)) (l.lies k) in
    (lie, walk_lies (b ++ None ∷ []) (length (b ++ None ∷ [])) (first_link (get_or ends k None)) (line_at b ends k) lie (omega (arith, length_push b None, length_walk (length b) b (first_link (get_or ends k None)))))

pub linked_member : (b : List (Option ℕ)) (ends : List (Option Ends)) → IsLinked b ends → IsLinked (b ++ None ∷ []) ends
linked_member b ends l =
    let same : (k : ℕ) → line_at (b ++ None ∷ []) ends k ≡ line_at b ends k = λ k. (line_member b ends l k).1 in
    record {
      lies = λ k. rw (same k) ((line_member b ends l k).0);
      last = λ k. rw (same k) (l.last k);
      within = λ k t h. omega (arith, length_push b None, l.within k t (rw (same k) at h));
      once = λ k t. rw (same k) (l.once k t);
      apart = λ j k t. rw (same j, same k) (l.apart j k t);
    }

pub lists_member : (b : List (Option ℕ)) (ends : List (Option Ends)) → IsLinked b ends → map (line_of (b ++ None ∷ [])) ends ≡ map (line_of b) ends
lists_member b ends l =
    ext_get_or [] (map (line_of (b ++ None ∷ [])) ends) (map (line_of b) ends) (length-map ends (line_of (b ++ None ∷ [])) ∙ sym (length-map ends (line_of b)))
    (λ i h. list_at (b ++ None ∷ []) ends i ∙ ((line_member b ends l i).1 ∙ sym (list_at b ends i)))

pub linked_first : IsLinked (None ∷ []) (None ∷ [])
linked_first =
    let none : (k : ℕ) → get_or {A = Option Ends} (None ∷ []) k None ≡ None = λ k. none_push [] k in
    record {
      lies = λ k. rw (none k) refl;
      last = λ k. rw (none k) refl;
      within = λ k t. rw (none k) (λ h. omega arith);
      once = λ k t. rw (none k) (omega arith);
      apart = λ j k t n. rw (none j, none k) (omega arith);
    }

-- What a push leaves, for queues that are seen as some lists.
pub record IsPushed (b : List (Option ℕ)) (ends : List (Option Ends)) (q t : ℕ) (e : Option Ends) (old : Lists) : Type 0 where
  pub last : LastIsWithin e (length b)
  pub stands : IsLinked (linked b e t) (set ends q (Some (joined e t)))
  pub lists : map (line_of (linked b e t)) (set ends q (Some (joined e t))) ≡ set old.lists q (get_or old.lists q [] ++ t ∷ [])
  pub members : length (linked b e t) ≡ old.members

last_within : (b : List (Option ℕ)) (e : Option Ends) (queue : List ℕ) → last_of queue ≡ last_link e → ((t : ℕ) → 0 < times t queue → t < length b) → LastIsWithin e (length b)
last_within b None queue is within = tt
last_within b (Some e) queue is within = within e.last (last_times queue e.last is)

pub push_step : (b : List (Option ℕ)) (ends : List (Option Ends)) (q t : ℕ) (e : Option Ends) (old : Lists) → record { lists = map (line_of b) ends; members = length b } ≡ old → IsLinked b ends → q < length old.lists → t < old.members → StandsNowhere t old.lists → e ≡ get_or ends q e → IsPushed b ends q t e old
push_step b ends q t e old view l hq ht nowhere read =
    let lists : map (line_of b) ends ≡ old.lists = ap (λ (z : Lists). z.lists) view in
    let members : length b ≡ old.members = ap (λ (z : Lists). z.members) view in
    let hk : q < length ends = omega (arith, ap (λ (z : List (List ℕ)). length z) lists, length-map ends (line_of b)) in
    let is : e ≡ get_or ends q None = get_or_read ends q e hk read None in
    let none : (k : ℕ) → times t (line_at b ends k) ≡ 0 = λ k. ap (times t) (sym (list_at b ends k) ∙ ap (λ (z : List (List ℕ)). get_or z k []) lists) ∙ nowhere k in
    let c = push_changed b ends q t l hk (omega arith) none in
    let here : line_at b ends q ≡ get_or old.lists q [] = sym (list_at b ends q) ∙ ap (λ (z : List (List ℕ)). get_or z q []) lists in
    record {
      last = last_within b e (line_at b ends q) (l.last q ∙ ap last_link (sym is)) (l.within q);
      stands = rw is (linked_more c l (omega arith) none);
      lists = rw is (changed_lists c hk ∙ ap₂ (λ (x : List (List ℕ)) (y : List ℕ). set x q (y ++ t ∷ [])) lists here);
      members = length_linked b e t ∙ members;
    }

-- What a pop leaves.
pub record IsPopped (b : List (Option ℕ)) (ends : List (Option Ends)) (q : ℕ) (e : Ends) (second : Option ℕ) (old : Lists) : Type 0 where
  pub first : first_of (get_or old.lists q []) ≡ Some e.first
  pub stands : IsLinked b (set ends q (shortened second e))
  pub lists : map (line_of b) (set ends q (shortened second e)) ≡ set old.lists q (drop 1 (get_or old.lists q []))

pub pop_within : (b : List (Option ℕ)) (ends : List (Option Ends)) (q : ℕ) (e : Ends) (old : Lists) → record { lists = map (line_of b) ends; members = length b } ≡ old → IsLinked b ends → q < length old.lists → Some e ≡ get_or ends q (Some e) → e.first < length b
pop_within b ends q e old view l hq read =
    let lists : map (line_of b) ends ≡ old.lists = ap (λ (z : Lists). z.lists) view in
    let hk : q < length ends = omega (arith, ap (λ (z : List (List ℕ)). length z) lists, length-map ends (line_of b)) in
    let is : get_or ends q None ≡ Some e = sym (get_or_read ends q (Some e) hk read None) in
    l.within q e.first (pop_popped b ends q e l is).has

pub pop_step : (b : List (Option ℕ)) (ends : List (Option Ends)) (q : ℕ) (e : Ends) (second : Option ℕ) (old : Lists) → record { lists = map (line_of b) ends; members = length b } ≡ old → IsLinked b ends → q < length old.lists → Some e ≡ get_or ends q (Some e) → second ≡ get_or b e.first second → IsPopped b ends q e second old
pop_step b ends q e second old view l hq read next =
    let lists : map (line_of b) ends ≡ old.lists = ap (λ (z : Lists). z.lists) view in
    let hk : q < length ends = omega (arith, ap (λ (z : List (List ℕ)). length z) lists, length-map ends (line_of b)) in
    let is : get_or ends q None ≡ Some e = sym (get_or_read ends q (Some e) hk read None) in
    let p = pop_popped b ends q e l is in
    let c = pop_changed b ends q e l hk is in
    let snd : second ≡ get_or b e.first None = get_or_read b e.first second (l.within q e.first p.has) next None in
    let here : line_at b ends q ≡ get_or old.lists q [] = sym (list_at b ends q) ∙ ap (λ (z : List (List ℕ)). get_or z q []) lists in
    record {
      first = ap first_of (sym here) ∙ p.first;
      stands = rw snd (linked_fewer c l (λ t. times_rest t (line_at b ends q)));
      lists = rw snd (changed_lists c hk ∙ ap₂ (λ (x : List (List ℕ)) (y : List ℕ). set x q (drop 1 y)) lists here);
    }

-- whether a queue is empty shows at its ends
pub empty_none : (b : List (Option ℕ)) (ends : List (Option Ends)) (q : ℕ) (old : Lists) → record { lists = map (line_of b) ends; members = length b } ≡ old → get_or ends q None ≡ None → first_of (get_or old.lists q []) ≡ None
empty_none b ends q old view is =
    let lists : map (line_of b) ends ≡ old.lists = ap (λ (z : Lists). z.lists) view in
    ap first_of (ap (λ (z : List (List ℕ)). get_or z q []) (sym lists) ∙ (list_at b ends q ∙ (ap (line_of b) is ∙ walk_none (length b) b)))

pub not_empty : (b : List (Option ℕ)) (ends : List (Option Ends)) (q : ℕ) (e : Ends) (old : Lists) → record { lists = map (line_of b) ends; members = length b } ≡ old → IsLinked b ends → get_or ends q None ≡ Some e → first_of (get_or old.lists q []) ≡ Some e.first
not_empty b ends q e old view l is =
    let lists : map (line_of b) ends ≡ old.lists = ap (λ (z : Lists). z.lists) view in
    ap first_of (ap (λ (z : List (List ℕ)). get_or z q []) (sym lists) ∙ list_at b ends q) ∙ (pop_popped b ends q e l is).first
