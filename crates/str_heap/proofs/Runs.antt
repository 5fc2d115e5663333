-- Runs of free blocks that lie in order: their blocks, and what taking and adding some makes of them.
use Rattle.std.proofs.Common.{◌≡◌, ℕ, zero, suc, ◌+◌, ◌-◌, ◌<◌, ◌≤◌, ◌^◌, ltb, leb, Bool, true, false, not, ◌&&◌, ◌||◌, List, [], ◌∷◌, ◌++◌, length, take, drop, get_or, refl, sym, ap, subst, ◌∙◌, arith, le-leb, lt-ltb, leb-true, ltb-true, ltb-false, length-append, length-take, Option, None, Some, option_map, set, ◌⊎◌, inl, inr}
use Rattle.std.proofs.Math.Seq.{drop-cons}
use Rattle.std.proofs.lemmas.List.{take-append-drop, append_assoc, set_split, drop_all}
use Rattle.std.proofs.lemmas.List.Edits.{remove-append_right}
use Rattle.std.specs.List.{remove}
use Rattle.std.proofs.lemmas.Bool.{false≢true}
use Rattle.std.proofs.lemmas.Bool.Decides.{nat_tests}
use Rattle.str_heap.specs.declared.holes.Hole.{Hole}
use Rattle.str_heap.specs.Blocks.{IsSpaced, is_free, within, before, fit_at, Adds, Removes}

pub by_test : {X : Type 0} (t : Bool) → (t ≡ true → X) → (t ≡ false → X) → X
by_test true y n = y refl
by_test false y n = n refl

pub by_order : {X : Type 0} (a b : ℕ) → (a < b → X) → (b ≤ a → X) → X
by_order a b y n = by_test (ltb a b) (λ t. y (ltb-true a b t)) (λ t. n (ltb-false a b t))

-- the place behind the last run, with a block between
abbrev pub after : ℕ → List Hole → ℕ
after low [] = low
after low (h ∷ hs) = after (h.place + h.size + 1) hs

pub split_spaced : (xs ys : List Hole) (low : ℕ) → IsSpaced low (xs ++ ys) → IsSpaced low xs × IsSpaced (after low xs) ys
split_spaced [] ys low s = (tt, s)
split_spaced (x ∷ xs) ys low s = let rest = split_spaced xs ys (x.place + x.size + 1) s.3 in ((s.0, s.1, s.2, rest.0), rest.1)

pub join_spaced : (xs ys : List Hole) (low : ℕ) → IsSpaced low xs → IsSpaced (after low xs) ys → IsSpaced low (xs ++ ys)
join_spaced [] ys low s t = t
join_spaced (x ∷ xs) ys low s t = (s.0, s.1, s.2, join_spaced xs ys (x.place + x.size + 1) s.3 t)

pub lower_spaced : (hs : List Hole) (low low' : ℕ) → low' ≤ low → IsSpaced low hs → IsSpaced low' hs
lower_spaced [] low low' below s = tt
lower_spaced (h ∷ hs) low low' below s = ((let above = s.0 in omega arith), s.1, s.2, s.3)

pub within-true : (p n b : ℕ) → within p n b ≡ true → (p ≤ b) × (b < p + n)
within-true p n b e = by_test (leb p b) (λ above. (leb-true p b above, by_test (ltb b (p + n)) (λ below. ltb-true b (p + n) below) (λ f. absurd (false≢true (rw (above, f) at e)))))
    (λ f. absurd (false≢true (rw f at e)))

pub within-here : (p n b : ℕ) → p ≤ b → b < p + n → within p n b ≡ true
within-here p n b above below = rw (le-leb p b above, lt-ltb b (p + n) below) refl

pub within-false : (p n b : ℕ) → (p ≤ b → b < p + n → ⊥) → within p n b ≡ false
within-false p n b out = by_test (within p n b) (λ e. let w = within-true p n b e in absurd (out w.0 w.1)) (λ e. e)

-- a run is its front and its back
pub within-add : (p m n b : ℕ) → within p (m + n) b ≡ (within p m b || within (p + m) n b)
within-add p m n b = grind (arith, nat_tests)

pub within-cut : (p m n b : ℕ) → n ≤ m → within (p + n) (m - n) b ≡ (within p m b && not (within p n b))
within-cut p m n b some = grind (arith, nat_tests)

pub is_free-append : (xs ys : List Hole) (b : ℕ) → is_free (xs ++ ys) b ≡ (is_free xs b || is_free ys b)
is_free-append [] ys b = refl
is_free-append (x ∷ xs) ys b = by_test (within x.place x.size b) (λ e. rw e refl) (λ e. rw e (is_free-append xs ys b))

pub free-here : (xs : List Hole) (h : Hole) (ys : List Hole) (b : ℕ) → h.place ≤ b → b < h.place + h.size → is_free (xs ++ h ∷ ys) b ≡ true
free-here [] h ys b above below = rw (within-here h.place h.size b above below) refl
free-here (x ∷ xs) h ys b above below = by_test (within x.place x.size b) (λ e. rw e refl) (λ e. rw e (free-here xs h ys b above below))

pub free-above : (hs : List Hole) (low b : ℕ) → IsSpaced low hs → is_free hs b ≡ true → low ≤ b
free-above [] low b s f = absurd (false≢true f)
free-above (h ∷ hs) low b s f =
    by_test (within h.place h.size b) (λ e. let w = within-true h.place h.size b e in omega (arith, s.0))
    (λ e. omega (arith, s.0, free-above hs (h.place + h.size + 1) b s.3 (rw e at f)))

after-above : (hs : List Hole) (low : ℕ) → IsSpaced low hs → low ≤ after low hs
after-above [] low s = omega arith
after-above (h ∷ hs) low s = omega (arith, s.0, after-above hs (h.place + h.size + 1) s.3)

pub free-below : (hs : List Hole) (low b : ℕ) → IsSpaced low hs → is_free hs b ≡ true → b + 1 < after low hs
free-below [] low b s f = absurd (false≢true f)
free-below (h ∷ hs) low b s f =
    by_test (within h.place h.size b) (λ e. let w = within-true h.place h.size b e in omega (arith, after-above hs (h.place + h.size + 1) s.3))
    (λ e. free-below hs (h.place + h.size + 1) b s.3 (rw e at f))

-- no block is free both before a run and behind it
pub not_free : (t : Bool) → (t ≡ true → ⊥) → t ≡ false
not_free true out = absurd (out refl)
not_free false out = refl

pub split_at : (hs : List Hole) (i : ℕ) (d : Hole) → i < length hs → hs ≡ take i hs ++ (get_or hs i d ∷ drop (suc i) hs)
split_at [] i d lt = absurd (omega arith)
split_at (h ∷ hs) zero d lt = refl
split_at (h ∷ hs) (suc i) d lt = ap (λ t. h ∷ t) (split_at hs i d (omega arith))

pub suc_of : (o : Option ℕ) (i : ℕ) → option_map suc o ≡ Some i → (j : ℕ) × (o ≡ Some j) × (suc j ≡ i)
suc_of None i e = absurd cc
suc_of (Some j) i e = (j, refl, cc)

pub fit_at-fits : (n : ℕ) (hs : List Hole) (i : ℕ) (d : Hole) → fit_at n hs ≡ Some i → (i < length hs) × (n ≤ (get_or hs i d).size)
fit_at-fits n [] i d e = absurd cc
fit_at-fits n (h ∷ hs) i d e =
    by_test (leb n h.size)
    (λ t. let z : 0 ≡ i = (let e' : Some 0 ≡ Some i = rw t at e in cc) in subst (λ (k : ℕ). (k < length (h ∷ hs)) × (n ≤ (get_or (h ∷ hs) k d).size)) z (omega arith, leb-true n h.size t))
    (λ t. let j = suc_of (fit_at n hs) i (rw t at e) in let r = fit_at-fits n hs j.0 d j.1 in
    subst (λ (k : ℕ). (k < length (h ∷ hs)) × (n ≤ (get_or (h ∷ hs) k d).size)) j.2 (omega (arith, r.0), r.1))

-- taking blocks away, block by block
cut : (fx fh fy fw : Bool) → (fw ≡ true → fx ≡ false) → (fw ≡ true → fy ≡ false) → (fx || ((fh && not fw) || fy)) ≡ ((fx || (fh || fy)) && not fw)
cut true fh fy true p q = absurd (false≢true (sym (p refl)))
cut true fh fy false p q = refl
cut false true fy true p q = q refl
cut false true fy false p q = refl
cut false false true true p q = q refl
cut false false false true p q = refl
cut false false true false p q = refl
cut false false false false p q = refl

cut_whole : (fx fy fw : Bool) → (fw ≡ true → fx ≡ false) → (fw ≡ true → fy ≡ false) → (fx || fy) ≡ ((fx || (fw || fy)) && not fw)
cut_whole true fy true p q = absurd (false≢true (sym (p refl)))
cut_whole true fy false p q = refl
cut_whole false fy true p q = q refl
cut_whole false true false p q = refl
cut_whole false false false p q = refl

module _ (n : ℕ) (xs : List Hole) (h : Hole) (ys : List Hole) (some : 0 < n) (fits : n ≤ h.size) (s : IsSpaced 0 (xs ++ h ∷ ys)) where
  parts : IsSpaced 0 xs × IsSpaced (after 0 xs) (h ∷ ys)
  parts = split_spaced xs (h ∷ ys) 0 s

  clear_left : (b : ℕ) → within h.place n b ≡ true → is_free xs b ≡ false
  clear_left b e = let w = within-true h.place n b e in not_free (is_free xs b) (λ f. omega (arith, free-below xs 0 b parts.0 f, parts.1.0))

  clear_right : (b : ℕ) → within h.place n b ≡ true → is_free ys b ≡ false
  clear_right b e = let w = within-true h.place n b e in not_free (is_free ys b) (λ f. omega (arith, free-above ys (h.place + h.size + 1) b parts.1.3 f))

  taken_here : (b : ℕ) → within h.place n b ≡ true → is_free (xs ++ h ∷ ys) b ≡ true
  taken_here b e = let w = within-true h.place n b e in free-here xs h ys b w.0 (omega arith)

  pub removes_front : n < h.size → Removes n h.place (xs ++ h ∷ ys) (xs ++ record { place = h.place + n; size = h.size - n } ∷ ys)
  removes_front more = record {
    spaced = join_spaced xs (record { place = h.place + n; size = h.size - n } ∷ ys) 0 parts.0 (omega (arith, parts.1.0), omega arith, omega (arith, parts.1.2), lower_spaced ys (h.place + h.size + 1) (h.place + n + (h.size - n) + 1) (omega arith) parts.1.3);
    shorter = rw (length-append, length-append) (omega arith);
    here = taken_here;
    free = λ b. rw (is_free-append, is_free-append, within-cut h.place h.size n b fits) (cut (is_free xs b) (within h.place h.size b) (is_free ys b) (within h.place n b) (clear_left b) (clear_right b));
    small = omega (arith, parts.1.2);
  }

  pub removes_whole : h.size ≡ n → Removes n h.place (xs ++ h ∷ ys) (xs ++ ys)
  removes_whole all = record {
    spaced = join_spaced xs ys 0 parts.0 (lower_spaced ys (h.place + h.size + 1) (after 0 xs) (omega (arith, parts.1.0)) parts.1.3);
    shorter = rw (length-append, length-append) (omega arith);
    here = taken_here;
    free = λ b. rw (is_free-append, is_free-append, all) (cut_whole (is_free xs b) (is_free ys b) (within h.place n b) (clear_left b) (clear_right b));
    small = omega (arith, parts.1.2);
  }

-- the run at an index is h
pub split_here : (hs : List Hole) (i : ℕ) (h : Hole) → i < length hs → h ≡ get_or hs i h → hs ≡ take i hs ++ (h ∷ drop (suc i) hs)
split_here hs i h lt read = split_at hs i h lt ∙ ap (λ (k : Hole). take i hs ++ (k ∷ drop (suc i) hs)) (sym read)

pub removes_at_front : (n : ℕ) (hs : List Hole) (i : ℕ) (h : Hole) → 0 < n → IsSpaced 0 hs → i < length hs → h ≡ get_or hs i h → n < h.size → Removes n h.place hs (set hs i (record { place = h.place + n; size = h.size - n }))
removes_at_front n hs i h some s lt read more =
    let e = split_here hs i h lt read in
    let r : Hole = record { place = h.place + n; size = h.size - n } in
    subst (λ (zs : List Hole). Removes n h.place zs (set hs i r)) (sym e)
    (subst (λ (zs : List Hole). Removes n h.place (take i hs ++ (h ∷ drop (suc i) hs)) zs) (sym (set_split hs i r lt))
    (removes_front n (take i hs) h (drop (suc i) hs) some (omega arith) (subst (IsSpaced 0) e s) more))

pub removes_at_whole : (n : ℕ) (hs : List Hole) (i : ℕ) (h : Hole) → 0 < n → IsSpaced 0 hs → i < length hs → h ≡ get_or hs i h → h.size ≡ n → Removes n h.place hs (take i hs ++ drop (suc i) hs)
removes_at_whole n hs i h some s lt read all =
    let e = split_here hs i h lt read in
    subst (λ (zs : List Hole). Removes n h.place zs (take i hs ++ drop (suc i) hs)) (sym e)
    (removes_whole n (take i hs) h (drop (suc i) hs) some (omega arith) (subst (IsSpaced 0) e s) all)

spaced-small : (hs : List Hole) (low k : ℕ) (d : Hole) → IsSpaced low hs → k < length hs → (0 < (get_or hs k d).size) × ((get_or hs k d).place + (get_or hs k d).size < 2 ^ 63)
spaced-small [] low k d s lt = absurd (omega arith)
spaced-small (h ∷ hs) low zero d s lt = (s.1, s.2)
spaced-small (h ∷ hs) low (suc k) d s lt = spaced-small hs (h.place + h.size + 1) k d s.3 (omega arith)

pub read_small : (hs : List Hole) (i : ℕ) (h : Hole) → IsSpaced 0 hs → i < length hs → h ≡ get_or hs i h → (0 < h.size) × (h.place + h.size < 2 ^ 63)
read_small hs i h s lt read = subst (λ (k : Hole). (0 < k.size) × (k.place + k.size < 2 ^ 63)) (sym read) (spaced-small hs 0 i h s lt)

pub none_of : (o : Option ℕ) → option_map suc o ≡ None → o ≡ None
none_of None e = refl
none_of (Some i) e = absurd cc

fit_at-short : (n : ℕ) (hs : List Hole) (i : ℕ) (d : Hole) → fit_at n hs ≡ None → i < length hs → (get_or hs i d).size < n
fit_at-short n [] i d e lt = absurd (omega arith)
fit_at-short n (h ∷ hs) zero d e lt = by_order h.size n (λ less. less) (λ fits. absurd (let e' : Some 0 ≡ None = rw (le-leb n h.size fits) at e in cc))
fit_at-short n (h ∷ hs) (suc i) d e lt = by_test (leb n h.size) (λ t. absurd (let e' : Some 0 ≡ None = rw t at e in cc)) (λ t. fit_at-short n hs i d (none_of (fit_at n hs) (rw t at e)) (omega arith))

pub short_here : (n : ℕ) (hs : List Hole) (i : ℕ) (h : Hole) → fit_at n hs ≡ None → i < length hs → h ≡ get_or hs i h → h.size < n
short_here n hs i h e lt read = subst (λ (k : Hole). k.size < n) (sym read) (fit_at-short n hs i h e lt)

and_true : (t : Bool) → t ≡ (t && true)
and_true true = refl
and_true false = refl

-- taking nothing
pub removes_none : (p : ℕ) (hs : List Hole) → IsSpaced 0 hs → p < 2 ^ 63 → Removes (p - p) p hs hs
removes_none p hs s small = record {
  spaced = s;
  shorter = omega arith;
  here = λ b e. let w = within-true p (p - p) b e in absurd (omega arith);
  free = λ b. rw (within-false p (p - p) b (λ above below. omega arith)) (and_true (is_free hs b));
  small = omega arith;
}

-- where a place stands among the runs
pub before-below : (p : ℕ) (hs : List Hole) (k : ℕ) (d : Hole) → k < before p hs → (get_or hs k d).place < p
before-below p [] k d lt = absurd (omega arith)
before-below p (h ∷ hs) zero d lt = by_test (ltb h.place p) (λ t. ltb-true h.place p t) (λ t. let none : 0 < 0 = rw t at lt in absurd (omega arith))
before-below p (h ∷ hs) (suc k) d lt =
    by_test (ltb h.place p) (λ t. let more : suc k < suc (before p hs) = rw t at lt in before-below p hs k d (omega arith)) (λ t. let none : suc k < 0 = rw t at lt in absurd (omega arith))

pub before-le : (p : ℕ) (hs : List Hole) → before p hs ≤ length hs
before-le p [] = omega arith
before-le p (h ∷ hs) = by_test (ltb h.place p) (λ t. rw t (omega (arith, before-le p hs))) (λ t. rw t (omega arith))

spaced-at : (hs : List Hole) (low k : ℕ) (d : Hole) → IsSpaced low hs → k < length hs → low ≤ (get_or hs k d).place
spaced-at [] low k d s lt = absurd (omega arith)
spaced-at (h ∷ hs) low zero d s lt = s.0
spaced-at (h ∷ hs) low (suc k) d s lt = omega (arith, s.0, spaced-at hs (h.place + h.size + 1) k d s.3 (omega arith))

pub before-past : (p : ℕ) (hs : List Hole) (low k : ℕ) (d : Hole) → IsSpaced low hs → k < length hs → (get_or hs k d).place < p → k + 1 ≤ before p hs
before-past p [] low k d s lt below = absurd (omega arith)
before-past p (h ∷ hs) low zero d s lt below = rw (lt-ltb h.place p below) (omega arith)
before-past p (h ∷ hs) low (suc k) d s lt below =
    let first : h.place < p = omega (arith, spaced-at hs (h.place + h.size + 1) k d s.3 (omega arith)) in
    rw (lt-ltb h.place p first) (omega (arith, before-past p hs (h.place + h.size + 1) k d s.3 (omega arith) below))

pub before-upto : (p : ℕ) (hs : List Hole) (k : ℕ) (d : Hole) → p ≤ (get_or hs k d).place → before p hs ≤ k
before-upto p hs k d above = by_test (ltb k (before p hs)) (λ t. absurd (omega (arith, before-below p hs k d (ltb-true k (before p hs) t)))) (λ t. ltb-false k (before p hs) t)

-- the first run, if there is one, begins at a place or behind it
abbrev pub BeginsFrom : ℕ → List Hole → Type 0
BeginsFrom p [] = Unit {0}
BeginsFrom p (h ∷ hs) = p ≤ h.place

abbrev pub BeginBelow : ℕ → List Hole → Type 0
BeginBelow p [] = Unit {0}
BeginBelow p (h ∷ hs) = (h.place < p) × BeginBelow p hs

before-back : (p : ℕ) (hs : List Hole) → BeginsFrom p (drop (before p hs) hs)
before-back p [] = tt
before-back p (h ∷ hs) = by_test (ltb h.place p) (λ t. rw t (before-back p hs)) (λ t. rw t (ltb-false h.place p t))

before-front : (p : ℕ) (hs : List Hole) → BeginBelow p (take (before p hs) hs)
before-front p [] = tt
before-front p (h ∷ hs) = by_test (ltb h.place p) (λ t. rw t (ltb-true h.place p t, before-front p hs)) (λ t. rw t tt)

-- none of the blocks is free
abbrev pub Taken : ℕ → ℕ → List Hole → Type 0
Taken n p hs = (b : ℕ) → within p n b ≡ true → is_free hs b ≡ false

-- what follows blocks that aren't free
right_side : (n p : ℕ) (xs ys : List Hole) (low : ℕ) → IsSpaced low ys → BeginsFrom p ys → Taken n p (xs ++ ys) → IsSpaced (p + n) ys
right_side n p xs [] low s from out = tt
right_side n p xs (h ∷ ys) low s from out =
    (by_order h.place (p + n) (λ f. absurd (false≢true (sym (out h.place (within-here p n h.place from f)) ∙ free-here xs h ys h.place (omega arith) (omega (arith, s.1))))) (λ le. le), s.1, s.2, s.3)

-- no run goes past a block that isn't free
left_side : (p : ℕ) (xs ys : List Hole) (low : ℕ) → low ≤ p + 1 → IsSpaced low xs → BeginBelow p xs → is_free (xs ++ ys) p ≡ false → after low xs ≤ p + 1
left_side p [] ys low le s below out = le
left_side p (h ∷ xs) ys low le s below out =
    by_test (within h.place h.size p) (λ t. absurd (false≢true (sym out ∙ rw t refl)))
    (λ t. let ends : h.place + h.size ≤ p = by_order p (h.place + h.size) (λ f. absurd (false≢true (sym t ∙ within-here h.place h.size p (omega (arith, below.0)) f))) (λ u. u) in
    left_side p xs ys (h.place + h.size + 1) (omega arith) s.3 below.1 (rw t at out))

pub after-last : (hs : List Hole) (low j : ℕ) (d : Hole) → j < length hs → after low (take (suc j) hs) ≡ (get_or hs j d).place + (get_or hs j d).size + 1
after-last [] low j d lt = absurd (omega arith)
after-last (h ∷ hs) low zero d lt = refl
after-last (h ∷ hs) low (suc j) d lt = after-last hs (h.place + h.size + 1) j d (omega arith)

-- adding blocks, block by block
add_between : (fx fs fy : Bool) → (fx || (fs || fy)) ≡ ((fx || fy) || fs)
add_between true fs fy = refl
add_between false true true = refl
add_between false true false = refl
add_between false false true = refl
add_between false false false = refl

add_right : (fx fs fh fy : Bool) → (fx || ((fs || fh) || fy)) ≡ ((fx || (fh || fy)) || fs)
add_right true fs fh fy = refl
add_right false true true fy = refl
add_right false true false true = refl
add_right false true false false = refl
add_right false false true fy = refl
add_right false false false true = refl
add_right false false false false = refl

add_left : (fx fh fs fy : Bool) → (fx || ((fh || fs) || fy)) ≡ ((fx || (fh || fy)) || fs)
add_left true fh fs fy = refl
add_left false true fs fy = refl
add_left false false true true = refl
add_left false false true false = refl
add_left false false false true = refl
add_left false false false false = refl

add_both : (fx fh fs fk fy : Bool) → (fx || (((fh || fs) || fk) || fy)) ≡ ((fx || (fh || (fk || fy))) || fs)
add_both true fh fs fk fy = refl
add_both false true fs fk fy = refl
add_both false false true true fy = refl
add_both false false true false true = refl
add_both false false true false false = refl
add_both false false false true fy = refl
add_both false false false false true = refl
add_both false false false false false = refl

module _ (n p : ℕ) (some : 0 < n) (small : p + n < 2 ^ 63) where
  -- between the runs, touching neither
  adds_between : (xs ys : List Hole) → IsSpaced 0 xs → after 0 xs ≤ p → IsSpaced (p + n + 1) ys → Adds n p (xs ++ ys) (xs ++ record { place = p; size = n } ∷ ys)
  adds_between xs ys front gap back = record {
    spaced = join_spaced xs (record { place = p; size = n } ∷ ys) 0 front (gap, some, small, back);
    longer = rw (length-append, length-append) (omega arith);
    free = λ b. rw (is_free-append, is_free-append) (add_between (is_free xs b) (within p n b) (is_free ys b));
  }

  -- before a run that it touches
  adds_right : (xs : List Hole) (h : Hole) (ys : List Hole) → IsSpaced 0 xs → after 0 xs ≤ p → h.place ≡ p + n → IsSpaced (p + n) (h ∷ ys) → Adds n p (xs ++ h ∷ ys) (xs ++ record { place = p; size = n + h.size } ∷ ys)
  adds_right xs h ys front gap touch back = record {
    spaced = join_spaced xs (record { place = p; size = n + h.size } ∷ ys) 0 front (gap, omega arith, omega (arith, back.2), lower_spaced ys (h.place + h.size + 1) (p + (n + h.size) + 1) (omega arith) back.3);
    longer = rw (length-append, length-append) (omega arith);
    free = λ b.
        let e : within p (n + h.size) b ≡ (within p n b || within h.place h.size b) = within-add p n h.size b ∙ ap (λ (q : ℕ). within p n b || within q h.size b) (sym touch) in
        rw (is_free-append, is_free-append, e) (add_right (is_free xs b) (within p n b) (within h.place h.size b) (is_free ys b));
  }

  wider : (h : Hole) (b : ℕ) → h.place + h.size ≡ p → within h.place (h.size + n) b ≡ (within h.place h.size b || within p n b)
  wider h b touch = within-add h.place h.size n b ∙ ap (λ (q : ℕ). within h.place h.size b || within q n b) touch

  -- behind a run that it touches
  adds_left : (xs : List Hole) (h : Hole) (ys : List Hole) → IsSpaced 0 (xs ++ h ∷ ys) → h.place + h.size ≡ p → IsSpaced (p + n + 1) ys → Adds n p (xs ++ h ∷ ys) (xs ++ record { place = h.place; size = h.size + n } ∷ ys)
  adds_left xs h ys s touch back =
      let parts = split_spaced xs (h ∷ ys) 0 s in record {
        spaced = join_spaced xs (record { place = h.place; size = h.size + n } ∷ ys) 0 parts.0 (parts.1.0, omega arith, omega arith, lower_spaced ys (p + n + 1) (h.place + (h.size + n) + 1) (omega arith) back);
        longer = rw (length-append, length-append) (omega arith);
        free = λ b. rw (is_free-append, is_free-append, wider h b touch) (add_left (is_free xs b) (within h.place h.size b) (within p n b) (is_free ys b));
      }

  -- between two runs, touching both
  adds_both : (xs : List Hole) (h k : Hole) (ys : List Hole) → IsSpaced 0 (xs ++ h ∷ (k ∷ ys)) → h.place + h.size ≡ p → k.place ≡ p + n → Adds n p (xs ++ h ∷ (k ∷ ys)) (xs ++ record { place = h.place; size = h.size + n + k.size } ∷ ys)
  adds_both xs h k ys s touch touch' =
      let parts = split_spaced xs (h ∷ (k ∷ ys)) 0 s in
      let next = parts.1.3 in record {
        spaced = join_spaced xs (record { place = h.place; size = h.size + n + k.size } ∷ ys) 0 parts.0 (parts.1.0, omega arith, omega (arith, next.2), lower_spaced ys (k.place + k.size + 1) (h.place + (h.size + n + k.size) + 1) (omega arith) next.3);
        longer = rw (length-append, length-append) (omega arith);
        free = λ b.
            let far : h.place + (h.size + n) ≡ k.place = omega arith in
            let e : within h.place (h.size + n + k.size) b ≡ ((within h.place h.size b || within p n b) || within k.place k.size b) =
            within-add h.place (h.size + n) k.size b ∙ (λ i. wider h b touch i || within (far i) k.size b) in
            rw (is_free-append, is_free-append, e) (add_both (is_free xs b) (within h.place h.size b) (within p n b) (within k.place k.size b) (is_free ys b));
      }

  module _ (hs : List Hole) (s : IsSpaced 0 hs) (out : Taken n p hs) where
    pieces : (i : ℕ) → IsSpaced 0 (take i hs) × IsSpaced (after 0 (take i hs)) (drop i hs)
    pieces i = split_spaced (take i hs) (drop i hs) 0 (subst (IsSpaced 0) (sym (take-append-drop i hs)) s)

    out_of : (i : ℕ) → Taken n p (take i hs ++ drop i hs)
    out_of i = subst (Taken n p) (sym (take-append-drop i hs)) out

    behind : IsSpaced (p + n) (drop (before p hs) hs)
    behind = right_side n p (take (before p hs) hs) (drop (before p hs) hs) _ (pieces (before p hs)).1 (before-back p hs) (out_of (before p hs))

    ahead : after 0 (take (before p hs) hs) ≤ p + 1
    ahead = left_side p (take (before p hs) hs) (drop (before p hs) hs) 0 (omega arith) (pieces (before p hs)).0 (before-front p hs) (out_of (before p hs) p (within-here p n p (omega arith) (omega arith)))

    -- the run before doesn't end there
    IsGap : ℕ → Type 0
    IsGap i = after 0 (take i hs) ≤ p

    pub gap_first : before p hs ≡ 0 → after 0 (take (before p hs) hs) ≤ p
    gap_first e = rw e (omega arith)

    pub gap_last : (j : ℕ) (h : Hole) → before p hs ≡ suc j → h ≡ get_or hs j h → (h.place + h.size ≡ p → ⊥) → after 0 (take (before p hs) hs) ≤ p
    gap_last j h e read other =
        let lt : j < length hs = omega (arith, before-le p hs) in
        let last : after 0 (take (before p hs) hs) ≡ h.place + h.size + 1 = rw e (after-last hs 0 j h lt ∙ ap (λ (k : Hole). k.place + k.size + 1) (sym read)) in
        omega (arith, ahead)

    -- the run behind doesn't begin there
    pub room_none : length hs ≤ before p hs → IsSpaced (p + n + 1) (drop (before p hs) hs)
    room_none past = rw (drop_all (before p hs) hs past) tt

    pub room_next : (h : Hole) → before p hs < length hs → h ≡ get_or hs (before p hs) h → (h.place ≡ p + n → ⊥) → IsSpaced (p + n + 1) (drop (before p hs) hs)
    room_next h lt read other =
        let e : drop (before p hs) hs ≡ h ∷ drop (suc (before p hs)) hs = drop-cons hs (before p hs) h lt ∙ ap (λ (k : Hole). k ∷ drop (suc (before p hs)) hs) (sym read) in
        let b = rw e at behind in
        rw e (omega (arith, b.0), b.1, b.2, b.3)

    pub put_between : after 0 (take (before p hs) hs) ≤ p → IsSpaced (p + n + 1) (drop (before p hs) hs) → Adds n p hs (take (before p hs) hs ++ record { place = p; size = n } ∷ drop (before p hs) hs)
    put_between gap room =
        subst (λ (zs : List Hole). Adds n p zs (take (before p hs) hs ++ record { place = p; size = n } ∷ drop (before p hs) hs)) (take-append-drop (before p hs) hs)
        (adds_between (take (before p hs) hs) (drop (before p hs) hs) (pieces (before p hs)).0 gap room)

    pub put_before : (h : Hole) → before p hs < length hs → h ≡ get_or hs (before p hs) h → h.place ≡ p + n → after 0 (take (before p hs) hs) ≤ p → Adds n p hs (set hs (before p hs) (record { place = p; size = n + h.size }))
    put_before h lt read touch gap =
        let i = before p hs in
        let e = split_here hs i h lt read in
        let r : Hole = record { place = p; size = n + h.size } in
        let d : drop i hs ≡ h ∷ drop (suc i) hs = drop-cons hs i h lt ∙ ap (λ (k : Hole). k ∷ drop (suc i) hs) (sym read) in
        subst (λ (zs : List Hole). Adds n p zs (set hs i r)) (sym e)
        (subst (λ (zs : List Hole). Adds n p (take i hs ++ (h ∷ drop (suc i) hs)) zs) (sym (set_split hs i r lt))
        (adds_right (take i hs) h (drop (suc i) hs) (pieces i).0 gap touch (subst (IsSpaced (p + n)) d behind)))

    -- the same at an index
    module _ (i : ℕ) (is : i ≡ before p hs) where
      pub gap : (i ≡ 0) ⊎ ((h : Hole) × (0 < i) × (h ≡ get_or hs (i - 1) h) × (h.place + h.size ≡ p → ⊥)) → after 0 (take (before p hs) hs) ≤ p
      gap (inl none) = gap_first (sym is ∙ none)
      gap (inr w) = let e : before p hs ≡ suc (i - 1) = omega (arith, w.1) in gap_last (i - 1) w.0 e w.2 w.3

      pub room : (length hs ≤ i) ⊎ ((h : Hole) × (i < length hs) × (h ≡ get_or hs i h) × (h.place ≡ p + n → ⊥)) → IsSpaced (p + n + 1) (drop (before p hs) hs)
      room (inl past) = room_none (omega arith)
      room (inr w) = room_next w.0 (omega (arith, w.1)) (w.2 ∙ ap (λ (k : ℕ). get_or hs k w.0) is) w.3

      pub put_between_at : after 0 (take (before p hs) hs) ≤ p → IsSpaced (p + n + 1) (drop (before p hs) hs) → Adds n p hs (take i hs ++ record { place = p; size = n } ∷ drop i hs)
      put_between_at gap room = subst (λ (k : ℕ). Adds n p hs (take k hs ++ record { place = p; size = n } ∷ drop k hs)) (sym is) (put_between gap room)

      pub put_before_at : (h : Hole) → i < length hs → h ≡ get_or hs i h → h.place ≡ p + n → after 0 (take (before p hs) hs) ≤ p → Adds n p hs (set hs i (record { place = p; size = n + h.size }))
      put_before_at h lt read touch gap =
          subst (λ (k : ℕ). Adds n p hs (set hs k (record { place = p; size = n + h.size }))) (sym is) (put_before h (omega arith) (read ∙ ap (λ (k : ℕ). get_or hs k h) is) touch gap)

  -- at the end of the run at j
  module _ (hs : List Hole) (s : IsSpaced 0 hs) (out : Taken n p hs) (j : ℕ) (h : Hole) (lt : j < length hs) (read : h ≡ get_or hs j h) (touch : h.place + h.size ≡ p) where
    form : hs ≡ take j hs ++ (h ∷ drop (suc j) hs)
    form = split_here hs j h lt read

    spaced' : IsSpaced 0 (take j hs ++ (h ∷ drop (suc j) hs))
    spaced' = subst (IsSpaced 0) form s

    begins : (ys : List Hole) → IsSpaced (h.place + h.size + 1) ys → BeginsFrom p ys
    begins [] t = tt
    begins (y ∷ ys) t = omega (arith, t.0)

    rest : IsSpaced (p + n) (drop (suc j) hs)
    rest =
        let t = (split_spaced (take j hs) (h ∷ drop (suc j) hs) 0 spaced').1.3 in
        let two : hs ≡ (take j hs ++ (h ∷ [])) ++ drop (suc j) hs = form ∙ sym (append_assoc (take j hs) (h ∷ []) (drop (suc j) hs)) in
        right_side n p (take j hs ++ (h ∷ [])) (drop (suc j) hs) _ t (begins (drop (suc j) hs) t) (subst (Taken n p) two out)

    pub widen_alone : IsSpaced (p + n + 1) (drop (suc j) hs) → Adds n p hs (set hs j (record { place = h.place; size = h.size + n }))
    widen_alone room =
        let r : Hole = record { place = h.place; size = h.size + n } in
        subst (λ (zs : List Hole). Adds n p zs (set hs j r)) (sym form)
        (subst (λ (zs : List Hole). Adds n p (take j hs ++ (h ∷ drop (suc j) hs)) zs) (sym (set_split hs j r lt))
        (adds_left (take j hs) h (drop (suc j) hs) spaced' touch room))

    pub widen_last : length hs ≤ suc j → Adds n p hs (set hs j (record { place = h.place; size = h.size + n }))
    widen_last past = widen_alone (rw (drop_all (suc j) hs past) tt)

    pub widen_apart : (k : Hole) → suc j < length hs → k ≡ get_or hs (suc j) k → (k.place ≡ p + n → ⊥) → Adds n p hs (set hs j (record { place = h.place; size = h.size + n }))
    widen_apart k more read' other =
        let e : drop (suc j) hs ≡ k ∷ drop (suc (suc j)) hs = drop-cons hs (suc j) k more ∙ ap (λ (t : Hole). t ∷ drop (suc (suc j)) hs) (sym read') in
        let b = rw e at rest in
        widen_alone (rw e (omega (arith, b.0), b.1, b.2, b.3))

    pub widen_joined : (k : Hole) → suc j < length hs → k ≡ get_or hs (suc j) k → k.place ≡ p + n → Adds n p hs (remove (set hs j (record { place = h.place; size = h.size + n + k.size })) (suc j))
    widen_joined k more read' touch' =
        let r : Hole = record { place = h.place; size = h.size + n + k.size } in
        let zs = take j hs in
        let ys = drop (suc (suc j)) hs in
        let e : drop (suc j) hs ≡ k ∷ ys = drop-cons hs (suc j) k more ∙ ap (λ (t : Hole). t ∷ ys) (sym read') in
        let full : hs ≡ zs ++ (h ∷ (k ∷ ys)) = form ∙ ap (λ (t : List Hole). zs ++ (h ∷ t)) e in
        let one : suc j - j ≡ 1 = omega arith in
        let short : length zs ≡ j = length-take j hs ∙ omega arith in
        let made : remove (set hs j r) (suc j) ≡ zs ++ (r ∷ ys) =
        ap (λ (t : List Hole). remove t (suc j)) (set_split hs j r lt ∙ ap (λ (t : List Hole). zs ++ (r ∷ t)) e)
        ∙ remove-append_right zs (r ∷ (k ∷ ys)) j (suc j) short (omega arith) ∙ ap (λ (i : ℕ). zs ++ remove (r ∷ (k ∷ ys)) i) one in
        subst (λ (t : List Hole). Adds n p t (remove (set hs j r) (suc j))) (sym full)
        (subst (λ (t : List Hole). Adds n p (zs ++ (h ∷ (k ∷ ys))) t) (sym made)
        (adds_both zs h k ys (subst (IsSpaced 0) full s) touch touch'))
