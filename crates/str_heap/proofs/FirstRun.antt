-- The first run that has n blocks begins at the first place from which on n blocks are free.
use Rattle.std.proofs.Common.{◌≡◌, ℕ, suc, ◌+◌, ◌-◌, ◌<◌, ◌≤◌, leb, Bool, true, false, ◌||◌, List, [], ◌∷◌, length, take, drop, get_or, refl, sym, ap, subst, ◌∙◌, arith, le-leb, leb-true, Option, None, Some}
use Rattle.std.specs.Option.{IfNone}
use Rattle.std.proofs.lemmas.List.{take_all}
use Rattle.std.proofs.lemmas.Bool.{false≢true}
use Rattle.str_heap.specs.declared.holes.Hole.{Hole}
use Rattle.str_heap.specs.Blocks.{IsSpaced, is_free, within, fit_at, AreFree}
use Rattle.str_heap.proofs.Runs.{by_test, by_order, after, within-true, within-here, within-false, is_free-append, free-here, free-above, free-below, split_spaced, split_here, suc_of, none_of, not_free, read_small, after-last}

-- a run that has too few blocks has none of n free ones
past_short : (n p low : ℕ) (h : Hole) (hs : List Hole) → 0 < n → IsSpaced low (h ∷ hs) → h.size < n → AreFree n p (h ∷ hs) → h.place + h.size ≤ p
past_short n p low h hs some s short free =
    by_order p (h.place + h.size)
    (λ inner.
    let from = free-above (h ∷ hs) h.place p (omega arith, s.1, s.2, s.3) (free p (within-here p n p (omega arith) (omega arith))) in
    let e = h.place + h.size in
    let out : within h.place h.size e ≡ false = within-false h.place h.size e (λ above below. omega arith) in
    let f : is_free (h ∷ hs) e ≡ true = free e (within-here p n e (omega arith) (omega arith)) in
    absurd (omega (arith, free-above hs (h.place + h.size + 1) e s.3 (rw out at f))))
    (λ le. le)

behind_short : (n p low : ℕ) (h : Hole) (hs : List Hole) → 0 < n → IsSpaced low (h ∷ hs) → h.size < n → AreFree n p (h ∷ hs) → AreFree n p hs
behind_short n p low h hs some s short free = λ b w.
    let past = past_short n p low h hs some s short free in
    let r = within-true p n b w in
    let out : within h.place h.size b ≡ false = within-false h.place h.size b (λ above below. omega arith) in
    let f = free b w in
    rw out at f

pub none_free : (n p low : ℕ) (hs : List Hole) → 0 < n → IsSpaced low hs → fit_at n hs ≡ None → AreFree n p hs → ⊥
none_free n p low [] some s e free = false≢true (free p (within-here p n p (omega arith) (omega arith)))
none_free n p low (h ∷ hs) some s e free =
    by_order h.size n
    (λ short. by_test (leb n h.size) (λ t. absurd (let e' : Some 0 ≡ None = rw t at e in cc))
    (λ t. none_free n p (h.place + h.size + 1) hs some s.3 (none_of (fit_at n hs) (rw t at e)) (behind_short n p low h hs some s short free)))
    (λ fits. absurd (let e' : Some 0 ≡ None = rw (le-leb n h.size fits) at e in cc))

first_free : (n p low : ℕ) (hs : List Hole) (i : ℕ) (d : Hole) → 0 < n → IsSpaced low hs → fit_at n hs ≡ Some i → AreFree n p hs → (get_or hs i d).place ≤ p
first_free n p low [] i d some s e free = absurd cc
first_free n p low (h ∷ hs) i d some s e free =
    by_order h.size n
    (λ short. by_test (leb n h.size) (λ t. absurd (omega (arith, leb-true n h.size t)))
    (λ t. let j = suc_of (fit_at n hs) i (rw t at e) in
    subst (λ (k : ℕ). (get_or (h ∷ hs) k d).place ≤ p) j.2 (first_free n p (h.place + h.size + 1) hs j.0 d some s.3 j.1 (behind_short n p low h hs some s short free))))
    (λ fits. let z : 0 ≡ i = (let e' : Some 0 ≡ Some i = rw (le-leb n h.size fits) at e in cc) in
    subst (λ (k : ℕ). (get_or (h ∷ hs) k d).place ≤ p) z
    (free-above (h ∷ hs) h.place p (omega arith, s.1, s.2, s.3) (free p (within-here p n p (omega arith) (omega arith)))))

pub first_here : (n p : ℕ) (hs : List Hole) (i : ℕ) (h : Hole) → 0 < n → IsSpaced 0 hs → fit_at n hs ≡ Some i → h ≡ get_or hs i h → AreFree n p hs → h.place ≤ p
first_here n p hs i h some s e read free = subst (λ (k : Hole). k.place ≤ p) (sym read) (first_free n p 0 hs i h some s e free)

pub where_none : {T P : Type 0} (o : Option T) → P → IfNone o P
where_none None holds = holds
where_none (Some x) holds = tt

or_none : (x y z : Bool) → x ≡ false → y ≡ false → z ≡ false → (x || (y || z)) ≡ false
or_none x y z p q r = rw (p, q, r) refl

-- the block before a run isn't free
pub front_alone : (hs : List Hole) (i : ℕ) (h : Hole) (b : ℕ) → IsSpaced 0 hs → i < length hs → h ≡ get_or hs i h → b + 1 ≡ h.place → is_free hs b ≡ false
front_alone hs i h b s lt read at_front =
    let e = split_here hs i h lt read in
    let xs = take i hs in
    let ys = drop (suc i) hs in
    let parts = split_spaced xs (h ∷ ys) 0 (subst (IsSpaced 0) e s) in
    ap (λ (t : List Hole). is_free t b) e ∙ is_free-append xs (h ∷ ys) b
    ∙ or_none (is_free xs b) (within h.place h.size b) (is_free ys b)
    (not_free (is_free xs b) (λ f. omega (arith, free-below xs 0 b parts.0 f, parts.1.0)))
    (within-false h.place h.size b (λ above below. omega arith))
    (not_free (is_free ys b) (λ f. omega (arith, free-above ys (h.place + h.size + 1) b parts.1.3 f)))

-- where the last run doesn't end at a place behind all free blocks, the block before that place isn't free
pub end_alone : (hs : List Hole) (i : ℕ) (h : Hole) (end b : ℕ) → IsSpaced 0 hs → suc i ≡ length hs → h ≡ get_or hs i h → (h.place + h.size ≡ end → ⊥) → ((k : ℕ) → is_free hs k ≡ true → k < end) → b + 1 ≡ end → is_free hs b ≡ false
end_alone hs i h end b s count read other known at_end =
    let lt : i < length hs = omega arith in
    let large = read_small hs i h s lt read in
    let whole : take (suc i) hs ≡ hs = take_all (suc i) hs (omega arith) in
    let last : after 0 hs ≡ h.place + h.size + 1 = ap (after 0) (sym whole) ∙ after-last hs 0 i h lt ∙ ap (λ (k : Hole). k.place + k.size + 1) (sym read) in
    let k = h.place + h.size - 1 in
    let f : is_free hs k ≡ true = ap (λ (t : List Hole). is_free t k) (split_here hs i h lt read) ∙ free-here (take i hs) h (drop (suc i) hs) k (omega (arith, large.0)) (omega (arith, large.0)) in
    not_free (is_free hs b) (λ free. other (omega (arith, known k f, large.0, free-below hs 0 b s free)))
