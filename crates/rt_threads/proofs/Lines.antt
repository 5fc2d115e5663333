use Rattle.std.proofs.Common.{◌≡◌, ℕ, zero, suc, ◌<◌, ◌≤◌, List, [], ◌∷◌, ◌++◌, Option, Some, None, length, get_or, set, refl, ap, sym, subst, ◌∙◌, arith}
use Rattle.rt_threads.specs.declared.queues.Ends.{Ends}
use Rattle.rt_threads.specs.Lists.{times}
use Rattle.rt_threads.specs.Linked.{walk, first_link, last_link, Lies, last_of, linked, joined}
use Rattle.rt_threads.proofs.Times.{times_here}
use Rattle.std.proofs.lemmas.List.{get_or-set_same, get_or-set_other, length-set}

-- Walking from member to member.

pub walk_none : (n : ℕ) (b : List (Option ℕ)) → walk n b None ≡ []
walk_none zero b = refl
walk_none (suc n) b = refl

pub length_walk : (n : ℕ) (b : List (Option ℕ)) (link : Option ℕ) → length (walk n b link) ≤ n
length_walk zero b link = omega arith
length_walk (suc n) b None = omega arith
length_walk (suc n) b (Some t) = omega (arith, length_walk n b (get_or b t None))

-- a walk with room enough comes along the members that lie there
pub walk_lies : (b : List (Option ℕ)) (n : ℕ) (link : Option ℕ) (q : List ℕ) → Lies b link q → length q ≤ n → walk n b link ≡ q
walk_lies b zero link [] l h = refl
walk_lies b zero link (t ∷ q) l h = absurd (omega arith)
walk_lies b (suc n) link [] l h = rw l refl
walk_lies b (suc n) link (t ∷ q) l h = rw l.0 (ap (λ z. t ∷ z) (walk_lies b n (get_or b t None) q l.1 (omega arith)))

-- a line lies as before where its own members know the same
pub Lies_same : (b b' : List (Option ℕ)) (link : Option ℕ) (q : List ℕ) → ((x : ℕ) → 0 < times x q → get_or b' x None ≡ get_or b x None) → Lies b link q → Lies b' link q
Lies_same b b' link [] same l = l
Lies_same b b' link (t ∷ q) same l =
    (l.0, subst (λ (z : Option ℕ). Lies b' z q) (sym (same t (omega (arith, times_here t t q refl)))) (Lies_same b b' (get_or b t None) q (λ x h. same x (omega arith)) l.1))

pub last_times : (q : List ℕ) (l : ℕ) → last_of q ≡ Some l → 0 < times l q
last_times [] l is = cc
last_times (x ∷ []) l is = let e : x ≡ l = cc in omega (arith, times_here l x [] e)
last_times (x ∷ (y ∷ r)) l is = omega (arith, last_times (y ∷ r) l is)

pub last_push : (q : List ℕ) (t : ℕ) → last_of (q ++ t ∷ []) ≡ Some t
last_push [] t = refl
last_push (x ∷ []) t = refl
last_push (x ∷ (y ∷ r)) t = last_push (y ∷ r) t

-- one more member behind the last
Lies_push : (b b' : List (Option ℕ)) (link : Option ℕ) (q : List ℕ) (l t : ℕ) → ((x : ℕ) → (x ≡ t → ⊥) → (x ≡ l → ⊥) → get_or b' x None ≡ get_or b x None) → get_or b' l None ≡ Some t → get_or b' t None ≡ None → ((x : ℕ) → times x q ≤ 1) → times t q ≡ 0 → last_of q ≡ Some l → Lies b link q → Lies b' link (q ++ t ∷ [])
Lies_push b b' link [] l t same last end once nowhere is lies = cc
Lies_push b b' link (x ∷ []) l t same last end once nowhere is lies =
    let e : x ≡ l = cc in (lies.0, (ap (λ z. get_or b' z None) e ∙ last, end))
Lies_push b b' link (x ∷ (y ∷ r)) l t same last end once nowhere is lies =
    let ne : x ≡ t → ⊥ = λ e. omega (arith, times_here t x (y ∷ r) e) in
    let nl : x ≡ l → ⊥ = λ e. omega (arith, times_here l x (y ∷ r) e, last_times (y ∷ r) l is, once l) in
    let rest = Lies_push b b' (get_or b x None) (y ∷ r) l t same last end (λ z. omega (arith, once z)) (omega arith) is lies.1 in
    (lies.0, subst (λ (z : Option ℕ). Lies b' z ((y ∷ r) ++ t ∷ [])) (sym (same x ne nl)) rest)

pub lies_joined : (b : List (Option ℕ)) (ends : Option Ends) (q : List ℕ) (t : ℕ) → t < length b → ((x : ℕ) → 0 < times x q → x < length b) → ((x : ℕ) → times x q ≤ 1) → times t q ≡ 0 → last_of q ≡ last_link ends → Lies b (first_link ends) q → Lies (linked b ends t) (Some (joined ends t).first) (q ++ t ∷ [])
lies_joined b None [] t ht within once nowhere is lies = (refl, get_or-set_same b t None None ht)
lies_joined b None (x ∷ q) t ht within once nowhere is lies = cc
lies_joined b (Some e) q t ht within once nowhere is lies =
    let has = last_times q e.last is in
    let ne : t ≡ e.last → ⊥ = λ h. omega (arith, ap (λ z. times z q) h) in
    let long : e.last < length (set b t None) = omega (arith, within e.last has, length-set b t None) in
    Lies_push b (linked b (Some e) t) (Some e.first) q e.last t
    (λ x nt nl. get_or-set_other (set b t None) e.last x (Some t) None nl ∙ get_or-set_other b t x None None nt)
    (get_or-set_same (set b t None) e.last (Some t) None long)
    (get_or-set_other (set b t None) e.last t (Some t) None ne ∙ get_or-set_same b t None None ht)
    once nowhere is lies

pub linked_other : (b : List (Option ℕ)) (ends : Option Ends) (q : List ℕ) (t x : ℕ) → last_of q ≡ last_link ends → (x ≡ t → ⊥) → times x q ≡ 0 → get_or (linked b ends t) x None ≡ get_or b x None
linked_other b None q t x is ne nowhere = get_or-set_other b t x None None ne
linked_other b (Some e) q t x is ne nowhere =
    let has = last_times q e.last is in
    let nl : x ≡ e.last → ⊥ = λ h. omega (arith, ap (λ z. times z q) h) in
    get_or-set_other (set b t None) e.last x (Some t) None nl ∙ get_or-set_other b t x None None ne

pub length_linked : (b : List (Option ℕ)) (ends : Option Ends) (t : ℕ) → length (linked b ends t) ≡ length b
length_linked b None t = length-set b t None
length_linked b (Some e) t = length-set (set b t None) e.last (Some t) ∙ length-set b t None
