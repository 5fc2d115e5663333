-- Lists that begin others.
use Rattle.std.proofs.Common.{◌≡◌, ℕ, zero, suc, ap, ◌≤◌, ◌∙◌, Some, slice_get, length-append, List, [], ◌∷◌, ◌++◌, length, Bool, true, false, sym, refl, subst, arith}
use mathlib.Core.List.{IsPrefix, cons≢nil}
use base.Growing.{prefix_refl, prefix_trans}
use Rattle.commit_lock.specs.Steps.{AreOld, pick}

head_is : (x z : ℕ) (xs zs : List ℕ) → x ∷ xs ≡ z ∷ zs → x ≡ z
head_is x z xs zs e = cc

tail_is : (x z : ℕ) (xs zs : List ℕ) → x ∷ xs ≡ z ∷ zs → xs ≡ zs
tail_is x z xs zs e = cc

-- of two beginnings of one list the shorter begins the longer
pub prefix_between : (a b c : List ℕ) → IsPrefix a c → IsPrefix b c → length a ≤ length b → IsPrefix a b
prefix_between [] b c p q h = (b, refl)
prefix_between (x ∷ xs) [] c p q h = absurd (omega arith)
prefix_between (x ∷ xs) (y ∷ ys) [] p q h = absurd (cons≢nil p.1)
prefix_between (x ∷ xs) (y ∷ ys) (z ∷ zs) p q h =
    let r = prefix_between xs ys zs (p.0, tail_is x z (xs ++ p.0) zs p.1) (q.0, tail_is y z (ys ++ q.0) zs q.1) (omega arith) in
    let rest : xs ++ r.0 ≡ ys = r.1 in
    let first : x ≡ z = head_is x z (xs ++ p.0) zs p.1 in
    let second : y ≡ z = head_is y z (ys ++ q.0) zs q.1 in
    let whole : x ∷ (xs ++ r.0) ≡ y ∷ ys = cc in
    (r.0, whole)

pub old_further : (base seen list : List ℕ) (olds : List (List ℕ × List ℕ)) → IsPrefix seen list → AreOld base seen olds → AreOld base list olds
old_further base seen list [] more o = tt
old_further base seen list (x ∷ xs) more o = ((o.0.0, prefix_trans x.1 seen list o.0.1 more), old_further base seen list xs more o.1)

-- the list that is picked of two begins whatever both begin
pub picked_within : (a b last : List ℕ) (pen shorter : Bool) → IsPrefix a last → IsPrefix b last → IsPrefix (pick pen a (pick shorter b a)) last
picked_within a b last true shorter p q = p
picked_within a b last false true p q = q
picked_within a b last false false p q = p

-- both begin it
pub picked_after : (a b last : List ℕ) (pen shorter : Bool) → IsPrefix a last → IsPrefix b last → (pen ≡ true → a ≡ last)
    → (shorter ≡ true → length a ≤ length b) → (shorter ≡ false → length b ≤ length a)
    → IsPrefix a (pick pen a (pick shorter b a)) × IsPrefix b (pick pen a (pick shorter b a))
picked_after a b last true shorter p q all le ge = (prefix_refl a, subst (IsPrefix b) (sym (all refl)) q)
picked_after a b last false true p q all le ge = (prefix_between a b last p q (le refl), prefix_refl b)
picked_after a b last false false p q all le ge = (prefix_refl a, prefix_between b a last q p (ge refl))

-- what stands at a place stands there in each list that begins so
pub prefix_get : (a b : List ℕ) (place x : ℕ) → IsPrefix a b → slice_get a place ≡ Some x → slice_get b place ≡ Some x
prefix_get [] b place x p e = cc
prefix_get (y ∷ ys) [] place x p e = absurd (cons≢nil p.1)
prefix_get (y ∷ ys) (z ∷ zs) zero x p e = ap Some (sym (head_is y z (ys ++ p.0) zs p.1)) ∙ e
prefix_get (y ∷ ys) (z ∷ zs) (suc place) x p e = prefix_get ys zs place x (p.0, tail_is y z (ys ++ p.0) zs p.1) e

pub prefix_length : (a b : List ℕ) → IsPrefix a b → length a ≤ length b
prefix_length a b p = omega (arith, length-append a p.0, ap length p.1)
