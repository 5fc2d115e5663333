-- An enclosed comment, as it is read.
use Rattle.std.proofs.Common.{◌≡◌, ◌==◌, ℕ, zero, suc, ◌≤◌, ◌+◌, ◌-◌, List, [], ◌∷◌, ◌++◌, length, take, Bool, true, false, cond, Option, Some, refl, sym, ◌∙◌, ap, subst, arith, add-one}
use Rattle.std.proofs.lemmas.Bool.Decides.{nat_tests}
use Rattle.fb_lexer.specs.Pieces.{closes, opens, rest_of_comment}
use Rattle.fb_lexer.specs.Grammar.{Closes, last, closing, opening, inside}

deep : (depth : ℕ) → (suc (suc depth) == 1) ≡ false
deep depth = grind (arith, nat_tests)

less_one : (depth : ℕ) → suc (suc depth) - 1 ≡ suc depth
less_one depth = omega arith

-- what closes is read to its end, whatever follows
pub read_closed : {depth : ℕ} {front : List ℕ} → Closes depth front → (more : List ℕ) (n : ℕ) → rest_of_comment depth n (front ++ more) ≡ Some (n + length front)
read_closed (last b c h) more n = rw h refl
read_closed (closing depth b c bytes h k) more n =
    let next = read_closed k more (n + 2) in
    rw (h, deep depth) (ap (λ d. rest_of_comment d (n + 2) (bytes ++ more)) (less_one depth) ∙ next ∙ ap Some (omega arith))
read_closed (opening depth b c bytes h o k) more n =
    let next = read_closed k more (n + 2) in
    rw (h, o, add-one) (next ∙ ap Some (omega arith))
read_closed (inside depth b c bytes h o k) more n =
    let next = read_closed k more (n + 1) in
    rw (h, o) (next ∙ ap Some (omega arith))

-- where reading comes to an end, the bytes up to there close
abbrev pub EndsAt : ℕ → ℕ → List ℕ → Option ℕ → Type 0
EndsAt depth n bytes r = (m : ℕ) → r ≡ Some m → (k : ℕ) × (m ≡ n + k) × (k ≤ length bytes) × Closes depth (take k bytes)

ends_by : (depth n : ℕ) (bytes : List ℕ) (t : Bool) (r s : Option ℕ) → (t ≡ true → EndsAt depth n bytes r) → (t ≡ false → EndsAt depth n bytes s) → EndsAt depth n bytes (cond t r s)
ends_by depth n bytes true r s h k = h refl
ends_by depth n bytes false r s h k = k refl

some_is : {a b : ℕ} → Some a ≡ Some b → a ≡ b
some_is h = cc

is_one : (depth : ℕ) → (depth == 1) ≡ true → depth ≡ 1
is_one depth h = grind (arith, nat_tests)

is_deep : (depth : ℕ) → 1 ≤ depth → (depth == 1) ≡ false → depth ≡ suc (suc (depth - 2))
is_deep depth some h = grind (arith, nat_tests)

not_empty : (depth : ℕ) → Closes depth [] → ⊥
not_empty depth h = elim h [ ]

inside_more : (depth b c : ℕ) (bytes : List ℕ) → closes b c ≡ false → opens b c ≡ false → (k : ℕ) → Closes depth (take k (c ∷ bytes)) → Closes depth (take (suc k) (b ∷ c ∷ bytes))
inside_more depth b c bytes h o zero closed = absurd (not_empty depth closed)
inside_more depth b c bytes h o (suc k) closed = inside depth b c (take k bytes) h o closed

pub ends_at : (depth n : ℕ) (bytes : List ℕ) → 1 ≤ depth → EndsAt depth n bytes (rest_of_comment depth n bytes)
ends_at depth n [] some = λ m is. absurd (cc)
ends_at depth n (b ∷ []) some = λ m is. absurd (cc)
ends_at depth n (b ∷ c ∷ bytes) some =
    ends_by depth n (b ∷ c ∷ bytes) (closes b c) _ _
    (λ h. ends_by depth n (b ∷ c ∷ bytes) (depth == 1) _ _
    (λ one m is. (2, sym (some_is is), omega arith, subst (λ d. Closes d (b ∷ c ∷ [])) (sym (is_one depth one)) (last b c h)))
    (λ more m is.
    let next = ends_at (depth - 1) (n + 2) bytes (let e = is_deep depth some more in omega (arith, e)) m is in
    let closed : Closes (suc (depth - 2)) (take next.0 bytes) = subst (λ d. Closes d (take next.0 bytes)) (let e = is_deep depth some more in omega (arith, e)) next.3 in
    (suc (suc next.0), omega (arith, next.1), omega (arith, next.2), subst (λ d. Closes d (b ∷ c ∷ take next.0 bytes)) (sym (is_deep depth some more)) (closing (depth - 2) b c (take next.0 bytes) h closed))))
    (λ h. ends_by depth n (b ∷ c ∷ bytes) (opens b c) _ _
    (λ o m is.
    let next = ends_at (depth + 1) (n + 2) bytes (omega arith) m is in
    (suc (suc next.0), omega (arith, next.1), omega (arith, next.2), opening depth b c (take next.0 bytes) h o (subst (λ d. Closes d (take next.0 bytes)) (add-one depth) next.3)))
    (λ o m is.
    let next = ends_at depth (n + 1) (c ∷ bytes) some m is in
    (suc next.0, omega (arith, next.1), omega (arith, next.2), inside_more depth b c bytes h o next.0 next.3)))
