-- The number that digits spell, modulo 2 ^ 64.
use Rattle.std.proofs.Common.{◌≡◌, ◌≢◌, ℕ, ◌+◌, ◌-◌, ◌*◌, ◌%◌, ◌^◌, ◌<◌, ◌≤◌, Bool, true, false, cond, List, [], ◌∷◌, length, get_or, drop, eqb, eq-eqb, ne_eqb, refl, ap, sym, ◌∙◌, arith}
use Rattle.std.proofs.lemmas.List.{at_drop_more, at_drop_all}
use Rattle.text_functions.specs.Functions.{digits_value, is_digit, signed_value, negated}

by_test : {X : Type 0} (t : Bool) → (t ≡ true → X) → (t ≡ false → X) → X
by_test true y n = y refl
by_test false y n = n refl

step_same : (a b d : ℕ) → a % 2 ^ 64 ≡ b % 2 ^ 64 → (10 * a + d) % 2 ^ 64 ≡ (10 * b + d) % 2 ^ 64
step_same a b d e = omega arith

-- what is spelt depends on what stands before modulo 2 ^ 64 alone
pub digits_same : (s : List ℕ) (a b : ℕ) → a % 2 ^ 64 ≡ b % 2 ^ 64 → digits_value a s % 2 ^ 64 ≡ digits_value b s % 2 ^ 64
digits_same [] a b e = e
digits_same (x ∷ s) a b e =
    by_test (is_digit x)
    (λ t. ap (λ c. cond c (digits_value (10 * a + (x - 48)) s) a % 2 ^ 64) t ∙ digits_same s (10 * a + (x - 48)) (10 * b + (x - 48)) (step_same a b (x - 48) e) ∙ sym (ap (λ c. cond c (digits_value (10 * b + (x - 48)) s) b % 2 ^ 64) t))
    (λ t. ap (λ c. cond c (digits_value (10 * a + (x - 48)) s) a % 2 ^ 64) t ∙ e ∙ sym (ap (λ c. cond c (digits_value (10 * b + (x - 48)) s) b % 2 ^ 64) t))

pub digits_more : (s : List ℕ) (i v w : ℕ) → i < length s → is_digit (get_or s i 0) ≡ true → w % 2 ^ 64 ≡ (10 * v + (get_or s i 0 - 48)) % 2 ^ 64 → digits_value w (drop (i + 1) s) % 2 ^ 64 ≡ digits_value v (drop i s) % 2 ^ 64
digits_more s i v w h t e =
    digits_same (drop (i + 1) s) w (10 * v + (get_or s i 0 - 48)) e
    ∙ sym (ap (λ x. x % 2 ^ 64) (at_drop_more (digits_value v) s i 0 h ∙ ap (λ b. cond b (digits_value (10 * v + (get_or s i 0 - 48)) (drop (i + 1) s)) v) t))

pub digits_stop : (s : List ℕ) (i v : ℕ) → i < length s → is_digit (get_or s i 0) ≡ false → digits_value v (drop i s) ≡ v
digits_stop s i v h t = at_drop_more (digits_value v) s i 0 h ∙ ap (λ b. cond b (digits_value (10 * v + (get_or s i 0 - 48)) (drop (i + 1) s)) v) t

pub digits_end : (s : List ℕ) (i v : ℕ) → length s ≤ i → digits_value v (drop i s) ≡ v
digits_end s i v h = at_drop_all (digits_value v) s i h

-- a number with its sign

pub signed_empty : (s : List ℕ) → length s ≡ 0 → signed_value s ≡ 0
signed_empty [] e = refl
signed_empty (b ∷ s) e = absurd (omega arith)

pub signed_minus : (s : List ℕ) → 0 < length s → get_or s 0 0 ≡ 45 → signed_value s ≡ negated (digits_value 0 (drop 1 s) % 2 ^ 64)
signed_minus [] h e = absurd (omega arith)
signed_minus (b ∷ s) h e = ap (λ c. cond c (negated (digits_value 0 s % 2 ^ 64)) (cond (eqb b 43) (digits_value 0 s % 2 ^ 64) (digits_value 0 (b ∷ s) % 2 ^ 64))) (eq-eqb b 45 e)

pub signed_plus : (s : List ℕ) → 0 < length s → get_or s 0 0 ≡ 43 → signed_value s ≡ digits_value 0 (drop 1 s) % 2 ^ 64
signed_plus [] h e = absurd (omega arith)
signed_plus (b ∷ s) h e =
    let n : b ≢ 45 = λ x. omega arith in
    ap (λ c. cond c (negated (digits_value 0 s % 2 ^ 64)) (cond (eqb b 43) (digits_value 0 s % 2 ^ 64) (digits_value 0 (b ∷ s) % 2 ^ 64))) (ne_eqb b 45 n)
    ∙ ap (λ c. cond c (digits_value 0 s % 2 ^ 64) (digits_value 0 (b ∷ s) % 2 ^ 64)) (eq-eqb b 43 e)

pub signed_bare : (s : List ℕ) → 0 < length s → get_or s 0 0 ≢ 45 → get_or s 0 0 ≢ 43 → signed_value s ≡ digits_value 0 s % 2 ^ 64
signed_bare [] h n m = absurd (omega arith)
signed_bare (b ∷ s) h n m =
    ap (λ c. cond c (negated (digits_value 0 s % 2 ^ 64)) (cond (eqb b 43) (digits_value 0 s % 2 ^ 64) (digits_value 0 (b ∷ s) % 2 ^ 64))) (ne_eqb b 45 n)
    ∙ ap (λ c. cond c (digits_value 0 s % 2 ^ 64) (digits_value 0 (b ∷ s) % 2 ^ 64)) (ne_eqb b 43 m)
