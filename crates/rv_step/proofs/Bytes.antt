use Rattle.std.proofs.Common.{◌≡◌, ℕ, zero, suc, ◌+◌, ◌-◌, ◌*◌, ◌/◌, ◌%◌, ◌^◌, ◌<◌, ◌≤◌, Bool, true, false, List, [], ◌∷◌, length, get_or, slice_set, refl, ap, sym, ◌∙◌, arith, nat_lt, add-zero}
use Rattle.std.proofs.lemmas.Bool.{ltb-true, ltb-false, lt-ltb, le-ltb}
use Rattle.std.proofs.lemmas.Nat.{shr-shr}
use Rattle.std.proofs.lemmas.List.{get_or-set_same, get_or-set_other}
use Rattle.rv_isa.specs.Words.{loaded, stored}

-- Loads and stores of several bytes are made of smaller ones.

pub loaded_one : (b : ℕ → ℕ) (k : ℕ) → b k ≡ loaded b k 1
unfolding loaded
loaded_one b k = omega arith

pub loaded_two : (b : ℕ → ℕ) (k : ℕ) → loaded b k 1 + 256 * loaded b (k + 1) 1 ≡ loaded b k 2
unfolding loaded
loaded_two b k =
    let e : k + 1 ≡ suc k = omega arith in
    let f : b (k + 1) ≡ b (suc k) = ap b e in
    omega arith

pub loaded_four : (b : ℕ → ℕ) (k : ℕ) → loaded b k 2 + 65536 * loaded b (k + 2) 2 ≡ loaded b k 4
unfolding loaded
loaded_four b k =
    let e : k + 2 ≡ suc (suc k) = omega arith in
    let f : b (k + 2) ≡ b (suc (suc k)) = ap b e in
    let g : b (suc (k + 2)) ≡ b (suc (suc (suc k))) = ap (λ n. b (suc n)) e in
    omega arith

pub loaded_eight : (b : ℕ → ℕ) (k : ℕ) → loaded b k 4 + 4294967296 * loaded b (k + 4) 4 ≡ loaded b k 8
unfolding loaded
loaded_eight b k =
    let e : k + 4 ≡ suc (suc (suc (suc k))) = omega arith in
    let f : b (k + 4) ≡ b (suc (suc (suc (suc k)))) = ap b e in
    let g : b (suc (k + 4)) ≡ b (suc (suc (suc (suc (suc k))))) = ap (λ n. b (suc n)) e in
    let h : b (suc (suc (k + 4))) ≡ b (suc (suc (suc (suc (suc (suc k)))))) = ap (λ n. b (suc (suc n))) e in
    let i : b (suc (suc (suc (k + 4)))) ≡ b (suc (suc (suc (suc (suc (suc (suc k))))))) = ap (λ n. b (suc (suc (suc n)))) e in
    omega arith

pub loaded_same : (f g : ℕ → ℕ) (a b n : ℕ) → ((i : ℕ) → i < n → f (a + i) ≡ g (b + i)) → loaded f a n ≡ loaded g b n
unfolding loaded
loaded_same f g a b zero same = refl
loaded_same f g a b (suc n) same =
    let d : f a ≡ g b = rw (← add-zero a, ← add-zero b) (same 0 (omega arith)) in
    let rest : loaded f (suc a) n ≡ loaded g (suc b) n = loaded_same f g (suc a) (suc b) n (λ i h. let ea : suc a + i ≡ a + suc i = omega arith in let eb : suc b + i ≡ b + suc i = omega arith in rw (ea, eb) (same (suc i) (omega arith))) in
    cc

-- what a store leaves below it, puts in, and leaves above it
stored_below : (b : ℕ → ℕ) (a n v q : ℕ) → q < a → stored b a n v q ≡ b q
unfolding stored
stored_below b a n v q h = rw (lt-ltb q a h) refl

stored_inside : (b : ℕ → ℕ) (a n v q : ℕ) → a ≤ q → q < a + n → stored b a n v q ≡ v / 2 ^ (8 * (q - a)) % 2 ^ 8
unfolding stored
stored_inside b a n v q l h = rw (le-ltb q a l, lt-ltb q (a + n) h) refl

stored_above : (b : ℕ → ℕ) (a n v q : ℕ) → a + n ≤ q → stored b a n v q ≡ b q
unfolding stored
stored_above b a n v q h = rw (le-ltb q a (omega arith), le-ltb q (a + n) h) refl

pub by_places : (P : Type 0) (q a c : ℕ) → a ≤ c → (q < a → P) → (a ≤ q → q < c → P) → (c ≤ q → P) → P
by_places P q a c o low mid high = by_low (nat_lt q a) refl where
  by_high : (t : Bool) → nat_lt q c ≡ t → a ≤ q → P
  by_high true e l = mid l (ltb-true q c e)
  by_high false e l = high (ltb-false q c e)

  by_low : (t : Bool) → nat_lt q a ≡ t → P
  by_low true e = low (ltb-true q a e)
  by_low false e = by_high (nat_lt q c) refl (ltb-false q a e)

pub stored_alike : (b d : ℕ → ℕ) (a n v q : ℕ) → b q ≡ d q → stored b a n v q ≡ stored d a n v q
stored_alike b d a n v q e = by_places (stored b a n v q ≡ stored d a n v q) q a (a + n) (omega arith)
    (λ l. stored_below b a n v q l ∙ e ∙ sym (stored_below d a n v q l))
    (λ l h. stored_inside b a n v q l h ∙ sym (stored_inside d a n v q l h))
    (λ l. stored_above b a n v q l ∙ e ∙ sym (stored_above d a n v q l))

-- a store at another place of other bytes
pub stored_moved : (b d : ℕ → ℕ) (a e n v q r : ℕ) → b q ≡ d r → a + r ≡ e + q → stored b a n v q ≡ stored d e n v r
stored_moved b d a e n v q r same by = by_places (stored b a n v q ≡ stored d e n v r) q a (a + n) (omega arith)
    (λ l. stored_below b a n v q l ∙ same ∙ sym (stored_below d e n v r (omega arith)))
    (λ l h. let f : q - a ≡ r - e = omega arith in stored_inside b a n v q l h ∙ ap (λ i. v / 2 ^ (8 * i) % 2 ^ 8) f ∙ sym (stored_inside d e n v r (omega arith) (omega arith)))
    (λ l. stored_above b a n v q l ∙ same ∙ sym (stored_above d e n v r (omega arith)))

pub stored_elsewhere : (b : ℕ → ℕ) (a n v q : ℕ) → (a ≤ q → q < a + n → ⊥) → stored b a n v q ≡ b q
stored_elsewhere b a n v q out = by_places (stored b a n v q ≡ b q) q a (a + n) (omega arith)
    (λ l. stored_below b a n v q l)
    (λ l h. absurd (out l h))
    (λ l. stored_above b a n v q l)

-- a store of so many bytes and one of so many more behind them
pub stored_twice : (b : ℕ → ℕ) (a n m v q : ℕ) → stored (stored b a n v) (a + n) m (v / 2 ^ (8 * n)) q ≡ stored b a (n + m) v q
stored_twice b a n m v q = by_places (stored (stored b a n v) (a + n) m (v / 2 ^ (8 * n)) q ≡ stored b a (n + m) v q) q (a + n) (a + n + m) (omega arith)
    (λ l. stored_below (stored b a n v) (a + n) m (v / 2 ^ (8 * n)) q l ∙ first l)
    (λ l h. stored_inside (stored b a n v) (a + n) m (v / 2 ^ (8 * n)) q l h ∙ second l h)
    (λ l. stored_above (stored b a n v) (a + n) m (v / 2 ^ (8 * n)) q l ∙ stored_above b a n v q (omega arith) ∙ sym (stored_above b a (n + m) v q (omega arith))) where
      first : q < a + n → stored b a n v q ≡ stored b a (n + m) v q
      first l = by_places (stored b a n v q ≡ stored b a (n + m) v q) q a (a + n) (omega arith)
          (λ k. stored_below b a n v q k ∙ sym (stored_below b a (n + m) v q k))
          (λ k h. stored_inside b a n v q k h ∙ sym (stored_inside b a (n + m) v q k (omega arith)))
          (λ k. absurd (omega arith))

      second : a + n ≤ q → q < a + n + m → v / 2 ^ (8 * n) / 2 ^ (8 * (q - (a + n))) % 2 ^ 8 ≡ stored b a (n + m) v q
      second l h =
          let e : 8 * n + 8 * (q - (a + n)) ≡ 8 * (q - a) = omega arith in
          rw (shr-shr v (8 * n) (8 * (q - (a + n))), e) (sym (stored_inside b a (n + m) v q (omega arith) (omega arith)))

pub stored_none : (b : ℕ → ℕ) (a v q : ℕ) → stored b a 0 v q ≡ b q
stored_none b a v q = by_places (stored b a 0 v q ≡ b q) q a a (omega arith)
    (λ l. stored_below b a 0 v q l)
    (λ l h. absurd (omega arith))
    (λ l. stored_above b a 0 v q (omega arith))

-- one byte of a list
pub byte_set : (xs : List ℕ) (k v q : ℕ) → k < length xs → get_or (slice_set xs k (v % 256)) q 0 ≡ stored (λ i. get_or xs i 0) k 1 v q
byte_set xs k v q h = by_places (get_or (slice_set xs k (v % 256)) q 0 ≡ stored (λ i. get_or xs i 0) k 1 v q) q k (k + 1) (omega arith)
    (λ l. get_or-set_other xs k q (v % 256) 0 (omega arith) ∙ sym (stored_below (λ i. get_or xs i 0) k 1 v q l))
    (λ l u. let e : q ≡ k = omega arith in let z : 8 * (k - k) ≡ 0 = omega arith in rw e (get_or-set_same xs k (v % 256) 0 h ∙ sym (stored_inside (λ i. get_or xs i 0) k 1 v k (omega arith) (omega arith) ∙ rw z (omega arith))))
    (λ l. get_or-set_other xs k q (v % 256) 0 (omega arith) ∙ sym (stored_above (λ i. get_or xs i 0) k 1 v q l))
