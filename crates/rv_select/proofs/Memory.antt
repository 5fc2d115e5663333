use Rattle.std.proofs.Common.{◌≡◌, ℕ, zero, suc, ◌+◌, ◌-◌, ◌*◌, ◌/◌, ◌%◌, ◌^◌, ◌<◌, ◌≤◌, ◌⊎◌, inl, inr, false, refl, ap, ◌∙◌, arith}
use Rattle.std.proofs.lemmas.Bool.{lt-ltb, le-ltb}
use Rattle.word64.specs.Words.{extend}
use Rattle.rv_isa.specs.Words.{loaded, stored}

-- Words of eight bytes in memory.

-- a whole word is its own extension
pub extend_word : (v : ℕ) → v < 2 ^ 64 → extend 8 false v ≡ v
unfolding extend
extend_word v small = omega arith

stored_below : (bytes : ℕ → ℕ) (addr width value b : ℕ) → b < addr → stored bytes addr width value b ≡ bytes b
unfolding stored
stored_below bytes addr width value b h = rw (lt-ltb b addr h) refl

stored_above : (bytes : ℕ → ℕ) (addr width value b : ℕ) → addr + width ≤ b → stored bytes addr width value b ≡ bytes b
unfolding stored
stored_above bytes addr width value b h = rw (le-ltb b addr (omega arith), le-ltb b (addr + width) h) refl

stored_byte : (bytes : ℕ → ℕ) (addr width value i : ℕ) → i < width → stored bytes addr width value (addr + i) ≡ value / 2 ^ (8 * i) % 2 ^ 8
unfolding stored
stored_byte bytes addr width value i h =
    let e : addr + i - addr ≡ i = omega arith in
    rw (le-ltb (addr + i) addr (omega arith), lt-ltb (addr + i) (addr + width) (omega arith), e) refl

-- a word is its eight bytes
whole_word : (v : ℕ) → v < 2 ^ 64 → v % 256 + 256 * (v / 256 % 256 + 256 * (v / 65536 % 256 + 256 * (v / 16777216 % 256 + 256 * (v / 4294967296 % 256 + 256 * (v / 1099511627776 % 256 + 256 * (v / 281474976710656 % 256 + 256 * (v / 72057594037927936 % 256 + 0))))))) ≡ v
whole_word v small = omega arith

-- what is read where a word was stored
pub loaded_stored : (bytes : ℕ → ℕ) (a v : ℕ) → v < 2 ^ 64 → loaded (stored bytes a 8 v) a 8 ≡ v
unfolding loaded
loaded_stored bytes a v small =
    let kept : ℕ → ℕ = stored bytes a 8 v in
    let at : (i b : ℕ) → i < 8 → b ≡ a + i → kept b ≡ v / 2 ^ (8 * i) % 2 ^ 8 = λ i b h e. ap (stored bytes a 8 v) e ∙ stored_byte bytes a 8 v i h in
    let e0 : kept a ≡ v % 256 = at 0 a (omega arith) (omega arith) ∙ omega arith in
    let e1 : kept (suc a) ≡ v / 256 % 256 = at 1 (suc a) (omega arith) (omega arith) in
    let e2 : kept (suc (suc a)) ≡ v / 65536 % 256 = at 2 (suc (suc a)) (omega arith) (omega arith) in
    let e3 : kept (suc (suc (suc a))) ≡ v / 16777216 % 256 = at 3 (suc (suc (suc a))) (omega arith) (omega arith) in
    let e4 : kept (suc (suc (suc (suc a)))) ≡ v / 4294967296 % 256 = at 4 (suc (suc (suc (suc a)))) (omega arith) (omega arith) in
    let e5 : kept (suc (suc (suc (suc (suc a))))) ≡ v / 1099511627776 % 256 = at 5 (suc (suc (suc (suc (suc a))))) (omega arith) (omega arith) in
    let e6 : kept (suc (suc (suc (suc (suc (suc a)))))) ≡ v / 281474976710656 % 256 = at 6 (suc (suc (suc (suc (suc (suc a)))))) (omega arith) (omega arith) in
    let e7 : kept (suc (suc (suc (suc (suc (suc (suc a))))))) ≡ v / 72057594037927936 % 256 = at 7 (suc (suc (suc (suc (suc (suc (suc a))))))) (omega arith) (omega arith) in
    rw (e0, e1, e2, e3, e4, e5, e6, e7) (whole_word v small)

-- bytes that agree spell one number
pub loaded_same : (f g : ℕ → ℕ) (a n : ℕ) → ((i : ℕ) → a ≤ i → i < a + n → f i ≡ g i) → loaded f a n ≡ loaded g a n
unfolding loaded
loaded_same f g a zero same = refl
loaded_same f g a (suc n) same =
    let d : f a ≡ g a = same a (omega arith) (omega arith) in
    let rest : loaded f (suc a) n ≡ loaded g (suc a) n = loaded_same f g (suc a) n (λ i l h. same i (omega arith) (omega arith)) in
    cc

-- a word that stands apart from what was stored
pub loaded_apart : (bytes : ℕ → ℕ) (a w v b : ℕ) → (b + 8 ≤ a) ⊎ (a + w ≤ b) → loaded (stored bytes a w v) b 8 ≡ loaded bytes b 8
loaded_apart bytes a w v b (inl below) = loaded_same (stored bytes a w v) bytes b 8 (λ i l h. stored_below bytes a w v i (omega arith))
loaded_apart bytes a w v b (inr above) = loaded_same (stored bytes a w v) bytes b 8 (λ i l h. stored_above bytes a w v i (omega arith))
