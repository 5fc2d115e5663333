-- The column after bytes, by the last byte 10 among them.
use Rattle.std.proofs.Common.{◌≡◌, ℕ, zero, suc, ◌+◌, ◌-◌, ◌<◌, eqb, Bool, true, false, List, [], ◌∷◌, length, get_or, refl, ◌∙◌, arith}
use Rattle.rt_text.specs.Print.{column_after}

pub by_test : {X : Type 0} (t : Bool) → (t ≡ true → X) → (t ≡ false → X) → X
by_test true y n = y refl
by_test false y n = n refl

abbrev pub IsEnd : List ℕ → ℕ → Type 0
IsEnd bytes k = eqb (get_or bytes k 0) 10 ≡ true

pub column_none : (column : ℕ) (bytes : List ℕ) → ((k : ℕ) → k < length bytes → IsEnd bytes k → ⊥) → column_after column bytes ≡ column + length bytes
column_none column [] none = omega arith
column_none column (b ∷ bytes) none =
    by_test (eqb b 10) (λ t. absurd (none 0 (omega arith) t))
    (λ t. rw t (column_none (column + 1) bytes (λ k lt is. none (suc k) (omega arith) is) ∙ omega arith))

pub column_last : (column : ℕ) (bytes : List ℕ) (last : ℕ) → last < length bytes → IsEnd bytes last → ((k : ℕ) → last < k → k < length bytes → IsEnd bytes k → ⊥) → column_after column bytes ≡ length bytes - 1 - last
column_last column [] last lt is none = absurd (omega arith)
column_last column (b ∷ bytes) zero lt is none =
    rw is (column_none 0 bytes (λ k lt' is'. none (suc k) (omega arith) (omega arith) is') ∙ omega arith)
column_last column (b ∷ bytes) (suc last) lt is none =
    let rest = λ (c : ℕ). column_last c bytes last (omega arith) is (λ k above lt' is'. none (suc k) (omega arith) (omega arith) is') in
    by_test (eqb b 10) (λ t. rw t (rest 0 ∙ omega arith)) (λ t. rw t (rest (column + 1) ∙ omega arith))
