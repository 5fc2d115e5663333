-- The line of a code word stands before the first line whose index is above it.
use Rattle.std.proofs.Common.{◌≡◌, ℕ, zero, suc, ◌-◌, ◌<◌, ◌≤◌, true, false, leb, List, [], ◌∷◌, length, get_or, refl, sym, sub-one, ◌∙◌, arith}
use Rattle.std.specs.List.Sorted.{IsNonDecreasingBy, IsPartitionPoint}
use Rattle.std.proofs.lemmas.Bool.{leb-false}
use Rattle.fb_base.specs.declared.shape.LineAt.{LineAt}
use Rattle.fb_image.specs.Format.{AllAlong, IsLine, after_line, AreLines}
use Rattle.fb_image.specs.Lines.{last_line, line_of}

above : (words low : ℕ) (ls : List LineAt) → AllAlong (IsLine words) after_line low ls → (j : ℕ) (d : LineAt) → j < length ls → low ≤ (get_or ls j d).index
above words low [] rules j d lt = absurd (omega arith)
above words low (l ∷ ls) rules zero d lt = rules.0.rises
above words low (l ∷ ls) rules (suc j) d lt = omega (arith, above words (after_line l) ls rules.1 j d (omega arith), rules.0.rises)

pub rising : (words low : ℕ) (ls : List LineAt) → AllAlong (IsLine words) after_line low ls → IsNonDecreasingBy (λ (l : LineAt). l.index) ls
rising words low [] rules i j d le lt = absurd (omega arith)
rising words low (l ∷ ls) rules zero zero d le lt = omega arith
rising words low (l ∷ ls) rules zero (suc j) d le lt = omega (arith, above words (after_line l) ls rules.1 j d (omega arith))
rising words low (l ∷ ls) rules (suc i) zero d le lt = absurd (omega arith)
rising words low (l ∷ ls) rules (suc i) (suc j) d le lt = rising words (after_line l) ls rules.1 i j d (omega arith) (omega arith)

-- the line of the last of the first so many
abbrev line_before : ℕ → List LineAt → ℕ → LineAt → ℕ
line_before before ls zero d = before
line_before before ls (suc k) d = (get_or ls k d).line

same_line : (l : LineAt) (ls : List LineAt) (q : ℕ) (d : LineAt) → line_before l.line ls q d ≡ (get_or (l ∷ ls) q d).line
same_line l ls zero d = refl
same_line l ls (suc q) d = refl

at_point : (before : ℕ) (ls : List LineAt) (index p : ℕ) (d : LineAt) → p ≤ length ls
    → ((k : ℕ) → k < p → leb (get_or ls k d).index index ≡ true) → ((k : ℕ) → p ≤ k → k < length ls → leb (get_or ls k d).index index ≡ false)
    → last_line before ls index ≡ line_before before ls p d
at_point before [] index zero d le low high = refl
at_point before [] index (suc p) d le low high = absurd (omega arith)
at_point before (l ∷ ls) index zero d le low high = rw (high 0 (omega arith) (omega arith)) (at_point before ls index zero d (omega arith) (λ k lt. absurd (omega arith)) (λ k p lt. high (suc k) (omega arith) (omega arith)))
at_point before (l ∷ ls) index (suc p) d le low high = rw (low 0 (omega arith)) (at_point l.line ls index p d (omega arith) (λ k lt. low (suc k) (omega arith)) (λ k q lt. high (suc k) (omega arith) (omega arith)) ∙ same_line l ls p d)

-- no line is left out where the search stops
pub some_before : (words index p : ℕ) (ls : List LineAt) (d : LineAt) → 1 ≤ length ls → AreLines words ls
    → IsPartitionPoint (λ (l : LineAt). leb l.index index ≡ true) (λ (l : LineAt). leb l.index index ≡ false) ls p → 1 ≤ p
some_before words index p [] d some rules point = absurd (omega arith)
some_before words index zero (l ∷ ls) d some rules point = absurd (omega (arith, leb-false _ _ (point.1 0 d (omega arith) (omega arith)), rules.0.first refl))
some_before words index (suc p) (l ∷ ls) d some rules point = omega arith

pub line_found : (index p : ℕ) (ls : List LineAt) (d : LineAt) → 1 ≤ p → p ≤ length ls
    → IsPartitionPoint (λ (l : LineAt). leb l.index index ≡ true) (λ (l : LineAt). leb l.index index ≡ false) ls p
    → (get_or ls (p - 1) d).line ≡ line_of ls index
line_found index zero ls d some le point = absurd (omega arith)
line_found index (suc p) ls d some le point = rw sub-one (sym (at_point 0 ls index (suc p) d le (λ k h. point.0 k d (omega arith) h) (λ k g h. point.1 k d g h)))
