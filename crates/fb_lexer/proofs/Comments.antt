-- One step of reading a comment.
use Rattle.std.proofs.Common.{◌≡◌, ◌==◌, ℕ, ◌+◌, ◌-◌, List, ◌∷◌, true, false, refl}
use Rattle.fb_lexer.specs.Pieces.{closes, opens, rest_of_comment}

pub closing : (depth n b c : ℕ) (all rest more : List ℕ) → all ≡ b ∷ rest → rest ≡ c ∷ more → closes b c ≡ true → (depth == 1) ≡ false
    → rest_of_comment (depth - 1) (n + 2) more ≡ rest_of_comment depth n all
closing depth n b c all rest more h k closed deep = rw (h, k, closed, deep) refl

pub opening : (depth n b c : ℕ) (all rest more : List ℕ) → all ≡ b ∷ rest → rest ≡ c ∷ more → closes b c ≡ false → opens b c ≡ true
    → rest_of_comment (depth + 1) (n + 2) more ≡ rest_of_comment depth n all
opening depth n b c all rest more h k closed opened = rw (h, k, closed, opened) refl

pub inside : (depth n b c : ℕ) (all rest more : List ℕ) → all ≡ b ∷ rest → rest ≡ c ∷ more → closes b c ≡ false → opens b c ≡ false
    → rest_of_comment depth (n + 1) rest ≡ rest_of_comment depth n all
inside depth n b c all rest more h k closed opened = rw (h, k, closed, opened) refl
