-- The value of digits only grows.
use Rattle.std.proofs.Common.{ℕ, ◌<◌, ◌≤◌, ◌+◌, ◌*◌, suc, List, [], ◌∷◌, length, get_or, drop, arith}
use Rattle.std.proofs.Math.Seq.{drop-cons}
use Rattle.std.proofs.Math.Nat.{mul-le-mul_left}
use Rattle.fb_lexer.specs.Letters.{digit_value}
use Rattle.fb_lexer.specs.Pieces.{value_of}

pub value_grows : (base number : ℕ) (bytes : List ℕ) → 0 < base → number ≤ value_of base number bytes
value_grows base number [] h = omega arith
value_grows base number (b ∷ bytes) h =
    let more = value_grows base (number * base + digit_value b) bytes h in
    let times = mul-le-mul_left number h in
    omega (arith, more, times)

-- a digit that takes the value to a bound takes the value of all digits there
pub overflows : (base number : ℕ) (digits : List ℕ) (i bound : ℕ) → 0 < base → i < length digits → bound ≤ number * base + digit_value (get_or digits i 0) → bound ≤ value_of base number (drop i digits)
overflows base number digits i bound h within over =
    let more = value_grows base (number * base + digit_value (get_or digits i 0)) (drop (suc i) digits) h in
    rw (drop-cons digits i 0) (omega (arith, more))
