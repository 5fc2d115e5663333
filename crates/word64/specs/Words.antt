use Rattle.std.specs.Prelude.{ℕ, ◌+◌, ◌-◌, ◌*◌, ◌%◌, ◌^◌, Bool, ◌&&◌, not, nat_lt, if◌then◌else◌, ℤ, int_div, int_rem, int_lt}
use Rattle.std.specs.Int.{w64, cast_signed, cast_unsigned, int_shr}

-- A word is a number below 2 ^ 64. Read as a signed number, in two's complement, it lies from -2 ^ 63 on.
abbrev pub signed : ℕ → ℤ
signed a = cast_signed w64 a

-- The word of a signed number: the number itself modulo 2 ^ 64.
abbrev pub word_of_signed : ℤ → ℕ
word_of_signed z = cast_unsigned w64 z

-- The quotient of the signed values, rounded toward zero. The least value by -1 gives itself.
unfoldable pub div_signed : ℕ → ℕ → ℕ
div_signed a b = word_of_signed (int_div (signed a) (signed b))

-- The remainder of that quotient, which has the dividend's sign.
unfoldable pub rem_signed : ℕ → ℕ → ℕ
rem_signed a b = word_of_signed (int_rem (signed a) (signed b))

-- Whether the signed value of one word is below that of another.
unfoldable pub less_signed : ℕ → ℕ → Bool
less_signed a b = int_lt (signed a) (signed b)

-- The signed value divided by a power of two, rounded down.
unfoldable pub shift_right_signed : ℕ → ℕ → ℕ
shift_right_signed a n = word_of_signed (int_shr (signed a) n)

-- The low bytes of a value, extended to a word: by their sign, or by zeros.
unfoldable pub extend : (width : ℕ) (has_sign : Bool) (value : ℕ) → ℕ
extend width has_sign value =
    if has_sign && not (nat_lt (value % 2 ^ (8 * width)) (2 ^ (8 * width - 1)))
    then value % 2 ^ (8 * width) + (2 ^ 64 - 2 ^ (8 * width))
    else value % 2 ^ (8 * width)
