use Rattle.std.specs.Prelude.{ℕ, zero, suc, ◌+◌, ◌-◌, ◌*◌, ◌/◌, ◌%◌, ◌^◌, Bool, true, ◌==◌, nat_lt, if◌then◌else◌, pos, ◌*ℤ◌}
use Rattle.std.specs.Int.{w64, cast_unsigned, int_shr}
use Rattle.word64.specs.Words.{signed, div_signed, rem_signed, extend}

-- The words that immediates stand for: their bits, extended by their sign.
abbrev pub signed_imm : ℕ → ℕ
signed_imm imm = if nat_lt imm (2 ^ 11) then imm else imm + (2 ^ 64 - 2 ^ 12)

abbrev pub signed_upper : ℕ → ℕ
signed_upper imm = if nat_lt imm (2 ^ 19) then 4096 * imm else 4096 * imm + (2 ^ 64 - 2 ^ 32)

abbrev pub signed_branch : ℕ → ℕ
signed_branch offset = if nat_lt offset (2 ^ 11) then 2 * offset else 2 * offset + (2 ^ 64 - 2 ^ 13)

abbrev pub signed_jump : ℕ → ℕ
signed_jump offset = if nat_lt offset (2 ^ 19) then 2 * offset else 2 * offset + (2 ^ 64 - 2 ^ 21)

-- 1 for true and 0 for false
abbrev pub truth : Bool → ℕ
truth b = if b then 1 else 0

-- The low 32 bits of a value, extended by their sign and by zeros.
abbrev pub word : ℕ → ℕ
word value = extend 4 true value

abbrev pub low_word : ℕ → ℕ
low_word value = value % 2 ^ 32

-- Quotients and remainders. A zero divisor gives all ones, and the dividend as remainder.
abbrev pub quotient_signed : ℕ → ℕ → ℕ
quotient_signed a b = if b == 0 then 2 ^ 64 - 1 else div_signed a b

abbrev pub remainder_signed : ℕ → ℕ → ℕ
remainder_signed a b = if b == 0 then a else rem_signed a b

abbrev pub quotient : ℕ → ℕ → ℕ
quotient a b = if b == 0 then 2 ^ 64 - 1 else a / b

abbrev pub remainder : ℕ → ℕ → ℕ
remainder a b = if b == 0 then a else a % b

-- The high 64 bits of products: of two signed values, of a signed and an unsigned one, of two unsigned ones.
unfoldable pub high_signed : ℕ → ℕ → ℕ
high_signed a b = cast_unsigned w64 (int_shr (signed a *ℤ signed b) 64)

unfoldable pub high_mixed : ℕ → ℕ → ℕ
high_mixed a b = cast_unsigned w64 (int_shr (signed a *ℤ pos b) 64)

unfoldable pub high_unsigned : ℕ → ℕ → ℕ
high_unsigned a b = a * b / 2 ^ 64

-- The number that so many bytes from an address on spell, the lowest first.
unfoldable pub loaded : (bytes : ℕ → ℕ) (addr width : ℕ) → ℕ
loaded bytes addr zero = 0
loaded bytes addr (suc width) = bytes addr + 256 * loaded bytes (suc addr) width

-- The bytes after a value was stored in so many bytes from an address on.
unfoldable pub stored : (bytes : ℕ → ℕ) (addr width value : ℕ) → ℕ → ℕ
stored bytes addr width value b =
    if nat_lt b addr then bytes b
    else if nat_lt b (addr + width) then value / 2 ^ (8 * (b - addr)) % 2 ^ 8
    else bytes b
