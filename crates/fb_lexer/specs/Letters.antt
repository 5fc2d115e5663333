-- Classes of bytes.
use Rattle.std.specs.Prelude.{ℕ, ◌+◌, ◌-◌, ◌==◌, Bool, ◌||◌, not, nat_lt, if◌then◌else◌}
use Rattle.std.specs.Char.{is_ascii_alphabetic, is_ascii_digit, is_ascii_uppercase, is_ascii_lowercase}

-- a space, a tab or a carriage return
abbrev pub is_blank : ℕ → Bool
is_blank b = b == 32 || b == 9 || b == 13

-- a letter or an underscore
abbrev pub begins_name : ℕ → Bool
begins_name b = is_ascii_alphabetic b || b == 95

-- a letter, a digit or an underscore
abbrev pub is_in_name : ℕ → Bool
is_in_name b = begins_name b || is_ascii_digit b

-- a byte that doesn't end the line
abbrev pub is_in_line : ℕ → Bool
is_in_line b = not (b == 10)

-- a capital letter as a small one, every other byte as it is
abbrev pub lower : ℕ → ℕ
lower b = if is_ascii_uppercase b then b + 32 else b

-- the value of a digit: letters go on after 9, and what is no digit is 36
abbrev pub digit_value : ℕ → ℕ
digit_value b =
    if is_ascii_digit b then b - 48 else (if is_ascii_lowercase b then b - 87 else (if is_ascii_uppercase b then b - 55 else 36))

-- a digit of the base
abbrev pub is_digit : ℕ → ℕ → Bool
is_digit base b = nat_lt (digit_value b) base
