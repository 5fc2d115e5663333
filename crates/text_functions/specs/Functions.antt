-- The functions on strings (FreeBASIC Manual: Left, Right, Mid, Chr, Asc, InStr, ValLng, UCase, LCase, LTrim, RTrim, Space,
-- Str). Positions count from 1. Numbers are 64-bit words; one from 2^63 on is negative.
use Rattle.std.specs.Prelude.{ℕ, ◌+◌, ◌-◌, ◌*◌, ◌%◌, ◌^◌, ◌==◌, nat_le, Bool, true, false, ◌&&◌, ◌||◌, if◌then◌else◌, List, [], ◌∷◌, length, take, drop, reverse, map, slice_index}
use Rattle.std.specs.declared.cmp.Ordering.{Ordering}
use Rattle.std.specs.declared.cmp.Ordering.TheVariants.{Less, Equal, Greater}
use Rattle.std.specs.Ordering.{nat_cmp}
use Rattle.std.specs.Cmp.Lexicographic.{slice_cmp}

abbrev pub is_negative : ℕ → Bool
is_negative n = nat_le (2 ^ 63) n

abbrev pub is_below_one : ℕ → Bool
is_below_one n = n == 0 || is_negative n

-- the first n bytes, or all where there are no more
abbrev pub left : List ℕ → ℕ → List ℕ
left s n = if is_below_one n then [] else take n s

-- the last n bytes, or all where there are no more
abbrev pub right : List ℕ → ℕ → List ℕ
right s n = if is_below_one n then [] else drop (length s - n) s

-- n bytes from position i on, or all the rest where there are no more, and where n is negative
abbrev pub mid : List ℕ → ℕ → ℕ → List ℕ
mid s i n = if is_below_one i then [] else (if is_negative n then drop (i - 1) s else take n (drop (i - 1) s))

-- the byte of a number's low 8 bits
abbrev pub chr : ℕ → List ℕ
chr n = n % 256 ∷ []

-- the byte at position i, or 0 where there is none
abbrev pub asc : List ℕ → ℕ → ℕ
asc s i = if is_below_one i then 0 else slice_index s (i - 1)

abbrev pub begins_with : List ℕ → List ℕ → Bool
begins_with s [] = true
begins_with [] (y ∷ t) = false
begins_with (x ∷ s) (y ∷ t) = x == y && begins_with s t

-- the first position at which t stands in a string whose first byte has the position `at`; 0 where there is none
abbrev pub first_place : ℕ → List ℕ → List ℕ → ℕ
first_place at [] t = 0
first_place at (x ∷ s) t = if begins_with (x ∷ s) t then at else first_place (at + 1) s t

-- the first position from i on at which t stands in s; 0 where there is none, and the empty text stands nowhere
abbrev pub find : ℕ → List ℕ → List ℕ → ℕ
find i s [] = 0
find i s (y ∷ t) = if is_below_one i then 0 else first_place i (drop (i - 1) s) (y ∷ t)

-- a string without the bytes at its front that pass a test
abbrev pub trimmed : (ℕ → Bool) → List ℕ → List ℕ
trimmed test [] = []
trimmed test (b ∷ s) = if test b then trimmed test s else b ∷ s

abbrev pub is_space : ℕ → Bool
is_space b = b == 32

abbrev pub left_trimmed : List ℕ → List ℕ
left_trimmed s = trimmed is_space s

abbrev pub right_trimmed : List ℕ → List ℕ
right_trimmed s = reverse (trimmed is_space (reverse s))

-- spaces and tabs
abbrev pub is_blank : ℕ → Bool
is_blank b = b == 32 || b == 9

abbrev pub is_digit : ℕ → Bool
is_digit b = nat_le 48 b && nat_le b 57

-- the number that decimal digits spell behind those of v, up to the first byte that is none
abbrev pub digits_value : ℕ → List ℕ → ℕ
digits_value v [] = v
digits_value v (b ∷ s) = if is_digit b then digits_value (10 * v + (b - 48)) s else v

-- the word of a number with a minus sign
abbrev pub negated : ℕ → ℕ
negated v = (2 ^ 64 - v) % 2 ^ 64

-- one optional sign, then digits
abbrev pub signed_value : List ℕ → ℕ
signed_value [] = 0
signed_value (b ∷ s) = if b == 45 then negated (digits_value 0 s % 2 ^ 64) else (if b == 43 then digits_value 0 s % 2 ^ 64 else digits_value 0 (b ∷ s) % 2 ^ 64)

-- ValLng: the number that a string spells, behind spaces and tabs, as a word
abbrev pub val : List ℕ → ℕ
val s = signed_value (trimmed is_blank s)

-- -1, 0 or 1, as the first string stands before the second in the order of their bytes, is the same, or stands behind it
abbrev pub order_word : Ordering → ℕ
order_word Less = 2 ^ 64 - 1
order_word Equal = 0
order_word Greater = 1

abbrev pub compared : List ℕ → List ℕ → ℕ
compared a b = order_word (slice_cmp nat_cmp a b)

abbrev pub upper_byte : ℕ → ℕ
upper_byte b = if nat_le 97 b && nat_le b 122 then b - 32 else b

abbrev pub lower_byte : ℕ → ℕ
lower_byte b = if nat_le 65 b && nat_le b 90 then b + 32 else b

abbrev pub upper : List ℕ → List ℕ
upper s = map upper_byte s

abbrev pub lower : List ℕ → List ℕ
lower s = map lower_byte s
