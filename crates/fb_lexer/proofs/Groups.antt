-- What a token can begin with.
use Rattle.std.proofs.Common.{◌≡◌, ◌==◌, ℕ, ◌≤◌, List, [], ◌∷◌, length, Bool, true, false, ◌&&◌, ◌||◌, cond, refl, arith}
use Rattle.std.specs.Char.{is_ascii_digit}
use Rattle.std.proofs.lemmas.Bool.Decides.{nat_tests}
use Rattle.fb_lexer.specs.declared.token.Mark.{Mark}
use Rattle.fb_lexer.specs.declared.token.Mark.TheVariants as m
use Rattle.fb_lexer.specs.Letters.{is_blank, begins_name, is_in_name, is_in_line, is_digit}
use Rattle.fb_lexer.specs.Pieces.{base_of}
use Rattle.fb_lexer.specs.Grammar.{mark_bytes}

-- the groups of first bytes, in the order in which they are tried
abbrev pub group : ℕ → ℕ
group b =
    cond (is_blank b) 0 (cond (b == 10) 1 (cond (b == 39) 2 (cond (b == 47) 3 (cond (b == 34) 4 (cond (is_ascii_digit b) 5 (cond (begins_name b) 6 (cond (b == 38) 7 8)))))))

pub digit_group : (b : ℕ) → is_ascii_digit b ≡ true → group b ≡ 5
digit_group b h =
    let e1 : is_blank b ≡ false = grind (arith, nat_tests) in
    let e2 : (b == 10) ≡ false = grind (arith, nat_tests) in
    let e3 : (b == 39) ≡ false = grind (arith, nat_tests) in
    let e4 : (b == 47) ≡ false = grind (arith, nat_tests) in
    let e5 : (b == 34) ≡ false = grind (arith, nat_tests) in
    rw (e1, e2, e3, e4, e5, h) refl

pub name_group : (b : ℕ) → begins_name b ≡ true → group b ≡ 6
name_group b h =
    let e1 : is_blank b ≡ false = grind (arith, nat_tests) in
    let e2 : (b == 10) ≡ false = grind (arith, nat_tests) in
    let e3 : (b == 39) ≡ false = grind (arith, nat_tests) in
    let e4 : (b == 47) ≡ false = grind (arith, nat_tests) in
    let e5 : (b == 34) ≡ false = grind (arith, nat_tests) in
    let e6 : is_ascii_digit b ≡ false = grind (arith, nat_tests) in
    rw (e1, e2, e3, e4, e5, e6, h) refl

pub decimal : (b : ℕ) → is_digit 10 b ≡ true → is_ascii_digit b ≡ true
decimal b h = grind (arith, nat_tests)

pub decimal_back : (b : ℕ) → is_ascii_digit b ≡ true → is_digit 10 b ≡ true
decimal_back b h = grind (arith, nat_tests)

pub name_in_line : (b : ℕ) → is_in_name b ≡ true → is_in_line b ≡ true
name_in_line b h = grind (arith, nat_tests)

pub base_small : (b : ℕ) → base_of b ≤ 16
base_small b = grind (arith, nat_tests)

pub no_digit : (base : ℕ) → base ≤ 16 → is_digit base 0 ≡ false
no_digit base h = grind (arith, nat_tests)

-- ---- marks

-- the first bytes of marks
abbrev pub begins_mark : ℕ → Bool
begins_mark b = b == 43 || b == 45 || b == 42 || b == 92 || b == 38 || b == 60 || b == 62 || b == 61 || b == 40 || b == 41 || b == 91 || b == 93 || b == 44 || b == 59 || b == 46 || b == 64

-- the marks of two bytes
abbrev pub is_pair : ℕ → ℕ → Bool
is_pair b c = ((b == 43 || b == 45 || b == 42 || b == 92 || b == 38 || b == 60 || b == 62) && (c == 61)) || ((b == 45 || b == 60) && (c == 62))

abbrev pub is_shape : List ℕ → Bool
is_shape [] = false
is_shape (b ∷ []) = begins_mark b
is_shape (b ∷ c ∷ []) = begins_mark b && is_pair b c
is_shape (b ∷ c ∷ d ∷ bytes) = false

pub shape_of : (which : Mark) → is_shape (mark_bytes which) ≡ true
shape_of m.Plus = refl
shape_of m.Minus = refl
shape_of m.Star = refl
shape_of m.Backslash = refl
shape_of m.Ampersand = refl
shape_of m.Equal = refl
shape_of m.NotEqual = refl
shape_of m.Less = refl
shape_of m.LessEqual = refl
shape_of m.Greater = refl
shape_of m.GreaterEqual = refl
shape_of m.Open = refl
shape_of m.Close = refl
shape_of m.OpenBracket = refl
shape_of m.CloseBracket = refl
shape_of m.Comma = refl
shape_of m.Semicolon = refl
shape_of m.Dot = refl
shape_of m.Arrow = refl
shape_of m.At = refl
shape_of m.PlusEqual = refl
shape_of m.MinusEqual = refl
shape_of m.StarEqual = refl
shape_of m.BackslashEqual = refl
shape_of m.AmpersandEqual = refl

both : (a b : Bool) → (a && b) ≡ true → (a ≡ true) × (b ≡ true)
both true b h = (refl, h)
both false b h = absurd (cc)

-- a mark begins with a byte of marks, and has one byte, or two that are a pair
pub shape_begins : (b : ℕ) (bytes : List ℕ) → is_shape (b ∷ bytes) ≡ true → begins_mark b ≡ true
shape_begins b [] h = h
shape_begins b (c ∷ []) h = (both _ _ h).0
shape_begins b (c ∷ d ∷ bytes) h = absurd (cc)

pub shape_short : (bytes : List ℕ) → is_shape bytes ≡ true → length bytes ≤ 2
shape_short [] h = omega arith
shape_short (b ∷ []) h = omega arith
shape_short (b ∷ c ∷ []) h = omega arith
shape_short (b ∷ c ∷ d ∷ bytes) h = absurd (cc)

pub shape_pair : (b c : ℕ) (bytes : List ℕ) → is_shape (b ∷ c ∷ bytes) ≡ true → is_pair b c ≡ true
shape_pair b c [] h = (both _ _ h).1
shape_pair b c (d ∷ bytes) h = absurd (cc)

late : (t : Bool) → 7 ≤ cond t 7 8
late true = omega arith
late false = omega arith

pub mark_group : (b : ℕ) → begins_mark b ≡ true → 7 ≤ group b
mark_group b h =
    let e1 : is_blank b ≡ false = grind (arith, nat_tests) in
    let e2 : (b == 10) ≡ false = grind (arith, nat_tests) in
    let e3 : (b == 39) ≡ false = grind (arith, nat_tests) in
    let e4 : (b == 47) ≡ false = grind (arith, nat_tests) in
    let e5 : (b == 34) ≡ false = grind (arith, nat_tests) in
    let e6 : is_ascii_digit b ≡ false = grind (arith, nat_tests) in
    let e7 : begins_name b ≡ false = grind (arith, nat_tests) in
    rw (e1, e2, e3, e4, e5, e6, e7) (late (b == 38))
