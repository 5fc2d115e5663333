-- A piece takes at least one byte.
use Rattle.std.proofs.Common.{◌≡◌, ◌==◌, ℕ, ◌≤◌, ◌+◌, ◌-◌, ◌^◌, List, [], ◌∷◌, take, drop, map, Bool, true, false, ◌&&◌, cond, nat_lt, Option, Some, None, refl, arith}
use Rattle.std.specs.Prelude.{slice_index}
use Rattle.std.specs.List.{prefix_len}
use Rattle.std.specs.Str.{bytes_eq}
use Rattle.std.specs.Char.{is_ascii_digit}
use Rattle.std.proofs.Common.{codes}
use Rattle.std.proofs.lemmas.Bool.Decides.{nat_tests}
use Rattle.fb_base.specs.declared.fault.FaultKind.{FaultKind}
use Rattle.fb_base.specs.declared.fault.FaultKind.TheVariants as faults
use Rattle.fb_lexer.specs.declared.token.Mark.{Mark}
use Rattle.fb_lexer.specs.declared.token.Mark.TheVariants as marks
use Rattle.fb_lexer.specs.declared.word.Word.{Word}
use Rattle.fb_lexer.specs.declared.piece.Piece.{Piece}
use Rattle.fb_lexer.specs.declared.piece.Piece.TheVariants.{Join, Token, Fault}
use Rattle.fb_lexer.specs.declared.piece.Before.{Before}
use Rattle.fb_lexer.specs.declared.piece.Before.TheVariants as before
use Rattle.fb_lexer.specs.Letters.{is_blank, begins_name, is_in_name, lower, is_digit}
use Rattle.fb_lexer.specs.Lengths.{length_of}
use Rattle.fb_lexer.specs.Rows.{IsSound}
use Rattle.fb_lexer.specs.Words.{word_of}
use Rattle.fb_lexer.specs.Pieces.{front_byte, closes, opens, rest_of_comment, comment_of, rest_of_literal, literal_of, number_of, with_equal, less, minus, single, mark_of, base_of, ampersand, word_or_name, named, name, begun, placed, piece_of}

abbrev pub Moves : Piece → Type 0
Moves piece = IsSound piece → 1 ≤ length_of piece

choose : (t : Bool) (p q : Piece) → (t ≡ true → Moves p) → (t ≡ false → Moves q) → Moves (cond t p q)
choose true p q if_so if_not = if_so refl
choose false p q if_so if_not = if_not refl

either : (t : Bool) (p q : Piece) → Moves p → Moves q → Moves (cond t p q)
either t p q if_so if_not = choose t p q (λ _. if_so) (λ _. if_not)

-- an answer is at least so much
abbrev AtLeast : ℕ → Option ℕ → Type 0
AtLeast n r = (m : ℕ) → r ≡ Some m → n ≤ m

at_least_by : (n : ℕ) (t : Bool) (r s : Option ℕ) → AtLeast n r → AtLeast n s → AtLeast n (cond t r s)
at_least_by n true r s h k = h
at_least_by n false r s h k = k

ap_some : {a b : ℕ} → Some a ≡ Some b → a ≡ b
ap_some is = cc

comment_grows : (depth n : ℕ) (bytes : List ℕ) → AtLeast n (rest_of_comment depth n bytes)
comment_grows depth n [] = λ m is. cc
comment_grows depth n (b ∷ []) = λ m is. cc
comment_grows depth n (b ∷ c ∷ bytes) =
    at_least_by n (closes b c) _ _
    (at_least_by n (depth == 1) _ _ (λ m is. omega (arith, ap_some is)) (λ m is. omega (arith, comment_grows (depth - 1) (n + 2) bytes m is)))
    (at_least_by n (opens b c) _ _ (λ m is. omega (arith, comment_grows (depth + 1) (n + 2) bytes m is)) (λ m is. omega (arith, comment_grows depth (n + 1) (c ∷ bytes) m is)))

moves_comment : (r : Option ℕ) → ((m : ℕ) → r ≡ Some m → 1 ≤ m) → Moves (comment_of r)
moves_comment None h sound = absurd sound
moves_comment (Some m) h sound = h m refl

moves_literal : (r : Option (List ℕ × ℕ)) → Moves (literal_of r)
moves_literal None sound = absurd sound
moves_literal (Some r) sound = omega arith

moves_number : (value n : ℕ) → 1 ≤ n → Moves (number_of value n)
moves_number value n h = either (nat_lt value (2 ^ 64)) _ _ (λ _. h) (λ sound. absurd sound)

moves_equal : (next : ℕ) (longer shorter : Mark) → Moves (with_equal next longer shorter)
moves_equal next longer shorter = either (next == 61) _ _ (λ _. omega arith) (λ _. omega arith)

moves_less : (next : ℕ) → Moves (less next)
moves_less next = either (next == 62) _ _ (λ _. omega arith) (moves_equal next marks.LessEqual marks.Less)

moves_minus : (next : ℕ) → Moves (minus next)
moves_minus next = either (next == 62) _ _ (λ _. omega arith) (moves_equal next marks.MinusEqual marks.Minus)

moves_single : (b : ℕ) → Moves (single b)
moves_single b =
    either (b == 61) _ _ (λ _. omega arith) (either (b == 40) _ _ (λ _. omega arith) (either (b == 41) _ _ (λ _. omega arith)
    (either (b == 91) _ _ (λ _. omega arith) (either (b == 93) _ _ (λ _. omega arith) (either (b == 44) _ _ (λ _. omega arith)
    (either (b == 59) _ _ (λ _. omega arith) (either (b == 46) _ _ (λ _. omega arith) (either (b == 64) _ _ (λ _. omega arith)
    (either (b == 58) _ _ (λ _. omega arith) (λ sound. absurd sound))))))))))

moves_mark : (b next : ℕ) → Moves (mark_of b next)
moves_mark b next =
    either (b == 43) _ _ (moves_equal next marks.PlusEqual marks.Plus) (either (b == 45) _ _ (moves_minus next)
    (either (b == 42) _ _ (moves_equal next marks.StarEqual marks.Star) (either (b == 92) _ _ (moves_equal next marks.BackslashEqual marks.Backslash)
    (either (b == 60) _ _ (moves_less next) (either (b == 62) _ _ (moves_equal next marks.GreaterEqual marks.Greater) (moves_single b))))))

moves_word : (word : Option Word) (text : List ℕ) (n : ℕ) → 1 ≤ n → Moves (word_or_name word text n)
moves_word None text n h sound = h
moves_word (Some word) text n h sound = h

moves_named : (text : List ℕ) (n : ℕ) (rest : List ℕ) → 1 ≤ n → Moves (named text n rest)
moves_named text n rest h = either (bytes_eq text (codes "rem")) _ _ (λ _. omega arith) (moves_word (word_of text) text n h)

moves_name : (n : ℕ) (bytes : List ℕ) → 1 ≤ n → Moves (name n bytes)
moves_name n bytes h = either ((n == 1) && (front_byte bytes == 95)) _ _ (λ _. omega arith) (moves_named (map lower (take n bytes)) n (drop n bytes) h)

moves_ampersand : (bytes : List ℕ) → Moves (ampersand bytes)
moves_ampersand bytes =
    either (is_digit (base_of (lower (front_byte bytes))) (slice_index bytes 1)) _ _ (moves_number _ _ (omega arith)) (moves_equal (front_byte bytes) marks.AmpersandEqual marks.Ampersand)

digit_is : (b : ℕ) → is_ascii_digit b ≡ true → is_digit 10 b ≡ true
digit_is b h = grind (arith, nat_tests)

some_digits : (b : ℕ) (bytes : List ℕ) → is_ascii_digit b ≡ true → 1 ≤ prefix_len (is_digit 10) (b ∷ bytes)
some_digits b bytes h = rw (digit_is b h) (omega arith)

some_letters : (b : ℕ) (bytes : List ℕ) → begins_name b ≡ true → 1 ≤ prefix_len is_in_name (b ∷ bytes)
some_letters b bytes h = rw h (omega arith)

moves_begun : (b : ℕ) (bytes : List ℕ) → Moves (begun b bytes)
unfolding begun
moves_begun b bytes =
    either (is_blank b) _ _ (λ _. omega arith) (either (b == 10) _ _ (λ _. omega arith) (either (b == 39) _ _ (λ _. omega arith)
    (either (b == 47) _ _ (either (front_byte bytes == 39) _ _ (moves_comment _ (λ m h. let grows = comment_grows 1 2 (drop 1 bytes) m h in omega (arith, grows))) (λ sound. absurd sound))
    (either (b == 34) _ _ (moves_literal (rest_of_literal bytes))
    (choose (is_ascii_digit b) _ _ (λ h. moves_number _ _ (omega (arith, some_digits b bytes h)))
    (λ _. choose (begins_name b) _ _ (λ h. moves_name _ (b ∷ bytes) (some_letters b bytes h))
    (λ _. either (b == 38) _ _ (moves_ampersand bytes) (moves_mark b (front_byte bytes)))))))))

no_fault_sound : (kind : FaultKind) → IsSound (placed before.Join (Fault kind)) → ⊥
no_fault_sound faults.OpenComment sound = sound
no_fault_sound kind sound = sound

moves_placed : (where_it_is : Before) (piece : Piece) → Moves piece → Moves (placed where_it_is piece)
moves_placed before.White piece h = h
moves_placed before.Other Join h = λ sound. absurd sound
moves_placed before.Other piece h = h
moves_placed before.Join (Token kind n) h = λ sound. absurd sound
moves_placed before.Join Join h = λ sound. absurd sound
moves_placed before.Join (Fault kind) h = λ sound. absurd (no_fault_sound kind sound)
moves_placed before.Join piece h = h

pub moves : (where_it_is : Before) (b : ℕ) (bytes : List ℕ) → Moves (piece_of where_it_is (b ∷ bytes))
moves where_it_is b bytes = moves_placed where_it_is (begun b bytes) (moves_begun b bytes)
