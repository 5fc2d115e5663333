-- What stands at the front of a text is what is read there.
use Rattle.std.proofs.Common.{◌≡◌, ◌≢◌, ◌==◌, ℕ, zero, suc, ◌<◌, ◌≤◌, ◌+◌, ◌^◌, List, [], ◌∷◌, ◌++◌, length, take, drop, map, Bool, true, false, ◌&&◌, cond, nat_lt, Option, Some, None, refl, sym, ◌∙◌, ap, subst, arith, ◌⊎◌, inl, inr, codes, length-append, length-take, zero-add}
use Rattle.std.specs.Prelude.{slice_index, ⊤}
use Rattle.std.specs.List.{prefix_len}
use Rattle.std.specs.Str.{bytes_eq}
use Rattle.std.specs.Char.{is_ascii_digit}
use Rattle.std.proofs.lemmas.Bool.Decides.{nat_tests}
use Rattle.std.proofs.lemmas.List.{take-append-drop}
use Rattle.std.proofs.lemmas.List.Sums.{prefix_len-le-length}
use Rattle.std.proofs.lemmas.List.Folds.{length-prefix_len}
use Rattle.std.proofs.lemmas.Slice.Eq.{bytes_eq-Decides}
use Rattle.fb_base.specs.declared.fault.FaultKind.TheVariants as faults
use Rattle.fb_lexer.specs.declared.token.Mark.{Mark}
use Rattle.fb_lexer.specs.declared.token.Mark.TheVariants as marks
use Rattle.fb_lexer.specs.declared.token.TokenKind.{TokenKind}
use Rattle.fb_lexer.specs.declared.token.TokenKind.TheVariants as kinds
use Rattle.fb_lexer.specs.declared.word.Word.{Word}
use Rattle.fb_lexer.specs.declared.word.Word.TheVariants.{KwRem}
use Rattle.fb_lexer.specs.declared.piece.Piece.{Piece}
use Rattle.fb_lexer.specs.declared.piece.Piece.TheVariants as pieces
use Rattle.fb_lexer.specs.Letters.{is_blank, begins_name, is_in_name, is_in_line, lower, is_digit}
use Rattle.fb_lexer.specs.Spelling.{spelling}
use Rattle.fb_lexer.specs.Words.{word_of}
use Rattle.fb_lexer.specs.Pieces.{front_byte, line_length, with_front, rest_of_comment, comment_of, rest_of_literal, literal_of, value_of, number_of, number, mark, with_equal, mark_of, base_of, ampersand, word_or_name, named, name, begun}
use Rattle.fb_lexer.specs.Grammar.{Each, IsName, AreDigits, IsNumber, doubled, mark_bytes, Spells, IsLongest, Closes, IsEnclosed, IsComment, Fits, IsOpenText, IsOpenComment, IsBadByte, IsFront}
use Rattle.fb_lexer.proofs.Runs.{run_more, run_stops, each_front, longest_run, each_weaker, line_past}
use Rattle.fb_lexer.proofs.Doubling.{that_byte, not_end, doubled_other, Right, rest_right}
use Rattle.fb_lexer.proofs.Enclosed.{read_closed, ends_at}
use Rattle.fb_lexer.proofs.Spelt.{word_spells, has_word}
use Rattle.fb_lexer.proofs.Groups.{group, digit_group, name_group, decimal, decimal_back, name_in_line, is_shape, shape_of, shape_begins, shape_short, mark_group}
use Rattle.fb_lexer.proofs.Sound.{begun_sound, begins, not_empty, number_begins, head_is, tail_is, append_last, begins_in_name, name_longest, two_more, one_more, large, blank_group, first_drop}

-- ---- two longest tokens at one place are one

same_length : (bytes : List ℕ) (n m : ℕ) (kind other : TokenKind) → IsLongest bytes n kind → IsLongest bytes m other → n ≡ m
same_length bytes n m kind other h k = omega (arith, h.longest m other k.within k.spells, k.longest n kind h.within h.spells)

-- a mark, read again from its bytes
abbrev read_mark : List ℕ → Piece
read_mark [] = pieces.Blank
read_mark (b ∷ bytes) = cond (b == 38) (with_equal (front_byte bytes) marks.AmpersandEqual marks.Ampersand) (mark_of b (front_byte bytes))

read_again : (which : Mark) → read_mark (mark_bytes which) ≡ mark which (length (mark_bytes which))
read_again marks.Plus = refl
read_again marks.Minus = refl
read_again marks.Star = refl
read_again marks.Backslash = refl
read_again marks.Ampersand = refl
read_again marks.Equal = refl
read_again marks.NotEqual = refl
read_again marks.Less = refl
read_again marks.LessEqual = refl
read_again marks.Greater = refl
read_again marks.GreaterEqual = refl
read_again marks.Open = refl
read_again marks.Close = refl
read_again marks.OpenBracket = refl
read_again marks.CloseBracket = refl
read_again marks.Comma = refl
read_again marks.Semicolon = refl
read_again marks.Dot = refl
read_again marks.Arrow = refl
read_again marks.At = refl
read_again marks.PlusEqual = refl
read_again marks.MinusEqual = refl
read_again marks.StarEqual = refl
read_again marks.BackslashEqual = refl
read_again marks.AmpersandEqual = refl

mark_is : {a b : Mark} {n m : ℕ} → mark a n ≡ mark b m → a ≡ b
mark_is h = cc

same_mark : (a b : Mark) → mark_bytes a ≡ mark_bytes b → a ≡ b
same_mark a b h = mark_is (sym (read_again a) ∙ ap read_mark h ∙ read_again b)

-- ---- names

word_is : {a b : Word} → Some a ≡ Some b → a ≡ b
word_is h = cc

none_too : (rest : List ℕ) (k n : ℕ) → k ≤ length rest → k ≤ n → take n rest ≡ [] → take k rest ≡ []
none_too rest zero n within h none = refl
none_too [] (suc k) n within h none = refl
none_too (b ∷ rest) (suc k) zero within h none = absurd (omega arith)
none_too (b ∷ rest) (suc k) (suc n) within h none = absurd (cc)

no_run : (rest : List ℕ) (n : ℕ) → n ≡ 0 → take n rest ≡ []
no_run rest n h = ap (λ k. take k rest) h

not_both : (a b : Bool) → (a ≡ true → b ≡ true → ⊥) → (a && b) ≡ false
not_both true true h = absurd (h refl refl)
not_both true false h = refl
not_both false b h = refl

not_eq_by : (t : Bool) (a b : List ℕ) → bytes_eq a b ≡ t → (a ≡ b → ⊥) → bytes_eq a b ≡ false
not_eq_by true a b is h = absurd (h ((bytes_eq-Decides a b).0 is))
not_eq_by false a b is h = is

not_eq : (a b : List ℕ) → (a ≡ b → ⊥) → bytes_eq a b ≡ false
not_eq a b h = not_eq_by (bytes_eq a b) a b refl h

no_word : (text : List ℕ) (n : ℕ) (found : Option Word) → word_of text ≡ found → ((word : Word) → spelling word ≢ text) → word_or_name found text n ≡ pieces.Token (kinds.Name text) n
no_word text n None is other = refl
no_word text n (Some word) is other = absurd (other word (word_spells text word is))

-- each name is a token
name_spells : (front text : List ℕ) (found : Option Word) → text ≡ map lower front → word_of text ≡ found → IsName front → (kind : TokenKind) × Spells front kind
name_spells front text None text_is found is = (kinds.Name text, (is, text_is, λ word same. absurd (let e = sym (has_word word) ∙ ap word_of same ∙ found in cc)))
name_spells front text (Some word) text_is found is = (kinds.Word word, (is, word_spells text word found ∙ text_is))

begun_name : (b : ℕ) (rest : List ℕ) → begins_name b ≡ true → begun b rest ≡ name (suc (prefix_len is_in_name rest)) (b ∷ rest)
unfolding begun
begun_name b rest h =
    let e1 : is_blank b ≡ false = grind (arith, nat_tests) in
    let e2 : (b == 10) ≡ false = grind (arith, nat_tests) in
    let e3 : (b == 39) ≡ false = grind (arith, nat_tests) in
    let e4 : (b == 47) ≡ false = grind (arith, nat_tests) in
    let e5 : (b == 34) ≡ false = grind (arith, nat_tests) in
    let e6 : is_ascii_digit b ≡ false = grind (arith, nat_tests) in
    rw (e1, e2, e3, e4, e5, e6, h) (ap (λ n. name n (b ∷ rest)) (one_more (prefix_len is_in_name rest)))

begun_digit : (b : ℕ) (rest : List ℕ) → is_ascii_digit b ≡ true → begun b rest ≡ number 10 0 (b ∷ rest)
unfolding begun
begun_digit b rest h =
    let e1 : is_blank b ≡ false = grind (arith, nat_tests) in
    let e2 : (b == 10) ≡ false = grind (arith, nat_tests) in
    let e3 : (b == 39) ≡ false = grind (arith, nat_tests) in
    let e4 : (b == 47) ≡ false = grind (arith, nat_tests) in
    let e5 : (b == 34) ≡ false = grind (arith, nat_tests) in
    rw (e1, e2, e3, e4, e5, h) refl

begun_blank : (b : ℕ) (rest : List ℕ) → is_blank b ≡ true → begun b rest ≡ pieces.Blank
unfolding begun
begun_blank b rest h = rw h refl

begun_line : (rest : List ℕ) → begun 10 rest ≡ pieces.LineEnd
unfolding begun
begun_line rest = refl

begun_apostrophe : (rest : List ℕ) → begun 39 rest ≡ pieces.Comment (line_length (39 ∷ rest))
unfolding begun
begun_apostrophe rest = refl

begun_enclosed : (rest : List ℕ) → begun 47 (39 ∷ rest) ≡ comment_of (rest_of_comment 1 2 rest)
unfolding begun
begun_enclosed rest = refl

begun_literal : (rest : List ℕ) → begun 34 rest ≡ literal_of (rest_of_literal rest)
unfolding begun
begun_literal rest = refl

begun_ampersand : (rest : List ℕ) → begun 38 rest ≡ ampersand rest
unfolding begun
begun_ampersand rest = refl

-- a name that is the longest token is the whole run
whole_name : (b : ℕ) (rest : List ℕ) (n : ℕ) (kind : TokenKind) → begins_name b ≡ true → IsLongest (b ∷ rest) n kind → IsName (b ∷ take (prefix_len is_in_name rest) rest) → n ≡ suc (prefix_len is_in_name rest)
whole_name b rest n kind h long is =
    let front = b ∷ take (prefix_len is_in_name rest) rest in
    let some = name_spells front (map lower front) (word_of (map lower front)) refl refl is in
    same_length (b ∷ rest) n _ kind some.0 long (name_longest b rest some.0 (name_group b h) some.1)

-- the run is a name, where a front of it is one
run_is_name : (b : ℕ) (rest : List ℕ) (k : ℕ) → k ≤ length rest → IsName (b ∷ take k rest) → IsName (b ∷ take (prefix_len is_in_name rest) rest)
run_is_name b rest k within is = (is.0, each_front is_in_name rest, λ line none. is.2 line (none_too rest k _ within (longest_run is_in_name rest k within is.1) none))

name_not_alone : (b : ℕ) (rest : List ℕ) → IsName (b ∷ take (prefix_len is_in_name rest) rest) → ((suc (prefix_len is_in_name rest) == 1) && (b == 95)) ≡ false
name_not_alone b rest is = not_both (suc (prefix_len is_in_name rest) == 1) (b == 95) (λ one line. is.2 (that_byte b 95 line) (no_run rest (prefix_len is_in_name rest) (let e = that_byte (suc (prefix_len is_in_name rest)) 1 one in omega (arith, e))))

begun_named : (b : ℕ) (rest : List ℕ) → IsName (b ∷ take (prefix_len is_in_name rest) rest) → begun b rest ≡ named (map lower (b ∷ take (prefix_len is_in_name rest) rest)) (suc (prefix_len is_in_name rest)) (drop (prefix_len is_in_name rest) rest)
begun_named b rest is = begun_name b rest is.0 ∙ rw (name_not_alone b rest is) refl

same_spelling : (a b : Word) → spelling a ≡ spelling b → a ≡ b
same_spelling a b h = word_is (sym (has_word a) ∙ ap word_of h ∙ has_word b)

-- what a name in lower case gives
named_name : (text : List ℕ) (n : ℕ) (rest : List ℕ) (found : Option Word) → word_of text ≡ found → ((word : Word) → spelling word ≢ text) → named text n rest ≡ pieces.Token (kinds.Name text) n
named_name text n rest found is other =
    rw (not_eq text (codes "rem") (λ rem. other KwRem (sym rem)), is) (no_word text n found is other)

named_word : (text : List ℕ) (n : ℕ) (rest : List ℕ) (word : Word) → spelling word ≡ text → word ≢ KwRem → named text n rest ≡ pieces.Token (kinds.Word word) n
named_word text n rest word spelt other =
    rw (not_eq text (codes "rem") (λ rem. other (same_spelling word KwRem (spelt ∙ rem))), ap word_of (sym spelt) ∙ has_word word) refl

named_rem : (text : List ℕ) (n : ℕ) (rest : List ℕ) → spelling KwRem ≡ text → named text n rest ≡ pieces.Comment (n + line_length rest)
named_rem text n rest spelt = rw ((bytes_eq-Decides text (codes "rem")).1 (sym spelt)) refl

-- ---- numbers

below : (a b : ℕ) → a < b → nat_lt a b ≡ true
below a b h = grind (arith, nat_tests)

not_below : (a b : ℕ) → b ≤ a → nat_lt a b ≡ false
not_below a b h = grind (arith, nat_tests)

number_small : (value n : ℕ) → value < 2 ^ 64 → number_of value n ≡ pieces.Token (kinds.Number value) n
number_small value n h = let e : nat_lt value (2 ^ 64) ≡ true = below value (2 ^ 64) h in rw e refl

number_large : (value n : ℕ) → 2 ^ 64 ≤ value → number_of value n ≡ pieces.Fault faults.BigNumber
number_large value n h = let e : nat_lt value (2 ^ 64) ≡ false = not_below value (2 ^ 64) h in rw e refl

decimal_digits : (b : ℕ) (rest : List ℕ) (n : ℕ) → is_ascii_digit b ≡ true → AreDigits 10 (take (prefix_len (is_digit 10) (b ∷ rest)) (b ∷ rest))
decimal_digits b rest n h =
    (each_front (is_digit 10) (b ∷ rest), omega (arith, length-prefix_len (is_digit 10) (b ∷ rest), run_more (is_digit 10) b rest (decimal_back b h)))

-- what decimal digits at the front of a text give
decimal_read : (b : ℕ) (rest : List ℕ) (n value : ℕ) → is_ascii_digit b ≡ true → n ≡ prefix_len (is_digit 10) (b ∷ rest) → value ≡ value_of 10 0 (take n (b ∷ rest)) → begun b rest ≡ number_of value n
decimal_read b rest n value h n_is value_is =
    begun_digit b rest h ∙ ap (λ k. number_of (value_of 10 0 (take (prefix_len (is_digit 10) (b ∷ rest)) (b ∷ rest))) k) (zero-add (prefix_len (is_digit 10) (b ∷ rest))) ∙ ap (λ k. number_of (value_of 10 0 (take k (b ∷ rest))) k) (sym n_is) ∙ ap (λ v. number_of v n) (sym value_is)

based_digits : (base : ℕ) (digits : List ℕ) → 1 ≤ prefix_len (is_digit base) digits → AreDigits base (take (prefix_len (is_digit base) digits) digits)
based_digits base digits some = (each_front (is_digit base) digits, omega (arith, length-prefix_len (is_digit base) digits, some))

first_passes : (base : ℕ) (digits : List ℕ) (k : ℕ) → AreDigits base (take k digits) → is_digit base (front_byte digits) ≡ true
first_passes base digits zero each = absurd (omega (arith, each.1))
first_passes base [] (suc k) each = absurd (omega (arith, each.1))
first_passes base (d ∷ digits) (suc k) each = each.0.0

second_is : (l : ℕ) (digits : List ℕ) → slice_index (l ∷ digits) 1 ≡ front_byte digits
second_is l [] = refl
second_is l (d ∷ digits) = refl

ampersand_read : (l : ℕ) (digits : List ℕ) → is_digit (base_of (lower l)) (front_byte digits) ≡ true → ampersand (l ∷ digits) ≡ number (base_of (lower l)) 2 digits
ampersand_read l digits h =
    let e : is_digit (base_of (lower l)) (slice_index (l ∷ digits) 1) ≡ true = ap (λ x. is_digit (base_of (lower l)) x) (second_is l digits) ∙ h in
    rw e refl

based_read : (rest : List ℕ) (k value : ℕ) → IsLongest (38 ∷ rest) (suc k) (kinds.Number value) → (letter : ℕ) (digits : List ℕ) → take k rest ≡ letter ∷ digits
    → AreDigits (base_of (lower letter)) digits → value ≡ value_of (base_of (lower letter)) 0 digits → begun 38 rest ≡ number_of value (suc k)
based_read [] zero value long letter digits e each value_is = absurd (cc)
based_read [] (suc k) value long letter digits e each value_is = absurd (cc)
based_read (l ∷ rest) zero value long letter digits e each value_is = absurd (cc)
based_read (l ∷ rest) (suc k) value long letter digits e each value_is =
    let l_is : letter ≡ l = sym (head_is e) in
    let base = base_of (lower l) in
    let run = prefix_len (is_digit base) rest in
    let here : AreDigits base (take k rest) = subst (λ x. AreDigits (base_of (lower x)) (take k rest)) l_is (subst (λ x. AreDigits (base_of (lower letter)) x) (sym (tail_is e)) each) in
    let value_here : value ≡ value_of base 0 (take k rest) = value_is ∙ ap (λ x. value_of (base_of (lower x)) 0 digits) l_is ∙ ap (λ x. value_of base 0 x) (sym (tail_is e)) in
    let low = longest_run (is_digit base) rest k (let w = long.within in omega (arith, w)) here.0 in
    let some : 1 ≤ run = omega (arith, low, here.1, length-take k rest) in
    let high = long.longest (suc (suc run)) (kinds.Number (value_of base 0 (take run rest))) (omega (arith, prefix_len-le-length (is_digit base) rest)) (inr (l, take run rest, refl, based_digits base rest some, refl)) in
    let run_is : run ≡ k = omega (arith, low, high) in
    begun_ampersand (l ∷ rest) ∙ ampersand_read l rest (first_passes base rest k here) ∙ ap (λ n. number_of (value_of base 0 (take n rest)) (2 + n)) run_is ∙ ap (λ n. number_of (value_of base 0 (take k rest)) n) (sym (two_more k)) ∙ ap (λ v. number_of v (suc (suc k))) (sym value_here)

number_read : (b : ℕ) (rest : List ℕ) (k value : ℕ) → IsLongest (b ∷ rest) (suc k) (kinds.Number value) → IsNumber (b ∷ take k rest) value → begun b rest ≡ number_of value (suc k)
number_read b rest k value long (inl h) =
    let digit = decimal b h.0.0.0 in
    let run = prefix_len (is_digit 10) (b ∷ rest) in
    let low = longest_run (is_digit 10) (b ∷ rest) (suc k) long.within h.0.0 in
    let high = long.longest run (kinds.Number (value_of 10 0 (take run (b ∷ rest)))) (prefix_len-le-length (is_digit 10) (b ∷ rest)) (inl (decimal_digits b rest run digit, refl)) in
    decimal_read b rest (suc k) value digit (omega (arith, low, high)) h.1
number_read b rest k value long (inr h) =
    let b_is : b ≡ 38 = head_is h.2 in
    subst (λ x. begun x rest ≡ number_of value (suc k)) (sym b_is) (based_read rest k value (subst (λ x. IsLongest (x ∷ rest) (suc k) (kinds.Number value)) b_is long) h.0 h.1 (tail_is h.2) h.3 h.4)

-- ---- literals

other_by : (t : Bool) (b k : ℕ) → (b == k) ≡ t → b ≢ k → (b == k) ≡ false
other_by true b k is h = absurd (h (that_byte b k is))
other_by false b k is h = is

other_byte : (b k : ℕ) → b ≢ k → (b == k) ≡ false
other_byte b k h = other_by (b == k) b k refl h

-- one more byte of a literal's rest
next_byte : (b : ℕ) (bytes : List ℕ) → (b == 10) ≡ false → (b == 34) ≡ false → rest_of_literal (b ∷ bytes) ≡ with_front (b ∷ []) 1 (rest_of_literal bytes)
next_byte b [] l q = rw q refl
next_byte b (c ∷ bytes) l q = rw (l, q) refl

reads_front : (b : ℕ) (text more : List ℕ) (t : Bool) → (b == 34) ≡ t → is_in_line b ≡ true → rest_of_literal (doubled text ++ 34 ∷ more) ≡ Some (text, suc (length (doubled text)))
    → rest_of_literal (doubled (b ∷ text) ++ 34 ∷ more) ≡ Some (b ∷ text, suc (length (doubled (b ∷ text))))
reads_front b text more true q line read =
    let b_is : b ≡ 34 = that_byte b 34 q in
    rw b_is (ap (with_front (34 ∷ []) 2) read ∙ ap (λ n. Some (34 ∷ text, n)) (omega arith))
reads_front b text more false q line read =
    rw (doubled_other b text q) (next_byte b (doubled text ++ 34 ∷ more) (not_end b line) q ∙ ap (with_front (b ∷ []) 1) read ∙ ap (λ n. Some (b ∷ text, n)) (omega arith))

-- a literal's rest is read to its end, where no quote follows
reads_whole : (text more : List ℕ) → Each is_in_line text → front_byte more ≢ 34 → rest_of_literal (doubled text ++ 34 ∷ more) ≡ Some (text, suc (length (doubled text)))
reads_whole [] [] each h = refl
reads_whole [] (c ∷ more) each h = let e : (c == 34) ≡ false = other_byte c 34 h in rw e refl
reads_whole (b ∷ text) more each h = reads_front b text more (b == 34) refl each.0 (reads_whole text more each.1 h)

longest_literal : (rest : List ℕ) (k : ℕ) (text : List ℕ) → IsLongest (34 ∷ rest) (suc k) (kinds.Str text) → begun 34 rest ≡ pieces.Token (kinds.Str text) (suc k)
longest_literal rest k text long =
    let inner = tail_is long.spells.0 in
    let whole : rest ≡ doubled text ++ 34 ∷ drop k rest = sym (take-append-drop k rest) ∙ ap (λ x. x ++ drop k rest) inner ∙ append_last (doubled text) 34 (drop k rest) in
    let read : rest_of_literal rest ≡ Some (text, suc (length (doubled text))) = ap rest_of_literal whole ∙ reads_whole text (drop k rest) long.spells.1 (λ e. long.closed refl (first_drop rest k ∙ e)) in
    let w = long.within in
    let sized : 1 + suc (length (doubled text)) ≡ suc k = omega (arith, w, length-take k rest, ap length inner, length-append (doubled text) (34 ∷ [])) in
    begun_literal rest ∙ ap literal_of read ∙ ap (λ n. pieces.Token (kinds.Str text) n) sized

open_literal : (rest : List ℕ) (r : Option (List ℕ × ℕ)) → rest_of_literal rest ≡ r → Right rest r → IsOpenText (34 ∷ rest) → literal_of r ≡ pieces.Fault faults.OpenText
open_literal rest None e right h = refl
open_literal rest (Some r) e right h =
    absurd (right.closed (h.1 (suc r.1) r.0 (let w = right.within in omega (arith, w)) (ap (λ x. 34 ∷ x) right.front, right.line)))

-- ---- comments

closed_comment : (rest : List ℕ) (k : ℕ) → k ≤ length rest → Closes 1 (take k rest) → rest_of_comment 1 2 rest ≡ Some (suc (suc k))
closed_comment rest k within closed =
    sym (ap (λ x. rest_of_comment 1 2 x) (take-append-drop k rest)) ∙ read_closed closed (drop k rest) 2 ∙ ap Some (omega (arith, length-take k rest))

open_comment : (rest : List ℕ) (r : Option ℕ) → rest_of_comment 1 2 rest ≡ r → IsOpenComment (47 ∷ 39 ∷ rest) → comment_of r ≡ pieces.Fault faults.OpenComment
open_comment rest None e h = refl
open_comment rest (Some m) e h =
    let found = ends_at 1 2 rest (omega arith) m e in
    absurd (h.2 (suc (suc found.0)) (omega (arith, found.2)) (take found.0 rest, refl, found.3))

enclosed_read : (b : ℕ) (rest : List ℕ) (n : ℕ) → n ≤ length (b ∷ rest) → IsEnclosed (take n (b ∷ rest)) → begun b rest ≡ pieces.Comment n
enclosed_read b rest zero within h = absurd (let e = h.1 in cc)
enclosed_read b rest (suc zero) within h = absurd (let e = h.1 in cc)
enclosed_read b [] (suc (suc k)) within h = absurd (omega arith)
enclosed_read b (c ∷ rest) (suc (suc k)) within h =
    let b_is : b ≡ 47 = head_is h.1 in
    let c_is : c ≡ 39 = head_is (tail_is h.1) in
    let closed = subst (λ x. Closes 1 x) (sym (tail_is (tail_is h.1))) h.2 in
    rw (b_is, c_is) (begun_enclosed rest ∙ ap comment_of (closed_comment rest k (omega arith) closed))

-- ---- marks

-- no number is a mark or a colon: one of them has at most two bytes
number_sized : (b : ℕ) (bytes : List ℕ) (letter : ℕ) (digits : List ℕ) → b ∷ bytes ≡ 38 ∷ letter ∷ digits → 1 ≤ length digits → 3 ≤ length (b ∷ bytes)
number_sized b bytes letter digits e some = omega (arith, ap length e, some)

mark_no_number : (b : ℕ) (bytes : List ℕ) (which : Mark) (value : ℕ) → b ∷ bytes ≡ mark_bytes which → IsNumber (b ∷ bytes) value → ⊥
mark_no_number b bytes which value h (inl k) = absurd (omega (arith, mark_group b (shape_begins b bytes (ap is_shape h ∙ shape_of which)), digit_group b (decimal b k.0.0.0)))
mark_no_number b bytes which value h (inr k) = absurd (omega (arith, shape_short (b ∷ bytes) (ap is_shape h ∙ shape_of which), number_sized b bytes k.0 k.1 k.2 k.3.1))

colon_no_number : (b : ℕ) → b ≡ 58 → (group b ≡ 5) ⊎ (group b ≡ 7) → ⊥
colon_no_number b e (inl h) = absurd (omega (arith, ap group e, h))
colon_no_number b e (inr h) = absurd (omega (arith, ap group e, h))

-- a mark or a colon and another token of the same bytes are one
same_by_mark : (b : ℕ) (bytes : List ℕ) (which : Mark) (other : TokenKind) → b ∷ bytes ≡ mark_bytes which → Spells (b ∷ bytes) other → kinds.Mark which ≡ other
same_by_mark b bytes which (kinds.Name text) h k = absurd (omega (arith, mark_group b (shape_begins b bytes (ap is_shape h ∙ shape_of which)), begins b bytes (kinds.Name text) k))
same_by_mark b bytes which (kinds.Word word) h k = absurd (omega (arith, mark_group b (shape_begins b bytes (ap is_shape h ∙ shape_of which)), begins b bytes (kinds.Word word) k))
same_by_mark b bytes which (kinds.Number value) h k = absurd (mark_no_number b bytes which value h k)
same_by_mark b bytes which (kinds.Str text) h k = absurd (omega (arith, mark_group b (shape_begins b bytes (ap is_shape h ∙ shape_of which)), begins b bytes (kinds.Str text) k))
same_by_mark b bytes which (kinds.Mark other) h k = ap (λ m. kinds.Mark m) (same_mark which other (sym h ∙ k))
same_by_mark b bytes which kinds.Colon h k = absurd (let e = sym (ap is_shape k) ∙ ap is_shape h ∙ shape_of which in cc)
same_by_mark b bytes which kinds.LineEnd h k = absurd k

same_by_colon : (b : ℕ) (bytes : List ℕ) (other : TokenKind) → b ∷ bytes ≡ 58 ∷ [] → Spells (b ∷ bytes) other → kinds.Colon ≡ other
same_by_colon b bytes (kinds.Name text) h k = absurd (omega (arith, ap group (head_is h), begins b bytes (kinds.Name text) k))
same_by_colon b bytes (kinds.Word word) h k = absurd (omega (arith, ap group (head_is h), begins b bytes (kinds.Word word) k))
same_by_colon b bytes (kinds.Number value) h k = absurd (colon_no_number b (head_is h) (number_begins b bytes value k))
same_by_colon b bytes (kinds.Str text) h k = absurd (omega (arith, ap group (head_is h), begins b bytes (kinds.Str text) k))
same_by_colon b bytes (kinds.Mark which) h k = absurd (let e = sym (ap is_shape h) ∙ ap is_shape k ∙ shape_of which in cc)
same_by_colon b bytes kinds.Colon h k = refl
same_by_colon b bytes kinds.LineEnd h k = absurd k

-- a kind whose tokens are marks or colons
abbrev IsMarked : TokenKind → Type 0
IsMarked (kinds.Mark which) = ⊤
IsMarked kinds.Colon = ⊤
IsMarked (kinds.Name text) = ⊥
IsMarked (kinds.Word word) = ⊥
IsMarked (kinds.Number value) = ⊥
IsMarked (kinds.Str text) = ⊥
IsMarked kinds.LineEnd = ⊥

same_marked : (b : ℕ) (bytes : List ℕ) (kind other : TokenKind) → IsMarked kind → Spells (b ∷ bytes) kind → Spells (b ∷ bytes) other → kind ≡ other
same_marked b bytes (kinds.Mark which) other m h k = same_by_mark b bytes which other h k
same_marked b bytes kinds.Colon other m h k = same_by_colon b bytes other h k
same_marked b bytes (kinds.Name text) other m h k = absurd m
same_marked b bytes (kinds.Word word) other m h k = absurd m
same_marked b bytes (kinds.Number value) other m h k = absurd m
same_marked b bytes (kinds.Str text) other m h k = absurd m
same_marked b bytes kinds.LineEnd other m h k = absurd m

marked_group : (b : ℕ) (bytes : List ℕ) (kind : TokenKind) → IsMarked kind → Spells (b ∷ bytes) kind → 7 ≤ group b
marked_group b bytes (kinds.Mark which) m h = begins b bytes (kinds.Mark which) h
marked_group b bytes kinds.Colon m h = omega (arith, begins b bytes kinds.Colon h)
marked_group b bytes (kinds.Name text) m h = absurd m
marked_group b bytes (kinds.Word word) m h = absurd m
marked_group b bytes (kinds.Number value) m h = absurd m
marked_group b bytes (kinds.Str text) m h = absurd m
marked_group b bytes kinds.LineEnd m h = absurd m

same_token : (b : ℕ) (rest : List ℕ) (k n : ℕ) (kind other : TokenKind) → IsMarked kind → IsLongest (b ∷ rest) (suc k) kind → IsLongest (b ∷ rest) n other → pieces.Token other n ≡ pieces.Token kind (suc k)
same_token b rest k n kind other m h j =
    let n_is : n ≡ suc k = same_length (b ∷ rest) n (suc k) other kind j h in
    let spells = subst (λ x. Spells (take x (b ∷ rest)) other) n_is j.spells in
    let kind_is : kind ≡ other = same_marked b (take k rest) kind other m h.spells spells in
    ap (λ x. pieces.Token x n) (sym kind_is) ∙ ap (λ x. pieces.Token kind x) n_is

token_is : {a b : TokenKind} {n m : ℕ} → pieces.Token a n ≡ pieces.Token b m → a ≡ b
token_is h = cc

number_unmarked : (kind : TokenKind) → IsMarked kind → {value : ℕ} → kinds.Number value ≡ kind → ⊥
number_unmarked (kinds.Mark which) m e = absurd (cc)
number_unmarked kinds.Colon m e = absurd (cc)
number_unmarked (kinds.Name text) m e = m
number_unmarked (kinds.Word word) m e = m
number_unmarked (kinds.Number value) m e = m
number_unmarked (kinds.Str text) m e = m
number_unmarked kinds.LineEnd m e = m

not_number : (b : ℕ) (rest : List ℕ) (k n value : ℕ) (kind : TokenKind) → IsMarked kind → IsLongest (b ∷ rest) (suc k) kind → IsLongest (b ∷ rest) n (kinds.Number value) → ⊥
not_number b rest k n value kind m h j = absurd (let e = same_token b rest k n kind (kinds.Number value) m h j in number_unmarked kind m (token_is e))

enclosed_group : (b : ℕ) (rest : List ℕ) (n : ℕ) → IsEnclosed (take n (b ∷ rest)) → group b ≡ 3
enclosed_group b rest zero h = absurd (let e = h.1 in cc)
enclosed_group b rest (suc k) h = ap group (head_is h.1)

comment_apart : (b : ℕ) (rest : List ℕ) (n : ℕ) → 7 ≤ group b → IsComment (b ∷ rest) n → ⊥
comment_apart b rest n g (inl h) = absurd (omega (arith, g, ap group h.0))
comment_apart b rest n g (inr (inl h)) = absurd (omega (arith, g, begins b (take 2 rest) (kinds.Word KwRem) h.0.spells))
comment_apart b rest n g (inr (inr h)) = absurd (omega (arith, g, enclosed_group b rest n h.1))

marked_only : (b : ℕ) (rest : List ℕ) (k : ℕ) (kind : TokenKind) (q : Piece) → IsMarked kind → IsLongest (b ∷ rest) (suc k) kind → Fits kind → IsFront (b ∷ rest) q → q ≡ pieces.Token kind (suc k)
marked_only b rest k kind pieces.Blank m h f q = absurd (omega (arith, marked_group b (take k rest) kind m h.spells, blank_group b q))
marked_only b rest k kind (pieces.Comment n) m h f q = absurd (comment_apart b rest n (marked_group b (take k rest) kind m h.spells) q)
marked_only b rest k kind pieces.Join m h f q = absurd (omega (arith, marked_group b (take k rest) kind m h.spells, ap group q.0))
marked_only b rest k kind pieces.LineEnd m h f q = absurd (omega (arith, marked_group b (take k rest) kind m h.spells, ap group q))
marked_only b rest k kind (pieces.Token other n) m h f q = same_token b rest k n kind other m h q.0
marked_only b rest k kind (pieces.Fault faults.BadByte) m h f q = absurd (q.none (pieces.Token kind (suc k)) (h, f))
marked_only b rest k kind (pieces.Fault faults.OpenText) m h f q = absurd (omega (arith, marked_group b (take k rest) kind m h.spells, ap group q.0))
marked_only b rest k kind (pieces.Fault faults.OpenComment) m h f q = absurd (omega (arith, marked_group b (take k rest) kind m h.spells, ap group q.0))
marked_only b rest k kind (pieces.Fault faults.BigNumber) m h f q = absurd (not_number b rest k q.0 q.1 kind m h q.2)
marked_only b rest k kind (pieces.Fault other) m h f q = absurd q

-- ---- every piece

bad_only : (bytes : List ℕ) (q : Piece) → IsBadByte bytes → IsFront bytes q → q ≡ pieces.Fault faults.BadByte
bad_only bytes pieces.Blank h q = absurd (h.none pieces.Blank q)
bad_only bytes (pieces.Comment n) h q = absurd (h.none (pieces.Comment n) q)
bad_only bytes pieces.Join h q = absurd (h.none pieces.Join q)
bad_only bytes pieces.LineEnd h q = absurd (h.none pieces.LineEnd q)
bad_only bytes (pieces.Token kind n) h q = absurd (h.none (pieces.Token kind n) q)
bad_only bytes (pieces.Fault faults.BadByte) h q = refl
bad_only bytes (pieces.Fault faults.OpenText) h q = absurd (h.no_text q)
bad_only bytes (pieces.Fault faults.OpenComment) h q = absurd (h.no_comment q)
bad_only bytes (pieces.Fault faults.BigNumber) h q = absurd (h.no_number q)
bad_only bytes (pieces.Fault other) h q = absurd q

run_zero : (rest : List ℕ) → is_in_name (front_byte rest) ≡ false → prefix_len is_in_name rest ≡ 0
run_zero [] h = refl
run_zero (c ∷ rest) h = run_stops is_in_name c rest h

after_first : (b : ℕ) (rest : List ℕ) → slice_index (b ∷ rest) 1 ≡ front_byte rest
after_first b [] = refl
after_first b (c ∷ rest) = refl

join_read : (rest : List ℕ) → is_in_name (slice_index (95 ∷ rest) 1) ≡ false → begun 95 rest ≡ pieces.Join
join_read rest h =
    let none = run_zero rest (ap is_in_name (sym (after_first 95 rest)) ∙ h) in
    begun_name 95 rest refl ∙ rw none refl

-- a name that is the longest token, as it is read
name_read : (b : ℕ) (rest : List ℕ) (k : ℕ) (kind : TokenKind) → IsLongest (b ∷ rest) (suc k) kind → IsName (b ∷ take k rest) → begun b rest ≡ named (map lower (b ∷ take k rest)) (suc k) (drop k rest)
name_read b rest k kind long is =
    let run = run_is_name b rest k (let w = long.within in omega (arith, w)) is in
    let same : suc k ≡ suc (prefix_len is_in_name rest) = whole_name b rest (suc k) kind is.0 long run in
    let back : prefix_len is_in_name rest ≡ k = omega (arith, same) in
    begun_named b rest run ∙ ap (λ n. named (map lower (b ∷ take n rest)) (suc n) (drop n rest)) back

rem_read : (b : ℕ) (rest : List ℕ) (n : ℕ) → IsLongest (b ∷ rest) 3 (kinds.Word KwRem) → n ≡ line_length (b ∷ rest) → begun b rest ≡ pieces.Comment n
rem_read b rest n long n_is =
    let is = long.spells.0 in
    let front = each_weaker is_in_name is_in_line (b ∷ take 2 rest) name_in_line (begins_in_name b is.0, is.1) in
    let past = ap (λ x. line_length (b ∷ x)) (sym (take-append-drop 2 rest)) ∙ line_past (b ∷ take 2 rest) (drop 2 rest) front in
    let sized : length (b ∷ take 2 rest) ≡ 3 = (let w = long.within in omega (arith, w, length-take 2 rest)) in
    name_read b rest 2 (kinds.Word KwRem) long is ∙ named_rem (map lower (b ∷ take 2 rest)) 3 (drop 2 rest) long.spells.1 ∙ ap (λ x. pieces.Comment x) (sym (n_is ∙ past ∙ ap (λ x. x + line_length (drop 2 rest)) sized))

comment_read : (b : ℕ) (rest : List ℕ) (n : ℕ) → IsComment (b ∷ rest) n → begun b rest ≡ pieces.Comment n
comment_read b rest n (inl h) =
    let b_is : b ≡ 39 = h.0 in
    ap (λ x. begun x rest) b_is ∙ begun_apostrophe rest ∙ ap (λ x. pieces.Comment (line_length (x ∷ rest))) (sym b_is) ∙ ap (λ x. pieces.Comment x) (sym h.1)
comment_read b rest n (inr (inl h)) = rem_read b rest n h.0 h.1
comment_read b rest n (inr (inr h)) = enclosed_read b rest n h.0 h.1

token_read : (b : ℕ) (rest : List ℕ) (k : ℕ) (kind : TokenKind) → IsLongest (b ∷ rest) (suc k) kind → Fits kind → begun b rest ≡ pieces.Token kind (suc k)
token_read b rest k (kinds.Name text) h f =
    let s = h.spells in
    name_read b rest k (kinds.Name text) h s.0 ∙ ap (λ x. named x (suc k) (drop k rest)) (sym s.1) ∙ named_name text (suc k) (drop k rest) (word_of text) refl s.2
token_read b rest k (kinds.Word word) h f =
    let s = h.spells in
    name_read b rest k (kinds.Word word) h s.0 ∙ named_word (map lower (b ∷ take k rest)) (suc k) (drop k rest) word s.1 f
token_read b rest k (kinds.Number value) h f = number_read b rest k value h h.spells ∙ number_small value (suc k) f
token_read b rest k (kinds.Str text) h f =
    let b_is : b ≡ 34 = head_is h.spells.0 in
    ap (λ x. begun x rest) b_is ∙ longest_literal rest k text (subst (λ x. IsLongest (x ∷ rest) (suc k) (kinds.Str text)) b_is h)
token_read b rest k (kinds.Mark which) h f = marked_only b rest k (kinds.Mark which) (begun b rest) tt h f (begun_sound b rest)
token_read b rest k kinds.Colon h f = marked_only b rest k kinds.Colon (begun b rest) tt h f (begun_sound b rest)
token_read b rest k kinds.LineEnd h f = absurd h.spells

text_read : (b : ℕ) (rest : List ℕ) → IsOpenText (b ∷ rest) → begun b rest ≡ pieces.Fault faults.OpenText
text_read b rest h =
    let b_is : b ≡ 34 = h.0 in
    ap (λ x. begun x rest) b_is ∙ begun_literal rest ∙ open_literal rest (rest_of_literal rest) refl (rest_right rest) (subst (λ x. IsOpenText (x ∷ rest)) b_is h)

open_read : (b : ℕ) (rest : List ℕ) → IsOpenComment (b ∷ rest) → begun b rest ≡ pieces.Fault faults.OpenComment
open_read b [] h = absurd (let e = h.1 in omega (arith, e))
open_read b (c ∷ rest) h =
    let b_is : b ≡ 47 = h.0 in
    let c_is : c ≡ 39 = h.1 in
    ap (λ x. begun x (c ∷ rest)) b_is ∙ ap (λ x. begun 47 (x ∷ rest)) c_is ∙ begun_enclosed rest ∙ open_comment rest (rest_of_comment 1 2 rest) refl (subst (λ x. IsOpenComment (47 ∷ x ∷ rest)) c_is (subst (λ x. IsOpenComment (x ∷ c ∷ rest)) b_is h))

big_read : (b : ℕ) (rest : List ℕ) (n value : ℕ) → IsLongest (b ∷ rest) n (kinds.Number value) → 2 ^ 64 ≤ value → begun b rest ≡ pieces.Fault faults.BigNumber
big_read b rest zero value h large = absurd (not_empty (kinds.Number value) h.spells)
big_read b rest (suc k) value h large = number_read b rest k value h h.spells ∙ number_large value (suc k) large

some_token : (b : ℕ) (rest : List ℕ) (n : ℕ) (kind : TokenKind) → IsLongest (b ∷ rest) n kind → Fits kind → begun b rest ≡ pieces.Token kind n
some_token b rest zero kind h f = absurd (not_empty kind h.spells)
some_token b rest (suc k) kind h f = token_read b rest k kind h f

pub exact : (b : ℕ) (rest : List ℕ) (p : Piece) → IsFront (b ∷ rest) p → begun b rest ≡ p
exact b rest pieces.Blank h = begun_blank b rest h
exact b rest (pieces.Comment n) h = comment_read b rest n h
exact b rest pieces.Join h = ap (λ x. begun x rest) h.0 ∙ join_read rest h.1
exact b rest pieces.LineEnd h = ap (λ x. begun x rest) h ∙ begun_line rest
exact b rest (pieces.Token kind n) h = some_token b rest n kind h.0 h.1
exact b rest (pieces.Fault faults.BadByte) h = bad_only (b ∷ rest) (begun b rest) h (begun_sound b rest)
exact b rest (pieces.Fault faults.OpenText) h = text_read b rest h
exact b rest (pieces.Fault faults.OpenComment) h = open_read b rest h
exact b rest (pieces.Fault faults.BigNumber) h = big_read b rest h.0 h.1 h.2 h.3
exact b rest (pieces.Fault other) h = absurd h
