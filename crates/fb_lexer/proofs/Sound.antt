-- What is read at the front of a text is what stands there.
use Rattle.std.proofs.Common.{◌≡◌, ◌≢◌, ◌==◌, ℕ, zero, suc, ◌<◌, ◌≤◌, ◌+◌, ◌^◌, List, [], ◌∷◌, ◌++◌, length, take, drop, map, Bool, true, false, ◌&&◌, cond, nat_lt, Option, Some, None, refl, sym, ◌∙◌, ap, subst, arith, ◌⊎◌, inl, inr, codes, append_assoc, length-append, length-take, zero-add}
use Rattle.std.specs.Prelude.{slice_index}
use Rattle.std.specs.List.{prefix_len}
use Rattle.std.specs.Str.{bytes_eq}
use Rattle.std.specs.Char.{is_ascii_digit}
use Rattle.std.proofs.lemmas.Bool.Decides.{nat_tests}
use Rattle.std.proofs.lemmas.List.{take-append-drop}
use Rattle.std.proofs.lemmas.List.Sums.{prefix_len-le-length}
use Rattle.std.proofs.lemmas.List.Folds.{length-prefix_len}
use Rattle.std.proofs.lemmas.Slice.Eq.{bytes_eq-Decides}
use Rattle.fb_lexer.specs.declared.token.Mark.{Mark}
use Rattle.fb_lexer.specs.declared.token.Mark.TheVariants as marks
use Rattle.fb_lexer.specs.declared.token.TokenKind.{TokenKind}
use Rattle.fb_lexer.specs.declared.token.TokenKind.TheVariants as kinds
use Rattle.fb_lexer.specs.declared.word.Word.{Word}
use Rattle.fb_lexer.specs.declared.word.Word.TheVariants.{KwRem}
use Rattle.fb_lexer.specs.declared.piece.Piece.{Piece}
use Rattle.fb_lexer.specs.declared.piece.Piece.TheVariants as pieces
use Rattle.fb_lexer.specs.Letters.{is_blank, begins_name, is_in_name, is_in_line, lower, is_digit}
use Rattle.fb_lexer.specs.Spelling.{spelling}
use Rattle.fb_lexer.specs.Words.{word_of}
use Rattle.fb_lexer.specs.Pieces.{front_byte, line_length, rest_of_comment, comment_of, slash, rest_of_literal, literal_of, value_of, number_of, number, mark, with_equal, less, minus, single, mark_of, base_of, ampersand, word_or_name, name, begun}
use Rattle.fb_lexer.specs.Grammar.{Each, IsName, AreDigits, IsNumber, doubled, IsLiteral, mark_bytes, Spells, IsLongest, Closes, IsEnclosed, IsComment, Fits, IsPiece, IsBadByte, IsFront}
use Rattle.fb_lexer.proofs.Runs.{run_more, each_front, longest_run, each_weaker, line_past}
use Rattle.fb_lexer.proofs.Doubling.{that_byte, not_that, Right, rest_right, Reached, rest_reaches}
use Rattle.fb_lexer.proofs.Enclosed.{read_closed, ends_at}
use Rattle.fb_lexer.proofs.Spelt.{word_spells, has_word}
use Rattle.fb_lexer.proofs.Groups.{group, digit_group, name_group, decimal, decimal_back, name_in_line, base_small, no_digit, begins_mark, is_pair, is_shape, shape_of, shape_begins, shape_short, shape_pair, mark_group}

choose : (bytes : List ℕ) (t : Bool) (p q : Piece) → (t ≡ true → IsFront bytes p) → (t ≡ false → IsFront bytes q) → IsFront bytes (cond t p q)
choose bytes true p q h k = h refl
choose bytes false p q h k = k refl

-- ---- what a token can begin with

abbrev Begins : TokenKind → ℕ → Type 0
Begins (kinds.Name text) g = g ≡ 6
Begins (kinds.Word word) g = g ≡ 6
Begins (kinds.Number value) g = (g ≡ 5) ⊎ (g ≡ 7)
Begins (kinds.Str text) g = g ≡ 4
Begins (kinds.Mark which) g = 7 ≤ g
Begins kinds.Colon g = g ≡ 8
Begins kinds.LineEnd g = ⊥

pub head_is : {b c : ℕ} {bytes more : List ℕ} → b ∷ bytes ≡ c ∷ more → b ≡ c
head_is h = cc

pub tail_is : {b c : ℕ} {bytes more : List ℕ} → b ∷ bytes ≡ c ∷ more → bytes ≡ more
tail_is h = cc

pub number_begins : (b : ℕ) (bytes : List ℕ) (value : ℕ) → IsNumber (b ∷ bytes) value → (group b ≡ 5) ⊎ (group b ≡ 7)
number_begins b bytes value (inl h) = inl (digit_group b (decimal b h.0.0.0))
number_begins b bytes value (inr h) = inr (ap group (head_is h.2))

pub begins : (b : ℕ) (bytes : List ℕ) (kind : TokenKind) → Spells (b ∷ bytes) kind → Begins kind (group b)
begins b bytes (kinds.Name text) h = name_group b h.0.0
begins b bytes (kinds.Word word) h = name_group b h.0.0
begins b bytes (kinds.Number value) h = number_begins b bytes value h
begins b bytes (kinds.Str text) h = ap group (head_is h.0)
begins b bytes (kinds.Mark which) h = mark_group b (shape_begins b bytes (ap is_shape h ∙ shape_of which))
begins b bytes kinds.Colon h = ap group (head_is h)
begins b bytes kinds.LineEnd h = absurd h

-- no token is empty
no_number : (value : ℕ) → IsNumber [] value → ⊥
no_number value (inl h) = omega (arith, h.0.1)
no_number value (inr h) = absurd (let e = h.2 in cc)

pub not_empty : (kind : TokenKind) → Spells [] kind → ⊥
not_empty (kinds.Name text) h = h.0
not_empty (kinds.Word word) h = h.0
not_empty (kinds.Number value) h = no_number value h
not_empty (kinds.Str text) h = absurd (let e = h.0 in cc)
not_empty (kinds.Mark which) h = absurd (let e = ap is_shape h ∙ shape_of which in cc)
not_empty kinds.Colon h = absurd (cc)
not_empty kinds.LineEnd h = h

-- the longest token, by what each token that begins with this byte says
longest_by : (b : ℕ) (rest : List ℕ) (n : ℕ) → ((k : ℕ) (other : TokenKind) → k ≤ length rest → Spells (b ∷ take k rest) other → suc k ≤ n)
    → (m : ℕ) (other : TokenKind) → m ≤ length (b ∷ rest) → Spells (take m (b ∷ rest)) other → m ≤ n
longest_by b rest n h zero other within spells = omega arith
longest_by b rest n h (suc k) other within spells = h k other (omega arith) spells

-- ---- small facts

pub small : (a b : ℕ) → nat_lt a b ≡ true → a < b
small a b h = grind (arith, nat_tests)

pub large : (a b : ℕ) → nat_lt a b ≡ false → b ≤ a
large a b h = grind (arith, nat_tests)

pub one_more : (n : ℕ) → 1 + n ≡ suc n
one_more n = omega arith

not_four : (group 34 ≡ 5) ⊎ (group 34 ≡ 7) → ⊥
not_four (inl h) = absurd (omega (arith, h))
not_four (inr h) = absurd (omega (arith, h))

pub append_last : (front : List ℕ) (b : ℕ) (back : List ℕ) → (front ++ b ∷ []) ++ back ≡ front ++ b ∷ back
append_last front b back = append_assoc front (b ∷ []) back

pub first_drop : (bytes : List ℕ) (k : ℕ) → slice_index bytes k ≡ front_byte (drop k bytes)
first_drop [] zero = refl
first_drop [] (suc k) = refl
first_drop (b ∷ bytes) zero = refl
first_drop (b ∷ bytes) (suc k) = first_drop bytes k

pub two_more : (n : ℕ) → suc (suc n) ≡ 2 + n
two_more n = omega arith

not_six : (g : ℕ) → g ≡ 6 → (g ≡ 5) ⊎ (g ≡ 7) → ⊥
not_six g e (inl h) = absurd (omega (arith, e, h))
not_six g e (inr h) = absurd (omega (arith, e, h))

not_eight : (g : ℕ) → g ≡ 8 → (g ≡ 5) ⊎ (g ≡ 7) → ⊥
not_eight g e (inl h) = absurd (omega (arith, e, h))
not_eight g e (inr h) = absurd (omega (arith, e, h))

pub both : (a b : Bool) → (a && b) ≡ true → (a ≡ true) × (b ≡ true)
both true b h = (refl, h)
both false b h = absurd (cc)

length_lower : (bytes : List ℕ) → length (map lower bytes) ≡ length bytes
length_lower [] = refl
length_lower (b ∷ bytes) = ap suc (length_lower bytes)

pub begins_in_name : (b : ℕ) → begins_name b ≡ true → is_in_name b ≡ true
begins_in_name b h = rw h refl

run_none_by : (test : ℕ → Bool) (b : ℕ) (bytes : List ℕ) (t : Bool) → test b ≡ t → prefix_len test (b ∷ bytes) ≡ 0 → test b ≡ false
run_none_by test b bytes true is none = absurd (omega (arith, run_more test b bytes is, none))
run_none_by test b bytes false is none = is

run_none : (test : ℕ → Bool) (bytes : List ℕ) → prefix_len test bytes ≡ 0 → test 0 ≡ false → test (front_byte bytes) ≡ false
run_none test [] none end = end
run_none test (b ∷ bytes) none end = run_none_by test b bytes (test b) refl none

pub not_alone : (b n : ℕ) → b ≡ 95 → n ≡ 0 → ((suc n == 1) && (b == 95)) ≡ false → ⊥
not_alone b n b_is n_is h = absurd (let e = sym (ap (λ x. (suc n == 1) && (x == 95)) b_is ∙ ap (λ x. (suc x == 1) && (95 == 95)) n_is) ∙ h in cc)

-- ---- numbers

decimal_run : (b : ℕ) (rest : List ℕ) (n : ℕ) → group b ≡ 5 → n ≡ prefix_len (is_digit 10) (b ∷ rest) → (k value : ℕ) → k ≤ length rest → IsNumber (b ∷ take k rest) value → suc k ≤ n
decimal_run b rest n g e k value within (inl h) = rw e (longest_run (is_digit 10) (b ∷ rest) (suc k) (omega arith) h.0.0)
decimal_run b rest n g e k value within (inr h) = absurd (omega (arith, g, ap group (head_is h.2)))

number_sound : (bytes : List ℕ) (value n : ℕ) → IsLongest bytes n (kinds.Number value) → IsFront bytes (number_of value n)
number_sound bytes value n h =
    choose bytes (nat_lt value (2 ^ 64)) _ _ (λ is. (h, small value (2 ^ 64) is)) (λ is. (n, value, h, large value (2 ^ 64) is))

decimals_longest : (b : ℕ) (rest : List ℕ) (n : ℕ) → group b ≡ 5 → n ≡ prefix_len (is_digit 10) (b ∷ rest) → (k : ℕ) (other : TokenKind) → k ≤ length rest → Spells (b ∷ take k rest) other → suc k ≤ n
decimals_longest b rest n g e k (kinds.Name text) within h = absurd (omega (arith, begins b (take k rest) (kinds.Name text) h))
decimals_longest b rest n g e k (kinds.Word word) within h = absurd (omega (arith, begins b (take k rest) (kinds.Word word) h))
decimals_longest b rest n g e k (kinds.Number value) within h = decimal_run b rest n g e k value within h
decimals_longest b rest n g e k (kinds.Str text) within h = absurd (omega (arith, begins b (take k rest) (kinds.Str text) h))
decimals_longest b rest n g e k (kinds.Mark which) within h = absurd (omega (arith, begins b (take k rest) (kinds.Mark which) h))
decimals_longest b rest n g e k kinds.Colon within h = absurd (omega (arith, begins b (take k rest) kinds.Colon h))
decimals_longest b rest n g e k kinds.LineEnd within h = absurd h

digits_sound : (b : ℕ) (rest : List ℕ) → group b ≡ 5 → is_ascii_digit b ≡ true → IsFront (b ∷ rest) (number 10 0 (b ∷ rest))
digits_sound b rest g h =
    let n = prefix_len (is_digit 10) (b ∷ rest) in
    let some : 1 ≤ n = omega (arith, run_more (is_digit 10) b rest (decimal_back b h)) in
    let front = each_front (is_digit 10) (b ∷ rest) in
    let sized = length-prefix_len (is_digit 10) (b ∷ rest) in
    number_sound (b ∷ rest) _ (0 + n) (subst (λ k. IsLongest (b ∷ rest) k (kinds.Number (value_of 10 0 (take n (b ∷ rest))))) (sym (zero-add n)) (record {
      within = prefix_len-le-length (is_digit 10) (b ∷ rest);
      spells = inl ((front, omega (arith, sized)), refl);
      longest = longest_by b rest n (decimals_longest b rest n g refl);
      closed = λ is. absurd (omega (arith, g, ap group is));
    }))

-- ---- literals

literal_longest : (rest : List ℕ) (n : ℕ) (text : List ℕ) → rest_of_literal rest ≡ Some (text, n) → (k : ℕ) (other : TokenKind) → k ≤ length rest → Spells (34 ∷ take k rest) other → suc k ≤ 1 + n
literal_longest rest n text e k (kinds.Name other) within h = absurd (let g = begins 34 (take k rest) (kinds.Name other) h in omega (arith, g))
literal_longest rest n text e k (kinds.Word word) within h = absurd (let g = begins 34 (take k rest) (kinds.Word word) h in omega (arith, g))
literal_longest rest n text e k (kinds.Number value) within h = absurd (not_four (begins 34 (take k rest) (kinds.Number value) h))
literal_longest rest n text e k (kinds.Str other) within h =
    let inner = tail_is h.0 in
    let whole : rest ≡ doubled other ++ 34 ∷ drop k rest = sym (take-append-drop k rest) ∙ ap (λ x. x ++ drop k rest) inner ∙ append_last (doubled other) 34 (drop k rest) in
    let reached = subst (λ r. Reached r other (drop k rest)) e (rest_reaches rest other (drop k rest) whole h.1) in
    omega (arith, reached, length-take k rest, ap length inner, length-append (doubled other) (34 ∷ []))
literal_longest rest n text e k (kinds.Mark which) within h = absurd (let g = begins 34 (take k rest) (kinds.Mark which) h in omega (arith, g))
literal_longest rest n text e k kinds.Colon within h = absurd (let g = begins 34 (take k rest) kinds.Colon h in omega (arith, g))
literal_longest rest n text e k kinds.LineEnd within h = absurd h

open_text : (rest : List ℕ) → rest_of_literal rest ≡ None → (n : ℕ) (text : List ℕ) → n ≤ length (34 ∷ rest) → IsLiteral (take n (34 ∷ rest)) text → slice_index (34 ∷ rest) n ≡ 34
open_text rest e zero text within h = absurd (let x = h.0 in cc)
open_text rest e (suc k) text within h =
    let inner = tail_is h.0 in
    let whole : rest ≡ doubled text ++ 34 ∷ drop k rest = sym (take-append-drop k rest) ∙ ap (λ x. x ++ drop k rest) inner ∙ append_last (doubled text) 34 (drop k rest) in
    first_drop rest k ∙ subst (λ r. Reached r text (drop k rest)) e (rest_reaches rest text (drop k rest) whole h.1)

literal_sound : (rest : List ℕ) (r : Option (List ℕ × ℕ)) → rest_of_literal rest ≡ r → Right rest r → IsFront (34 ∷ rest) (literal_of r)
literal_sound rest None e right = (refl, open_text rest e)
literal_sound rest (Some r) e right = (
  subst (λ n. IsLongest (34 ∷ rest) n (kinds.Str r.0)) (sym (one_more r.1)) (record {
    within = omega (arith, right.within);
    spells = (ap (λ x. 34 ∷ x) right.front, right.line);
    longest = longest_by 34 rest (suc r.1) (λ k other within h. omega (arith, literal_longest rest r.1 r.0 e k other within h));
    closed = λ _. right.closed;
  }),
  tt,
)

-- ---- comments

open_comment : (rest : List ℕ) → rest_of_comment 1 2 rest ≡ None → (n : ℕ) → n ≤ length (47 ∷ 39 ∷ rest) → IsEnclosed (take n (47 ∷ 39 ∷ rest)) → ⊥
open_comment rest e zero within h = absurd (let x = h.1 in cc)
open_comment rest e (suc zero) within h = absurd (let x = h.1 in cc)
open_comment rest e (suc (suc k)) within h =
    let inner : take k rest ≡ h.0 = tail_is (tail_is h.1) in
    let closed = subst (λ x. Closes 1 x) (sym inner) h.2 in
    let read = read_closed closed (drop k rest) 2 in
    let whole = ap (λ x. rest_of_comment 1 2 x) (take-append-drop k rest) in
    absurd (let none = sym e ∙ sym whole ∙ read in cc)

enclosed_by : (rest : List ℕ) (m : ℕ) → (k : ℕ) × (m ≡ 2 + k) × (k ≤ length rest) × Closes 1 (take k rest) → IsComment (47 ∷ 39 ∷ rest) m
enclosed_by rest m (k, m_is, within, closed) =
    subst (λ x. IsComment (47 ∷ 39 ∷ rest) x) (two_more k ∙ sym m_is) (inr (inr (omega arith, (take k rest, refl, closed))))

comment_sound : (rest : List ℕ) (r : Option ℕ) → rest_of_comment 1 2 rest ≡ r → IsFront (47 ∷ 39 ∷ rest) (comment_of r)
comment_sound rest None e = (refl, refl, open_comment rest e)
comment_sound rest (Some m) e = enclosed_by rest m (ends_at 1 2 rest (omega arith) m e)

-- ---- names

names_longest : (b : ℕ) (rest : List ℕ) (n : ℕ) → group b ≡ 6 → n ≡ prefix_len is_in_name rest → (k : ℕ) (other : TokenKind) → k ≤ length rest → Spells (b ∷ take k rest) other → suc k ≤ suc n
names_longest b rest n g e k (kinds.Name text) within h = rw e (let more = longest_run is_in_name rest k within h.0.1 in omega (arith, more))
names_longest b rest n g e k (kinds.Word word) within h = rw e (let more = longest_run is_in_name rest k within h.0.1 in omega (arith, more))
names_longest b rest n g e k (kinds.Number value) within h = absurd (not_six (group b) g (begins b (take k rest) (kinds.Number value) h))
names_longest b rest n g e k (kinds.Str text) within h = absurd (omega (arith, g, begins b (take k rest) (kinds.Str text) h))
names_longest b rest n g e k (kinds.Mark which) within h = absurd (omega (arith, g, begins b (take k rest) (kinds.Mark which) h))
names_longest b rest n g e k kinds.Colon within h = absurd (omega (arith, g, begins b (take k rest) kinds.Colon h))
names_longest b rest n g e k kinds.LineEnd within h = absurd h

-- the longest name at the front, as a token of a kind that it spells
pub name_longest : (b : ℕ) (rest : List ℕ) (kind : TokenKind) → group b ≡ 6 → Spells (b ∷ take (prefix_len is_in_name rest) rest) kind → IsLongest (b ∷ rest) (suc (prefix_len is_in_name rest)) kind
name_longest b rest kind g spells = record {
  within = omega (arith, prefix_len-le-length is_in_name rest);
  spells = spells;
  longest = longest_by b rest _ (names_longest b rest (prefix_len is_in_name rest) g refl);
  closed = λ is. absurd (omega (arith, g, ap group is));
}

word_sound : (b : ℕ) (rest text : List ℕ) (found : Option Word) → group b ≡ 6 → IsName (b ∷ take (prefix_len is_in_name rest) rest) → text ≡ map lower (b ∷ take (prefix_len is_in_name rest) rest)
    → word_of text ≡ found → bytes_eq text (codes "rem") ≡ false → IsFront (b ∷ rest) (word_or_name found text (suc (prefix_len is_in_name rest)))
word_sound b rest text None g is text_is found not_rem =
    (name_longest b rest (kinds.Name text) g (is, text_is, λ word same. absurd (let e = sym (has_word word) ∙ ap word_of same ∙ found in cc)), tt)
word_sound b rest text (Some word) g is text_is found not_rem =
    let spelt = word_spells text word found in
    (name_longest b rest (kinds.Word word) g (is, spelt ∙ text_is), λ rem. absurd (let yes_rem = (bytes_eq-Decides text (codes "rem")).1 (sym spelt ∙ ap spelling rem) in let clash = sym yes_rem ∙ not_rem in cc))

rem_sound : (b : ℕ) (rest text : List ℕ) → group b ≡ 6 → IsName (b ∷ take (prefix_len is_in_name rest) rest) → text ≡ map lower (b ∷ take (prefix_len is_in_name rest) rest)
    → bytes_eq text (codes "rem") ≡ true → IsFront (b ∷ rest) (pieces.Comment (suc (prefix_len is_in_name rest) + line_length (drop (prefix_len is_in_name rest) rest)))
rem_sound b rest text g is text_is rem =
    let n = prefix_len is_in_name rest in
    let spelt = (bytes_eq-Decides text (codes "rem")).0 rem in
    let sized = length-prefix_len is_in_name rest in
    let three : suc n ≡ 3 = omega (arith, ap length (sym text_is ∙ spelt), length_lower (take n rest), sized) in
    let front = each_weaker is_in_name is_in_line (b ∷ take n rest) name_in_line (begins_in_name b is.0, is.1) in
    let past = ap (λ x. line_length (b ∷ x)) (sym (take-append-drop n rest)) ∙ line_past (b ∷ take n rest) (drop n rest) front in
    inr (inl (
      subst (λ k. IsLongest (b ∷ rest) k (kinds.Word KwRem)) three (name_longest b rest (kinds.Word KwRem) g (is, sym spelt ∙ text_is)),
      sym (past ∙ ap (λ k. suc k + line_length (drop n rest)) sized),
    ))

name_sound : (b : ℕ) (rest : List ℕ) → group b ≡ 6 → begins_name b ≡ true → IsFront (b ∷ rest) (name (suc (prefix_len is_in_name rest)) (b ∷ rest))
name_sound b rest g h =
    let n = prefix_len is_in_name rest in
    choose (b ∷ rest) ((suc n == 1) && (b == 95)) _ _
    (λ alone.
    let parts = both (suc n == 1) (b == 95) alone in
    (that_byte b 95 parts.1, run_none is_in_name rest (let one = that_byte (suc n) 1 parts.0 in omega (arith, one)) refl))
    (λ more.
    let is : IsName (b ∷ take n rest) = (h, each_front is_in_name rest, λ line none. absurd (not_alone b n line (let sized = length-prefix_len is_in_name rest in omega (arith, sized, ap length none)) more)) in
    choose (b ∷ rest) (bytes_eq (map lower (take (suc n) (b ∷ rest))) (codes "rem")) _ _
    (λ rem. rem_sound b rest _ g is refl rem)
    (λ not_rem. word_sound b rest _ (word_of (map lower (take (suc n) (b ∷ rest)))) g is refl refl not_rem))

-- ---- marks

-- no number begins here
abbrev NoNumber : ℕ → List ℕ → Type 0
NoNumber b rest = (k value : ℕ) → k ≤ length rest → IsNumber (b ∷ take k rest) value → ⊥

-- nothing longer than n bytes is a mark that begins so
abbrev IsFull : ℕ → List ℕ → ℕ → Type 0
IsFull b rest n = ((n ≡ 1) × (is_pair b (front_byte rest) ≡ false)) ⊎ (n ≡ 2)

pair_or_one : (b : ℕ) (rest : List ℕ) (k : ℕ) → k ≤ length rest → is_pair b (front_byte rest) ≡ false → is_shape (b ∷ take k rest) ≡ true → suc k ≤ 1
pair_or_one b rest zero within no_pair h = omega arith
pair_or_one b [] (suc k) within no_pair h = absurd (omega arith)
pair_or_one b (c ∷ rest) (suc k) within no_pair h = absurd (let e = sym (shape_pair b c (take k rest) h) ∙ no_pair in cc)

mark_fits : (b : ℕ) (rest : List ℕ) (n k : ℕ) → k ≤ length rest → IsFull b rest n → is_shape (b ∷ take k rest) ≡ true → suc k ≤ n
mark_fits b rest n k within (inl full) h = rw full.0 (pair_or_one b rest k within full.1 h)
mark_fits b rest n k within (inr full) h = rw full (omega (arith, shape_short (b ∷ take k rest) h, length-take k rest))

marks_longest : (b : ℕ) (rest : List ℕ) (n : ℕ) → 7 ≤ group b → NoNumber b rest → IsFull b rest n → 1 ≤ n → (k : ℕ) (other : TokenKind) → k ≤ length rest → Spells (b ∷ take k rest) other → suc k ≤ n
marks_longest b rest n g none_here full some k (kinds.Name text) within h = absurd (omega (arith, g, begins b (take k rest) (kinds.Name text) h))
marks_longest b rest n g none_here full some k (kinds.Word word) within h = absurd (omega (arith, g, begins b (take k rest) (kinds.Word word) h))
marks_longest b rest n g none_here full some k (kinds.Number value) within h = absurd (none_here k value within h)
marks_longest b rest n g none_here full some k (kinds.Str text) within h = absurd (omega (arith, g, begins b (take k rest) (kinds.Str text) h))
marks_longest b rest n g none_here full some k (kinds.Mark which) within h = mark_fits b rest n k within full (ap is_shape h ∙ shape_of which)
marks_longest b rest n g none_here full some k kinds.Colon within h = omega (arith, length-take k rest, ap length (tail_is h))
marks_longest b rest n g none_here full some k kinds.LineEnd within h = absurd h

-- a byte that is a token alone
alone_sound : (b : ℕ) (rest : List ℕ) (kind : TokenKind) → Fits kind → 7 ≤ group b → NoNumber b rest → is_pair b (front_byte rest) ≡ false → Spells (b ∷ []) kind → IsFront (b ∷ rest) (pieces.Token kind 1)
alone_sound b rest kind fits g none_here no_pair h = (
  record {
    within = omega arith;
    spells = h;
    longest = longest_by b rest 1 (marks_longest b rest 1 g none_here (inl (refl, no_pair)) (omega arith));
    closed = λ is. absurd (omega (arith, g, ap group is));
  },
  fits,
)

-- two bytes that are a mark
pair_sound : (b c : ℕ) (rest : List ℕ) (which : Mark) → 7 ≤ group b → NoNumber b rest → front_byte rest ≡ c → (c ≡ 0 → ⊥) → b ∷ c ∷ [] ≡ mark_bytes which → IsFront (b ∷ rest) (mark which 2)
pair_sound b c [] which g none_here next some h = absurd (some (sym next))
pair_sound b c (d ∷ rest) which g none_here next some h = (
  record {
    within = omega arith;
    spells = ap (λ x. b ∷ x ∷ []) next ∙ h;
    longest = longest_by b (d ∷ rest) 2 (marks_longest b (d ∷ rest) 2 g none_here (inr refl) (omega arith));
    closed = λ is. absurd (omega (arith, g, ap group is));
  },
  tt,
)

equal_sound : (b : ℕ) (rest : List ℕ) (longer shorter : Mark) → 7 ≤ group b → NoNumber b rest → b ∷ 61 ∷ [] ≡ mark_bytes longer → b ∷ [] ≡ mark_bytes shorter
    → ((front_byte rest == 61) ≡ false → is_pair b (front_byte rest) ≡ false) → IsFront (b ∷ rest) (with_equal (front_byte rest) longer shorter)
equal_sound b rest longer shorter g none_here two one no_pair =
    choose (b ∷ rest) (front_byte rest == 61) _ _
    (λ is. pair_sound b 61 rest longer g none_here (that_byte (front_byte rest) 61 is) (λ e. absurd (omega (arith, e))) two)
    (λ other. alone_sound b rest (kinds.Mark shorter) tt g none_here (no_pair other) one)

-- no number begins with a byte of the last group
last_no_number : (b : ℕ) (rest : List ℕ) → group b ≡ 8 → NoNumber b rest
last_no_number b rest g k value within h = not_eight (group b) g (number_begins b (take k rest) value h)

less_sound : (rest : List ℕ) → IsFront (60 ∷ rest) (less (front_byte rest))
less_sound rest =
    choose (60 ∷ rest) (front_byte rest == 62) _ _
    (λ is. pair_sound 60 62 rest marks.NotEqual (omega arith) (last_no_number 60 rest refl) (that_byte (front_byte rest) 62 is) (λ e. absurd (omega (arith, e))) refl)
    (λ other. equal_sound 60 rest marks.LessEqual marks.Less (omega arith) (last_no_number 60 rest refl) refl refl (λ no_equal. rw (no_equal, other) refl))

minus_sound : (rest : List ℕ) → IsFront (45 ∷ rest) (minus (front_byte rest))
minus_sound rest =
    choose (45 ∷ rest) (front_byte rest == 62) _ _
    (λ is. pair_sound 45 62 rest marks.Arrow (omega arith) (last_no_number 45 rest refl) (that_byte (front_byte rest) 62 is) (λ e. absurd (omega (arith, e))) refl)
    (λ other. equal_sound 45 rest marks.MinusEqual marks.Minus (omega arith) (last_no_number 45 rest refl) refl refl (λ no_equal. rw (no_equal, other) refl))

-- where a byte is this one, it can be written so
at_byte : (b k : ℕ) (rest : List ℕ) (piece : Piece) → IsFront (k ∷ rest) piece → (b == k) ≡ true → IsFront (b ∷ rest) piece
at_byte b k rest piece h is = subst (λ x. IsFront (x ∷ rest) piece) (sym (that_byte b k is)) h

one_mark : (k : ℕ) (which : Mark) → group k ≡ 8 → ((c : ℕ) → is_pair k c ≡ false) → k ∷ [] ≡ mark_bytes which → (rest : List ℕ) → IsFront (k ∷ rest) (mark which 1)
one_mark k which g free h rest = alone_sound k rest (kinds.Mark which) tt (omega (arith, g)) (last_no_number k rest g) (free (front_byte rest)) h

-- ---- a byte that begins nothing

no_value_by : (g : ℕ) → (g ≡ 3) ⊎ (g ≡ 8) → (g ≡ 5) ⊎ (g ≡ 7) → ⊥
no_value_by g (inl h) (inl k) = absurd (omega (arith, h, k))
no_value_by g (inl h) (inr k) = absurd (omega (arith, h, k))
no_value_by g (inr h) (inl k) = absurd (omega (arith, h, k))
no_value_by g (inr h) (inr k) = absurd (omega (arith, h, k))

next_is : (b : ℕ) (rest : List ℕ) → slice_index (b ∷ rest) 1 ≡ 39 → front_byte rest ≡ 39
next_is b [] h = h
next_is b (c ∷ rest) h = h

-- what begins with a byte of these groups that begins no mark: nothing, unless it is a slash and a comment
pub record BeginsNothing (b : ℕ) (rest : List ℕ) : Type 0 where
  pub group : (group b ≡ 3) ⊎ (group b ≡ 8)
  pub no_mark : begins_mark b ≡ false
  pub no_colon : b ≢ 58
  pub no_comment : b ≡ 47 → front_byte rest ≢ 39

apart : (g k : ℕ) → (g ≡ 3) ⊎ (g ≡ 8) → g ≡ k → (k == 3) ≡ false → (k == 8) ≡ false → ⊥
apart g k (inl h) e a c = absurd (let x : k ≡ 3 = sym e ∙ h in not_that k 3 a x)
apart g k (inr h) e a c = absurd (let x : k ≡ 8 = sym e ∙ h in not_that k 8 c x)

no_value : (b : ℕ) (bytes rest : List ℕ) (value : ℕ) → BeginsNothing b rest → IsNumber (b ∷ bytes) value → ⊥
no_value b bytes rest value n h = no_value_by (group b) n.group (number_begins b bytes value h)

no_token : (b : ℕ) (rest bytes : List ℕ) (kind : TokenKind) → BeginsNothing b rest → Spells (b ∷ bytes) kind → ⊥
no_token b rest bytes (kinds.Name text) n h = apart (group b) 6 n.group (begins b bytes (kinds.Name text) h) refl refl
no_token b rest bytes (kinds.Word word) n h = apart (group b) 6 n.group (begins b bytes (kinds.Word word) h) refl refl
no_token b rest bytes (kinds.Number value) n h = no_value b bytes rest value n h
no_token b rest bytes (kinds.Str text) n h = apart (group b) 4 n.group (begins b bytes (kinds.Str text) h) refl refl
no_token b rest bytes (kinds.Mark which) n h = absurd (let e = sym (shape_begins b bytes (ap is_shape h ∙ shape_of which)) ∙ n.no_mark in cc)
no_token b rest bytes kinds.Colon n h = n.no_colon (head_is h)
no_token b rest bytes kinds.LineEnd n h = h

no_longest : (b : ℕ) (rest : List ℕ) (n : ℕ) (kind : TokenKind) → BeginsNothing b rest → IsLongest (b ∷ rest) n kind → ⊥
no_longest b rest zero kind none_here h = not_empty kind h.spells
no_longest b rest (suc k) kind none_here h = no_token b rest (take k rest) kind none_here h.spells

no_enclosed : (b : ℕ) (rest : List ℕ) (n : ℕ) → BeginsNothing b rest → IsEnclosed (take n (b ∷ rest)) → ⊥
no_enclosed b rest zero none_here h = absurd (let e = h.1 in cc)
no_enclosed b rest (suc zero) none_here h = absurd (let e = h.1 in cc)
no_enclosed b [] (suc (suc k)) none_here h = absurd (let e = h.1 in cc)
no_enclosed b (c ∷ rest) (suc (suc k)) none_here h = none_here.no_comment (head_is h.1) (head_is (tail_is h.1))

no_comment_by : (b : ℕ) (rest : List ℕ) (n : ℕ) → BeginsNothing b rest → IsComment (b ∷ rest) n → ⊥
no_comment_by b rest n none_here (inl h) = apart (group b) 2 none_here.group (ap group h.0) refl refl
no_comment_by b rest n none_here (inr (inl h)) = no_longest b rest 3 (kinds.Word KwRem) none_here h.0
no_comment_by b rest n none_here (inr (inr h)) = no_enclosed b rest n none_here h.1

pub blank_group : (b : ℕ) → is_blank b ≡ true → group b ≡ 0
blank_group b h = rw h refl

no_piece : (b : ℕ) (rest : List ℕ) (piece : Piece) → BeginsNothing b rest → IsPiece (b ∷ rest) piece → ⊥
no_piece b rest pieces.Blank none_here h = apart (group b) 0 none_here.group (blank_group b h) refl refl
no_piece b rest (pieces.Comment n) none_here h = no_comment_by b rest n none_here h
no_piece b rest pieces.Join none_here h = apart (group b) 6 none_here.group (ap group h.0) refl refl
no_piece b rest pieces.LineEnd none_here h = apart (group b) 1 none_here.group (ap group h) refl refl
no_piece b rest (pieces.Token kind n) none_here h = no_longest b rest n kind none_here h.0
no_piece b rest (pieces.Fault kind) none_here h = h

bad_byte : (b : ℕ) (rest : List ℕ) → BeginsNothing b rest → IsBadByte (b ∷ rest)
bad_byte b rest none_here = record {
  none = λ piece h. no_piece b rest piece none_here h;
  no_text = λ h. apart (group b) 4 none_here.group (ap group h.0) refl refl;
  no_comment = λ h. none_here.no_comment h.0 (next_is b rest h.1);
  no_number = λ h. no_longest b rest h.0 (kinds.Number h.1) none_here h.2;
}

-- ---- the whole

single_sound : (b : ℕ) (rest : List ℕ) → group b ≡ 8
    → (b == 43) ≡ false → (b == 45) ≡ false → (b == 42) ≡ false → (b == 92) ≡ false → (b == 38) ≡ false → (b == 60) ≡ false → (b == 62) ≡ false → IsFront (b ∷ rest) (single b)
single_sound b rest g n1 n2 n3 n4 n5 n6 n7 =
    let bytes = b ∷ rest in
    choose bytes (b == 61) _ _ (at_byte b 61 rest (mark marks.Equal 1) (one_mark 61 marks.Equal refl (λ c. refl) refl rest)) (λ a1.
    choose bytes (b == 40) _ _ (at_byte b 40 rest (mark marks.Open 1) (one_mark 40 marks.Open refl (λ c. refl) refl rest)) (λ a2.
    choose bytes (b == 41) _ _ (at_byte b 41 rest (mark marks.Close 1) (one_mark 41 marks.Close refl (λ c. refl) refl rest)) (λ a3.
    choose bytes (b == 91) _ _ (at_byte b 91 rest (mark marks.OpenBracket 1) (one_mark 91 marks.OpenBracket refl (λ c. refl) refl rest)) (λ a4.
    choose bytes (b == 93) _ _ (at_byte b 93 rest (mark marks.CloseBracket 1) (one_mark 93 marks.CloseBracket refl (λ c. refl) refl rest)) (λ a5.
    choose bytes (b == 44) _ _ (at_byte b 44 rest (mark marks.Comma 1) (one_mark 44 marks.Comma refl (λ c. refl) refl rest)) (λ a6.
    choose bytes (b == 59) _ _ (at_byte b 59 rest (mark marks.Semicolon 1) (one_mark 59 marks.Semicolon refl (λ c. refl) refl rest)) (λ a7.
    choose bytes (b == 46) _ _ (at_byte b 46 rest (mark marks.Dot 1) (one_mark 46 marks.Dot refl (λ c. refl) refl rest)) (λ a8.
    choose bytes (b == 64) _ _ (at_byte b 64 rest (mark marks.At 1) (one_mark 64 marks.At refl (λ c. refl) refl rest)) (λ a9.
    choose bytes (b == 58) _ _ (at_byte b 58 rest (pieces.Token kinds.Colon 1) (alone_sound 58 rest kinds.Colon tt (omega arith) (last_no_number 58 rest refl) refl refl)) (λ a10.
    bad_byte b rest (record {
      group = inr g;
      no_mark = rw (n1, n2, n3, n4, n5, n6, n7, a1, a2, a3, a4, a5, a6, a7, a8, a9) refl;
      no_colon = not_that b 58 a10;
      no_comment = λ is. absurd (omega (arith, g, ap group is));
    })))))))))))

mark_sound : (b : ℕ) (rest : List ℕ) → group b ≡ 8 → (b == 38) ≡ false → IsFront (b ∷ rest) (mark_of b (front_byte rest))
mark_sound b rest g no_amp =
    let bytes = b ∷ rest in
    choose bytes (b == 43) _ _ (at_byte b 43 rest (with_equal (front_byte rest) marks.PlusEqual marks.Plus) (equal_sound 43 rest marks.PlusEqual marks.Plus (omega arith) (last_no_number 43 rest refl) refl refl (λ h. rw h refl))) (λ n1.
    choose bytes (b == 45) _ _ (at_byte b 45 rest (minus (front_byte rest)) (minus_sound rest)) (λ n2.
    choose bytes (b == 42) _ _ (at_byte b 42 rest (with_equal (front_byte rest) marks.StarEqual marks.Star) (equal_sound 42 rest marks.StarEqual marks.Star (omega arith) (last_no_number 42 rest refl) refl refl (λ h. rw h refl))) (λ n3.
    choose bytes (b == 92) _ _ (at_byte b 92 rest (with_equal (front_byte rest) marks.BackslashEqual marks.Backslash) (equal_sound 92 rest marks.BackslashEqual marks.Backslash (omega arith) (last_no_number 92 rest refl) refl refl (λ h. rw h refl))) (λ n4.
    choose bytes (b == 60) _ _ (at_byte b 60 rest (less (front_byte rest)) (less_sound rest)) (λ n6.
    choose bytes (b == 62) _ _ (at_byte b 62 rest (with_equal (front_byte rest) marks.GreaterEqual marks.Greater) (equal_sound 62 rest marks.GreaterEqual marks.Greater (omega arith) (last_no_number 62 rest refl) refl refl (λ h. rw h refl))) (λ n7.
    single_sound b rest g n1 n2 n3 n4 no_amp n6 n7))))))

slash_sound : (rest : List ℕ) → IsFront (47 ∷ rest) (slash rest)
slash_sound [] = bad_byte 47 [] (record { group = inl refl; no_mark = refl; no_colon = λ e. absurd (omega (arith, e)); no_comment = λ is e. absurd (omega (arith, e)) })
slash_sound (c ∷ rest) =
    choose (47 ∷ c ∷ rest) (c == 39) _ _
    (λ is. subst (λ x. IsFront (47 ∷ x ∷ rest) (comment_of (rest_of_comment 1 2 rest))) (sym (that_byte c 39 is)) (comment_sound rest (rest_of_comment 1 2 rest) refl))
    (λ other. bad_byte 47 (c ∷ rest) (record { group = inl refl; no_mark = refl; no_colon = λ e. absurd (omega (arith, e)); no_comment = λ is e. not_that c 39 other e }))

-- ---- an ampersand

some_run : (test : ℕ → Bool) (bytes : List ℕ) → test (front_byte bytes) ≡ true → test 0 ≡ false → 1 ≤ prefix_len test bytes
some_run test [] h end = absurd (let e = sym h ∙ end in cc)
some_run test (b ∷ bytes) h end = omega (arith, run_more test b bytes h)

sym_first : (l : ℕ) (digits : List ℕ) → is_digit (base_of (lower l)) (slice_index (l ∷ digits) 1) ≡ true → is_digit (base_of (lower l)) (front_byte digits) ≡ true
sym_first l [] h = h
sym_first l (d ∷ digits) h = h

back_first : (l : ℕ) (digits : List ℕ) → is_digit (base_of (lower l)) (slice_index (l ∷ digits) 1) ≡ false → is_digit (base_of (lower l)) (front_byte digits) ≡ false
back_first l [] h = h
back_first l (d ∷ digits) h = h

first_digit : (base : ℕ) (digits : List ℕ) (k : ℕ) → AreDigits base (take k digits) → is_digit base (front_byte digits) ≡ false → ⊥
first_digit base digits zero each none = absurd (omega (arith, each.1))
first_digit base [] (suc k) each none = absurd (omega (arith, each.1))
first_digit base (d ∷ digits) (suc k) each none = absurd (let e = sym each.0.0 ∙ none in cc)

digits_run : (l : ℕ) (digits : List ℕ) (n : ℕ) → n ≡ prefix_len (is_digit (base_of (lower l))) digits → (k value : ℕ) → k ≤ length (l ∷ digits) → IsNumber (38 ∷ take k (l ∷ digits)) value → suc k ≤ suc (suc n)
digits_run l digits n e k value within (inl h) = absurd (let x = h.0.0.0 in cc)
digits_run l digits n e zero value within (inr h) = omega arith
digits_run l digits n e (suc k) value within (inr h) =
    let l_is : l ≡ h.0 = head_is (tail_is h.2) in
    let digits_are : take k digits ≡ h.1 = tail_is (tail_is h.2) in
    let each = subst (λ x. Each (is_digit (base_of (lower x))) (take k digits)) (sym l_is) (subst (λ x. Each (is_digit (base_of (lower h.0))) x) (sym digits_are) h.3.0) in
    let most = longest_run (is_digit (base_of (lower l))) digits k (omega arith) each in
    omega (arith, e, most)

ampersand_longest : (l : ℕ) (digits : List ℕ) (n : ℕ) → n ≡ prefix_len (is_digit (base_of (lower l))) digits → 1 ≤ n → (k : ℕ) (other : TokenKind) → k ≤ length (l ∷ digits) → Spells (38 ∷ take k (l ∷ digits)) other → suc k ≤ suc (suc n)
ampersand_longest l digits n e some k (kinds.Name text) within h = absurd (let g = begins 38 (take k (l ∷ digits)) (kinds.Name text) h in omega (arith, g))
ampersand_longest l digits n e some k (kinds.Word word) within h = absurd (let g = begins 38 (take k (l ∷ digits)) (kinds.Word word) h in omega (arith, g))
ampersand_longest l digits n e some k (kinds.Number value) within h = digits_run l digits n e k value within h
ampersand_longest l digits n e some k (kinds.Str text) within h = absurd (let g = begins 38 (take k (l ∷ digits)) (kinds.Str text) h in omega (arith, g))
ampersand_longest l digits n e some k (kinds.Mark which) within h = omega (arith, shape_short (38 ∷ take k (l ∷ digits)) (ap is_shape h ∙ shape_of which), length-take k (l ∷ digits))
ampersand_longest l digits n e some k kinds.Colon within h = absurd (let g = begins 38 (take k (l ∷ digits)) kinds.Colon h in omega (arith, g))
ampersand_longest l digits n e some k kinds.LineEnd within h = absurd h

based_sound : (l : ℕ) (digits : List ℕ) → is_digit (base_of (lower l)) (front_byte digits) ≡ true → IsFront (38 ∷ l ∷ digits) (number (base_of (lower l)) 2 digits)
based_sound l digits h =
    let base = base_of (lower l) in
    let n = prefix_len (is_digit base) digits in
    let some : 1 ≤ n = some_run (is_digit base) digits h (no_digit base (base_small (lower l))) in
    let sized = length-prefix_len (is_digit base) digits in
    number_sound (38 ∷ l ∷ digits) _ (2 + n) (subst (λ k. IsLongest (38 ∷ l ∷ digits) k (kinds.Number (value_of base 0 (take n digits)))) (two_more n) (record {
      within = omega (arith, prefix_len-le-length (is_digit base) digits);
      spells = inr (l, take n digits, refl, (each_front (is_digit base) digits, omega (arith, sized, some)), refl);
      longest = longest_by 38 (l ∷ digits) (suc (suc n)) (ampersand_longest l digits n refl some);
      closed = λ is. absurd (omega (arith, is));
    }))

ampersand_no_number : (rest : List ℕ) → is_digit (base_of (lower (front_byte rest))) (slice_index rest 1) ≡ false → NoNumber 38 rest
ampersand_no_number rest h k value within (inl number) = absurd (let e = number.0.0.0 in cc)
ampersand_no_number rest h zero value within (inr number) = absurd (let e = number.2 in cc)
ampersand_no_number [] h (suc k) value within (inr number) = absurd (omega arith)
ampersand_no_number (l ∷ digits) h (suc k) value within (inr number) =
    let l_is : l ≡ number.0 = head_is (tail_is number.2) in
    let digits_are : take k digits ≡ number.1 = tail_is (tail_is number.2) in
    let each = subst (λ x. AreDigits (base_of (lower x)) (take k digits)) (sym l_is) (subst (λ x. AreDigits (base_of (lower number.0)) x) (sym digits_are) number.3) in
    absurd (first_digit (base_of (lower l)) digits k each (back_first l digits h))

ampersand_sound : (rest : List ℕ) → IsFront (38 ∷ rest) (ampersand rest)
ampersand_sound [] = equal_sound 38 [] marks.AmpersandEqual marks.Ampersand (omega arith) (ampersand_no_number [] refl) refl refl (λ h. rw h refl)
ampersand_sound (l ∷ digits) =
    choose (38 ∷ l ∷ digits) (is_digit (base_of (lower l)) (slice_index (l ∷ digits) 1)) _ _
    (λ is. based_sound l digits (sym_first l digits is))
    (λ none. equal_sound 38 (l ∷ digits) marks.AmpersandEqual marks.Ampersand (omega arith) (ampersand_no_number (l ∷ digits) none) refl refl (λ h. rw h refl))

pub begun_sound : (b : ℕ) (rest : List ℕ) → IsFront (b ∷ rest) (begun b rest)
unfolding begun
begun_sound b rest =
    let bytes = b ∷ rest in
    choose bytes (is_blank b) _ _ (λ is. is) (λ e1.
    choose bytes (b == 10) _ _ (λ is. that_byte b 10 is) (λ e2.
    choose bytes (b == 39) _ _ (at_byte b 39 rest (pieces.Comment (1 + line_length rest)) (inl (refl, refl))) (λ e3.
    choose bytes (b == 47) _ _ (at_byte b 47 rest (slash rest) (slash_sound rest)) (λ e4.
    choose bytes (b == 34) _ _ (at_byte b 34 rest (literal_of (rest_of_literal rest)) (literal_sound rest (rest_of_literal rest) refl (rest_right rest))) (λ e5.
    choose bytes (is_ascii_digit b) _ _ (λ is. digits_sound b rest (digit_group b is) is) (λ e6.
    choose bytes (begins_name b) _ _ (λ is. subst (λ n. IsFront bytes (name n bytes)) (sym (run_more is_in_name b rest (begins_in_name b is))) (name_sound b rest (name_group b is) is)) (λ e7.
    choose bytes (b == 38) _ _ (at_byte b 38 rest (ampersand rest) (ampersand_sound rest)) (λ e8.
    mark_sound b rest (rw (e1, e2, e3, e4, e5, e6, e7, e8) refl) e8))))))))
