-- What stands at the front of a text, as it is read from its bytes.
use Rattle.std.specs.Prelude.{ℕ, ◌≡◌, ◌+◌, ◌-◌, ◌*◌, ◌^◌, ◌==◌, ◌&&◌, nat_lt, if◌then◌else◌, List, [], ◌∷◌, ◌++◌, map, take, drop, slice_index, Bool, Option, Some, None}
use Rattle.std.proofs.Common.{codes}
use Rattle.std.specs.List.{prefix_len}
use Rattle.std.specs.Str.{bytes_eq}
use Rattle.std.specs.Char.{is_ascii_digit}
use Rattle.fb_base.specs.declared.fault.FaultKind.TheVariants.{BadByte, OpenText, OpenComment, BigNumber}
use Rattle.fb_lexer.specs.declared.token.Mark.{Mark}
use Rattle.fb_lexer.specs.declared.token.Mark.TheVariants as marks
use Rattle.fb_lexer.specs.declared.token.TokenKind.TheVariants as kinds
use Rattle.fb_lexer.specs.declared.word.Word.{Word}
use Rattle.fb_lexer.specs.declared.piece.Piece.{Piece}
use Rattle.fb_lexer.specs.declared.piece.Piece.TheVariants.{Blank, Comment, Join, LineEnd, Token, Fault}
use Rattle.fb_lexer.specs.declared.piece.Before.{Before}
use Rattle.fb_lexer.specs.declared.piece.Before.TheVariants as before
use Rattle.fb_lexer.specs.Letters.{is_blank, begins_name, is_in_name, is_in_line, lower, digit_value, is_digit}
use Rattle.fb_lexer.specs.Words.{word_of}

-- the first byte, and 0 where there is none
abbrev pub front_byte : List ℕ → ℕ
front_byte bytes = slice_index bytes 0

-- ---- comments

-- how many bytes the line still has
abbrev pub line_length : List ℕ → ℕ
line_length = prefix_len is_in_line

-- these two bytes end a comment, or begin one within it
abbrev pub closes : ℕ → ℕ → Bool
closes b c = (b == 39) && (c == 47)

abbrev pub opens : ℕ → ℕ → Bool
opens b c = (b == 47) && (c == 39)

-- how many bytes a comment takes, of which so many stand before these bytes, at a place at which this many comments
-- are open
abbrev pub rest_of_comment : ℕ → ℕ → List ℕ → Option ℕ
rest_of_comment depth before [] = None
rest_of_comment depth before (b ∷ []) = None
rest_of_comment depth before (b ∷ c ∷ bytes) =
    if closes b c then (if depth == 1 then Some (before + 2) else rest_of_comment (depth - 1) (before + 2) bytes)
    else (if opens b c then rest_of_comment (depth + 1) (before + 2) bytes else rest_of_comment depth (before + 1) (c ∷ bytes))

abbrev pub comment_of : Option ℕ → Piece
comment_of None = Fault OpenComment
comment_of (Some n) = Comment n

-- after a slash
abbrev pub slash : List ℕ → Piece
slash bytes = if front_byte bytes == 39 then comment_of (rest_of_comment 1 2 (drop 1 bytes)) else Fault BadByte

-- ---- literals

abbrev pub with_front : List ℕ → ℕ → Option (List ℕ × ℕ) → Option (List ℕ × ℕ)
with_front front n None = None
with_front front n (Some rest) = Some (front ++ rest.0, n + rest.1)

-- the text of a literal, from a place inside it on, and how many bytes stand up to its end
abbrev pub rest_of_literal : List ℕ → Option (List ℕ × ℕ)
rest_of_literal [] = None
rest_of_literal (b ∷ []) = if b == 34 then Some ([], 1) else None
rest_of_literal (b ∷ c ∷ bytes) =
    if b == 10 then None
    else (if b == 34 then (if c == 34 then with_front (34 ∷ []) 2 (rest_of_literal bytes) else Some ([], 1))
    else with_front (b ∷ []) 1 (rest_of_literal (c ∷ bytes)))

abbrev pub literal_of : Option (List ℕ × ℕ) → Piece
literal_of None = Fault OpenText
literal_of (Some rest) = Token (kinds.Str rest.0) (1 + rest.1)

-- ---- numbers

-- the value of digits after those of a number
abbrev pub value_of : ℕ → ℕ → List ℕ → ℕ
value_of base number [] = number
value_of base number (b ∷ bytes) = value_of base (number * base + digit_value b) bytes

abbrev pub number_of : ℕ → ℕ → Piece
number_of value length = if nat_lt value (2 ^ 64) then Token (kinds.Number value) length else Fault BigNumber

-- the digits of a base, after so many bytes in front of them
abbrev pub number : ℕ → ℕ → List ℕ → Piece
number base before bytes =
    number_of (value_of base 0 (take (prefix_len (is_digit base) bytes) bytes)) (before + prefix_len (is_digit base) bytes)

-- ---- marks

abbrev pub mark : Mark → ℕ → Piece
mark which length = Token (kinds.Mark which) length

-- a mark that is longer where an equal sign follows
abbrev pub with_equal : ℕ → Mark → Mark → Piece
with_equal next longer shorter = if next == 61 then mark longer 2 else mark shorter 1

abbrev pub less : ℕ → Piece
less next = if next == 62 then mark marks.NotEqual 2 else with_equal next marks.LessEqual marks.Less

abbrev pub minus : ℕ → Piece
minus next = if next == 62 then mark marks.Arrow 2 else with_equal next marks.MinusEqual marks.Minus

-- a mark of one byte
abbrev pub single : ℕ → Piece
single b =
    if b == 61 then mark marks.Equal 1
    else (if b == 40 then mark marks.Open 1
    else (if b == 41 then mark marks.Close 1
    else (if b == 91 then mark marks.OpenBracket 1
    else (if b == 93 then mark marks.CloseBracket 1
    else (if b == 44 then mark marks.Comma 1
    else (if b == 59 then mark marks.Semicolon 1
    else (if b == 46 then mark marks.Dot 1
    else (if b == 64 then mark marks.At 1
    else (if b == 58 then Token kinds.Colon 1
    else Fault BadByte)))))))))

-- a mark, by its first byte and the next
abbrev pub mark_of : ℕ → ℕ → Piece
mark_of b next =
    if b == 43 then with_equal next marks.PlusEqual marks.Plus
    else (if b == 45 then minus next
    else (if b == 42 then with_equal next marks.StarEqual marks.Star
    else (if b == 92 then with_equal next marks.BackslashEqual marks.Backslash
    else (if b == 60 then less next
    else (if b == 62 then with_equal next marks.GreaterEqual marks.Greater
    else single b)))))

-- the base that a letter after & names, and 0 for every other byte
abbrev pub base_of : ℕ → ℕ
base_of b = if b == 104 then 16 else (if b == 111 then 8 else (if b == 98 then 2 else 0))

-- after an &
abbrev pub ampersand : List ℕ → Piece
ampersand bytes =
    if is_digit (base_of (lower (front_byte bytes))) (slice_index bytes 1)
    then number (base_of (lower (front_byte bytes))) 2 (drop 1 bytes)
    else with_equal (front_byte bytes) marks.AmpersandEqual marks.Ampersand

-- ---- names

abbrev pub word_or_name : Option Word → List ℕ → ℕ → Piece
word_or_name None name length = Token (kinds.Name name) length
word_or_name (Some word) name length = Token (kinds.Word word) length

-- a name in lower case, its length, and what follows it
abbrev pub named : List ℕ → ℕ → List ℕ → Piece
named name length rest =
    if bytes_eq name (codes "rem") then Comment (length + line_length rest) else word_or_name (word_of name) name length

abbrev pub name : ℕ → List ℕ → Piece
name length bytes =
    if (length == 1) && (front_byte bytes == 95) then Join else named (map lower (take length bytes)) length (drop length bytes)

-- ---- pieces

-- what begins with this byte, which is followed by these
unfoldable pub begun : ℕ → List ℕ → Piece
begun b bytes =
    if is_blank b then Blank
    else (if b == 10 then LineEnd
    else (if b == 39 then Comment (1 + line_length bytes)
    else (if b == 47 then slash bytes
    else (if b == 34 then literal_of (rest_of_literal bytes)
    else (if is_ascii_digit b then number 10 0 (b ∷ bytes)
    else (if begins_name b then name (prefix_len is_in_name (b ∷ bytes)) (b ∷ bytes)
    else (if b == 38 then ampersand bytes
    else mark_of b (front_byte bytes))))))))

-- what may stand after what is before it: after a join only white space, comments and the line's end, and a join
-- only after white space or at a line's start
abbrev pub placed : Before → Piece → Piece
placed before.Join (Token kind length) = Fault BadByte
placed before.Join Join = Fault BadByte
placed before.Join (Fault OpenComment) = Fault OpenComment
placed before.Join (Fault kind) = Fault BadByte
placed before.Other Join = Fault BadByte
placed where_else piece = piece

-- the piece at the front of a text that isn't empty
abbrev pub piece_of : Before → List ℕ → Piece
piece_of where_it_is [] = Fault BadByte
piece_of where_it_is (b ∷ bytes) = placed where_it_is (begun b bytes)

abbrev pub Reads : Before → List ℕ → Piece → Type 0
Reads where_it_is bytes piece = piece_of where_it_is bytes ≡ piece
