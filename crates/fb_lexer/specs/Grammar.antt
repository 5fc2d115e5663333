-- What white space, comments, joins and tokens are, apart from how they are read.
use Rattle.std.specs.Prelude.{ℕ, ◌≡◌, ◌≢◌, ◌≤◌, ◌<◌, ◌^◌, ◌==◌, ◌∷◌, ◌++◌, [], List, map, take, length, slice_index, Bool, true, false, if◌then◌else◌, ◌⊎◌, ⊤, suc}
use Rattle.std.proofs.Common.{codes}
use Rattle.fb_base.specs.declared.fault.FaultKind.{FaultKind}
use Rattle.fb_base.specs.declared.fault.FaultKind.TheVariants.{BadByte, OpenText, OpenComment, BigNumber}
use Rattle.fb_lexer.specs.declared.token.Mark.{Mark}
use Rattle.fb_lexer.specs.declared.token.Mark.TheVariants as marks
use Rattle.fb_lexer.specs.declared.token.TokenKind.{TokenKind}
use Rattle.fb_lexer.specs.declared.token.TokenKind.TheVariants as kinds
use Rattle.fb_lexer.specs.declared.word.Word.{Word}
use Rattle.fb_lexer.specs.declared.word.Word.TheVariants.{KwRem}
use Rattle.fb_lexer.specs.declared.piece.Piece.{Piece}
use Rattle.fb_lexer.specs.declared.piece.Piece.TheVariants as pieces
use Rattle.fb_lexer.specs.declared.piece.Before.{Before}
use Rattle.fb_lexer.specs.declared.piece.Before.TheVariants as before
use Rattle.fb_lexer.specs.Letters.{is_blank, begins_name, is_in_name, is_in_line, lower, is_digit}
use Rattle.fb_lexer.specs.Pieces.{front_byte, line_length, closes, opens, value_of, base_of}
use Rattle.fb_lexer.specs.Spelling.{spelling}

-- each byte passes a test
abbrev pub Each : (ℕ → Bool) → List ℕ → Type 0
Each test [] = ⊤
Each test (b ∷ bytes) = (test b ≡ true) × Each test bytes

-- ---- tokens

-- a letter or an underscore, then letters, digits and underscores; an underscore alone is no name
abbrev pub IsName : List ℕ → Type 0
IsName [] = ⊥
IsName (b ∷ bytes) = (begins_name b ≡ true) × Each is_in_name bytes × ((b ≡ 95) → bytes ≢ [])

-- at least one digit of the base
abbrev pub AreDigits : ℕ → List ℕ → Type 0
AreDigits base digits = Each (is_digit base) digits × (1 ≤ length digits)

-- decimal digits, or an &, a letter that names the base, and digits of it
abbrev pub IsNumber : List ℕ → ℕ → Type 0
IsNumber bytes value =
    (AreDigits 10 bytes × (value ≡ value_of 10 0 bytes))
    ⊎ ((letter : ℕ) × (digits : List ℕ) × (bytes ≡ 38 ∷ letter ∷ digits) × AreDigits (base_of (lower letter)) digits × (value ≡ value_of (base_of (lower letter)) 0 digits))

-- a text with two quotes for each of its quotes
abbrev pub doubled : List ℕ → List ℕ
doubled [] = []
doubled (b ∷ text) = if b == 34 then 34 ∷ 34 ∷ doubled text else b ∷ doubled text

-- a text of one line between quotes
abbrev pub IsLiteral : List ℕ → List ℕ → Type 0
IsLiteral bytes text = (bytes ≡ 34 ∷ (doubled text ++ 34 ∷ [])) × Each is_in_line text

abbrev pub mark_bytes : Mark → List ℕ
mark_bytes marks.Plus = codes "+"
mark_bytes marks.Minus = codes "-"
mark_bytes marks.Star = codes "*"
mark_bytes marks.Backslash = 92 ∷ []
mark_bytes marks.Ampersand = codes "&"
mark_bytes marks.Equal = codes "="
mark_bytes marks.NotEqual = codes "<>"
mark_bytes marks.Less = codes "<"
mark_bytes marks.LessEqual = codes "<="
mark_bytes marks.Greater = codes ">"
mark_bytes marks.GreaterEqual = codes ">="
mark_bytes marks.Open = codes "("
mark_bytes marks.Close = codes ")"
mark_bytes marks.OpenBracket = codes "["
mark_bytes marks.CloseBracket = codes "]"
mark_bytes marks.Comma = codes ","
mark_bytes marks.Semicolon = codes ";"
mark_bytes marks.Dot = codes "."
mark_bytes marks.Arrow = codes "->"
mark_bytes marks.At = codes "@"
mark_bytes marks.PlusEqual = codes "+="
mark_bytes marks.MinusEqual = codes "-="
mark_bytes marks.StarEqual = codes "*="
mark_bytes marks.BackslashEqual = 92 ∷ 61 ∷ []
mark_bytes marks.AmpersandEqual = codes "&="

-- these bytes are a token. A number may be of any size here, and Rem is a word like the others.
abbrev pub Spells : List ℕ → TokenKind → Type 0
Spells bytes (kinds.Name text) = IsName bytes × (text ≡ map lower bytes) × ((word : Word) → spelling word ≢ text)
Spells bytes (kinds.Word word) = IsName bytes × (spelling word ≡ map lower bytes)
Spells bytes (kinds.Number value) = IsNumber bytes value
Spells bytes (kinds.Str text) = IsLiteral bytes text
Spells bytes (kinds.Mark which) = bytes ≡ mark_bytes which
Spells bytes kinds.Colon = bytes ≡ 58 ∷ []
Spells bytes kinds.LineEnd = ⊥

-- A token at the front of a text, which takes so many bytes: no longer front of the text is a token. A literal ends
-- at a quote that no quote follows, since two quotes inside it stand for one.
pub record IsLongest (bytes : List ℕ) (n : ℕ) (kind : TokenKind) : Type 0 where
  pub within : n ≤ length bytes
  pub spells : Spells (take n bytes) kind
  pub longest : (m : ℕ) (other : TokenKind) → m ≤ length bytes → Spells (take m bytes) other → m ≤ n
  pub closed : front_byte bytes ≡ 34 → slice_index bytes n ≢ 34

-- ---- comments

-- the rest of a comment up to its end, from a place on at which this many comments are open
pub data Closes : ℕ → List ℕ → Type 0 where
  last : (b c : ℕ) → closes b c ≡ true → Closes 1 (b ∷ c ∷ [])
  closing : (depth b c : ℕ) (bytes : List ℕ) → closes b c ≡ true → Closes (suc depth) bytes → Closes (suc (suc depth)) (b ∷ c ∷ bytes)
  opening : (depth b c : ℕ) (bytes : List ℕ) → closes b c ≡ false → opens b c ≡ true → Closes (suc depth) bytes → Closes depth (b ∷ c ∷ bytes)
  inside : (depth b c : ℕ) (bytes : List ℕ) → closes b c ≡ false → opens b c ≡ false → Closes depth (c ∷ bytes) → Closes depth (b ∷ c ∷ bytes)

-- a comment between /' and '/, with comments in it
abbrev pub IsEnclosed : List ℕ → Type 0
IsEnclosed bytes = (rest : List ℕ) × (bytes ≡ 47 ∷ 39 ∷ rest) × Closes 1 rest

-- a comment at the front of a text: up to the line's end after an apostrophe or the word Rem, or one that is enclosed
abbrev pub IsComment : List ℕ → ℕ → Type 0
IsComment bytes n =
    ((front_byte bytes ≡ 39) × (n ≡ line_length bytes))
    ⊎ (IsLongest bytes 3 (kinds.Word KwRem) × (n ≡ line_length bytes))
    ⊎ ((n ≤ length bytes) × IsEnclosed (take n bytes))

-- ---- pieces

abbrev pub Fits : TokenKind → Type 0
Fits (kinds.Number value) = value < 2 ^ 64
Fits (kinds.Word word) = word ≢ KwRem
Fits kind = ⊤

-- what stands at the front of a text, faults aside
abbrev pub IsPiece : List ℕ → Piece → Type 0
IsPiece bytes pieces.Blank = is_blank (front_byte bytes) ≡ true
IsPiece bytes (pieces.Comment n) = IsComment bytes n
IsPiece bytes pieces.Join = (front_byte bytes ≡ 95) × (is_in_name (slice_index bytes 1) ≡ false)
IsPiece bytes pieces.LineEnd = front_byte bytes ≡ 10
IsPiece bytes (pieces.Token kind n) = IsLongest bytes n kind × Fits kind
IsPiece bytes (pieces.Fault kind) = ⊥

abbrev pub IsOpenText : List ℕ → Type 0
IsOpenText bytes = (front_byte bytes ≡ 34) × ((n : ℕ) (text : List ℕ) → n ≤ length bytes → IsLiteral (take n bytes) text → slice_index bytes n ≡ 34)

abbrev pub IsOpenComment : List ℕ → Type 0
IsOpenComment bytes = (front_byte bytes ≡ 47) × (slice_index bytes 1 ≡ 39) × ((n : ℕ) → n ≤ length bytes → IsEnclosed (take n bytes) → ⊥)

abbrev pub IsBigNumber : List ℕ → Type 0
IsBigNumber bytes = (n : ℕ) × (value : ℕ) × IsLongest bytes n (kinds.Number value) × (2 ^ 64 ≤ value)

-- no piece begins here, and none is left open
pub record IsBadByte (bytes : List ℕ) : Type 0 where
  pub none : (piece : Piece) → IsPiece bytes piece → ⊥
  pub no_text : IsOpenText bytes → ⊥
  pub no_comment : IsOpenComment bytes → ⊥
  pub no_number : IsBigNumber bytes → ⊥

-- what is wrong at the front of a text
abbrev pub IsFault : List ℕ → FaultKind → Type 0
IsFault bytes BadByte = IsBadByte bytes
IsFault bytes OpenText = IsOpenText bytes
IsFault bytes OpenComment = IsOpenComment bytes
IsFault bytes BigNumber = IsBigNumber bytes
IsFault bytes kind = ⊥

-- what stands at the front of a text, or what is wrong there
abbrev pub IsFront : List ℕ → Piece → Type 0
IsFront bytes (pieces.Fault kind) = IsFault bytes kind
IsFront bytes pieces.Blank = IsPiece bytes pieces.Blank
IsFront bytes (pieces.Comment n) = IsPiece bytes (pieces.Comment n)
IsFront bytes pieces.Join = IsPiece bytes pieces.Join
IsFront bytes pieces.LineEnd = IsPiece bytes pieces.LineEnd
IsFront bytes (pieces.Token kind n) = IsPiece bytes (pieces.Token kind n)

-- ---- places

-- A join may stand only after white space or at a line's start. After a join only white space, comments and the
-- line's end may stand, and only a comment can be left open.
abbrev pub MayStand : Before → Piece → Type 0
MayStand before.Join (pieces.Token kind n) = ⊥
MayStand before.Join pieces.Join = ⊥
MayStand before.Join (pieces.Fault OpenComment) = ⊤
MayStand before.Join (pieces.Fault kind) = ⊥
MayStand before.Other pieces.Join = ⊥
MayStand where_it_is piece = ⊤

-- The piece that begins at a place of a text: what stands there, if it may, and else a byte that begins nothing.
abbrev pub Begins : Before → List ℕ → Piece → Type 0
Begins where_it_is bytes piece =
    (IsFront bytes piece × MayStand where_it_is piece)
    ⊎ ((piece ≡ pieces.Fault BadByte) × ((other : Piece) × IsFront bytes other × (MayStand where_it_is other → ⊥)))
