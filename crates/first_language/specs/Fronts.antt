-- What stands at the front of a text, as it is read from its bytes.
use Rattle.std.specs.Prelude.{ℕ, ◌≤◌, ◌==◌, if◌then◌else◌, List, [], ◌∷◌, Option, Some, None, ⊤}
use Rattle.fb_lexer.specs.declared.piece.Piece.{Piece}
use Rattle.fb_lexer.specs.declared.piece.Piece.TheVariants as pieces
use Rattle.fb_lexer.specs.declared.piece.Before.TheVariants as before
use Rattle.fb_lexer.specs.Pieces.{piece_of}
use Rattle.first_language.specs.declared.token.Token.{Token}
use Rattle.first_language.specs.declared.front.Front.{Front}
use Rattle.first_language.specs.declared.front.Front.TheVariants.{Refused, White, Newline, Token as Has}
use Rattle.first_language.specs.Tokens.{token_of}

abbrev pub with_token : Option Token → ℕ → Front
with_token None n = Refused
with_token (Some token) n = Has token n

-- what a piece is in the small language
abbrev pub front_with : Piece → Front
front_with pieces.Blank = White
front_with pieces.LineEnd = Newline
front_with (pieces.Token kind n) = with_token (token_of kind) n
front_with other = Refused

-- What stands at the front of a text. No token of the language begins with an &.
abbrev pub front_of : List ℕ → Front
front_of [] = Refused
front_of (b ∷ bytes) = if b == 38 then Refused else front_with (piece_of before.Other (b ∷ bytes))

-- it takes at least one byte of so many
abbrev pub Within : ℕ → Front → Type 0
Within most Refused = ⊤
Within most White = 1 ≤ most
Within most Newline = 1 ≤ most
Within most (Has token n) = (1 ≤ n) × (n ≤ most)
