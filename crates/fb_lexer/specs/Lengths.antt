-- How many bytes a piece takes.
use Rattle.std.specs.Prelude.{ℕ, ◌≤◌, ⊤}
use Rattle.fb_lexer.specs.declared.piece.Piece.{Piece}
use Rattle.fb_lexer.specs.declared.piece.Piece.TheVariants.{Blank, Comment, Join, LineEnd, Token, Fault}

-- the length of a piece in bytes
abbrev pub length_of : Piece → ℕ
length_of Blank = 1
length_of (Comment n) = n
length_of Join = 1
length_of LineEnd = 1
length_of (Token kind n) = n
length_of (Fault kind) = 0

-- a piece takes at least one byte of so many; a fault takes none
abbrev pub Stands : ℕ → Piece → Type 0
Stands most Blank = 1 ≤ most
Stands most (Comment n) = (1 ≤ n) × (n ≤ most)
Stands most Join = 1 ≤ most
Stands most LineEnd = 1 ≤ most
Stands most (Token kind n) = (1 ≤ n) × (n ≤ most)
Stands most (Fault kind) = ⊤
