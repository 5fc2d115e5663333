-- How many bytes a mark takes.
use Rattle.std.specs.Prelude.{ℕ, ◌≡◌, ◌≢◌, ◌≤◌, ⊤}
use Rattle.fb_lexer.specs.declared.piece.Piece.{Piece}
use Rattle.fb_lexer.specs.declared.piece.Piece.TheVariants.{Blank, Comment, Join, LineEnd, Token, Fault}

-- a token of one byte, or of two where there is a next byte; or a fault
abbrev pub IsShort : ℕ → Piece → Type 0
IsShort next (Token kind n) = (1 ≤ n) × (n ≤ 2) × (n ≡ 2 → next ≢ 0)
IsShort next (Fault kind) = ⊤
IsShort next Blank = ⊥
IsShort next (Comment n) = ⊥
IsShort next Join = ⊥
IsShort next LineEnd = ⊥
