-- A text as a row of pieces.
use Rattle.std.specs.Prelude.{ℕ, ◌≡◌, ◌+◌, ◌==◌, ◌∷◌, ◌++◌, [], List, take, drop, Bool, true, false, Option, Some, None, if◌then◌else◌, slice_get, length, option_to_list, ◌≤◌, Result, Ok, Err, count_by, ⊤}
use Rattle.fb_base.specs.declared.fault.Span.{Span}
use Rattle.fb_base.specs.declared.fault.Fault.{Fault}
use Rattle.fb_base.specs.declared.fault.FaultKind.{FaultKind}
use Rattle.fb_base.specs.declared.fault.FaultKind.TheVariants.{TooManyTokens}
use Rattle.fb_lexer.specs.declared.token.Token.{Token}
use Rattle.fb_lexer.specs.declared.token.TokenKind.TheVariants as kinds
use Rattle.fb_lexer.specs.declared.piece.Piece.{Piece}
use Rattle.fb_lexer.specs.declared.piece.Piece.TheVariants as pieces
use Rattle.fb_lexer.specs.declared.piece.Before.{Before}
use Rattle.fb_lexer.specs.declared.piece.Before.TheVariants as before
use Rattle.fb_lexer.specs.declared.piece.Situation.{Situation}
use Rattle.fb_lexer.specs.Lengths.{length_of}
use Rattle.fb_lexer.specs.TokenList.{TokenList}
use Rattle.fb_lexer.specs.declared.lexing.LexErr.{LexErr}
use Rattle.fb_lexer.specs.declared.lexing.LexErr.TheVariants.{NoMemory, Fault as Faulty}

-- the place after a byte: a byte 10 ends the line, every other one is a column
abbrev pub place_after : Span → ℕ → Span
place_after at b = if b == 10 then record { line = at.line + 1; col = 1 } else record { line = at.line; col = at.col + 1 }

abbrev pub place_behind : Span → List ℕ → Span
place_behind at [] = at
place_behind at (b ∷ bytes) = place_behind (place_after at b) bytes

-- what stands before the place behind a piece
abbrev pub before_next : Before → Piece → Before
before_next before.Join pieces.Blank = before.Join
before_next where_it_is pieces.Blank = before.White
before_next before.Join (pieces.Comment n) = before.Join
before_next where_it_is (pieces.Comment n) = before.Other
before_next where_it_is pieces.Join = before.Join
before_next where_it_is pieces.LineEnd = before.White
before_next where_it_is (pieces.Token kind n) = before.Other
before_next where_it_is (pieces.Fault kind) = where_it_is

-- whether the last token up to behind a piece is a line end; a joined line has none
abbrev pub ends_line : Before → Bool → Piece → Bool
ends_line before.Join ended pieces.LineEnd = ended
ends_line where_it_is ended pieces.LineEnd = true
ends_line where_it_is ended (pieces.Token kind n) = false
ends_line where_it_is ended piece = ended

-- the token that a piece is: a line end is one unless it is joined, or the token before it is one
abbrev pub line_end : Before → Bool → Span → Option Token
line_end before.Join ended at = None
line_end where_it_is true at = None
line_end where_it_is false at = Some (record { kind = kinds.LineEnd; at = at })

abbrev pub token_of : Situation → Piece → Option Token
token_of now pieces.LineEnd = line_end now.before now.ended now.at
token_of now (pieces.Token kind n) = Some (record { kind = kind; at = now.at })
token_of now piece = None

abbrev pub with_token : Option Token → List Token → List Token
with_token None tokens = tokens
with_token (Some token) tokens = token ∷ tokens

-- where a text goes on behind a piece that takes these bytes
abbrev pub past : Situation → Piece → List ℕ → Situation
past now piece front =
    record { before = before_next now.before piece; ended = ends_line now.before now.ended piece; at = place_behind now.at front }

-- a piece that is no fault
abbrev pub IsSound : Piece → Type 0
IsSound (pieces.Fault kind) = ⊥
IsSound piece = ⊤

-- From a situation on the bytes are a row of pieces, each of which begins there as begins says. These are its tokens,
-- and the fault where it stops, if it doesn't reach the end.
pub data Row (begins : Before → List ℕ → Piece → Type 0) : Situation → List ℕ → List Token → Option Fault → Type 0 where
  ends : (now : Situation) → Row begins now [] [] None
  goes : (now : Situation) (b : ℕ) (bytes : List ℕ) (piece : Piece) (tokens all : List Token) (fault : Option Fault)
      → begins now.before (b ∷ bytes) piece → IsSound piece
      → Row begins (past now piece (take (length_of piece) (b ∷ bytes))) (drop (length_of piece) (b ∷ bytes)) tokens fault
      → all ≡ with_token (token_of now piece) tokens
      → Row begins now (b ∷ bytes) all fault
  stops : (now : Situation) (b : ℕ) (bytes : List ℕ) (kind : FaultKind)
      → begins now.before (b ∷ bytes) (pieces.Fault kind)
      → Row begins now (b ∷ bytes) [] (Some (record { kind = kind; at = now.at }))

-- where a text begins
abbrev pub start : Situation
start = record { before = before.White; ended = false; at = record { line = 1; col = 1 } }

-- the fault of a text of which this is the row: its own, or that of the first token too many
abbrev pub fault_at : Option Token → Option Fault → Option Fault
fault_at None fault = fault
fault_at (Some token) fault = Some (record { kind = TooManyTokens; at = token.at })

abbrev pub fault_of : List Token → Option Fault → Option Fault
fault_of tokens fault = fault_at (slice_get tokens 65536) fault

-- the number of the last line
abbrev pub last_line : List ℕ → ℕ
last_line text = count_by (λ b. b == 10) text + 1

-- What is known of a text: its tokens, unless it has a fault, and the first fault if it has one.
abbrev pub Lexed : (Before → List ℕ → Piece → Type 0) → List ℕ → Result TokenList LexErr → Type 0
Lexed begins text (Ok found) = Row begins start text found.items None × (length found.items ≤ 65536) × (found.last_line ≡ last_line text)
Lexed begins text (Err NoMemory) = ⊤
Lexed begins text (Err (Faulty first)) = (tokens : List Token) × (fault : Option Fault) × Row begins start text tokens fault × (fault_of tokens fault ≡ Some first)

-- what became of a list that was given a token, if there is one
abbrev pub Kept : List Token → List Token → Option Token → Result (Unit {0}) LexErr → Type 0
Kept old new token (Ok done) = (new ≡ old ++ option_to_list token) × (length new ≤ 65536)
Kept old new token (Err NoMemory) = ⊤
Kept old new token (Err (Faulty fault)) = (t : Token) × (token ≡ Some t) × (length old ≡ 65536) × (fault ≡ record { kind = TooManyTokens; at = t.at })

-- what is answered for a text of which this is the row
abbrev pub Tells : List Token → Option Fault → Result TokenList LexErr → Type 0
Tells tokens fault (Ok found) = (found.items ≡ tokens) × (fault_of tokens fault ≡ None)
Tells tokens fault (Err NoMemory) = ⊤
Tells tokens fault (Err (Faulty first)) = fault_of tokens fault ≡ Some first
