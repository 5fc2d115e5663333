-- The piece that begins at a place is the one that is read there, and the rows of both are the same.
use Rattle.std.proofs.Common.{◌≡◌, ℕ, List, ◌∷◌, Option, Result, Ok, Err, ◌⊎◌, inl, inr, refl, sym, ◌∙◌, ap, subst}
use Rattle.fb_base.specs.declared.fault.Fault.{Fault}
use Rattle.fb_base.specs.declared.fault.FaultKind.TheVariants as faults
use Rattle.fb_lexer.specs.declared.token.Token.{Token}
use Rattle.fb_lexer.specs.declared.piece.Piece.{Piece}
use Rattle.fb_lexer.specs.declared.piece.Piece.TheVariants as pieces
use Rattle.fb_lexer.specs.declared.piece.Before.{Before}
use Rattle.fb_lexer.specs.declared.piece.Before.TheVariants as before
use Rattle.fb_lexer.specs.declared.piece.Situation.{Situation}
use Rattle.fb_lexer.specs.declared.lexing.LexErr.{LexErr}
use Rattle.fb_lexer.specs.declared.lexing.LexErr.TheVariants as errors
use Rattle.fb_lexer.specs.TokenList.{TokenList}
use Rattle.fb_lexer.specs.Pieces.{begun, placed, piece_of, Reads}
use Rattle.fb_lexer.specs.Grammar.{IsFront, MayStand, Begins}
use Rattle.fb_lexer.specs.Rows.{Row, ends, goes, stops, Lexed}
use Rattle.fb_lexer.proofs.Sound.{begun_sound}
use Rattle.fb_lexer.proofs.Exact.{exact}
use Rattle.fb_lexer.proofs.Unique.{IsOne}

-- what is placed where it may stand, and where it may not
may_stand : (where_it_is : Before) (piece : Piece) → MayStand where_it_is piece → placed where_it_is piece ≡ piece
may_stand before.White piece h = refl
may_stand before.Other pieces.Join h = absurd h
may_stand before.Other piece h = refl
may_stand before.Join (pieces.Token kind n) h = absurd h
may_stand before.Join pieces.Join h = absurd h
may_stand before.Join (pieces.Fault faults.OpenComment) h = refl
may_stand before.Join (pieces.Fault kind) h = absurd h
may_stand before.Join piece h = refl

may_not : (where_it_is : Before) (piece : Piece) → (MayStand where_it_is piece → ⊥) → placed where_it_is piece ≡ pieces.Fault faults.BadByte
may_not before.White piece h = absurd (h tt)
may_not before.Other pieces.Join h = refl
may_not before.Other piece h = absurd (h tt)
may_not before.Join (pieces.Token kind n) h = refl
may_not before.Join pieces.Join h = refl
may_not before.Join (pieces.Fault faults.OpenComment) h = absurd (h tt)
may_not before.Join (pieces.Fault kind) h = refl
may_not before.Join piece h = absurd (h tt)

decided : (where_it_is : Before) (piece : Piece) → MayStand where_it_is piece ⊎ (MayStand where_it_is piece → ⊥)
decided before.White piece = inl tt
decided before.Other pieces.Join = inr (λ h. h)
decided before.Other piece = inl tt
decided before.Join (pieces.Token kind n) = inr (λ h. h)
decided before.Join pieces.Join = inr (λ h. h)
decided before.Join (pieces.Fault faults.OpenComment) = inl tt
decided before.Join (pieces.Fault kind) = inr (λ h. h)
decided before.Join piece = inl tt

begins_by : (where_it_is : Before) (bytes : List ℕ) (piece : Piece) → IsFront bytes piece → MayStand where_it_is piece ⊎ (MayStand where_it_is piece → ⊥) → Begins where_it_is bytes (placed where_it_is piece)
begins_by where_it_is bytes piece h (inl may) = subst (λ p. Begins where_it_is bytes p) (sym (may_stand where_it_is piece may)) (inl (h, may))
begins_by where_it_is bytes piece h (inr not_so) = inr (may_not where_it_is piece not_so, (piece, h, not_so))

-- what is read at a place begins there
pub read_begins : (where_it_is : Before) (b : ℕ) (rest : List ℕ) → Begins where_it_is (b ∷ rest) (piece_of where_it_is (b ∷ rest))
read_begins where_it_is b rest = begins_by where_it_is (b ∷ rest) (begun b rest) (begun_sound b rest) (decided where_it_is (begun b rest))

-- and what begins there is read
pub begins_read : (where_it_is : Before) (b : ℕ) (rest : List ℕ) (piece : Piece) → Begins where_it_is (b ∷ rest) piece → piece_of where_it_is (b ∷ rest) ≡ piece
begins_read where_it_is b rest piece (inl h) = ap (λ p. placed where_it_is p) (exact b rest piece h.0) ∙ may_stand where_it_is piece h.1
begins_read where_it_is b rest piece (inr h) =
    let other = h.1 in
    ap (λ p. placed where_it_is p) (exact b rest other.0 other.1) ∙ may_not where_it_is other.0 other.2 ∙ sym h.0

pub begins_if_read : (where_it_is : Before) (b : ℕ) (rest : List ℕ) (piece : Piece) → piece_of where_it_is (b ∷ rest) ≡ piece → Begins where_it_is (b ∷ rest) piece
begins_if_read where_it_is b rest piece is = subst (λ p. Begins where_it_is (b ∷ rest) p) is (read_begins where_it_is b rest)

pub begins_one : IsOne Begins
begins_one where_it_is b bytes p q h k = sym (begins_read where_it_is b bytes p h) ∙ begins_read where_it_is b bytes q k

-- rows of the one are rows of the other
pub row_begins : {now : Situation} {bytes : List ℕ} {tokens : List Token} {fault : Option Fault} → Row Reads now bytes tokens fault → Row Begins now bytes tokens fault
row_begins (ends now) = ends now
row_begins (goes now b bytes piece tokens all fault h sound row e) = goes now b bytes piece tokens all fault (begins_if_read now.before b bytes piece h) sound (row_begins row) e
row_begins (stops now b bytes kind h) = stops now b bytes kind (begins_if_read now.before b bytes (pieces.Fault kind) h)

pub lexed_begins : (text : List ℕ) (result : Result TokenList LexErr) → Lexed Reads text result → Lexed Begins text result
lexed_begins text (Ok found) h = (row_begins h.0, h.1, h.2)
lexed_begins text (Err errors.NoMemory) h = tt
lexed_begins text (Err (errors.Fault first)) h = (h.0, h.1, row_begins h.2, h.3)
