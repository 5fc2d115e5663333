-- Rows of pieces, piece by piece.
use Rattle.std.proofs.Common.{subst, ◌≡◌, ◌==◌, ℕ, zero, suc, ◌<◌, ◌≤◌, ◌+◌, List, [], ◌∷◌, ◌++◌, length, take, drop, cond, Option, Some, None, Err, refl, sym, ◌∙◌, ap, arith, append_assoc, length-drop}
use Rattle.std.specs.Prelude.{option_to_list, slice_get, count_by}
use Rattle.std.proofs.lemmas.List.Sums.{sum_by-append}
use Rattle.std.proofs.lemmas.Option.{slice_get_past}
use Rattle.fb_base.specs.declared.fault.Fault.{Fault}
use Rattle.fb_base.specs.declared.fault.FaultKind.{FaultKind}
use Rattle.fb_base.specs.declared.fault.FaultKind.TheVariants as faults
use Rattle.fb_lexer.specs.declared.lexing.LexErr.{LexErr}
use Rattle.fb_lexer.specs.declared.lexing.LexErr.TheVariants as errors
use Rattle.fb_lexer.specs.declared.token.Token.{Token}
use Rattle.fb_lexer.specs.declared.piece.Piece.{Piece}
use Rattle.fb_lexer.specs.declared.piece.Piece.TheVariants as pieces
use Rattle.fb_lexer.specs.declared.piece.Before.{Before}
use Rattle.fb_lexer.specs.declared.piece.Situation.{Situation}
use Rattle.fb_lexer.specs.Lengths.{length_of}
use Rattle.fb_lexer.specs.Rows.{Row, ends, goes, stops, past, token_of, with_token, IsSound, start, fault_at, fault_of, Kept, Lexed}

-- the token at the end of a list, in a longer one
pub token_at_end : (done : List Token) (t : Token) (more : List Token) → slice_get (done ++ t ∷ more) (length done) ≡ Some t
token_at_end [] t more = refl
token_at_end (s ∷ done) t more = token_at_end done t more

-- what few tokens have is the text's own fault
pub few_tokens : (tokens : List Token) (fault : Option Fault) → length tokens ≤ 65536 → fault_of tokens fault ≡ fault
few_tokens tokens fault few = rw (slice_get_past tokens 65536 few) refl

pub too_many : (done : List Token) (t : Token) (more : List Token) (fault : Option Fault) → length done ≡ 65536
    → fault_of (done ++ t ∷ more) fault ≡ Some (record { kind = faults.TooManyTokens; at = t.at })
too_many done t more fault full = ap (λ k. fault_at (slice_get (done ++ t ∷ more) k) fault) (sym full) ∙ ap (λ o. fault_at o fault) (token_at_end done t more)

pub with_token_is : (token : Option Token) (tokens : List Token) → with_token token tokens ≡ option_to_list token ++ tokens
with_token_is None tokens = refl
with_token_is (Some t) tokens = refl

pub sound : (piece : Piece) → ((kind : FaultKind) → piece ≡ pieces.Fault kind → ⊥) → IsSound piece
sound (pieces.Fault kind) h = h kind refl
sound piece h = tt

-- no bytes have no byte 10
pub no_lines : (bytes : List ℕ) → length bytes ≡ 0 → count_by (λ b. b == 10) bytes ≡ 0
no_lines [] none = refl
no_lines (b ∷ bytes) none = absurd (omega arith)

pub lines_append : (front back : List ℕ) → count_by (λ b. b == 10) (front ++ back) ≡ count_by (λ b. b == 10) front + count_by (λ b. b == 10) back
lines_append front back = sum_by-append (λ b. cond (b == 10) 1 0) front back

module _ (begins : Before → List ℕ → Piece → Type 0) where
  -- one piece in front of a row
  pub in_front : (now : Situation) (bytes : List ℕ) (piece : Piece) (tokens : List Token) (fault : Option Fault)
      → 0 < length bytes → begins now.before bytes piece → IsSound piece
      → Row begins (past now piece (take (length_of piece) bytes)) (drop (length_of piece) bytes) tokens fault
      → Row begins now bytes (with_token (token_of now piece) tokens) fault
  in_front now [] piece tokens fault some h sound row = absurd (omega arith)
  in_front now (b ∷ bytes) piece tokens fault some h sound row = goes now b bytes piece tokens _ fault h sound row refl

  pub at_fault : (now : Situation) (bytes : List ℕ) (kind : FaultKind)
      → 0 < length bytes → begins now.before bytes (pieces.Fault kind)
      → Row begins now bytes [] (Some (record { kind = kind; at = now.at }))
  at_fault now [] kind some h = absurd (omega arith)
  at_fault now (b ∷ bytes) kind some h = stops now b bytes kind h

  pub at_end : (now : Situation) (bytes : List ℕ) → length bytes ≡ 0 → Row begins now bytes [] None
  at_end now [] none = ends now
  at_end now (b ∷ bytes) none = absurd (omega arith)

  -- each text has a row, if something that takes a byte begins at each place
  abbrev Begins : Type 0
  Begins = (where_it_is : Before) (b : ℕ) (bytes : List ℕ) → (piece : Piece) × begins where_it_is (b ∷ bytes) piece × (IsSound piece → 1 ≤ length_of piece)

  abbrev Found : Situation → List ℕ → Type 0
  Found now bytes = (tokens : List Token) × (fault : Option Fault) × Row begins now bytes tokens fault

  pub found_by : (now : Situation) (b : ℕ) (bytes : List ℕ) (piece : Piece) → begins now.before (b ∷ bytes) piece → (IsSound piece → Found (past now piece (take (length_of piece) (b ∷ bytes))) (drop (length_of piece) (b ∷ bytes))) → Found now (b ∷ bytes)
  found_by now b bytes (pieces.Fault kind) h next = ([], Some (record { kind = kind; at = now.at }), stops now b bytes kind h)
  found_by now b bytes piece h next =
      let rest = next tt in
      (with_token (token_of now piece) rest.0, rest.1, goes now b bytes piece rest.0 _ rest.1 h tt rest.2 refl)

  pub has_row : Begins → (fuel : ℕ) (now : Situation) (bytes : List ℕ) → length bytes ≤ fuel → Found now bytes
  has_row each zero now [] h = ([], None, ends now)
  has_row each zero now (b ∷ bytes) h = absurd (omega arith)
  has_row each (suc fuel) now [] h = ([], None, ends now)
  has_row each (suc fuel) now (b ∷ bytes) h =
      let front = each now.before b bytes in
      found_by now b bytes front.0 front.1 (λ sound. has_row each fuel _ _ (let moves = front.2 sound in omega (arith, length-drop (length_of front.0) (b ∷ bytes))))

  -- what is known of a text as far as it is read: a row from here on is a row of the whole text, with these tokens in front
  abbrev pub Carries : List ℕ → List Token → Situation → List ℕ → Type 0
  Carries text done now bytes = (tokens : List Token) (fault : Option Fault) → Row begins now bytes tokens fault → Row begins start text (done ++ tokens) fault

  -- and behind the next piece
  pub carries_on : (text : List ℕ) (done new : List Token) (now next : Situation) (bytes front rest : List ℕ) (piece : Piece) (token : Option Token) (n : ℕ)
      → Carries text done now bytes → 0 < length bytes → begins now.before bytes piece → IsSound piece
      → n ≡ length_of piece → front ≡ take n bytes → rest ≡ drop n bytes → next ≡ past now piece front → token ≡ token_of now piece
      → new ≡ done ++ option_to_list token
      → Carries text new next rest
  carries_on text done new now next bytes front rest piece token n carries some h sound length_is front_is rest_is next_is token_is new_is tokens fault row =
      let here = in_front now bytes piece tokens fault some h sound (rw (next_is, front_is, rest_is, length_is) at row) in
      let same : done ++ with_token (token_of now piece) tokens ≡ new ++ tokens = rw (with_token_is, new_is, token_is, append_assoc) refl in
      subst (λ ts. Row begins start text ts fault) same (carries _ fault here)

  -- a text with a token too many has a row with that fault
  pub overflows : Begins → (text : List ℕ) (done : List Token) (t : Token) (next : Situation) (rest : List ℕ)
      → Carries text (done ++ t ∷ []) next rest → length done ≡ 65536
      → (tokens : List Token) × (fault : Option Fault) × Row begins start text tokens fault × (fault_of tokens fault ≡ Some (record { kind = faults.TooManyTokens; at = t.at }))
  overflows each text done t next rest carries full =
      let more = has_row each (length rest) next rest (omega arith) in
      ((done ++ t ∷ []) ++ more.0, more.1, carries more.0 more.1 more.2, rw append_assoc (too_many done t more.0 more.1 full))

  pub refused : Begins → (text : List ℕ) (done new : List Token) (now next : Situation) (bytes front rest : List ℕ) (piece : Piece) (token : Option Token) (n : ℕ)
      → Carries text done now bytes → 0 < length bytes → begins now.before bytes piece → IsSound piece
      → n ≡ length_of piece → front ≡ take n bytes → rest ≡ drop n bytes → next ≡ past now piece front → token ≡ token_of now piece
      → (error : LexErr) → Kept done new token (Err error) → Lexed begins text (Err error)
  refused each text done new now next bytes front rest piece token n carries some h sound length_is front_is rest_is next_is token_is errors.NoMemory kept = tt
  refused each text done new now next bytes front rest piece token n carries some h sound length_is front_is rest_is next_is token_is (errors.Fault fault) kept =
      let on = carries_on text done (done ++ kept.0 ∷ []) now next bytes front rest piece token n carries some h sound length_is front_is rest_is next_is token_is (rw kept.1 refl) in
      let found = overflows each text done kept.0 next rest on kept.2 in
      (found.0, found.1, found.2, found.3 ∙ ap Some (sym kept.3))
