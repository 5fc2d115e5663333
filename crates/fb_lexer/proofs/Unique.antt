-- Two rows of one text are one.
use Rattle.std.proofs.Common.{◌≡◌, ℕ, List, ◌∷◌, Option, Some, None, Result, Ok, Err, refl, sym, ◌∙◌, ap, subst, take, drop}
use Rattle.fb_base.specs.declared.fault.Fault.{Fault}
use Rattle.fb_lexer.specs.declared.token.Token.{Token}
use Rattle.fb_base.specs.declared.fault.FaultKind.{FaultKind}
use Rattle.fb_lexer.specs.declared.piece.Piece.{Piece}
use Rattle.fb_lexer.specs.declared.piece.Piece.TheVariants as pieces
use Rattle.fb_lexer.specs.declared.piece.Before.{Before}
use Rattle.fb_lexer.specs.declared.piece.Situation.{Situation}
use Rattle.fb_lexer.specs.Lengths.{length_of}
use Rattle.fb_lexer.specs.Rows.{Row, ends, goes, stops, past, with_token, token_of, IsSound, start, fault_of, Lexed, Tells}
use Rattle.fb_lexer.specs.TokenList.{TokenList}
use Rattle.fb_lexer.specs.declared.lexing.LexErr.{LexErr}
use Rattle.fb_lexer.specs.declared.lexing.LexErr.TheVariants as errors
use Rattle.fb_lexer.specs.Pieces.{Reads}
use Rattle.fb_lexer.proofs.Rows.{few_tokens}

same_kind : {k l : FaultKind} → pieces.Fault k ≡ pieces.Fault l → k ≡ l
same_kind is = cc

-- at each place one piece begins
abbrev pub IsOne : (Before → List ℕ → Piece → Type 0) → Type 0
IsOne begins = (where_it_is : Before) (b : ℕ) (bytes : List ℕ) (p q : Piece) → begins where_it_is (b ∷ bytes) p → begins where_it_is (b ∷ bytes) q → p ≡ q

module _ (begins : Before → List ℕ → Piece → Type 0) (one : IsOne begins) where
  pub unique : {now : Situation} {bytes : List ℕ} {tokens others : List Token} {fault other : Option Fault}
      → Row begins now bytes tokens fault → Row begins now bytes others other → (tokens ≡ others) × (fault ≡ other)
  unique (ends now) (ends _) = (refl, refl)
  unique (goes now b bytes p ts all f h s row e) (goes _ _ _ q us all' g k t row' e') =
      let same : q ≡ p = one now.before b bytes q p k h in
      let moved = subst (λ piece. Row begins (past now piece (take (length_of piece) (b ∷ bytes))) (drop (length_of piece) (b ∷ bytes)) us g) same row' in
      let rest = unique row moved in
      (e ∙ ap (λ x. with_token (token_of now p) x) rest.0 ∙ ap (λ x. with_token (token_of now x) us) (sym same) ∙ sym e', rest.1)
  unique (goes now b bytes p ts all f h s row e) (stops _ _ _ kind k) = absurd (subst IsSound (one now.before b bytes _ _ h k) s)
  unique (stops now b bytes kind h) (goes _ _ _ q us all' g k t row' e') = absurd (subst IsSound (one now.before b bytes _ _ k h) t)
  unique (stops now b bytes kind h) (stops _ _ _ kind' k) = (refl, ap (λ x. Some (record { kind = x; at = now.at })) (same_kind (one now.before b bytes _ _ h k)))

  -- what is answered for a text is what each row of it says
  pub told : (text : List ℕ) (result : Result TokenList LexErr) → Lexed begins text result
      → (tokens : List Token) (fault : Option Fault) → Row begins start text tokens fault → Tells tokens fault result
  told text (Ok found) known tokens fault row =
      let same = unique known.0 row in
      (same.0, ap (λ x. fault_of x fault) (sym same.0) ∙ ap (λ x. fault_of found.items x) (sym same.1) ∙ few_tokens found.items None known.1)
  told text (Err errors.NoMemory) known tokens fault row = tt
  told text (Err (errors.Fault first)) known tokens fault row =
      let same = unique known.2 row in
      ap (λ x. fault_of x fault) (sym same.0) ∙ ap (λ x. fault_of known.0 x) (sym same.1) ∙ known.3

pub reads_one : IsOne Reads
reads_one where_it_is b bytes p q h k = sym h ∙ k
