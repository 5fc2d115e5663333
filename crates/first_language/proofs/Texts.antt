-- From one place of a text to the next.
use Rattle.std.proofs.Common.{◌≡◌, ◌≢◌, ℕ, ◌≤◌, ◌==◌, Bool, true, false, if◌then◌else◌, inl, inr, List, [], ◌∷◌, ◌++◌, length, drop, Option, Some, None, option_map, IfSome, refl, ap, sym, ◌∙◌, subst, append_assoc, append-nil, arith}
use Rattle.std.specs.Prelude.{⊤}
use Rattle.std.proofs.lemmas.Bool.{ne_eqb}
use Rattle.fb_lexer.specs.declared.token.TokenKind.{TokenKind}
use Rattle.fb_lexer.specs.declared.piece.Piece.{Piece}
use Rattle.fb_lexer.specs.declared.piece.Piece.TheVariants as pieces
use Rattle.fb_lexer.specs.declared.piece.Before.TheVariants as before
use Rattle.fb_lexer.specs.Letters.{is_blank}
use Rattle.fb_lexer.specs.Pieces.{piece_of}
use Rattle.fb_lexer.specs.Grammar.{IsPiece, Begins}
use Rattle.fb_lexer.proofs.Begun.{begins_read, begins_if_read}
use Rattle.first_language.specs.declared.token.Token.{Token}
use Rattle.first_language.specs.declared.front.Front.{Front}
use Rattle.first_language.specs.declared.front.Front.TheVariants.{Refused, White, Newline, Token as Has}
use Rattle.first_language.specs.Tokens.{token_of}
use Rattle.first_language.specs.Fronts.{with_token, front_with, front_of}
use Rattle.first_language.specs.Tree.{Program}
use Rattle.first_language.specs.Grammar.{Tokens, HasLines, ends, newline, white, token}
use Rattle.first_language.specs.Reading.{Progress, start, with_tokens, finished, read_lines, program_of_lines}
use Rattle.first_language.specs.Texts.{ComesOf}

-- ---- what stands at a place

no_and : (b : ℕ) → is_blank b ≡ true → (b == 38) ≡ false
no_and b h = ne_eqb b 38 (λ e. let f = ap is_blank e in cc)

front_newline : (text : List ℕ) → front_of (10 ∷ text) ≡ Newline
front_newline text = ap front_with (begins_read before.Other 10 text pieces.LineEnd (inl (refl, tt)))

front_white : (b : ℕ) (text : List ℕ) → is_blank b ≡ true → front_of (b ∷ text) ≡ White
front_white b text h = rw (no_and b h) (ap front_with (begins_read before.Other b text pieces.Blank (inl (h, tt))))

front_token : (b : ℕ) (text : List ℕ) (n : ℕ) (kind : TokenKind) (one : Token) → b ≢ 38 → IsPiece (b ∷ text) (pieces.Token kind n) → token_of kind ≡ Some one → front_of (b ∷ text) ≡ Has one n
front_token b text n kind one other piece_is is =
    rw (ne_eqb b 38 other) (ap front_with (begins_read before.Other b text (pieces.Token kind n) (inl (piece_is, tt))) ∙ ap (λ o. with_token o n) is)

-- what a front says of the bytes
abbrev Means : Front → ℕ → List ℕ → Type 0
Means Refused b text = ⊤
Means White b text = is_blank b ≡ true
Means Newline b text = b ≡ 10
Means (Has one n) b text = (b ≢ 38) × ((kind : TokenKind) × IsPiece (b ∷ text) (pieces.Token kind n) × (token_of kind ≡ Some one))

means_token : (b : ℕ) (text : List ℕ) (n : ℕ) (kind : TokenKind) (o : Option Token) → b ≢ 38 → IsPiece (b ∷ text) (pieces.Token kind n) → token_of kind ≡ o → Means (with_token o n) b text
means_token b text n kind None other piece_is is = tt
means_token b text n kind (Some one) other piece_is is = (other, (kind, piece_is, is))

means_piece : (b : ℕ) (text : List ℕ) (piece : Piece) → b ≢ 38 → Begins before.Other (b ∷ text) piece → Means (front_with piece) b text
means_piece b text pieces.Blank other (inl f) = f.0
means_piece b text pieces.Blank other (inr f) = absurd (let e = f.0 in cc)
means_piece b text pieces.LineEnd other (inl f) = f.0
means_piece b text pieces.LineEnd other (inr f) = absurd (let e = f.0 in cc)
means_piece b text (pieces.Token kind n) other (inl f) = means_token b text n kind (token_of kind) other f.0 refl
means_piece b text (pieces.Token kind n) other (inr f) = absurd (let e = f.0 in cc)
means_piece b text piece other f = tt

by_and : (b : ℕ) (text : List ℕ) (t : Bool) → (b == 38) ≡ t → Means (if t then Refused else front_with (piece_of before.Other (b ∷ text))) b text
by_and b text true e = tt
by_and b text false e = means_piece b text (piece_of before.Other (b ∷ text)) (λ f. let g = ap (λ x. x == 38) f in cc) (begins_if_read before.Other b text _ refl)

means : (b : ℕ) (text : List ℕ) → Means (front_of (b ∷ text)) b text
means b text = by_and b text (b == 38) refl

-- ---- the lines from a place on

some_line : (text : List ℕ) (lines : List Tokens) → HasLines text lines → (line : Tokens) × (rest : List Tokens) × (lines ≡ line ∷ rest)
some_line text lines ends = ([], [], refl)
some_line text lines (newline _ rest h) = ([], rest, refl)
some_line text lines (white b after _ blank h) = some_line after lines h
some_line text lines (token b after n kind one line rest other piece_is is h) = (one ∷ line, rest, refl)

abbrev Stepped : Front → List ℕ → List Tokens → Type 0
Stepped Refused text lines = ⊥
Stepped White text lines = HasLines (drop 1 text) lines
Stepped Newline text lines = (rest : List Tokens) × (lines ≡ [] ∷ rest) × HasLines (drop 1 text) rest
Stepped (Has one n) text lines = (line : Tokens) × (rest : List Tokens) × (lines ≡ (one ∷ line) ∷ rest) × HasLines (drop n text) (line ∷ rest)

stepped : (b : ℕ) (text : List ℕ) (lines : List Tokens) → HasLines (b ∷ text) lines → Stepped (front_of (b ∷ text)) (b ∷ text) lines
stepped b text lines (newline _ rest h) = subst (λ f. Stepped f (10 ∷ text) ([] ∷ rest)) (sym (front_newline text)) (rest, refl, h)
stepped b text lines (white _ _ _ is h) = subst (λ f. Stepped f (b ∷ text) lines) (sym (front_white b text is)) h
stepped b text lines (token _ _ n kind one line rest other piece_is is h) = subst (λ f. Stepped f (b ∷ text) ((one ∷ line) ∷ rest)) (sym (front_token b text n kind one other piece_is is)) (line, rest, refl, h)

step_at : (text : List ℕ) (front : Front) (lines : List Tokens) → front_of text ≡ front → HasLines text lines → front ≢ Refused → Stepped front text lines
step_at [] front lines e h some = absurd (some (sym e))
step_at (b ∷ text) front lines e h some = subst (λ f. Stepped f (b ∷ text) lines) e (stepped b text lines h)

-- ---- the reading

-- the lines that go on with one that is begun
abbrev continued : Tokens → List Tokens → List Tokens
continued line [] = []
continued line (first ∷ rest) = (line ++ first) ∷ rest

continued_none : (lines : List Tokens) → continued [] lines ≡ lines
continued_none [] = refl
continued_none (first ∷ rest) = refl

-- Of a text so much is read that the rest comes to what the whole comes to.
pub record Comes (text rest : List ℕ) (p : Progress) (line : Tokens) : Type 0 where
  pub forth : (lines : List Tokens) → HasLines rest lines → (all : List Tokens) × HasLines text all × (program_of_lines all ≡ read_lines p (continued line lines))
  pub back : (all : List Tokens) → HasLines text all → (lines : List Tokens) × HasLines rest lines × (program_of_lines all ≡ read_lines p (continued line lines))

pub comes_start : (text : List ℕ) → Comes text text start []
comes_start text = record {
  forth = λ lines h. (lines, h, ap (read_lines start) (sym (continued_none lines)));
  back = λ all h. (all, h, ap (read_lines start) (sym (continued_none all)));
}

pub comes_white : (text rest : List ℕ) (p : Progress) (line : Tokens) → front_of rest ≡ White → Comes text rest p line → Comes text (drop 1 rest) p line
comes_white text [] p line e c = absurd (let f : Refused ≡ White = e in cc)
comes_white text (b ∷ rest) p line e c = record {
  forth = λ lines h. c.forth lines (white b rest lines (subst (λ f. Means f b rest) e (means b rest)) h);
  back = λ all h. let k = c.back all h in (k.0, step_at (b ∷ rest) White k.0 e k.1 (λ f. cc), k.2);
}

pub comes_newline : (text rest : List ℕ) (p next : Progress) (line : Tokens) → front_of rest ≡ Newline → with_tokens p line ≡ Some next → Comes text rest p line → Comes text (drop 1 rest) next []
comes_newline text [] p next line e w c = absurd (let f : Refused ≡ Newline = e in cc)
comes_newline text (b ∷ rest) p next line e w c =
    let ten : b ≡ 10 = subst (λ f. Means f b rest) e (means b rest) in
    let over = λ (lines : List Tokens). let f : read_lines p ((line ++ []) ∷ lines) ≡ read_lines next (continued [] lines) = rw (append-nil line, w, continued_none lines) refl in f in
    record {
      forth = λ lines h.
          let k = c.forth ([] ∷ lines) (subst (λ x. HasLines (x ∷ rest) ([] ∷ lines)) (sym ten) (newline rest lines h)) in
          (k.0, k.1, k.2 ∙ over lines);
      back = λ all h.
          let k = c.back all h in
          let s = step_at (b ∷ rest) Newline k.0 e k.1 (λ f. cc) in
          (s.0, s.2, k.2 ∙ ap (λ x. read_lines p (continued line x)) s.1 ∙ over s.0);
    }

pub comes_token : (text rest : List ℕ) (p : Progress) (line : Tokens) (one : Token) (n : ℕ) → front_of rest ≡ Has one n → Comes text rest p line → Comes text (drop n rest) p (line ++ one ∷ [])
comes_token text [] p line one n e c = absurd (let f : Refused ≡ Has one n = e in cc)
comes_token text (b ∷ rest) p line one n e c =
    let m = subst (λ f. Means f b rest) e (means b rest) in
    let over = λ (first : Tokens) (lines : List Tokens). ap (λ x. read_lines p (x ∷ lines)) (sym (append_assoc line (one ∷ []) first)) in
    record {
      forth = λ lines h.
          let s = some_line (drop n (b ∷ rest)) lines h in
          let k = c.forth ((one ∷ s.0) ∷ s.1) (token b rest n m.1.0 one s.0 s.1 m.0 m.1.1 m.1.2 (subst (HasLines (drop n (b ∷ rest))) s.2 h)) in
          (k.0, k.1, k.2 ∙ over s.0 s.1 ∙ ap (λ x. read_lines p (continued (line ++ one ∷ []) x)) (sym s.2));
      back = λ all h.
          let k = c.back all h in
          let s = step_at (b ∷ rest) (Has one n) k.0 e k.1 (λ f. cc) in
          (s.0 ∷ s.1, s.3, k.2 ∙ ap (λ x. read_lines p (continued line x)) s.2 ∙ over s.0 s.1);
    }

-- no token stands there
pub refused_front : (text rest : List ℕ) (p : Progress) (line : Tokens) → 1 ≤ length rest → front_of rest ≡ Refused → Comes text rest p line → ComesOf text None
refused_front text [] p line some e c = absurd (omega arith)
refused_front text (b ∷ rest) p line some e c = record { some = tt; each = λ all h. let k = c.back all h in absurd (subst (λ f. Stepped f (b ∷ rest) k.0) e (stepped b rest k.0 k.1)) }

-- a line that ends isn't one of the language
pub refused_line : (text rest : List ℕ) (p : Progress) (line : Tokens) → front_of rest ≡ Newline → with_tokens p line ≡ None → Comes text rest p line → ComesOf text None
refused_line text rest p line e w c = record {
  some = tt;
  each = λ all h.
      let k = c.back all h in
      let s = step_at rest Newline k.0 e k.1 (λ f. cc) in
      k.2 ∙ ap (λ x. read_lines p (continued line x)) s.1 ∙ rw (append-nil line, w) refl;
}

last_line : (lines : List Tokens) → HasLines [] lines → lines ≡ [] ∷ []
last_line lines ends = refl

pub ends_text : (text : List ℕ) (p : Progress) (line : Tokens) (found : Option Program) → read_lines p (line ∷ []) ≡ found → Comes text [] p line → ComesOf text found
ends_text text p line found e c =
    let k = c.forth ([] ∷ []) ends in
    record {
      some = has found (k.2 ∙ ap (λ x. read_lines p (x ∷ [])) (append-nil line) ∙ e);
      each = λ all h.
          let b = c.back all h in
          b.2 ∙ ap (λ x. read_lines p (continued line x)) (last_line b.0 b.1) ∙ ap (λ x. read_lines p (x ∷ [])) (append-nil line) ∙ e;
    }
  where
    has : (o : Option Program) → program_of_lines (c.forth ([] ∷ []) ends).0 ≡ o → IfSome o (λ program. (lines : List Tokens) × HasLines text lines × (program_of_lines lines ≡ Some program))
    has None f = tt
    has (Some program) f = let k = c.forth ([] ∷ []) ends in (k.0, k.1, f)

-- what the code's answer says of the next line
pub tells : {V : Type 0} (progress : V → Progress) (o : Option V) (next : V) (p : Progress) (slice line : Tokens) → o ≡ Some next → slice ≡ line → option_map progress o ≡ with_tokens p slice → with_tokens p line ≡ Some (progress next)
tells progress o next p slice line e f h = ap (with_tokens p) (sym f) ∙ sym h ∙ ap (option_map progress) e

pub tells_none : {V : Type 0} (progress : V → Progress) (o : Option V) (p : Progress) (slice line : Tokens) → o ≡ None → slice ≡ line → option_map progress o ≡ with_tokens p slice → with_tokens p line ≡ None
tells_none progress o p slice line e f h = ap (with_tokens p) (sym f) ∙ sym h ∙ ap (option_map progress) e

no_more : (rest : List ℕ) → length rest ≤ 0 → rest ≡ []
no_more [] h = refl
no_more (b ∷ rest) h = absurd (omega arith)

pub ends_some : (text rest : List ℕ) (p last : Progress) (line : Tokens) (found : Option Program) → length rest ≤ 0 → with_tokens p line ≡ Some last → found ≡ finished last last.open_blocks → Comes text rest p line → ComesOf text found
ends_some text rest p last line found h w e c =
    let f : read_lines p (line ∷ []) ≡ found = rw w (sym e) in
    ends_text text p line found f (subst (λ x. Comes text x p line) (no_more rest h) c)

pub ends_none : (text rest : List ℕ) (p : Progress) (line : Tokens) → length rest ≤ 0 → with_tokens p line ≡ None → Comes text rest p line → ComesOf text None
ends_none text rest p line h w c =
    let f : read_lines p (line ∷ []) ≡ None = rw w refl in
    ends_text text p line None f (subst (λ x. Comes text x p line) (no_more rest h) c)
