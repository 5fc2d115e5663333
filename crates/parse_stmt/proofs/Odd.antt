-- Two tokens at one place of two lists: a word that this profile doesn't have, and one that begins something; or any
-- token, and an end of a statement.
use Rattle.std.proofs.Common.{◌≡◌, ℕ, Bool, true, false, List, ◌∷◌, Some, None, Err, refl, sym, ap, ◌∙◌, ◌⊎◌, inl, inr}
use Rattle.fb_base.specs.declared.fault.FaultKind.{FaultKind}
use Rattle.fb_base.specs.declared.fault.FaultKind.TheVariants.{Expected, ExtraText, OutOfProfile, DeepNesting}
use Rattle.fb_lexer.specs.declared.token.Token.{Token}
use Rattle.fb_lexer.specs.declared.token.TokenKind.{TokenKind}
use Rattle.fb_lexer.specs.declared.token.TokenKind.TheVariants as kinds
use Rattle.fb_lexer.specs.declared.token.Mark.{Mark}
use Rattle.fb_lexer.specs.declared.word.Word.{Word}
use Rattle.fb_lexer.specs.declared.word.Word.TheVariants as w
use Rattle.parse_expr.specs.declared.error.ReadErr.TheVariants as read_errs
use Rattle.parse_expr.specs.Words.{is_refused, suffix_of, binary_of, is_pointer}
use Rattle.parse_expr.specs.Reading.{first, is_mark, is_word}
use Rattle.parse_expr.specs.Types.{name_by}
use Rattle.parse_expr.specs.Productions.{begins_some, begins_operand}
use Rattle.parse_expr.specs.Expr.{at_level, begins, begins_as}
use Rattle.parse_expr.specs.Faults.{is_refused_kind}
use Rattle.parse_expr.proofs.Refused.{nowhere}
use Rattle.parse_expr.proofs.Twins.{Position, Gap, Weak, Empty, empty_end}
use Rattle.parse_parts.specs.declared.kinds.InLine.{InLine}
use Rattle.parse_parts.specs.declared.kinds.Level.{Level}
use Rattle.parse_parts.specs.declared.kinds.Lead.TheVariants as leads
use Rattle.parse_parts.specs.Words.{is_sep, word_lead, lead_of, allowed}
use Rattle.parse_stmt.proofs.Smallest.{word_is}

-- ---- what begins something, and nothing else

abbrev pub is_odd_word : Word → Bool
is_odd_word w.KwInteger = true
is_odd_word w.KwPrint = true
is_odd_word w.KwDeclare = true
is_odd_word word = false

-- a number, Integer, Print or Declare
abbrev pub is_odd : TokenKind → Bool
is_odd (kinds.Number value) = true
is_odd (kinds.Word word) = is_odd_word word
is_odd kind = false

by_odd_word : {B : Type 0} (f : TokenKind → B) (c : B) → f (kinds.Word w.KwInteger) ≡ c → f (kinds.Word w.KwPrint) ≡ c → f (kinds.Word w.KwDeclare) ≡ c → (word : Word) → is_odd_word word ≡ true → f (kinds.Word word) ≡ c
by_odd_word f c i p d w.KwInteger is = i
by_odd_word f c i p d w.KwPrint is = p
by_odd_word f c i p d w.KwDeclare is = d
by_odd_word f c i p d word is = cc

pub by_odd : {B : Type 0} (f : TokenKind → B) (c : B) → ((value : ℕ) → f (kinds.Number value) ≡ c) → f (kinds.Word w.KwInteger) ≡ c → f (kinds.Word w.KwPrint) ≡ c → f (kinds.Word w.KwDeclare) ≡ c → (kind : TokenKind) → is_odd kind ≡ true → f kind ≡ c
by_odd f c n i p d (kinds.Number value) is = n value
by_odd f c n i p d (kinds.Word word) is = by_odd_word f c i p d word is
by_odd f c n i p d kind is = cc

pub odd_mark : (which : Mark) (kind : TokenKind) → is_odd kind ≡ true → is_mark which kind ≡ false
odd_mark which kind is = by_odd (is_mark which) false (λ n. refl) refl refl refl kind is

odd_word_by : (which : Word) (kind : TokenKind) (b : Bool) → is_word which kind ≡ b → is_odd kind ≡ true → is_odd_word which ≡ false → b ≡ false
odd_word_by which kind false test is plain = refl
odd_word_by which kind true test is plain = let bad : true ≡ false = sym is ∙ ap is_odd (word_is which kind test) ∙ plain in cc

pub odd_word : (which : Word) (kind : TokenKind) → is_odd kind ≡ true → is_odd_word which ≡ false → is_word which kind ≡ false
odd_word which kind is plain = odd_word_by which kind (is_word which kind) refl is plain

pub odd_sep : (line : InLine) (kind : TokenKind) → is_odd kind ≡ true → is_sep line kind ≡ false
odd_sep line kind is = by_odd (is_sep line) false (λ n. refl) refl refl refl kind is

-- ---- a word that this profile doesn't have

pub by_refused : {B : Type 0} (f : TokenKind → B) (c : B) → ((word : Word) → f (kinds.Word word) ≡ c) → (kind : TokenKind) → is_refused_kind kind ≡ true → f kind ≡ c
by_refused f c k (kinds.Word word) is = k word
by_refused f c k kind is = cc

refused_word_by : (which : Word) (kind : TokenKind) (b : Bool) → is_word which kind ≡ b → is_refused_kind kind ≡ true → is_refused which ≡ false → b ≡ false
refused_word_by which kind false test is plain = refl
refused_word_by which kind true test is plain = let bad : true ≡ false = sym is ∙ ap is_refused_kind (word_is which kind test) ∙ plain in cc

pub refused_word : (which : Word) (kind : TokenKind) → is_refused_kind kind ≡ true → is_refused which ≡ false → is_word which kind ≡ false
refused_word which kind is plain = refused_word_by which kind (is_word which kind) refl is plain

pub refused_mark : (which : Mark) (kind : TokenKind) → is_refused_kind kind ≡ true → is_mark which kind ≡ false
refused_mark which kind is = by_refused (is_mark which) false (λ word. refl) kind is

pub refused_sep : (line : InLine) (kind : TokenKind) → is_refused_kind kind ≡ true → is_sep line kind ≡ false
refused_sep line kind is = by_refused (is_sep line) false (λ word. refl) kind is

refused_word_lead : (word : Word) → is_refused word ≡ true → word_lead word ≡ leads.Nothing
refused_word_lead w.KwSingle is = refl
refused_word_lead w.KwDouble is = refl
refused_word_lead w.KwZString is = refl
refused_word_lead w.KwWString is = refl
refused_word_lead w.KwReDim is = refl
refused_word_lead w.KwErase is = refl
refused_word_lead w.KwPreserve is = refl
refused_word_lead w.KwExtends is = refl
refused_word_lead w.KwVirtual is = refl
refused_word_lead w.KwAbstract is = refl
refused_word_lead w.KwProperty is = refl
refused_word_lead w.KwUnion is = refl
refused_word_lead w.KwNamespace is = refl
refused_word_lead w.KwEnum is = refl
refused_word_lead w.KwWith is = refl
refused_word_lead w.KwGoTo is = refl
refused_word_lead w.KwGoSub is = refl
refused_word_lead w.KwOn is = refl
refused_word_lead w.KwVar is = refl
refused_word_lead w.KwPublic is = refl
refused_word_lead w.KwPrivate is = refl
refused_word_lead w.KwProtected is = refl
refused_word_lead w.KwOpen is = refl
refused_word_lead w.KwClose is = refl
refused_word_lead w.KwVal is = refl
refused_word_lead w.KwRnd is = refl
refused_word_lead w.KwTimer is = refl
refused_word_lead w.KwStrPtr is = refl
refused_word_lead w.KwCommand is = refl
refused_word_lead w.KwAsm is = refl
refused_word_lead w.KwExtern is = refl
refused_word_lead word is = cc

pub refused_lead : (level : Level) (kind : TokenKind) → is_refused_kind kind ≡ true → lead_of level kind ≡ leads.Nothing
refused_lead level (kinds.Word word) is = ap (allowed level) (refused_word_lead word is)
refused_lead level kind is = cc

pub refused_value : (t : Token) → is_refused_kind t.kind ≡ true → begins 1 (Some t) ≡ false
refused_value t is =
    let n = nowhere t.kind is in
    let none : begins_operand t.kind ≡ false = ap begins_some (n.start (record { line = 1; col = 1 })) in
    ap (begins_as 1 t) n.prefix ∙ none

-- ---- an end of a statement

abbrev pub is_end : TokenKind → Bool
is_end kinds.Colon = true
is_end kinds.LineEnd = true
is_end kind = false

pub by_end : {B : Type 0} (f : TokenKind → B) (c : B) → f kinds.Colon ≡ c → f kinds.LineEnd ≡ c → (kind : TokenKind) → is_end kind ≡ true → f kind ≡ c
by_end f c colon line kinds.Colon is = colon
by_end f c colon line kinds.LineEnd is = line
by_end f c colon line kind is = cc

end_is : (kind : TokenKind) → is_end kind ≡ true → (kind ≡ kinds.Colon) ⊎ (kind ≡ kinds.LineEnd)
end_is kinds.Colon is = inl refl
end_is kinds.LineEnd is = inr refl
end_is kind is = cc

-- nothing begins with it
pub end_empty : (u : Token) → is_end u.kind ≡ true → Empty (Some u)
end_empty u is = empty_end u (end_is u.kind is)

-- ---- the pair

-- The first list has a word that this profile doesn't have, the second one a token that begins something.
pub record Refused (L : FaultKind → Type 0) (t u : Token) : Type 0 where
  pub odd : is_odd u.kind ≡ true
  pub out : L OutOfProfile
  pub word : is_refused_kind t.kind ≡ true

-- what may be told where an end would do, and of words and depths there
pub record Ends (L : FaultKind → Type 0) : Type 0 where
  pub extra : L ExtraText
  pub out : L OutOfProfile
  pub deep : L DeepNesting

-- The second list has an end of a statement.
pub record Ended (L : FaultKind → Type 0) (u : Token) : Type 0 where
  pub end : is_end u.kind ≡ true
  pub ends : Ends L

-- The two lists have such a pair at the place. L has the kinds of faults that may stand there in the first reading alone.
pub record Odd (L : FaultKind → Type 0) (t : Token) (v : List Token) : Type 0 where
  pub u : Token
  pub is : first v ≡ Some u
  pub gap : Gap L t v
  pub why : Refused L t u ⊎ Ended L u

-- the same token stands there in both lists, or such a pair
abbrev pub Stand : (FaultKind → Type 0) → Token → List Token → Type 0
Stand L t v = (first v ≡ Some t) ⊎ Odd L t v

abbrev pub place_in : (L : FaultKind → Type 0) (t : Token) (v : List Token) → Stand L t v → Position L t v
place_in L t v (inl same) = inl same
place_in L t v (inr odd) = inr odd.gap

-- what is so of each token that may stand in the second list is so of the one that stands there
pub fails_by : {B : Type 0} (f : TokenKind → B) (c : B) → ((value : ℕ) → f (kinds.Number value) ≡ c) → f (kinds.Word w.KwInteger) ≡ c → f (kinds.Word w.KwPrint) ≡ c → f (kinds.Word w.KwDeclare) ≡ c → f kinds.Colon ≡ c → f kinds.LineEnd ≡ c
    → {L : FaultKind → Type 0} {t : Token} (u : Token) → Refused L t u ⊎ Ended L u → f u.kind ≡ c
fails_by f c n i p d x y u (inl r) = by_odd f c n i p d u.kind r.odd
fails_by f c n i p d x y u (inr e) = by_end f c x y u.kind e.end

pub other_mark : (which : Mark) {L : FaultKind → Type 0} {t : Token} {v : List Token} → (odd : Odd L t v) → is_mark which odd.u.kind ≡ false
other_mark which odd = fails_by (is_mark which) false (λ n. refl) refl refl refl refl refl odd.u odd.why

other_word_by : (which : Word) → is_odd_word which ≡ false → {L : FaultKind → Type 0} {t : Token} (u : Token) → Refused L t u ⊎ Ended L u → is_word which u.kind ≡ false
other_word_by which plain u (inl r) = odd_word which u.kind r.odd plain
other_word_by which plain u (inr e) = by_end (is_word which) false refl refl u.kind e.end

pub other_word : (which : Word) → is_odd_word which ≡ false → {L : FaultKind → Type 0} {t : Token} {v : List Token} → (odd : Odd L t v) → is_word which odd.u.kind ≡ false
other_word which plain odd = other_word_by which plain odd.u odd.why

-- where something begins, a word that this profile doesn't have in place of what begins it
odd_weak : (u : Token) → is_odd u.kind ≡ true → Weak (Some u)
odd_weak u is = record {
  mark = λ which. odd_mark which u.kind is;
  named = λ ts. by_odd (λ (k : TokenKind). name_by u.at k ts) (Err (read_errs.Fault Expected, ts)) (λ n. refl) refl refl refl u.kind is;
  suffix = by_odd suffix_of None (λ n. refl) refl refl refl u.kind is;
  operator = λ least. by_odd (λ (k : TokenKind). at_level least u.at (binary_of k)) None (λ n. refl) refl refl refl u.kind is;
  pointer = by_odd is_pointer false (λ n. refl) refl refl refl u.kind is;
}

pub odd_stand : (L : FaultKind → Type 0) (t u : Token) (more : List Token) → L DeepNesting → L OutOfProfile → is_refused_kind t.kind ≡ true → is_odd u.kind ≡ true → Stand L t (u ∷ more)
unfolding first
odd_stand L t u more deep out word odd =
    inr (record { u = u; is = refl; gap = record { weak = odd_weak u odd; deep = deep; nothing = inr (out, word) }; why = inl (record { odd = odd; out = out; word = word }) })

-- any token in place of an end of a statement
end_weak : (u : Token) → is_end u.kind ≡ true → Weak (Some u)
end_weak u is = record {
  mark = λ which. by_end (is_mark which) false refl refl u.kind is;
  named = λ ts. by_end (λ (k : TokenKind). name_by u.at k ts) (Err (read_errs.Fault Expected, ts)) refl refl u.kind is;
  suffix = by_end suffix_of None refl refl u.kind is;
  operator = λ least. by_end (λ (k : TokenKind). at_level least u.at (binary_of k)) None refl refl u.kind is;
  pointer = by_end is_pointer false refl refl u.kind is;
}

pub end_stand : (L : FaultKind → Type 0) (t u : Token) (more : List Token) → Ends L → is_end u.kind ≡ true → Stand L t (u ∷ more)
unfolding first
end_stand L t u more ends is =
    inr (record { u = u; is = refl; gap = record { weak = end_weak u is; deep = ends.deep; nothing = inl (end_empty u is) }; why = inr (record { end = is; ends = ends }) })
