-- What a name's look-up among the reserved words makes of it.
use Rattle.std.proofs.Common.{◌≡◌, ℕ, ◌+◌, List, Bool, true, false, cond, Some, None, refl, sym, ◌∙◌, ap, codes}
use Rattle.std.specs.Str.{bytes_eq}
use Rattle.std.proofs.lemmas.Slice.Eq.{bytes_eq-Decides}
use Rattle.fb_lexer.specs.declared.token.TokenKind.TheVariants as kinds
use Rattle.fb_lexer.specs.declared.word.Word.{Word}
use Rattle.fb_lexer.specs.declared.word.Word.TheVariants.{KwRem}
use Rattle.fb_lexer.specs.declared.piece.Piece.{Piece}
use Rattle.fb_lexer.specs.declared.piece.Piece.TheVariants.{Comment, Token}
use Rattle.fb_lexer.specs.Words.{word_of}
use Rattle.fb_lexer.specs.Pieces.{line_length, word_or_name, named}
use Rattle.fb_lexer.proofs.Spelt.{word_spells, has_word}

some_is : {a b : Word} → Some a ≡ Some b → a ≡ b
some_is h = cc

rem_found : (text : List ℕ) → bytes_eq text (codes "rem") ≡ true → word_of text ≡ Some KwRem
rem_found text h = ap word_of ((bytes_eq-Decides text (codes "rem")).0 h) ∙ has_word KwRem

rem_spelt : (text : List ℕ) → word_of text ≡ Some KwRem → bytes_eq text (codes "rem") ≡ true
rem_spelt text h = (bytes_eq-Decides text (codes "rem")).1 (sym (word_spells text KwRem h))

module _ (text : List ℕ) (n : ℕ) (rest : List ℕ) where
  word_by : (t : Bool) (word : Word) (piece : Piece) → bytes_eq text (codes "rem") ≡ t → word_of text ≡ Some word
      → (word ≡ KwRem → piece ≡ Comment (n + line_length rest)) → ((word ≡ KwRem → ⊥) → piece ≡ Token (kinds.Word word) n)
      → piece ≡ cond t (Comment (n + line_length rest)) (word_or_name (word_of text) text n)
  word_by true word piece same found rem other = rem (some_is (sym found ∙ rem_found text same))
  word_by false word piece same found rem other =
      other (λ is. let clash = sym (rem_spelt text (found ∙ ap (λ w. Some w) is)) ∙ same in cc) ∙ rw found refl

  pub word_named : (word : Word) (piece : Piece) → word_of text ≡ Some word
      → (word ≡ KwRem → piece ≡ Comment (n + line_length rest)) → ((word ≡ KwRem → ⊥) → piece ≡ Token (kinds.Word word) n) → piece ≡ named text n rest
  word_named word piece found rem other = word_by (bytes_eq text (codes "rem")) word piece refl found rem other

  name_by : (t : Bool) → bytes_eq text (codes "rem") ≡ t → word_of text ≡ None → Token (kinds.Name text) n ≡ cond t (Comment (n + line_length rest)) (word_or_name (word_of text) text n)
  name_by true same none = let clash = sym none ∙ rem_found text same in absurd (cc)
  name_by false same none = rw none refl

  pub name_named : word_of text ≡ None → Token (kinds.Name text) n ≡ named text n rest
  name_named none = name_by (bytes_eq text (codes "rem")) refl none
