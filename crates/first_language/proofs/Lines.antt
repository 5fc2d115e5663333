-- What a line says, and what it is read as.
use Rattle.std.proofs.Common.{◌≡◌, if◌then◌else◌, Bool, true, false, [], ◌∷◌, ◌++◌, Some, None, option_map, refl, ap, ◌∙◌}
use Rattle.first_language.specs.declared.token.Token.{Token}
use Rattle.first_language.specs.Grammar.{Tokens}
use Rattle.first_language.specs.Reading.{is_then, before_then}

-- only the last token tells whether Then stands at the end
pub before_last : (front : Tokens) (last : Token) → before_then (front ++ last ∷ []) ≡ (if is_then last then Some front else None)
before_last [] last = refl
before_last (a ∷ []) last = mapped (is_then last)
  where
    mapped : (b : Bool) → option_map (λ front. a ∷ front) (if b then Some [] else None) ≡ (if b then Some (a ∷ []) else None)
    mapped true = refl
    mapped false = refl
before_last (a ∷ b ∷ rest) last = ap (option_map (λ front. a ∷ front)) (before_last (b ∷ rest) last) ∙ mapped (is_then last)
  where
    mapped : (c : Bool) → option_map (λ front. a ∷ front) (if c then Some (b ∷ rest) else None) ≡ (if c then Some (a ∷ b ∷ rest) else None)
    mapped true = refl
    mapped false = refl
