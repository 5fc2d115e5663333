-- What a program's text is read as.
use Rattle.std.specs.Prelude.{ℕ, ◌≡◌, List, Option, Some, IfSome}
use Rattle.first_language.specs.Tree.{Program}
use Rattle.first_language.specs.Grammar.{Tokens, HasLines}
use Rattle.first_language.specs.Reading.{program_of_lines}

-- What comes of a text: a program of its lines, where there is one; and what each row of lines that it has comes to.
pub record ComesOf (text : List ℕ) (found : Option Program) : Type 0 where
  pub some : IfSome found (λ program. (lines : List Tokens) × HasLines text lines × (program_of_lines lines ≡ Some program))
  pub each : (lines : List Tokens) → HasLines text lines → program_of_lines lines ≡ found
