-- The tokens of a text.
use Rattle.std.specs.Prelude.{ℕ, List}
use Rattle.fb_lexer.specs.declared.token.Token.{Token}

-- a list of tokens, and the number of the text's last line
pub record TokenList : Type 0 where
  pub items : List Token
  pub last_line : ℕ
