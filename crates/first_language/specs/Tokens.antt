-- What the tokens of FreeBASIC text are in the small language.
use Rattle.std.specs.Prelude.{Option, Some, None}
use Rattle.fb_lexer.specs.declared.token.Mark.{Mark}
use Rattle.fb_lexer.specs.declared.token.Mark.TheVariants as marks
use Rattle.fb_lexer.specs.declared.token.TokenKind.{TokenKind}
use Rattle.fb_lexer.specs.declared.token.TokenKind.TheVariants as kinds
use Rattle.fb_lexer.specs.declared.word.Word.{Word}
use Rattle.fb_lexer.specs.declared.word.Word.TheVariants.{KwMod, KwDim, KwAs, KwInteger, KwPrint, KwIf, KwThen, KwEnd, KwWhile, KwWend}
use Rattle.first_language.specs.declared.tree.Operator.TheVariants.{Times, Quotient, Remainder, Plus, Minus, Same, Other, Less, AtMost, More, AtLeast}
use Rattle.first_language.specs.declared.token.Token.{Token}
use Rattle.first_language.specs.declared.token.Token.TheVariants as t

-- The marks of the language. The sign of an assignment is that of a comparison, too.
abbrev pub sign_of : Mark → Option Token
sign_of marks.Star = Some (t.Sign Times)
sign_of marks.Backslash = Some (t.Sign Quotient)
sign_of marks.Plus = Some (t.Sign Plus)
sign_of marks.Minus = Some (t.Sign Minus)
sign_of marks.Equal = Some (t.Sign Same)
sign_of marks.NotEqual = Some (t.Sign Other)
sign_of marks.Less = Some (t.Sign Less)
sign_of marks.LessEqual = Some (t.Sign AtMost)
sign_of marks.Greater = Some (t.Sign More)
sign_of marks.GreaterEqual = Some (t.Sign AtLeast)
sign_of marks.Open = Some t.Open
sign_of marks.Close = Some t.Close
sign_of other = None

-- The reserved words that the language has.
abbrev pub word_token : Word → Option Token
word_token KwMod = Some (t.Sign Remainder)
word_token KwDim = Some t.Dim
word_token KwAs = Some t.As
word_token KwInteger = Some t.Integer
word_token KwPrint = Some t.Print
word_token KwIf = Some t.If
word_token KwThen = Some t.Then
word_token KwEnd = Some t.End
word_token KwWhile = Some t.While
word_token KwWend = Some t.Wend
word_token other = None

-- The tokens of the language.
abbrev pub token_of : TokenKind → Option Token
token_of (kinds.Name name) = Some (t.Name name)
token_of (kinds.Word word) = word_token word
token_of (kinds.Number value) = Some (t.Number value)
token_of (kinds.Mark mark) = sign_of mark
token_of other = None
