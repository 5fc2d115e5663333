-- What the reserved words and marks are in statements.
use Rattle.std.specs.Prelude.{Bool, true, false, if◌then◌else◌, Option, Some, None}
use Rattle.fb_lexer.specs.declared.token.TokenKind.{TokenKind}
use Rattle.fb_lexer.specs.declared.token.TokenKind.TheVariants as kinds
use Rattle.fb_lexer.specs.declared.token.Mark.{Mark}
use Rattle.fb_lexer.specs.declared.token.Mark.TheVariants as marks
use Rattle.fb_lexer.specs.declared.word.Word.{Word}
use Rattle.fb_lexer.specs.declared.word.Word.TheVariants as w
use Rattle.fb_ast.specs.declared.operator.Assignment.{Assignment}
use Rattle.fb_ast.specs.declared.operator.Assignment.TheVariants as assignment
use Rattle.fb_ast.specs.declared.operator.Comparison.{Comparison}
use Rattle.fb_ast.specs.declared.operator.Comparison.TheVariants as comparison
use Rattle.fb_ast.specs.declared.operator.Binary.{Binary}
use Rattle.fb_ast.specs.declared.operator.Binary.TheVariants as binary
use Rattle.fb_ast.specs.declared.operator.CallWord.{CallWord}
use Rattle.fb_ast.specs.declared.operator.CallWord.TheVariants as call
use Rattle.fb_ast.specs.declared.stmt.End.{End}
use Rattle.fb_ast.specs.declared.stmt.End.TheVariants as ends
use Rattle.fb_ast.specs.declared.stmt.Until.{Until}
use Rattle.fb_ast.specs.declared.stmt.Until.TheVariants as until
use Rattle.parse_expr.specs.declared.kinds.OperandWord.{OperandWord}
use Rattle.parse_expr.specs.declared.kinds.OperandWord.TheVariants as operands
use Rattle.parse_expr.specs.Words.{operand_word}
use Rattle.parse_parts.specs.declared.kinds.Level.{Level}
use Rattle.parse_parts.specs.declared.kinds.Level.TheVariants as levels
use Rattle.parse_parts.specs.declared.kinds.InLine.{InLine}
use Rattle.parse_parts.specs.declared.kinds.InLine.TheVariants as lines
use Rattle.parse_parts.specs.declared.kinds.Lead.{Lead}
use Rattle.parse_parts.specs.declared.kinds.Lead.TheVariants as leads
use Rattle.parse_parts.specs.declared.kinds.Closer.{Closer}
use Rattle.parse_parts.specs.declared.kinds.Closer.TheVariants as closers

-- ---- where statements stand

abbrev pub level_within : Level → Level
level_within levels.Procedure = levels.Procedure
level_within levels.Main = levels.Main
level_within levels.Module = levels.Main

abbrev pub line_within : InLine → InLine
line_within lines.Free = lines.Free
line_within lines.Series = lines.Inner
line_within lines.Inner = lines.Inner

-- ---- what a statement begins with

-- the words that are called and give nothing: such a call is a statement without parentheses, too
abbrev pub gives_nothing : CallWord → Bool
gives_nothing call.Sleep = true
gives_nothing call.ThreadWait = true
gives_nothing call.ThreadDetach = true
gives_nothing call.MutexLock = true
gives_nothing call.MutexUnlock = true
gives_nothing call.MutexDestroy = true
gives_nothing call.CondWait = true
gives_nothing call.CondSignal = true
gives_nothing call.CondBroadcast = true
gives_nothing call.CondDestroy = true
gives_nothing word = false

abbrev pub operand_lead : OperandWord → Lead
operand_lead (operands.Call word) = if gives_nothing word then leads.Call word else leads.Value
operand_lead operands.Nothing = leads.Nothing
operand_lead word = leads.Value

abbrev pub word_lead : Word → Lead
word_lead w.KwDim = leads.Dim
word_lead w.KwStatic = leads.Static
word_lead w.KwConst = leads.Const
word_lead w.KwFunction = leads.Function
word_lead w.KwPrint = leads.Print
word_lead w.KwLine = leads.Line
word_lead w.KwIf = leads.If
word_lead w.KwFor = leads.For
word_lead w.KwWhile = leads.While
word_lead w.KwDo = leads.Do
word_lead w.KwSelect = leads.Select
word_lead w.KwScope = leads.Scope
word_lead w.KwExit = leads.Exit
word_lead w.KwContinue = leads.Continue
word_lead w.KwReturn = leads.Return
word_lead w.KwDelete = leads.Delete
word_lead w.KwEnd = leads.End
word_lead word = operand_lead (operand_word word)

abbrev pub mark_lead : Mark → Lead
mark_lead marks.Open = leads.Value
mark_lead marks.Star = leads.Value
mark_lead mark = leads.Nothing

-- Static stands in procedures alone
abbrev pub static_at : Level → Lead
static_at levels.Procedure = leads.Static
static_at levels.Main = leads.Nothing
static_at levels.Module = leads.Nothing

abbrev pub allowed : Level → Lead → Lead
allowed level leads.Static = static_at level
allowed level lead = lead

abbrev pub lead_of : Level → TokenKind → Lead
lead_of level (kinds.Name text) = leads.Value
lead_of level (kinds.Number value) = leads.Value
lead_of level (kinds.Str text) = leads.Value
lead_of level (kinds.Mark mark) = mark_lead mark
lead_of level (kinds.Word word) = allowed level (word_lead word)
lead_of level kinds.Colon = leads.Nothing
lead_of level kinds.LineEnd = leads.Nothing

-- ---- what ends statements and blocks

-- no line ends within a one-line If
abbrev pub line_may_end : InLine → Bool
line_may_end lines.Free = true
line_may_end lines.Series = false
line_may_end lines.Inner = false

abbrev pub is_sep : InLine → TokenKind → Bool
is_sep line kinds.Colon = true
is_sep line kinds.LineEnd = line_may_end line
is_sep line kind = false

abbrev pub ends_with_end : Closer → Bool
ends_with_end closers.Next = false
ends_with_end closers.Wend = false
ends_with_end closers.Loop = false
ends_with_end closer = true

-- ---- marks and words inside statements

abbrev pub mark_assignment : Mark → Option Assignment
mark_assignment marks.Equal = Some assignment.Set
mark_assignment marks.PlusEqual = Some assignment.Add
mark_assignment marks.MinusEqual = Some assignment.Subtract
mark_assignment marks.StarEqual = Some assignment.Multiply
mark_assignment marks.BackslashEqual = Some assignment.Divide
mark_assignment marks.AmpersandEqual = Some assignment.Join
mark_assignment mark = None

abbrev pub assignment_of : TokenKind → Option Assignment
assignment_of (kinds.Mark mark) = mark_assignment mark
assignment_of kind = None

abbrev pub mark_comparison : Mark → Option Comparison
mark_comparison marks.Equal = Some comparison.Equal
mark_comparison marks.NotEqual = Some comparison.NotEqual
mark_comparison marks.Less = Some comparison.Less
mark_comparison marks.LessEqual = Some comparison.LessEqual
mark_comparison marks.Greater = Some comparison.Greater
mark_comparison marks.GreaterEqual = Some comparison.GreaterEqual
mark_comparison mark = None

abbrev pub comparison_of : TokenKind → Option Comparison
comparison_of (kinds.Mark mark) = mark_comparison mark
comparison_of kind = None

-- the operators that a text may declare
abbrev pub mark_operator : Mark → Option Binary
mark_operator marks.Plus = Some binary.Add
mark_operator marks.Minus = Some binary.Subtract
mark_operator marks.Star = Some binary.Multiply
mark_operator marks.Ampersand = Some binary.Join
mark_operator marks.Equal = Some binary.Equal
mark_operator marks.NotEqual = Some binary.NotEqual
mark_operator marks.Less = Some binary.Less
mark_operator marks.LessEqual = Some binary.LessEqual
mark_operator marks.Greater = Some binary.Greater
mark_operator marks.GreaterEqual = Some binary.GreaterEqual
mark_operator mark = None

abbrev pub operator_of : TokenKind → Option Binary
operator_of (kinds.Mark mark) = mark_operator mark
operator_of kind = None

abbrev pub exit_of : TokenKind → Option End
exit_of (kinds.Word w.KwFor) = Some ends.For
exit_of (kinds.Word w.KwWhile) = Some ends.While
exit_of (kinds.Word w.KwDo) = Some ends.Do
exit_of (kinds.Word w.KwSelect) = Some ends.Select
exit_of (kinds.Word w.KwSub) = Some ends.Sub
exit_of (kinds.Word w.KwFunction) = Some ends.Function
exit_of kind = None

abbrev pub continue_of : TokenKind → Option End
continue_of (kinds.Word w.KwFor) = Some ends.For
continue_of (kinds.Word w.KwWhile) = Some ends.While
continue_of (kinds.Word w.KwDo) = Some ends.Do
continue_of kind = None

abbrev pub until_of : TokenKind → Option Until
until_of (kinds.Word w.KwWhile) = Some until.While
until_of (kinds.Word w.KwUntil) = Some until.Until
until_of kind = None
