-- What the reserved words and marks are in expressions and types.
use Rattle.std.specs.Prelude.{ℕ, Bool, true, false, Option, Some, None}
use Rattle.fb_lexer.specs.declared.token.TokenKind.{TokenKind}
use Rattle.fb_lexer.specs.declared.token.TokenKind.TheVariants as kinds
use Rattle.fb_lexer.specs.declared.token.Mark.{Mark}
use Rattle.fb_lexer.specs.declared.token.Mark.TheVariants as marks
use Rattle.fb_lexer.specs.declared.word.Word.{Word}
use Rattle.fb_lexer.specs.declared.word.Word.TheVariants as w
use Rattle.word64.specs.declared.kind.Kind.TheVariants as k
use Rattle.fb_ast.specs.declared.operator.Unary.{Unary}
use Rattle.fb_ast.specs.declared.operator.Unary.TheVariants as unary
use Rattle.fb_ast.specs.declared.operator.Binary.{Binary}
use Rattle.fb_ast.specs.declared.operator.Binary.TheVariants as binary
use Rattle.fb_ast.specs.declared.operator.CallWord.TheVariants as call
use Rattle.fb_ast.specs.declared.ty.Base.{Base}
use Rattle.fb_ast.specs.declared.ty.Base.TheVariants as base
use Rattle.parse_expr.specs.declared.kinds.OperandWord.{OperandWord}
use Rattle.parse_expr.specs.declared.kinds.OperandWord.TheVariants as begins
use Rattle.parse_expr.specs.declared.kinds.Suffix.{Suffix}
use Rattle.parse_expr.specs.declared.kinds.Suffix.TheVariants as suffixes

-- the words of FreeBASIC that this profile doesn't have
abbrev pub is_refused : Word → Bool
is_refused w.KwSingle = true
is_refused w.KwDouble = true
is_refused w.KwZString = true
is_refused w.KwWString = true
is_refused w.KwReDim = true
is_refused w.KwErase = true
is_refused w.KwPreserve = true
is_refused w.KwExtends = true
is_refused w.KwVirtual = true
is_refused w.KwAbstract = true
is_refused w.KwProperty = true
is_refused w.KwUnion = true
is_refused w.KwNamespace = true
is_refused w.KwEnum = true
is_refused w.KwWith = true
is_refused w.KwGoTo = true
is_refused w.KwGoSub = true
is_refused w.KwOn = true
is_refused w.KwVar = true
is_refused w.KwPublic = true
is_refused w.KwPrivate = true
is_refused w.KwProtected = true
is_refused w.KwOpen = true
is_refused w.KwClose = true
is_refused w.KwVal = true
is_refused w.KwRnd = true
is_refused w.KwTimer = true
is_refused w.KwStrPtr = true
is_refused w.KwCommand = true
is_refused w.KwAsm = true
is_refused w.KwExtern = true
is_refused word = false

-- ---- operators, by level: that of a higher level binds tighter

-- an operator before its operand, and the operand's level
abbrev pub prefix_of : TokenKind → Option (Unary × ℕ)
prefix_of (kinds.Mark marks.At) = Some (unary.Address, 14)
prefix_of (kinds.Mark marks.Star) = Some (unary.Deref, 14)
prefix_of (kinds.Mark marks.Minus) = Some (unary.Minus, 14)
prefix_of (kinds.Word w.KwNot) = Some (unary.Not, 6)
prefix_of kind = None

-- an operator between its operands, and its level
abbrev pub binary_mark : Mark → Option (Binary × ℕ)
binary_mark marks.Star = Some (binary.Multiply, 13)
binary_mark marks.Backslash = Some (binary.Divide, 12)
binary_mark marks.Plus = Some (binary.Add, 9)
binary_mark marks.Minus = Some (binary.Subtract, 9)
binary_mark marks.Ampersand = Some (binary.Join, 8)
binary_mark marks.Equal = Some (binary.Equal, 7)
binary_mark marks.NotEqual = Some (binary.NotEqual, 7)
binary_mark marks.Less = Some (binary.Less, 7)
binary_mark marks.LessEqual = Some (binary.LessEqual, 7)
binary_mark marks.Greater = Some (binary.Greater, 7)
binary_mark marks.GreaterEqual = Some (binary.GreaterEqual, 7)
binary_mark mark = None

abbrev pub binary_word : Word → Option (Binary × ℕ)
binary_word w.KwMod = Some (binary.Mod, 11)
binary_word w.KwShl = Some (binary.Shl, 10)
binary_word w.KwShr = Some (binary.Shr, 10)
binary_word w.KwAnd = Some (binary.And, 5)
binary_word w.KwOr = Some (binary.Or, 4)
binary_word w.KwXor = Some (binary.Xor, 3)
binary_word w.KwAndAlso = Some (binary.AndAlso, 2)
binary_word w.KwOrElse = Some (binary.OrElse, 1)
binary_word word = None

abbrev pub binary_of : TokenKind → Option (Binary × ℕ)
binary_of (kinds.Mark mark) = binary_mark mark
binary_of (kinds.Word word) = binary_word word
binary_of kind = None

-- a mark behind an expression that goes on with it
abbrev pub suffix_mark : Mark → Option Suffix
suffix_mark marks.Open = Some suffixes.Call
suffix_mark marks.OpenBracket = Some suffixes.Index
suffix_mark marks.Dot = Some suffixes.Field
suffix_mark marks.Arrow = Some suffixes.Arrow
suffix_mark mark = None

abbrev pub suffix_of : TokenKind → Option Suffix
suffix_of (kinds.Mark mark) = suffix_mark mark
suffix_of kind = None

-- ---- types

abbrev pub base_word : Word → Option Base
base_word w.KwByte = Some (base.Num k.Byte)
base_word w.KwUByte = Some (base.Num k.UByte)
base_word w.KwShort = Some (base.Num k.Short)
base_word w.KwUShort = Some (base.Num k.UShort)
base_word w.KwLong = Some (base.Num k.Long)
base_word w.KwULong = Some (base.Num k.ULong)
base_word w.KwInteger = Some (base.Num k.Integer)
base_word w.KwUInteger = Some (base.Num k.UInteger)
base_word w.KwLongInt = Some (base.Num k.LongInt)
base_word w.KwULongInt = Some (base.Num k.ULongInt)
base_word w.KwBoolean = Some (base.Num k.Boolean)
base_word w.KwString = Some base.Str
base_word w.KwAny = Some base.Any
base_word word = None

-- what a type begins with: the word of a type, or a name
abbrev pub base_of : TokenKind → Option Base
base_of (kinds.Name text) = Some (base.Name text)
base_of (kinds.Word word) = base_word word
base_of kind = None

abbrev pub is_pointer : TokenKind → Bool
is_pointer (kinds.Word w.KwPtr) = true
is_pointer (kinds.Word w.KwPointer) = true
is_pointer kind = false

-- ---- operands

-- a reserved word as the beginning of an operand
abbrev pub operand_word : Word → OperandWord
operand_word w.KwTrue = begins.True
operand_word w.KwFalse = begins.False
operand_word w.KwThis = begins.This
operand_word w.KwNew = begins.New
operand_word w.KwCast = begins.Cast
operand_word w.KwCPtr = begins.CPtr
operand_word w.KwSizeOf = begins.SizeOf
operand_word w.KwIIf = begins.IIf
operand_word w.KwLen = begins.Call call.Len
operand_word w.KwLeft = begins.Call call.Left
operand_word w.KwRight = begins.Call call.Right
operand_word w.KwMid = begins.Call call.Mid
operand_word w.KwChr = begins.Call call.Chr
operand_word w.KwAsc = begins.Call call.Asc
operand_word w.KwStr = begins.Call call.Str
operand_word w.KwValLng = begins.Call call.ValLng
operand_word w.KwInStr = begins.Call call.InStr
operand_word w.KwUCase = begins.Call call.UCase
operand_word w.KwLCase = begins.Call call.LCase
operand_word w.KwSpace = begins.Call call.Space
operand_word w.KwLTrim = begins.Call call.LTrim
operand_word w.KwRTrim = begins.Call call.RTrim
operand_word w.KwSleep = begins.Call call.Sleep
operand_word w.KwThreadCreate = begins.Call call.ThreadCreate
operand_word w.KwThreadWait = begins.Call call.ThreadWait
operand_word w.KwThreadDetach = begins.Call call.ThreadDetach
operand_word w.KwMutexCreate = begins.Call call.MutexCreate
operand_word w.KwMutexLock = begins.Call call.MutexLock
operand_word w.KwMutexUnlock = begins.Call call.MutexUnlock
operand_word w.KwMutexDestroy = begins.Call call.MutexDestroy
operand_word w.KwCondCreate = begins.Call call.CondCreate
operand_word w.KwCondWait = begins.Call call.CondWait
operand_word w.KwCondSignal = begins.Call call.CondSignal
operand_word w.KwCondBroadcast = begins.Call call.CondBroadcast
operand_word w.KwCondDestroy = begins.Call call.CondDestroy
operand_word w.KwCByte = begins.Call (call.Convert k.Byte)
operand_word w.KwCUByte = begins.Call (call.Convert k.UByte)
operand_word w.KwCShort = begins.Call (call.Convert k.Short)
operand_word w.KwCUShort = begins.Call (call.Convert k.UShort)
operand_word w.KwCLng = begins.Call (call.Convert k.Long)
operand_word w.KwCULng = begins.Call (call.Convert k.ULong)
operand_word w.KwCInt = begins.Call (call.Convert k.Integer)
operand_word w.KwCUInt = begins.Call (call.Convert k.UInteger)
operand_word w.KwCLngInt = begins.Call (call.Convert k.LongInt)
operand_word w.KwCULngInt = begins.Call (call.Convert k.ULongInt)
operand_word w.KwCBool = begins.Call (call.Convert k.Boolean)
operand_word word = begins.Nothing
