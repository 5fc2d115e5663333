-- The table has each reserved word, under its spelling.
use Rattle.std.proofs.Common.{◌≡◌, ℕ, List, [], ◌∷◌, Bool, true, false, ◌&&◌, cond, Option, Some, refl, sym, ◌∙◌, ap}
use Rattle.std.specs.Str.{bytes_eq}
use Rattle.std.proofs.lemmas.Slice.Eq.{bytes_eq-Decides}
use Rattle.fb_lexer.specs.declared.word.Word.{Word}
use Rattle.fb_lexer.specs.declared.word.Word.TheVariants as w
use Rattle.fb_lexer.specs.Spelling.{spelling}
use Rattle.fb_lexer.specs.Words.{Rows, row_of, words, word_of}

-- each row's bytes are those of its word
abbrev are_spelt : Rows → Bool
are_spelt [] = true
are_spelt (row ∷ rows) = bytes_eq (spelling row.1) row.0 && are_spelt rows

all_spelt : are_spelt words ≡ true
all_spelt = refl

both : (a b : Bool) → (a && b) ≡ true → (a ≡ true) × (b ≡ true)
both true b h = (refl, h)
both false b h = absurd (cc)

some_is : {a b : Word} → Some a ≡ Some b → a ≡ b
some_is h = cc

by_row : (t : Bool) (text bytes : List ℕ) (word row_word : Word) (rest : Option Word) → bytes_eq bytes text ≡ t → spelling row_word ≡ bytes
    → (rest ≡ Some word → spelling word ≡ text) → cond t (Some row_word) rest ≡ Some word → spelling word ≡ text
by_row true text bytes word row_word rest same spelt more h = ap spelling (sym (some_is h)) ∙ spelt ∙ (bytes_eq-Decides bytes text).0 same
by_row false text bytes word row_word rest same spelt more h = more h

rows_spell : (rows : Rows) (text : List ℕ) (word : Word) → are_spelt rows ≡ true → row_of rows text ≡ Some word → spelling word ≡ text
rows_spell [] text word each h = absurd (cc)
rows_spell (row ∷ rows) text word each h =
    let parts = both _ _ each in
    by_row (bytes_eq row.0 text) text row.0 word row.1 (row_of rows text) refl ((bytes_eq-Decides (spelling row.1) row.0).0 parts.0) (rows_spell rows text word parts.1) h

pub word_spells : (text : List ℕ) (word : Word) → word_of text ≡ Some word → spelling word ≡ text
unfolding word_of
word_spells text word h = rows_spell words text word all_spelt h

pub has_word : (word : Word) → word_of (spelling word) ≡ Some word
unfolding word_of
has_word w.KwByte = refl
has_word w.KwUByte = refl
has_word w.KwShort = refl
has_word w.KwUShort = refl
has_word w.KwLong = refl
has_word w.KwULong = refl
has_word w.KwInteger = refl
has_word w.KwUInteger = refl
has_word w.KwLongInt = refl
has_word w.KwULongInt = refl
has_word w.KwBoolean = refl
has_word w.KwString = refl
has_word w.KwAny = refl
has_word w.KwPtr = refl
has_word w.KwPointer = refl
has_word w.KwAndAlso = refl
has_word w.KwAnd = refl
has_word w.KwAs = refl
has_word w.KwByRef = refl
has_word w.KwByVal = refl
has_word w.KwCase = refl
has_word w.KwCPtr = refl
has_word w.KwCast = refl
has_word w.KwConst = refl
has_word w.KwConstructor = refl
has_word w.KwContinue = refl
has_word w.KwDeclare = refl
has_word w.KwDelete = refl
has_word w.KwDestructor = refl
has_word w.KwDim = refl
has_word w.KwDo = refl
has_word w.KwElse = refl
has_word w.KwElseIf = refl
has_word w.KwEnd = refl
has_word w.KwExit = refl
has_word w.KwFalse = refl
has_word w.KwFor = refl
has_word w.KwFunction = refl
has_word w.KwIf = refl
has_word w.KwIIf = refl
has_word w.KwInput = refl
has_word w.KwIs = refl
has_word w.KwLet = refl
has_word w.KwLine = refl
has_word w.KwLoop = refl
has_word w.KwMod = refl
has_word w.KwNew = refl
has_word w.KwNext = refl
has_word w.KwNot = refl
has_word w.KwOperator = refl
has_word w.KwOr = refl
has_word w.KwOrElse = refl
has_word w.KwOverload = refl
has_word w.KwPrint = refl
has_word w.KwRem = refl
has_word w.KwReturn = refl
has_word w.KwScope = refl
has_word w.KwSelect = refl
has_word w.KwShared = refl
has_word w.KwShl = refl
has_word w.KwShr = refl
has_word w.KwSizeOf = refl
has_word w.KwStatic = refl
has_word w.KwStep = refl
has_word w.KwSub = refl
has_word w.KwThen = refl
has_word w.KwThis = refl
has_word w.KwTo = refl
has_word w.KwTrue = refl
has_word w.KwType = refl
has_word w.KwUntil = refl
has_word w.KwWend = refl
has_word w.KwWhile = refl
has_word w.KwXor = refl
has_word w.KwLen = refl
has_word w.KwLeft = refl
has_word w.KwRight = refl
has_word w.KwMid = refl
has_word w.KwChr = refl
has_word w.KwAsc = refl
has_word w.KwStr = refl
has_word w.KwValLng = refl
has_word w.KwInStr = refl
has_word w.KwUCase = refl
has_word w.KwLCase = refl
has_word w.KwSpace = refl
has_word w.KwLTrim = refl
has_word w.KwRTrim = refl
has_word w.KwSleep = refl
has_word w.KwThreadCreate = refl
has_word w.KwThreadWait = refl
has_word w.KwThreadDetach = refl
has_word w.KwMutexCreate = refl
has_word w.KwMutexLock = refl
has_word w.KwMutexUnlock = refl
has_word w.KwMutexDestroy = refl
has_word w.KwCondCreate = refl
has_word w.KwCondWait = refl
has_word w.KwCondSignal = refl
has_word w.KwCondBroadcast = refl
has_word w.KwCondDestroy = refl
has_word w.KwCByte = refl
has_word w.KwCUByte = refl
has_word w.KwCShort = refl
has_word w.KwCUShort = refl
has_word w.KwCLng = refl
has_word w.KwCULng = refl
has_word w.KwCInt = refl
has_word w.KwCUInt = refl
has_word w.KwCLngInt = refl
has_word w.KwCULngInt = refl
has_word w.KwCBool = refl
has_word w.KwSingle = refl
has_word w.KwDouble = refl
has_word w.KwZString = refl
has_word w.KwWString = refl
has_word w.KwReDim = refl
has_word w.KwErase = refl
has_word w.KwPreserve = refl
has_word w.KwExtends = refl
has_word w.KwVirtual = refl
has_word w.KwAbstract = refl
has_word w.KwProperty = refl
has_word w.KwUnion = refl
has_word w.KwNamespace = refl
has_word w.KwEnum = refl
has_word w.KwWith = refl
has_word w.KwGoTo = refl
has_word w.KwGoSub = refl
has_word w.KwOn = refl
has_word w.KwVar = refl
has_word w.KwPublic = refl
has_word w.KwPrivate = refl
has_word w.KwProtected = refl
has_word w.KwOpen = refl
has_word w.KwClose = refl
has_word w.KwVal = refl
has_word w.KwRnd = refl
has_word w.KwTimer = refl
has_word w.KwStrPtr = refl
has_word w.KwCommand = refl
has_word w.KwAsm = refl
has_word w.KwExtern = refl
