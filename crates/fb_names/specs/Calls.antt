-- The calls of the runtime: their numbers and their names.
use Rattle.std.specs.Prelude.{◌==◌, ℕ, List, [], ◌∷◌, Option, codes, find}
use Rattle.fb_names.specs.declared.calls.RuntimeCall.{RuntimeCall}
use Rattle.fb_names.specs.declared.calls.RuntimeCall.TheVariants as calls

-- the number that stands in register 17
abbrev pub call_number : RuntimeCall → ℕ
call_number calls.PlaceOpen = 1
call_number calls.PlaceFree = 2
call_number calls.ObjMade = 3
call_number calls.ObjDead = 4
call_number calls.NewPlace = 5
call_number calls.DeleteBegin = 6
call_number calls.DeleteEnd = 7
call_number calls.StrInit = 10
call_number calls.StrDrop = 11
call_number calls.StrLit = 12
call_number calls.StrCopy = 13
call_number calls.StrCat = 14
call_number calls.StrSet = 15
call_number calls.StrCmp = 16
call_number calls.StrLen = 17
call_number calls.StrLeft = 18
call_number calls.StrRight = 19
call_number calls.StrMid = 20
call_number calls.StrChr = 21
call_number calls.StrAsc = 22
call_number calls.StrSigned = 23
call_number calls.StrUnsigned = 24
call_number calls.StrVal = 25
call_number calls.StrFind = 26
call_number calls.StrUpper = 27
call_number calls.StrLower = 28
call_number calls.StrSpace = 29
call_number calls.StrLTrim = 30
call_number calls.StrRTrim = 31
call_number calls.StrGet = 32
call_number calls.StrPut = 33
call_number calls.PrintSigned = 40
call_number calls.PrintUnsigned = 41
call_number calls.PrintBool = 42
call_number calls.PrintStr = 43
call_number calls.PrintTab = 44
call_number calls.PrintLine = 45
call_number calls.LineInput = 46
call_number calls.ThreadCreate = 50
call_number calls.ThreadWait = 51
call_number calls.ThreadDetach = 52
call_number calls.ThreadEnd = 53
call_number calls.MutexCreate = 54
call_number calls.MutexLock = 55
call_number calls.MutexUnlock = 56
call_number calls.MutexDestroy = 57
call_number calls.CondCreate = 58
call_number calls.CondWait = 59
call_number calls.CondSignal = 60
call_number calls.CondBroadcast = 61
call_number calls.CondDestroy = 62
call_number calls.Sleep = 63
call_number calls.MainEnd = 64
call_number calls.End = 65
call_number calls.Trap = 70

-- the name that stands in a trace
abbrev pub call_name : RuntimeCall → List ℕ
call_name calls.PlaceOpen = codes "PlaceOpen"
call_name calls.PlaceFree = codes "PlaceFree"
call_name calls.ObjMade = codes "ObjMade"
call_name calls.ObjDead = codes "ObjDead"
call_name calls.NewPlace = codes "NewPlace"
call_name calls.DeleteBegin = codes "DeleteBegin"
call_name calls.DeleteEnd = codes "DeleteEnd"
call_name calls.StrInit = codes "StrInit"
call_name calls.StrDrop = codes "StrDrop"
call_name calls.StrLit = codes "StrLit"
call_name calls.StrCopy = codes "StrCopy"
call_name calls.StrCat = codes "StrCat"
call_name calls.StrSet = codes "StrSet"
call_name calls.StrCmp = codes "StrCmp"
call_name calls.StrLen = codes "StrLen"
call_name calls.StrLeft = codes "StrLeft"
call_name calls.StrRight = codes "StrRight"
call_name calls.StrMid = codes "StrMid"
call_name calls.StrChr = codes "StrChr"
call_name calls.StrAsc = codes "StrAsc"
call_name calls.StrSigned = codes "StrSigned"
call_name calls.StrUnsigned = codes "StrUnsigned"
call_name calls.StrVal = codes "StrVal"
call_name calls.StrFind = codes "StrFind"
call_name calls.StrUpper = codes "StrUpper"
call_name calls.StrLower = codes "StrLower"
call_name calls.StrSpace = codes "StrSpace"
call_name calls.StrLTrim = codes "StrLTrim"
call_name calls.StrRTrim = codes "StrRTrim"
call_name calls.StrGet = codes "StrGet"
call_name calls.StrPut = codes "StrPut"
call_name calls.PrintSigned = codes "PrintSigned"
call_name calls.PrintUnsigned = codes "PrintUnsigned"
call_name calls.PrintBool = codes "PrintBool"
call_name calls.PrintStr = codes "PrintStr"
call_name calls.PrintTab = codes "PrintTab"
call_name calls.PrintLine = codes "PrintLine"
call_name calls.LineInput = codes "LineInput"
call_name calls.ThreadCreate = codes "ThreadCreate"
call_name calls.ThreadWait = codes "ThreadWait"
call_name calls.ThreadDetach = codes "ThreadDetach"
call_name calls.ThreadEnd = codes "ThreadEnd"
call_name calls.MutexCreate = codes "MutexCreate"
call_name calls.MutexLock = codes "MutexLock"
call_name calls.MutexUnlock = codes "MutexUnlock"
call_name calls.MutexDestroy = codes "MutexDestroy"
call_name calls.CondCreate = codes "CondCreate"
call_name calls.CondWait = codes "CondWait"
call_name calls.CondSignal = codes "CondSignal"
call_name calls.CondBroadcast = codes "CondBroadcast"
call_name calls.CondDestroy = codes "CondDestroy"
call_name calls.Sleep = codes "Sleep"
call_name calls.MainEnd = codes "MainEnd"
call_name calls.End = codes "End"
call_name calls.Trap = codes "Trap"

-- every call, in the order of the numbers
abbrev pub all_calls : List RuntimeCall
all_calls = calls.PlaceOpen ∷ calls.PlaceFree ∷ calls.ObjMade ∷ calls.ObjDead ∷ calls.NewPlace ∷ calls.DeleteBegin ∷ calls.DeleteEnd ∷ calls.StrInit ∷ calls.StrDrop ∷ calls.StrLit ∷ calls.StrCopy ∷ calls.StrCat ∷ calls.StrSet ∷ calls.StrCmp ∷ calls.StrLen ∷ calls.StrLeft ∷ calls.StrRight ∷ calls.StrMid ∷ calls.StrChr ∷ calls.StrAsc ∷ calls.StrSigned ∷ calls.StrUnsigned ∷ calls.StrVal ∷ calls.StrFind ∷ calls.StrUpper ∷ calls.StrLower ∷ calls.StrSpace ∷ calls.StrLTrim ∷ calls.StrRTrim ∷ calls.StrGet ∷ calls.StrPut ∷ calls.PrintSigned ∷ calls.PrintUnsigned ∷ calls.PrintBool ∷ calls.PrintStr ∷ calls.PrintTab ∷ calls.PrintLine ∷ calls.LineInput ∷ calls.ThreadCreate ∷ calls.ThreadWait ∷ calls.ThreadDetach ∷ calls.ThreadEnd ∷ calls.MutexCreate ∷ calls.MutexLock ∷ calls.MutexUnlock ∷ calls.MutexDestroy ∷ calls.CondCreate ∷ calls.CondWait ∷ calls.CondSignal ∷ calls.CondBroadcast ∷ calls.CondDestroy ∷ calls.Sleep ∷ calls.MainEnd ∷ calls.End ∷ calls.Trap ∷ []

-- the call of a number, if there is one
abbrev pub call_of : ℕ → Option RuntimeCall
call_of number = find (λ call. call_number call == number) all_calls
