-- The kinds of faults, traps and images' faults: their numbers and their names.
use Rattle.std.specs.Prelude.{◌==◌, ℕ, List, if◌then◌else◌, Option, Some, None, codes}
use Rattle.fb_base.specs.declared.ending.ImageWhy.{ImageWhy}
use Rattle.fb_base.specs.declared.ending.ImageWhy.TheVariants as images
use Rattle.fb_base.specs.declared.fault.FaultKind.{FaultKind}
use Rattle.fb_base.specs.declared.fault.FaultKind.TheVariants as faults
use Rattle.fb_base.specs.declared.fault.TrapKind.{TrapKind}
use Rattle.fb_base.specs.declared.fault.TrapKind.TheVariants as traps

-- the name of a text's fault
abbrev pub fault_name : FaultKind → List ℕ
fault_name faults.BadByte = codes "BadByte"
fault_name faults.OpenText = codes "OpenText"
fault_name faults.OpenComment = codes "OpenComment"
fault_name faults.BigNumber = codes "BigNumber"
fault_name faults.Expected = codes "Expected"
fault_name faults.ExtraText = codes "ExtraText"
fault_name faults.Unknown = codes "Unknown"
fault_name faults.Twice = codes "Twice"
fault_name faults.NotAType = codes "NotAType"
fault_name faults.NotAProc = codes "NotAProc"
fault_name faults.NoMatch = codes "NoMatch"
fault_name faults.Ambiguous = codes "Ambiguous"
fault_name faults.BadConvert = codes "BadConvert"
fault_name faults.NotAPlace = codes "NotAPlace"
fault_name faults.BadExit = codes "BadExit"
fault_name faults.BadBounds = codes "BadBounds"
fault_name faults.NoDefault = codes "NoDefault"
fault_name faults.MixedReturn = codes "MixedReturn"
fault_name faults.OutOfProfile = codes "OutOfProfile"
fault_name faults.ProcTooLarge = codes "ProcTooLarge"
fault_name faults.TooManyTokens = codes "TooManyTokens"
fault_name faults.DeepNesting = codes "DeepNesting"
fault_name faults.TypeCycle = codes "TypeCycle"
fault_name faults.BigPlace = codes "BigPlace"

-- the number of a text's fault
abbrev pub fault_number : FaultKind → ℕ
fault_number faults.BadByte = 1
fault_number faults.OpenText = 2
fault_number faults.OpenComment = 3
fault_number faults.BigNumber = 4
fault_number faults.Expected = 5
fault_number faults.ExtraText = 6
fault_number faults.Unknown = 7
fault_number faults.Twice = 8
fault_number faults.NotAType = 9
fault_number faults.NotAProc = 10
fault_number faults.NoMatch = 11
fault_number faults.Ambiguous = 12
fault_number faults.BadConvert = 13
fault_number faults.NotAPlace = 14
fault_number faults.BadExit = 15
fault_number faults.BadBounds = 16
fault_number faults.NoDefault = 17
fault_number faults.MixedReturn = 18
fault_number faults.OutOfProfile = 19
fault_number faults.ProcTooLarge = 20
fault_number faults.TooManyTokens = 21
fault_number faults.DeepNesting = 22
fault_number faults.TypeCycle = 23
fault_number faults.BigPlace = 24

-- the name of a trap
abbrev pub trap_name : TrapKind → List ℕ
trap_name traps.BadPointer = codes "BadPointer"
trap_name traps.BadFree = codes "BadFree"
trap_name traps.DivZero = codes "DivZero"
trap_name traps.Bounds = codes "Bounds"
trap_name traps.StrIndex = codes "StrIndex"
trap_name traps.BadString = codes "BadString"
trap_name traps.StrLimit = codes "StrLimit"
trap_name traps.BadHandle = codes "BadHandle"
trap_name traps.Depth = codes "Depth"
trap_name traps.PlaceLimit = codes "PlaceLimit"
trap_name traps.BadCode = codes "BadCode"

-- the number of a trap
abbrev pub trap_number : TrapKind → ℕ
trap_number traps.BadPointer = 1
trap_number traps.BadFree = 2
trap_number traps.DivZero = 3
trap_number traps.Bounds = 4
trap_number traps.StrIndex = 5
trap_number traps.BadString = 6
trap_number traps.StrLimit = 7
trap_number traps.BadHandle = 8
trap_number traps.Depth = 9
trap_number traps.PlaceLimit = 10
trap_number traps.BadCode = 11

-- the trap of a number, if there is one
abbrev pub trap_of : ℕ → Option TrapKind
trap_of n =
    if n == 1 then Some traps.BadPointer
    else if n == 2 then Some traps.BadFree
    else if n == 3 then Some traps.DivZero
    else if n == 4 then Some traps.Bounds
    else if n == 5 then Some traps.StrIndex
    else if n == 6 then Some traps.BadString
    else if n == 7 then Some traps.StrLimit
    else if n == 8 then Some traps.BadHandle
    else if n == 9 then Some traps.Depth
    else if n == 10 then Some traps.PlaceLimit
    else if n == 11 then Some traps.BadCode
    else None

-- the name of what is wrong with an image
abbrev pub image_name : ImageWhy → List ℕ
image_name images.Magic = codes "Magic"
image_name images.Version = codes "Version"
image_name images.Count = codes "Count"
image_name images.Entry = codes "Entry"
image_name images.ShapeRule = codes "ShapeRule"
image_name images.LiteralRule = codes "LiteralRule"
image_name images.LineRule = codes "LineRule"
image_name images.Short = codes "Short"
image_name images.Extra = codes "Extra"
