-- The string calls, one row a call (FreeBASIC Manual: Left, Right, Mid, Chr, Asc, Str, ValLng, InStr, UCase, LCase, Space,
-- LTrim, RTrim). A row says what the call comes to by the strings that its arguments name. Arguments are checked in
-- order: d has to be a cell that isn't alive, s, t, a, b and c alive ones.
use Rattle.std.specs.Prelude.{ℕ, ◌+◌, ◌%◌, ◌==◌, nat_lt, if◌then◌else◌, List, [], ◌++◌, length, slice_index, slice_get, replicate, decimal, Option, Some, None}
use Rattle.fb_base.specs.declared.fault.TrapKind.TheVariants.{BadString, StrIndex, StrLimit, BadCode}
use Rattle.thread_system.specs.Printing.{signed_text}
use Rattle.text_functions.specs.Functions.{is_below_one, left, right, mid, chr, asc, find, left_trimmed, right_trimmed, val, compared, upper, lower}
use Rattle.text_calls.specs.declared.outcome.Outcome.{Outcome}
use Rattle.text_calls.specs.declared.outcome.Outcome.TheVariants.{Trapped, Gives, Makes, Sets, Puts, Drops}
use Rattle.text_calls.specs.Strings.{CellState, is_dead, text_of}

abbrev pub Strings : Type 0
Strings = ℕ → CellState

-- the most bytes of a string
abbrev pub longest : ℕ
longest = 16777216

-- a cell that isn't alive is required
abbrev pub into : Strings → ℕ → Outcome → Outcome
into strings d next = if is_dead (strings d) then next else Trapped BadString

-- an alive cell is required, and its bytes are read
abbrev pub on_text : Option (List ℕ) → (List ℕ → Outcome) → Outcome
on_text None next = Trapped BadString
on_text (Some s) next = next s

abbrev pub from : Strings → ℕ → (List ℕ → Outcome) → Outcome
from strings s next = on_text (text_of (strings s)) next

-- a string of so many bytes is made
abbrev pub limited : ℕ → Outcome → Outcome
limited n next = if nat_lt longest n then Trapped StrLimit else next

-- StrInit(d): the empty string
unfoldable pub str_init : Strings → ℕ → Outcome
str_init strings d = into strings d (Makes d [])

-- StrDrop(c): no longer alive
unfoldable pub str_drop : Strings → ℕ → Outcome
str_drop strings c = from strings c (λ s. Drops c)

-- a literal, if there is one of this number
abbrev pub from_literal : ℕ → Option (List ℕ) → Outcome
from_literal d None = Trapped BadCode
from_literal d (Some s) = Makes d s

-- StrLit(d, k): literal k
unfoldable pub str_lit : Strings → List (List ℕ) → ℕ → ℕ → Outcome
str_lit strings literals d k = into strings d (from_literal d (slice_get literals k))

-- StrCopy(d, s): a copy
unfoldable pub str_copy : Strings → ℕ → ℕ → Outcome
str_copy strings d s = into strings d (from strings s (λ x. Makes d x))

-- StrCat(d, a, b): a, then b
unfoldable pub str_cat : Strings → ℕ → ℕ → ℕ → Outcome
str_cat strings d a b = into strings d (from strings a (λ x. from strings b (λ y. limited (length x + length y) (Makes d (x ++ y)))))

-- StrSet(c, s): c holds s
unfoldable pub str_set : Strings → ℕ → ℕ → Outcome
str_set strings c s = from strings c (λ old. from strings s (λ x. Sets c x))

-- StrCmp(a, b): -1, 0 or 1
unfoldable pub str_cmp : Strings → ℕ → ℕ → Outcome
str_cmp strings a b = from strings a (λ x. from strings b (λ y. Gives (compared x y)))

-- StrLen(s): the length
unfoldable pub str_len : Strings → ℕ → Outcome
str_len strings s = from strings s (λ x. Gives (length x))

-- StrLeft(d, s, n): Left
unfoldable pub str_left : Strings → ℕ → ℕ → ℕ → Outcome
str_left strings d s n = into strings d (from strings s (λ x. Makes d (left x n)))

-- StrRight(d, s, n): Right
unfoldable pub str_right : Strings → ℕ → ℕ → ℕ → Outcome
str_right strings d s n = into strings d (from strings s (λ x. Makes d (right x n)))

-- StrMid(d, s, i, n): Mid, where n is -1 if it is missing
unfoldable pub str_mid : Strings → ℕ → ℕ → ℕ → ℕ → Outcome
str_mid strings d s i n = into strings d (from strings s (λ x. Makes d (mid x i n)))

-- StrChr(d, n): Chr
unfoldable pub str_chr : Strings → ℕ → ℕ → Outcome
str_chr strings d n = into strings d (Makes d (chr n))

-- StrAsc(s, i): Asc
unfoldable pub str_asc : Strings → ℕ → ℕ → Outcome
str_asc strings s i = from strings s (λ x. Gives (asc x i))

-- StrSigned(d, v): the decimal text of a signed number
unfoldable pub str_signed : Strings → ℕ → ℕ → Outcome
str_signed strings d v = into strings d (Makes d (signed_text v))

-- StrUnsigned(d, v): the decimal text of an unsigned number
unfoldable pub str_unsigned : Strings → ℕ → ℕ → Outcome
str_unsigned strings d v = into strings d (Makes d (decimal v))

-- StrVal(s): ValLng
unfoldable pub str_val : Strings → ℕ → Outcome
str_val strings s = from strings s (λ x. Gives (val x))

-- StrFind(i, s, t): InStr
unfoldable pub str_find : Strings → ℕ → ℕ → ℕ → Outcome
str_find strings i s t = from strings s (λ x. from strings t (λ y. Gives (find i x y)))

-- StrUpper(d, s): UCase
unfoldable pub str_upper : Strings → ℕ → ℕ → Outcome
str_upper strings d s = into strings d (from strings s (λ x. Makes d (upper x)))

-- StrLower(d, s): LCase
unfoldable pub str_lower : Strings → ℕ → ℕ → Outcome
str_lower strings d s = into strings d (from strings s (λ x. Makes d (lower x)))

-- StrSpace(d, n): n spaces, none where n is below 1
unfoldable pub str_space : Strings → ℕ → ℕ → Outcome
str_space strings d n = into strings d (if is_below_one n then Makes d [] else limited n (Makes d (replicate n 32)))

-- StrLTrim(d, s): LTrim
unfoldable pub str_ltrim : Strings → ℕ → ℕ → Outcome
str_ltrim strings d s = into strings d (from strings s (λ x. Makes d (left_trimmed x)))

-- StrRTrim(d, s): RTrim
unfoldable pub str_rtrim : Strings → ℕ → ℕ → Outcome
str_rtrim strings d s = into strings d (from strings s (λ x. Makes d (right_trimmed x)))

-- there has to be a byte i, counted from 0
abbrev pub at : ℕ → List ℕ → Outcome → Outcome
at i s next = if nat_lt i (length s) then next else Trapped StrIndex

-- StrGet(s, i): byte i
unfoldable pub str_get : Strings → ℕ → ℕ → Outcome
str_get strings s i = from strings s (λ x. at i x (Gives (slice_index x i)))

-- StrPut(s, i, v): sets byte i to the low 8 bits of v
unfoldable pub str_put : Strings → ℕ → ℕ → ℕ → Outcome
str_put strings s i v = from strings s (λ x. at i x (Puts s i (v % 256)))

-- The rows by number; a, b, c and d are the arguments of a call in order.
unfoldable pub from_10 : Strings → List (List ℕ) → (number a b c : ℕ) → Outcome
from_10 strings literals number a b c =
    if number == 10
    then str_init strings a
    else if number == 11
    then str_drop strings a
    else if number == 12
    then str_lit strings literals a b
    else if number == 13
    then str_copy strings a b
    else if number == 14
    then str_cat strings a b c
    else if number == 15
    then str_set strings a b
    else Trapped BadCode

unfoldable pub from_16 : Strings → (number a b c d : ℕ) → Outcome
from_16 strings number a b c d =
    if number == 16
    then str_cmp strings a b
    else if number == 17
    then str_len strings a
    else if number == 18
    then str_left strings a b c
    else if number == 19
    then str_right strings a b c
    else if number == 20
    then str_mid strings a b c d
    else if number == 21
    then str_chr strings a b
    else Trapped BadCode

unfoldable pub from_22 : Strings → (number a b c : ℕ) → Outcome
from_22 strings number a b c =
    if number == 22
    then str_asc strings a b
    else if number == 23
    then str_signed strings a b
    else if number == 24
    then str_unsigned strings a b
    else if number == 25
    then str_val strings a
    else if number == 26
    then str_find strings a b c
    else if number == 27
    then str_upper strings a b
    else Trapped BadCode

unfoldable pub from_28 : Strings → (number a b c : ℕ) → Outcome
from_28 strings number a b c =
    if number == 28
    then str_lower strings a b
    else if number == 29
    then str_space strings a b
    else if number == 30
    then str_ltrim strings a b
    else if number == 31
    then str_rtrim strings a b
    else if number == 32
    then str_get strings a b
    else if number == 33
    then str_put strings a b c
    else Trapped BadCode

-- What a call comes to. Another number is none of a call.
unfoldable pub outcome_of : Strings → List (List ℕ) → (number : ℕ) → (args : List ℕ) → Outcome
outcome_of strings literals number args =
    let a = slice_index args 0 in
    let b = slice_index args 1 in
    let c = slice_index args 2 in
    let d = slice_index args 3 in
    if nat_lt number 16
    then from_10 strings literals number a b c
    else if nat_lt number 22
    then from_16 strings number a b c d
    else if nat_lt number 28
    then from_22 strings number a b c
    else from_28 strings number a b c
