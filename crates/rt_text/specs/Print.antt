-- What Print writes.
use Rattle.std.specs.Prelude.{ℕ, ◌+◌, ◌-◌, ◌%◌, ◌^◌, ◌≤◌, ◌==◌, true, false, if◌then◌else◌, List, [], ◌∷◌, length, replicate, codes, decimal}
use Rattle.thread_system.specs.Printing.{signed_item}
use Rattle.rt_text.specs.declared.print.Item.{Item}
use Rattle.rt_text.specs.declared.print.Item.TheVariants.{Signed, Unsigned, Truth, Bytes, Tab, Line}

-- The bytes of an item at a column; a number is a 64-bit word. A comma goes on to the next column that 14 divides.
abbrev pub printed : ℕ → Item → List ℕ
printed column (Signed word) = signed_item word
printed column (Unsigned word) = decimal word
printed column (Truth true) = codes "true"
printed column (Truth false) = codes "false"
printed column (Bytes text) = text
printed column Tab = replicate (14 - column % 14) 32
printed column Line = 10 ∷ []

-- The column is the number of bytes since the last byte 10.
abbrev pub column_after : ℕ → List ℕ → ℕ
column_after column [] = column
column_after column (byte ∷ bytes) = if byte == 10 then column_after 0 bytes else column_after (column + 1) bytes

-- a String has at most 2^62 bytes
abbrev pub FitsColumn : Item → Type 0
FitsColumn (Signed word) = Unit {0}
FitsColumn (Unsigned word) = Unit {0}
FitsColumn (Truth truth) = Unit {0}
FitsColumn (Bytes text) = length text ≤ 2 ^ 62
FitsColumn Tab = Unit {0}
FitsColumn Line = Unit {0}
