use Rattle.std.specs.Prelude.{ℕ, ◌-◌, ◌^◌, Bool, true, false, ◌==◌, if◌then◌else◌}
use Rattle.word64.specs.declared.kind.Kind.{Kind}
use Rattle.word64.specs.declared.kind.Kind.TheVariants.{Byte, UByte, Short, UShort, Long, ULong, Integer, UInteger, LongInt, ULongInt, Boolean}
use Rattle.word64.specs.Words.{extend}

-- how many bytes a type has
abbrev pub width_of : Kind → ℕ
width_of Byte = 1
width_of UByte = 1
width_of Short = 2
width_of UShort = 2
width_of Long = 4
width_of ULong = 4
width_of Integer = 8
width_of UInteger = 8
width_of LongInt = 8
width_of ULongInt = 8
width_of Boolean = 1

-- whether it has negative values
abbrev pub has_sign : Kind → Bool
has_sign Byte = true
has_sign UByte = false
has_sign Short = true
has_sign UShort = false
has_sign Long = true
has_sign ULong = false
has_sign Integer = true
has_sign UInteger = false
has_sign LongInt = true
has_sign ULongInt = false
has_sign Boolean = true

-- A value as a type has it: of a number its low bytes, extended by its sign or by zeros; of Boolean 0, or all ones.
abbrev pub narrow_to : Kind → ℕ → ℕ
narrow_to Boolean v = if v == 0 then 0 else 2 ^ 64 - 1
narrow_to kind v = extend (width_of kind) (has_sign kind) v
