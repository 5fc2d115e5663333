-- How the values of types lie in memory.
use Rattle.std.specs.Prelude.{ℕ, zero, suc, ◌+◌, ◌-◌, ◌*◌, ◌/◌, ◌%◌, ◌^◌, Bool, true, false, ◌||◌, nat_lt, if◌then◌else◌, Option, Some, None, List, [], ◌∷◌, map, length, slice_index_or}
use Rattle.word64.specs.declared.kind.Kind.{Kind}
use Rattle.word64.specs.declared.kind.Kind.TheVariants.{Byte, UByte, Short, UShort, Long, ULong, Integer, UInteger, LongInt, ULongInt, Boolean}
use Rattle.fb_base.specs.declared.fault.Fault.{Fault}
use Rattle.fb_ast.specs.declared.ty.Ty.{Ty}
use Rattle.fb_ast.specs.declared.ty.Ty.TheVariants as t
use Rattle.type_table.specs.declared.layout.Align.{Align}
use Rattle.type_table.specs.declared.layout.Align.TheVariants.{One, Two, Four, Eight}
use Rattle.type_table.specs.declared.layout.Layout.{Layout}
use Rattle.type_table.specs.declared.layout.Measure.{Measure}
use Rattle.type_table.specs.declared.layout.Measure.TheVariants.{Waits, Big, Fits}
use Rattle.type_table.specs.declared.row.Range.{Range}
use Rattle.type_table.specs.declared.row.Field.{Field}
use Rattle.type_table.specs.declared.row.Row.{Row}

abbrev pub bytes_of : Align → ℕ
bytes_of One = 1
bytes_of Two = 2
bytes_of Four = 4
bytes_of Eight = 8

-- the first multiple of an alignment from n on
abbrev pub round_up : Align → ℕ → ℕ
round_up One n = n
round_up Two n = (n + 1) / 2 * 2
round_up Four n = (n + 3) / 4 * 4
round_up Eight n = (n + 7) / 8 * 8

abbrev pub larger : Align → Align → Align
larger one other = if nat_lt (bytes_of one) (bytes_of other) then other else one

-- a number's size is its alignment
abbrev pub kind_align : Kind → Align
kind_align Byte = One
kind_align UByte = One
kind_align Short = Two
kind_align UShort = Two
kind_align Long = Four
kind_align ULong = Four
kind_align Integer = Eight
kind_align UInteger = Eight
kind_align LongInt = Eight
kind_align ULongInt = Eight
kind_align Boolean = One

abbrev pub kind_layout : Kind → Layout
kind_layout k = record { size = bytes_of (kind_align k); align = kind_align k; lives = false }

abbrev pub pointer_layout : Layout
pointer_layout = record { size = 8; align = Eight; lives = false }

abbrev pub string_layout : Layout
string_layout = record { size = 24; align = Eight; lives = true }

-- where the elements from number 0 to last end: they begin at the first multiple of their alignment behind what comes
-- before, and lie one behind the other
abbrev pub end_of : Layout → ℕ → Layout → ℕ
end_of before last part = round_up part.align before.size + part.size * (last + 1)

-- what comes before, and these elements behind it; more elements than bytes are too big in any case
abbrev pub with_part : Layout → ℕ → Layout → Measure
with_part before last part =
    if nat_lt 16777216 last then Big
    else if nat_lt 16777216 (end_of before last part) then Big
    else Fits (record { size = end_of before last part; align = larger before.align part.align; lives = before.lives || part.lives })

-- one field more
abbrev pub put : Measure → ℕ → Measure → Measure
put Waits last part = Waits
put Big last Waits = Waits
put Big last Big = Big
put Big last (Fits p) = Big
put (Fits l) last Waits = Waits
put (Fits l) last Big = Big
put (Fits l) last (Fits p) = with_part l last p

-- the number of an array's last element, counted from 0; 0 for a single value
abbrev pub last_of : Option Range → ℕ
last_of None = 0
last_of (Some range) = (range.high + (2 ^ 64 - range.low)) % 2 ^ 64

-- what is known of the Type of a number
abbrev pub measure_at : List Measure → ℕ → Measure
measure_at known number = slice_index_or known number Waits

-- what is known of a type, by what is known of each Type
abbrev pub measured : List Measure → Ty → Measure
measured known (t.Num kind) = Fits (kind_layout kind)
measured known t.Str = Fits string_layout
measured known (t.Obj number) = measure_at known number
measured known (t.Ptr' p target) = Fits pointer_layout
measured known t.AnyPtr = Fits pointer_layout

-- fields in the order of the text, behind what comes before
abbrev pub put_fields : List Measure → Measure → List Field → Measure
put_fields known before [] = before
put_fields known before (field ∷ fields) = put_fields known (put before (last_of field.range) (measured known field.ty)) fields

abbrev pub measure_before : Bool → Option Fault → Measure
measure_before own (Some fault) = Waits
measure_before own None = Fits (record { size = 0; align = One; lives = own })

-- what is known before the first field: of a Type with a fault there is never anything known
abbrev pub first_measure : Row → Measure
first_measure row = measure_before row.own row.fault

-- the size is rounded up to the largest alignment
abbrev pub closed : Measure → Measure
closed Waits = Waits
closed Big = Big
closed (Fits l) =
    if nat_lt 16777216 (round_up l.align l.size) then Big
    else Fits (record { size = round_up l.align l.size; align = l.align; lives = l.lives })

-- what is known of a Type, by what is known of each Type
abbrev pub type_measure : List Measure → Row → Measure
type_measure known row = closed (put_fields known (first_measure row) row.fields)

-- What is known of each Type where the Types in it are known that have Types in them to a depth below n; at the depth 0
-- nothing is known.
abbrev pub measures : List Row → ℕ → List Measure
measures rows zero = []
measures rows (suc n) = map (type_measure (measures rows n)) rows

-- what is known of the layout of each Type where these are all
abbrev pub known_of : List Row → List Measure
known_of rows = measures rows (length rows)
