-- The table of a module's Types, or the first fault among them.
use Rattle.std.specs.Prelude.{◌≡◌, ℕ, zero, suc, if◌then◌else◌, nat_lt, Option, Some, None, Result, Ok, Err, List, [], ◌∷◌}
use Rattle.std.specs.List.{position}
use Rattle.std.specs.Str.{bytes_eq}
use Rattle.fb_base.specs.declared.fault.Span.{Span}
use Rattle.fb_base.specs.declared.fault.Fault.{Fault}
use Rattle.fb_base.specs.declared.fault.FaultKind.TheVariants.{Twice, TypeCycle, BigPlace}
use Rattle.fb_ast.specs.declared.part.Item.{Item}
use Rattle.type_table.specs.declared.layout.Layout.{Layout}
use Rattle.type_table.specs.declared.layout.Measure.{Measure}
use Rattle.type_table.specs.declared.layout.Measure.TheVariants.{Waits, Big, Fits}
use Rattle.type_table.specs.declared.row.Row.{Row}
use Rattle.type_table.specs.declared.table.Table.{Table}
use Rattle.type_table.specs.declared.table.TypeErr.{TypeErr}
use Rattle.type_table.specs.declared.table.TypeErr.TheVariants as e
use Rattle.type_table.specs.Layouts.{measure_at, known_of}
use Rattle.type_table.specs.Cycles.{in_itself}
use Rattle.type_table.specs.Names.{fault_at}
use Rattle.type_table.specs.Members.{first_of}
use Rattle.type_table.specs.Walks.{type_names, nothing, walked}

-- the fault of a Type's layout, at its name
abbrev pub measure_fault : List Row → ℕ → Measure → Span → Option Fault
measure_fault rows number Waits at = if in_itself rows number then Some (fault_at TypeCycle at) else None
measure_fault rows number Big at = Some (fault_at BigPlace at)
measure_fault rows number (Fits layout) at = None

-- the first fault of a Type: at its name, and then in its members
abbrev pub row_fault : List Row → List Measure → ℕ → Row → Option Fault
row_fault rows known number row =
    first_of (if row.twice then Some (fault_at Twice row.name.at) else None)
    (first_of (measure_fault rows number (measure_at known number) row.name.at) row.fault)

-- the first fault of Types that stand from a number on
abbrev pub first_fault : List Row → List Measure → ℕ → List Row → Option Fault
first_fault rows known number [] = None
first_fault rows known number (row ∷ rest) = first_of (row_fault rows known number row) (first_fault rows known (suc number) rest)

-- a module's Types
abbrev pub rows_of : List Item → List Row
rows_of items = (walked (type_names items) nothing items).rows

abbrev pub IsLaidOut : Measure → Type 0
IsLaidOut measure = (layout : Layout) × (measure ≡ Fits layout)

abbrev pub fault_of : List Row → Option Fault
fault_of rows = first_fault rows (known_of rows) zero rows

abbrev pub table_of : List Row → Table
table_of rows = record { rows = rows; known = known_of rows }

-- the table where there is no fault, and the first fault where there is one
abbrev pub Answers : List Row → Result Table TypeErr → Type 0
Answers rows (Ok table) = (fault_of rows ≡ None) × (table ≡ table_of rows)
Answers rows (Err (e.Fault fault)) = fault_of rows ≡ Some fault
Answers rows (Err e.NoMemory) = Unit {0}

-- the number of the first Type of a name
abbrev pub row_number : List Row → List ℕ → Option ℕ
row_number rows name = position (λ row. bytes_eq row.name.text name) rows

-- a number that has 32 bits
abbrev pub in_32_bits : Option ℕ → Option ℕ
in_32_bits None = None
in_32_bits (Some number) = if nat_lt 4294967295 number then None else Some number

abbrev pub number_of : List Row → List ℕ → Option ℕ
number_of rows name = in_32_bits (row_number rows name)
