-- What each call makes of a memory; None where it is refused.
use Rattle.std.specs.Prelude.{ℕ, zero, suc, ◌+◌, ◌-◌, ◌*◌, ◌/◌, ◌%◌, ◌==◌, nat_lt, Bool, true, false, not, ◌&&◌, if◌then◌else◌, List, [], ◌∷◌, ◌++◌, is_some, is_none, Option, Some, None}
use Rattle.std.specs.Option.{option_map, option_and_then}
use Rattle.thread_system.specs.Memory.{next_address, read}
use Rattle.fb_base.specs.declared.shape.Shape.{Shape}
use Rattle.places.specs.declared.kinds.Form.{Form}
use Rattle.places.specs.declared.kinds.Form.TheVariants.{Scope, One, Many}
use Rattle.places.specs.declared.kinds.Cell.{Cell}
use Rattle.places.specs.Place.{Head, Place, size_of, cell_number, begins_cell, cell_in, is_alive, may_close_in, dead_cell, fresh, with_byte_in, with_closed_in, with_cell_in, first_from}
use Rattle.places.specs.Memory.{Places, next_number, place_of, with_place, live_size, address, number_of, offset_of, byte_at, tells, starts_at, each_byte}

-- The most bytes that live places have together.
abbrev pub most_live : ℕ
most_live = 67108864

abbrev pub new_head : Shape → ℕ → Form → Head
new_head shape count form = record { shape = shape; count = count; form = form; dying = false }

-- The byte and the cell at an offset of a new place.
abbrev pub new_byte : Head → ℕ → Option ℕ
new_byte h o = if nat_lt o (size_of h) && is_none (cell_number h o) then Some 0 else None

abbrev pub new_cell : Head → ℕ → Option Cell
new_cell h o = if nat_lt o (size_of h) && begins_cell h o then Some dead_cell else None

abbrev pub marked_dying : Head → Head
marked_dying h = record h { dying = true }

-- A new place, with the next number: its address, and the memory with it. None where the live places would have too
-- many bytes.
abbrev pub made : Shape → ℕ → Form → Places → Option (ℕ × Places)
made shape count form m =
    if nat_lt most_live (live_size m + shape.size * count) then None else Some (address (next_number m) 0, m ++ Some (fresh (new_head shape count form)) ∷ [])

abbrev pub form_number : Form → ℕ
form_number Scope = 0
form_number One = 1
form_number Many = 2

abbrev pub same_form : Form → Form → Bool
same_form a b = form_number a == form_number b

abbrev pub same_numbers : List ℕ → List ℕ → Bool
same_numbers [] [] = true
same_numbers [] (y ∷ ys) = false
same_numbers (x ∷ xs) [] = false
same_numbers (x ∷ xs) (y ∷ ys) = x == y && same_numbers xs ys

abbrev pub same_shape : Shape → Shape → Bool
same_shape a b = a.size == b.size && (a.align == b.align && same_numbers a.cells b.cells)

-- The memory without the place that begins at an address, if the place passes a test.
abbrev pub freed_if : (Head → Bool) → ℕ → Places → Option Places
freed_if test a m = option_and_then (λ p. if test p.head then Some (with_place (number_of a) None m) else None) (starts_at m a)

abbrev pub is_scope : Head → Bool
is_scope h = same_form h.form Scope

abbrev pub scope_freed : ℕ → Places → Option Places
scope_freed a m = freed_if is_scope a m

abbrev pub freed : ℕ → Places → Option Places
freed a m = freed_if (λ h. h.dying) a m

-- a Delete of this form and shape may begin
abbrev pub may_die : Shape → Form → Head → Bool
may_die shape form h = not h.dying && (same_form h.form form && same_shape h.shape shape)

-- The place that begins at an address is dying: its count, and the memory then.
abbrev pub begun : ℕ → Shape → Form → Places → Option (ℕ × Places)
begun a shape form m =
    option_and_then (λ p. if may_die shape form p.head then Some (p.head.count, with_place (number_of a) (Some (record p { head = marked_dying p.head })) m) else None) (starts_at m a)

-- the memory with another place under a number, if one is given
abbrev pub replaced : ℕ → Option Place → Places → Places
replaced n None m = m
replaced n (Some p) m = with_place n (Some p) m

-- the memory after a change of the place of an address
abbrev pub with_change : (ℕ → Place → Place) → ℕ → Places → Places
with_change change a m = replaced (number_of a) (option_map (change (offset_of a)) (place_of m a)) m

-- So many bytes, from an address on, are closed.
abbrev pub closes : ℕ → ℕ → Places → Places
closes a zero m = m
closes a (suc len) m = closes (next_address a) len (with_change with_closed_in a m)

abbrev pub may_close : Places → ℕ → Bool
may_close m a = tells may_close_in (offset_of a) (place_of m a)

abbrev pub closed : ℕ → ℕ → Places → Option Places
closed a len m = if each_byte (may_close m) a len then Some (closes a len m) else None

-- So many bytes, from an address on, are those of a value, the lowest first.
abbrev pub puts : ℕ → ℕ → ℕ → Places → Places
puts a zero value m = m
puts a (suc width) value m = with_change (λ o. with_byte_in o (value % 256)) a (puts (next_address a) width (value / 256) m)

-- A write is allowed where a read is.
abbrev pub written : ℕ → ℕ → ℕ → Places → Option Places
written a width value m = if is_some (read (byte_at m) a width) then Some (puts a width value m) else None

-- Another cell in place of the one that begins at an address.
abbrev pub with_cell : ℕ → Cell → Places → Option Places
with_cell a cell m =
    option_and_then (λ p. if is_some (cell_in p (offset_of a)) then option_map (λ q. with_place (number_of a) (Some q) m) (with_cell_in (offset_of a) cell p) else None) (place_of m a)

-- whether an alive cell begins at an offset
abbrev pub begins_alive : Place → ℕ → Bool
begins_alive p o = is_alive (cell_in p o)

-- The address of the first alive cell, from an offset on, of the place that begins at an address.
abbrev pub alive_from : ℕ → ℕ → Places → Option ℕ
alive_from a low m = option_map (λ o. a + o) (option_and_then (λ p. first_from (begins_alive p) low (size_of p.head - low)) (starts_at m a))
