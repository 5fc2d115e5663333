use Rattle.std.specs.Prelude.{ℕ, ◌+◌, ◌==◌, nat_lt, Bool, if◌then◌else◌, Option, Some, None}
use Rattle.fb_base.specs.declared.shape.Shape.{Shape}
use Rattle.fb_base.specs.declared.fault.TrapKind.{TrapKind}
use Rattle.fb_base.specs.declared.fault.TrapKind.TheVariants.{BadPointer, BadFree, BadCode, Bounds, PlaceLimit}
use Rattle.places.specs.declared.kinds.Form.{Form}
use Rattle.places.specs.declared.kinds.Form.TheVariants.{Scope, One, Many}
use Rattle.places.specs.Place.{Head, size_of}
use Rattle.places.specs.Memory.{address, number_of, each_byte, is_among}
use Rattle.places.specs.Calls.{most_live, new_head, is_scope, may_die}
use Rattle.text_functions.specs.Functions.{is_below_one}
use Rattle.entry_replay.specs.World.{Applied}
use Rattle.run_calls.specs.Seen.{in_place, starting, placed, unplaced, with_dying, may_close, with_closed}
use Rattle.run_calls.specs.Shared.{Shared, ObjectMade, ObjectDead, with_seen, with_life, traps_with, touching, answering}

-- The calls on places (FreeBASIC Manual: Scope, New, Delete).

-- a place is made, and its address is the answer
abbrev pub made_place : Head → Shared → Applied Shared
made_place h x =
    if nat_lt most_live (x.seen.used + size_of h)
    then traps_with PlaceLimit
    else touching (in_place x.seen.next (size_of h)) (address x.seen.next 0) (with_seen (placed h x.seen) x)

-- PlaceOpen(shape): a place of form Scope
abbrev pub place_open : Option Shape → Shared → Applied Shared
place_open None x = traps_with BadCode
place_open (Some shape) x = made_place (new_head shape 1 Scope) x

-- the forms of New, by their numbers
abbrev pub form_of : ℕ → Option Form
form_of n = if n == 0 then Some One else if n == 1 then Some Many else None

abbrev pub new_of : Shape → ℕ → Option Form → Shared → Applied Shared
new_of shape count None x = traps_with BadCode
new_of shape count (Some form) x = made_place (new_head shape count form) x

-- NewPlace(shape, count, form): so many elements; the count is a signed word
abbrev pub new_place : Option Shape → ℕ → Option Form → Shared → Applied Shared
new_place None count form x = traps_with BadCode
new_place (Some shape) count form x = if is_below_one count then traps_with Bounds else new_of shape count form x

-- the place that begins at an address is freed, if it passes a test
abbrev pub freed_by : (Head → Bool) → TrapKind → ℕ → Shared → Option Head → Applied Shared
freed_by test kind a x None = traps_with kind
freed_by test kind a x (Some h) =
    if test h then touching (in_place (number_of a) (size_of h)) 0 (with_seen (unplaced (number_of a) h x.seen) x) else traps_with kind

-- PlaceFree(p): the place of a scope is freed
abbrev pub place_free : ℕ → Shared → Applied Shared
place_free p x = freed_by is_scope BadPointer p x (starting x.seen p)

-- DeleteEnd(p): a place is freed that was going to be
abbrev pub delete_end : ℕ → Shared → Applied Shared
delete_end p x = freed_by (λ h. h.dying) BadFree p x (starting x.seen p)

abbrev pub begun_by : Shape → Form → ℕ → Shared → Option Head → Applied Shared
begun_by shape form a x None = traps_with BadFree
begun_by shape form a x (Some h) =
    if may_die shape form h then answering h.count (with_seen (with_dying (number_of a) h x.seen) x) else traps_with BadFree

abbrev pub delete_of : Shape → ℕ → Option Form → Shared → Applied Shared
delete_of shape p None x = traps_with BadCode
delete_of shape p (Some form) x = begun_by shape form p x (starting x.seen p)

-- DeleteBegin(p, shape, form): the place is going to be freed, and its count is the answer
abbrev pub delete_begin : Option Shape → ℕ → Option Form → Shared → Applied Shared
delete_begin None p form x = traps_with BadCode
delete_begin (Some shape) p form x = delete_of shape p form x

-- ObjMade(p, n): an object is noted, each of whose bytes is live
abbrev pub obj_made : (p n line : ℕ) → Shared → Applied Shared
obj_made p n line x = if each_byte x.seen.live p n then answering 0 (with_life (ObjectMade p n line) x) else traps_with BadPointer

-- ObjDead(p, n): its bytes are closed
abbrev pub obj_dead : (p n line : ℕ) → Shared → Applied Shared
obj_dead p n line x =
    if each_byte (may_close x.seen) p n
    then touching (is_among p n) 0 (with_life (ObjectDead p n line) (with_seen (with_closed p n x.seen) x))
    else traps_with BadPointer
