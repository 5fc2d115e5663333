use Rattle.std.specs.Prelude.{◌≡◌, ℕ, ◌+◌, ◌*◌, ◌≤◌, nat_lt, nat_le, Bool, true, false, ◌&&◌, List, slice_index, Some, None}
use Rattle.fb_base.specs.Shapes.{IsShape}
use Rattle.fb_base.specs.declared.shape.Shape.{Shape}
use Rattle.places.specs.declared.kinds.Form.{Form}
use Rattle.places.specs.Place.{Head}
use Rattle.places.specs.Memory.{Places, address, number_of, byte_at, each_byte}
use Rattle.places.specs.Calls.{most_live, made, new_head, freed_if, begun, may_die, closed, written}
use Rattle.places.specs.Answers.{IsWidth}
use Rattle.places.specs.Standing.{Stands}
use Rattle.text_calls.specs.declared.outcome.Outcome.{Outcome}
use Rattle.text_calls.specs.Outcomes.{after}
use Rattle.text_calls.specs.Answers.{Leaves}
use Rattle.entry_replay.specs.Accesses.{stores_of, with_stores}
use Rattle.fb_names.specs.declared.calls.RuntimeCall.{RuntimeCall}
use Rattle.fb_names.specs.Calls.{call_number}
use Rattle.text_calls.specs.Rows.{outcome_of}
use Rattle.run_calls.specs.Shared.{Program, Shared}
use Rattle.run_calls.specs.TextRows.{by_outcome}
use Rattle.run_calls.specs.Table.{row_of}
use Rattle.run_calls.specs.Seen.{Seen, seen_of, starting, placed, unplaced, with_dying, may_close, with_closed, with_strings}

-- What calls make of places and a heap is what the rows of the table make of what is seen of them.

-- A place is made where the row makes one, with that address.
pub record SeesMade (h : Head) (addr : ℕ) (old new : Seen) : Type 0 where
  pub room : nat_lt most_live (old.used + h.shape.size * h.count) ≡ false
  pub addr_is : addr ≡ address old.next 0
  pub new_is : new ≡ placed h old

abbrev pub MakesAsSeen : Type 0
MakesAsSeen = (shape : Shape) (count addr : ℕ) (form : Form) (m after : Places) (heap : List (List ℕ)) → IsShape 0 shape → 1 ≤ count → made shape count form m ≡ Some (addr, after) → SeesMade (new_head shape count form) addr (seen_of m heap) (seen_of after heap)

abbrev pub MakesNoneAsSeen : Type 0
MakesNoneAsSeen = (shape : Shape) (count : ℕ) (form : Form) (m : Places) (heap : List (List ℕ)) → made shape count form m ≡ None → nat_lt most_live ((seen_of m heap).used + shape.size * count) ≡ true

-- A place is freed where the row frees one.
pub record SeesFreed (test : Head → Bool) (a : ℕ) (old new : Seen) : Type 0 where
  pub head : Head
  pub starts : starting old a ≡ Some head
  pub passes : test head ≡ true
  pub new_is : new ≡ unplaced (number_of a) head old

abbrev pub FreesAsSeen : Type 0
FreesAsSeen = (test : Head → Bool) (a : ℕ) (m after : Places) (heap : List (List ℕ)) → Stands m → freed_if test a m ≡ Some after → SeesFreed test a (seen_of m heap) (seen_of after heap)

abbrev pub FreesNoneAsSeen : Type 0
FreesNoneAsSeen = (test : Head → Bool) (a : ℕ) (m : Places) (heap : List (List ℕ)) (head : Head) → freed_if test a m ≡ None → starting (seen_of m heap) a ≡ Some head → test head ≡ false

-- A place begins to die where the row says so, with that count.
pub record SeesBegun (shape : Shape) (form : Form) (a count : ℕ) (old new : Seen) : Type 0 where
  pub head : Head
  pub starts : starting old a ≡ Some head
  pub passes : may_die shape form head ≡ true
  pub count_is : count ≡ head.count
  pub new_is : new ≡ with_dying (number_of a) head old

abbrev pub BeginsAsSeen : Type 0
BeginsAsSeen = (shape : Shape) (form : Form) (a count : ℕ) (m after : Places) (heap : List (List ℕ)) → begun a shape form m ≡ Some (count, after) → SeesBegun shape form a count (seen_of m heap) (seen_of after heap)

abbrev pub BeginsNoneAsSeen : Type 0
BeginsNoneAsSeen = (shape : Shape) (form : Form) (a : ℕ) (m : Places) (heap : List (List ℕ)) (head : Head) → begun a shape form m ≡ None → starting (seen_of m heap) a ≡ Some head → may_die shape form head ≡ false

-- Bytes are closed where the row closes them.
pub record SeesClosed (a len : ℕ) (old new : Seen) : Type 0 where
  pub passes : each_byte (may_close old) a len ≡ true
  pub new_is : new ≡ with_closed a len old

abbrev pub ClosesAsSeen : Type 0
ClosesAsSeen = (a len : ℕ) (m after : Places) (heap : List (List ℕ)) → Stands m → closed a len m ≡ Some after → SeesClosed a len (seen_of m heap) (seen_of after heap)

abbrev pub ClosesNoneAsSeen : Type 0
ClosesNoneAsSeen = (a len : ℕ) (m : Places) (heap : List (List ℕ)) → Stands m → closed a len m ≡ None → each_byte (may_close (seen_of m heap)) a len ≡ false

-- A value is written byte by byte, the lowest byte first.
abbrev pub WritesAsSeen : Type 0
WritesAsSeen = (a width value : ℕ) (m after : Places) (heap : List (List ℕ)) → IsWidth width → written a width value m ≡ Some after → seen_of after heap ≡ record (seen_of m heap) { bytes = with_stores (stores_of a width value) (byte_at m) }

-- After a string call the strings are those of its outcome.
abbrev pub TextAsSeen : Type 0
TextAsSeen = (outcome : Outcome) (old new : Places) (heap heap' : List (List ℕ)) → Leaves outcome old heap new heap' → seen_of new heap' ≡ with_strings (after outcome (seen_of old heap).strings) (seen_of old heap)

-- The row of a string call is the outcome of its number.
abbrev pub TextRowsByNumber : Type 0
TextRowsByNumber = (p : Program) (args : List ℕ) (t now line : ℕ) (x : Shared) (call : RuntimeCall) → (nat_le 10 (call_number call) && nat_le (call_number call) 33) ≡ true → row_of p (slice_index args 0) (slice_index args 1) (slice_index args 2) (slice_index args 3) t now line x call ≡ by_outcome p.rule line x (outcome_of x.seen.strings p.literals (call_number call) args)
