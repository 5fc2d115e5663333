use Rattle.std.specs.Prelude.{ℕ, ◌==◌, Bool, ◌&&◌, if◌then◌else◌, List, [], ◌∷◌, ◌++◌, length, Option, Some, None}
use Rattle.fb_base.specs.declared.fault.TrapKind.TheVariants.{BadString}
use Rattle.places.specs.Memory.{is_among}
use Rattle.text_calls.specs.declared.outcome.Outcome.{Outcome}
use Rattle.text_calls.specs.declared.outcome.Outcome.TheVariants.{Trapped, Gives, Makes, Sets, Puts, Drops}
use Rattle.text_calls.specs.Outcomes.{after}
use Rattle.text_calls.specs.Rows.{Strings, from, limited}
use Rattle.rt_text.specs.declared.print.Item.{Item}
use Rattle.rt_text.specs.declared.print.Item.TheVariants.{Bytes}
use Rattle.rt_text.specs.Print.{printed, column_after}
use Rattle.entry_replay.specs.World.{Applied, Refuses, Does}
use Rattle.run_calls.specs.Seen.{with_strings}
use Rattle.run_calls.specs.Shared.{Shared, StringMade, StringDropped, with_seen, with_life, traps_with, touching, answering}

-- The calls on strings, on what Print writes and on what Line Input reads (FreeBASIC Manual: String, Print, Line Input).

-- what is shared where the strings are those after an outcome
abbrev pub with_outcome : Outcome → Shared → Shared
with_outcome outcome x = with_seen (with_strings (after outcome x.seen.strings) x.seen) x

-- the bytes of a cell that changes, which are touched under rule 1
abbrev pub changed_cell : ℕ → ℕ → ℕ → Bool
changed_cell rule cell q = rule == 1 && is_among cell 24 q

-- What a string call comes to. A cell that becomes alive or is dropped is touched.
abbrev pub by_outcome : (rule line : ℕ) → Shared → Outcome → Applied Shared
by_outcome rule line x (Trapped kind) = traps_with kind
by_outcome rule line x (Gives number) = answering number x
by_outcome rule line x (Makes cell bytes) = touching (is_among cell 24) 0 (with_life (StringMade cell line) (with_outcome (Makes cell bytes) x))
by_outcome rule line x (Sets cell bytes) = touching (changed_cell rule cell) 0 (with_outcome (Sets cell bytes) x)
by_outcome rule line x (Puts cell index byte) = touching (changed_cell rule cell) 0 (with_outcome (Puts cell index byte) x)
by_outcome rule line x (Drops cell) = touching (is_among cell 24) 0 (with_life (StringDropped cell line) (with_outcome (Drops cell) x))

-- an item is written
abbrev pub prints : Item → Shared → Applied Shared
prints item x = answering 0 (record x { column = column_after x.column (printed x.column item); output = x.output ++ printed x.column item })

-- PrintStr(s): the bytes of an alive cell
abbrev pub prints_text : Option (List ℕ) → Shared → Applied Shared
prints_text None x = traps_with BadString
prints_text (Some text) x = prints (Bytes text) x

-- the bytes up to a byte 10 or to the end
abbrev pub first_line : List ℕ → List ℕ
first_line [] = []
first_line (b ∷ bytes) = if b == 10 then [] else b ∷ first_line bytes

-- the bytes behind that byte 10
abbrev pub behind_line : List ℕ → List ℕ
behind_line [] = []
behind_line (b ∷ bytes) = if b == 10 then bytes else behind_line bytes

-- LineInput(c): an alive cell holds the next line
abbrev pub line_read : Strings → ℕ → List ℕ → Outcome
line_read strings c line = from strings c (λ old. limited (length line) (Sets c line))

-- the input is what is left behind the line, unless the call traps
abbrev pub leaving_input : List ℕ → Applied Shared → Applied Shared
leaving_input rest (Refuses kind) = Refuses kind
leaving_input rest (Does done) = Does (record done { after = record done.after { input = rest } })

abbrev pub line_input : (rule c line : ℕ) → Shared → Applied Shared
line_input rule c line x = leaving_input (behind_line x.input) (by_outcome rule line x (line_read x.seen.strings c (first_line x.input)))
