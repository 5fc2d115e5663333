use Rattle.std.specs.Prelude.{ℕ, Bool, List, ◌∷◌, Some, None}
use Rattle.fb_base.specs.declared.shape.Shape.{Shape}
use Rattle.fb_base.specs.declared.fault.TrapKind.{TrapKind}
use Rattle.fb_names.specs.Kinds.{trap_number}
use Rattle.rt_threads.specs.Table.{Table}
use Rattle.entry_replay.specs.Accesses.{untouched}
use Rattle.entry_replay.specs.World.{Applied, Refuses, Does}
use Rattle.run_calls.specs.Seen.{Seen}

-- What a program gives to the runtime.
pub record Program : Type 0 where
  -- 1 where strings join the race rule: the cells of a call are accessed, and a cell that changes is touched
  pub rule : ℕ
  pub shapes : List Shape
  pub literals : List (List ℕ)
  -- how many procedures there are
  pub procs : ℕ

-- An object of so many bytes is made or destroyed, and a string of a cell is made or dropped, at a line.
pub data Life : Type 0 where
  ObjectMade : (addr len line : ℕ) → Life
  ObjectDead : (addr len line : ℕ) → Life
  StringMade : (cell line : ℕ) → Life
  StringDropped : (cell line : ℕ) → Life

-- What all threads share.
pub record Shared : Type 0 where
  pub seen : Seen
  pub table : Table
  -- how many bytes were written since the last byte 10
  pub column : ℕ
  -- the bytes that were written
  pub output : List ℕ
  -- the bytes that are left to be read
  pub input : List ℕ
  -- the latest first
  pub lives : List Life

abbrev pub with_seen : Seen → Shared → Shared
with_seen seen x = record x { seen = seen }

abbrev pub with_table : Table → Shared → Shared
with_table table x = record x { table = table }

abbrev pub with_life : Life → Shared → Shared
with_life life x = record x { lives = life ∷ x.lives }

-- A call traps, and changes nothing.
abbrev pub traps_with : TrapKind → Applied Shared
traps_with kind = Refuses (trap_number kind)

-- A call answers, and leaves this; it touches these bytes.
abbrev pub touching : (ℕ → Bool) → ℕ → Shared → Applied Shared
touching touched answer x = Does (record { answer = answer; after = x; touched = touched; made = None; over = None })

-- It touches nothing.
abbrev pub answering : ℕ → Shared → Applied Shared
answering answer x = touching untouched answer x

-- It ends the run with a status.
abbrev pub ending_with : ℕ → Shared → Applied Shared
ending_with status x = Does (record { answer = 0; after = x; touched = untouched; made = None; over = Some status })
