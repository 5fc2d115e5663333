use Rattle.std.specs.Prelude.{ℕ, ◌%◌, ◌==◌, not, if◌then◌else◌, List, [], ◌∷◌, ◌++◌, slice_index, slice_get, length, Option, Some, None}
use Rattle.std.specs.List.{list_any}
use Rattle.fb_base.specs.declared.shape.Shape.{Shape}
use Rattle.fb_base.specs.declared.fault.TrapKind.TheVariants.{BadCode}
use Rattle.fb_names.specs.declared.calls.RuntimeCall.{RuntimeCall}
use Rattle.fb_names.specs.declared.calls.RuntimeCall.TheVariants as calls
use Rattle.fb_names.specs.Calls.{call_of}
use Rattle.fb_names.specs.Kinds.{trap_of}
use Rattle.fb_image.specs.declared.image.ImageParts.{ImageParts}
use Rattle.places.specs.declared.kinds.Form.TheVariants.{Scope}
use Rattle.places.specs.Calls.{new_head}
use Rattle.text_calls.specs.Rows as texts
use Rattle.text_calls.specs.Strings.{text_of}
use Rattle.rt_text.specs.declared.print.Item.TheVariants as items
use Rattle.rt_threads.specs.declared.kinds.Handle.TheVariants.{Mutex, Condition}
use Rattle.rt_threads.specs.declared.kinds.Thread.{Thread}
use Rattle.rt_threads.specs.Rows as threads
use Rattle.rt_threads.specs.Table.{state_at, thread_at, is_ready}
use Rattle.entry_replay.specs.Accesses.{addresses, with_stores}
use Rattle.entry_replay.specs.World.{Applied, Runtime}
use Rattle.run_calls.specs.Seen.{Seen, nothing_seen, placed}
use Rattle.run_calls.specs.Shared.{Program, Shared, traps_with, answering, ending_with}
use Rattle.run_calls.specs.PlaceRows.{place_open, place_free, obj_made, obj_dead, form_of, new_place, delete_begin, delete_end}
use Rattle.run_calls.specs.TextRows.{by_outcome, prints, prints_text, line_input}
use Rattle.run_calls.specs.ThreadRows.{by_table, new_handle, thread_create, trap_by}

-- The calls of the runtime, one row a call.

-- What a call comes to that thread t makes at a line in the entry `now`; a, b, c and d are its arguments in order.
abbrev pub row_of : Program → (a b c d t now line : ℕ) → Shared → RuntimeCall → Applied Shared
row_of p a b c d t now line x calls.PlaceOpen = place_open (slice_get p.shapes a) x
row_of p a b c d t now line x calls.PlaceFree = place_free a x
row_of p a b c d t now line x calls.ObjMade = obj_made a b line x
row_of p a b c d t now line x calls.ObjDead = obj_dead a b line x
row_of p a b c d t now line x calls.NewPlace = new_place (slice_get p.shapes a) b (form_of c) x
row_of p a b c d t now line x calls.DeleteBegin = delete_begin (slice_get p.shapes b) a (form_of c) x
row_of p a b c d t now line x calls.DeleteEnd = delete_end a x
row_of p a b c d t now line x calls.StrInit = by_outcome p.rule line x (texts.str_init x.seen.strings a)
row_of p a b c d t now line x calls.StrDrop = by_outcome p.rule line x (texts.str_drop x.seen.strings a)
row_of p a b c d t now line x calls.StrLit = by_outcome p.rule line x (texts.str_lit x.seen.strings p.literals a b)
row_of p a b c d t now line x calls.StrCopy = by_outcome p.rule line x (texts.str_copy x.seen.strings a b)
row_of p a b c d t now line x calls.StrCat = by_outcome p.rule line x (texts.str_cat x.seen.strings a b c)
row_of p a b c d t now line x calls.StrSet = by_outcome p.rule line x (texts.str_set x.seen.strings a b)
row_of p a b c d t now line x calls.StrCmp = by_outcome p.rule line x (texts.str_cmp x.seen.strings a b)
row_of p a b c d t now line x calls.StrLen = by_outcome p.rule line x (texts.str_len x.seen.strings a)
row_of p a b c d t now line x calls.StrLeft = by_outcome p.rule line x (texts.str_left x.seen.strings a b c)
row_of p a b c d t now line x calls.StrRight = by_outcome p.rule line x (texts.str_right x.seen.strings a b c)
row_of p a b c d t now line x calls.StrMid = by_outcome p.rule line x (texts.str_mid x.seen.strings a b c d)
row_of p a b c d t now line x calls.StrChr = by_outcome p.rule line x (texts.str_chr x.seen.strings a b)
row_of p a b c d t now line x calls.StrAsc = by_outcome p.rule line x (texts.str_asc x.seen.strings a b)
row_of p a b c d t now line x calls.StrSigned = by_outcome p.rule line x (texts.str_signed x.seen.strings a b)
row_of p a b c d t now line x calls.StrUnsigned = by_outcome p.rule line x (texts.str_unsigned x.seen.strings a b)
row_of p a b c d t now line x calls.StrVal = by_outcome p.rule line x (texts.str_val x.seen.strings a)
row_of p a b c d t now line x calls.StrFind = by_outcome p.rule line x (texts.str_find x.seen.strings a b c)
row_of p a b c d t now line x calls.StrUpper = by_outcome p.rule line x (texts.str_upper x.seen.strings a b)
row_of p a b c d t now line x calls.StrLower = by_outcome p.rule line x (texts.str_lower x.seen.strings a b)
row_of p a b c d t now line x calls.StrSpace = by_outcome p.rule line x (texts.str_space x.seen.strings a b)
row_of p a b c d t now line x calls.StrLTrim = by_outcome p.rule line x (texts.str_ltrim x.seen.strings a b)
row_of p a b c d t now line x calls.StrRTrim = by_outcome p.rule line x (texts.str_rtrim x.seen.strings a b)
row_of p a b c d t now line x calls.StrGet = by_outcome p.rule line x (texts.str_get x.seen.strings a b)
row_of p a b c d t now line x calls.StrPut = by_outcome p.rule line x (texts.str_put x.seen.strings a b c)
row_of p a b c d t now line x calls.PrintSigned = prints (items.Signed a) x
row_of p a b c d t now line x calls.PrintUnsigned = prints (items.Unsigned a) x
row_of p a b c d t now line x calls.PrintBool = prints (items.Truth (not (a == 0))) x
row_of p a b c d t now line x calls.PrintStr = prints_text (text_of (x.seen.strings a)) x
row_of p a b c d t now line x calls.PrintTab = prints items.Tab x
row_of p a b c d t now line x calls.PrintLine = prints items.Line x
row_of p a b c d t now line x calls.LineInput = line_input p.rule a line x
row_of p a b c d t now line x calls.ThreadCreate = thread_create p.procs a b now x
row_of p a b c d t now line x calls.ThreadWait = by_table (threads.wait t a now x.table) x
row_of p a b c d t now line x calls.ThreadDetach = by_table (threads.detach t a now x.table) x
row_of p a b c d t now line x calls.ThreadEnd = by_table (Some (threads.ended t now x.table)) x
row_of p a b c d t now line x calls.MutexCreate = new_handle (Mutex None) x
row_of p a b c d t now line x calls.MutexLock = by_table (threads.lock t a now x.table) x
row_of p a b c d t now line x calls.MutexUnlock = by_table (threads.unlock t a now x.table) x
row_of p a b c d t now line x calls.MutexDestroy = by_table (threads.destroy_mutex t a now x.table) x
row_of p a b c d t now line x calls.CondCreate = new_handle Condition x
row_of p a b c d t now line x calls.CondWait = by_table (threads.wait_at t a b now x.table) x
row_of p a b c d t now line x calls.CondSignal = by_table (threads.signal t a now x.table) x
row_of p a b c d t now line x calls.CondBroadcast = by_table (threads.broadcast t a now x.table) x
row_of p a b c d t now line x calls.CondDestroy = by_table (threads.destroy_condition t a now x.table) x
row_of p a b c d t now line x calls.Sleep = answering 0 x
row_of p a b c d t now line x calls.MainEnd = ending_with 0 x
row_of p a b c d t now line x calls.End = ending_with (a % 64) x
row_of p a b c d t now line x calls.Trap = trap_by (trap_of a)

-- Another number is none of a call.
abbrev pub row_by : Program → (a b c d t now line : ℕ) → Shared → Option RuntimeCall → Applied Shared
row_by p a b c d t now line x None = traps_with BadCode
row_by p a b c d t now line x (Some call) = row_of p a b c d t now line x call

-- what a call comes to, by its number and its arguments; those that aren't given are 0
unfoldable pub applies : Program → (number : ℕ) → List ℕ → (t now line : ℕ) → Shared → Applied Shared
applies p number args t now line x = row_by p (slice_index args 0) (slice_index args 1) (slice_index args 2) (slice_index args 3) t now line x (call_of number)

-- The arguments of a call that name cells, in order.
abbrev pub cells_of : (a b c : ℕ) → RuntimeCall → List ℕ
cells_of a b c calls.StrInit = a ∷ []
cells_of a b c calls.StrDrop = a ∷ []
cells_of a b c calls.StrLit = a ∷ []
cells_of a b c calls.StrCopy = a ∷ b ∷ []
cells_of a b c calls.StrCat = a ∷ b ∷ c ∷ []
cells_of a b c calls.StrSet = a ∷ b ∷ []
cells_of a b c calls.StrCmp = a ∷ b ∷ []
cells_of a b c calls.StrLen = a ∷ []
cells_of a b c calls.StrLeft = a ∷ b ∷ []
cells_of a b c calls.StrRight = a ∷ b ∷ []
cells_of a b c calls.StrMid = a ∷ b ∷ []
cells_of a b c calls.StrChr = a ∷ []
cells_of a b c calls.StrAsc = a ∷ []
cells_of a b c calls.StrSigned = a ∷ []
cells_of a b c calls.StrUnsigned = a ∷ []
cells_of a b c calls.StrVal = a ∷ []
cells_of a b c calls.StrFind = b ∷ c ∷ []
cells_of a b c calls.StrUpper = a ∷ b ∷ []
cells_of a b c calls.StrLower = a ∷ b ∷ []
cells_of a b c calls.StrSpace = a ∷ []
cells_of a b c calls.StrLTrim = a ∷ b ∷ []
cells_of a b c calls.StrRTrim = a ∷ b ∷ []
cells_of a b c calls.StrGet = a ∷ []
cells_of a b c calls.StrPut = a ∷ []
cells_of a b c calls.PrintStr = a ∷ []
cells_of a b c calls.LineInput = a ∷ []
cells_of a b c call = []

-- the bytes of these cells, each of which has 24
abbrev pub cell_bytes : List ℕ → List ℕ
cell_bytes [] = []
cell_bytes (cell ∷ cells) = addresses cell 24 ++ cell_bytes cells

abbrev pub cells_by : (a b c : ℕ) → Option RuntimeCall → List ℕ
cells_by a b c None = []
cells_by a b c (Some call) = cell_bytes (cells_of a b c call)

-- The bytes that a call accesses before it is made: those of its cells under rule 1.
unfoldable pub cells_accessed : (rule number : ℕ) → List ℕ → List ℕ
cells_accessed rule number args = if rule == 1 then cells_by (slice_index args 0) (slice_index args 1) (slice_index args 2) (call_of number) else []

-- The runtime of a program.
abbrev pub runtime : Program → Runtime Shared
runtime p = record {
  memory = λ x. x.seen.bytes;
  stored = λ w x. record x { seen = record x.seen { bytes = with_stores w x.seen.bytes } };
  cells = cells_accessed p.rule;
  applies = applies p;
  is_ready = λ x t. is_ready (state_at x.table t);
  any_ready = λ x. list_any (λ (thread : Thread). is_ready thread.state) x.table.threads;
  unended = λ x. threads.unended x.table;
  woken = λ x t. (thread_at x.table t).start;
  procs = p.procs;
}

-- what an image gives to the runtime; its strings don't join the race rule
abbrev pub program_of : ImageParts → Program
program_of image = record { rule = 0; shapes = image.shapes; literals = image.literals; procs = length image.entries }

abbrev pub first_seen : Option Shape → Seen
first_seen None = nothing_seen
first_seen (Some shape) = placed (new_head shape 1 Scope) nothing_seen

-- What is shared at the beginning: the place of the Shared and Static variables, the main thread, and the whole input.
abbrev pub first_shared : Program → List ℕ → Shared
first_shared p input = record { seen = first_seen (slice_get p.shapes 0); table = threads.first_table 0; column = 0; output = []; input = input; lives = [] }
