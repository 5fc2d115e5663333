use Rattle.std.specs.Prelude.{ℕ, nat_lt, if◌then◌else◌, Option, Some, None}
use Rattle.fb_base.specs.declared.fault.TrapKind.TheVariants.{BadHandle, BadCode}
use Rattle.fb_base.specs.declared.fault.TrapKind.{TrapKind}
use Rattle.rt_threads.specs.declared.kinds.Handle.{Handle}
use Rattle.rt_threads.specs.Table.{Table}
use Rattle.rt_threads.specs.Rows.{create, unended, with_new, next_id}
use Rattle.entry_replay.specs.Accesses.{untouched}
use Rattle.entry_replay.specs.World.{Applied, Does, Start}
use Rattle.run_calls.specs.Shared.{Shared, with_table, traps_with, answering}

-- The calls on threads, mutexes and conditions (FreeBASIC Manual: ThreadCreate, MutexCreate, CondCreate and those behind
-- them).

-- the table of threads after a call, if the id is good
abbrev pub by_table : Option Table → Shared → Applied Shared
by_table None x = traps_with BadHandle
by_table (Some table) x = answering 0 (with_table table x)

-- a new id, for this
abbrev pub new_handle : Handle → Shared → Applied Shared
new_handle handle x = answering (next_id x.table) (with_table (with_new handle x.table) x)

-- the thread that is created, unless there are too many
abbrev pub created_thread : (proc param : ℕ) → Table → Option Start
created_thread proc param table = if nat_lt (unended table) 256 then Some (record { proc = proc; param = param }) else None

-- ThreadCreate(proc, param): a ready thread; its id, or 0 where 256 threads have not ended
abbrev pub thread_create : (procs proc param now : ℕ) → Shared → Applied Shared
thread_create procs proc param now x =
    if nat_lt proc procs
    then Does (record { answer = (create proc param now x.table).0; after = with_table (create proc param now x.table).1 x; touched = untouched; made = created_thread proc param x.table; over = None })
    else traps_with BadCode

-- Trap(kind): the trap of that number
abbrev pub trap_by : Option TrapKind → Applied Shared
trap_by None = traps_with BadCode
trap_by (Some kind) = traps_with kind
