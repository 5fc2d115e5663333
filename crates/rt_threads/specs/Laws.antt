use Rattle.std.specs.Prelude.{◌≡◌, ℕ, ◌++◌, ◌==◌, Bool, false, List, drop, Option, Some, None, true}
use Rattle.rt_threads.specs.declared.kinds.State.{State}
use Rattle.rt_threads.specs.declared.kinds.State.TheVariants.{Ready, Waits as WaitsFor, Listens, Ended}
use Rattle.rt_threads.specs.declared.kinds.Handle.TheVariants.{Mutex, Condition}
use Rattle.rt_threads.specs.Table.{Table, IsReady, is_ready, thread_at, state_at}
use Rattle.rt_threads.specs.Rows.{create, wait, detach, ended, with_new, lock, unlock, destroy_mutex, wait_at, signal, broadcast, destroy_condition}
use Rattle.rt_threads.specs.Standing.{Stands}

-- The calls that change the table.
pub data Call : Type 0 where
  Creates : (proc param : ℕ) → Call
  Waits : (id : ℕ) → Call
  Detaches : (id : ℕ) → Call
  Ends : Call
  MakesMutex : Call
  Locks : (id : ℕ) → Call
  Unlocks : (id : ℕ) → Call
  DestroysMutex : (id : ℕ) → Call
  MakesCondition : Call
  WaitsAt : (cond mutex : ℕ) → Call
  Signals : (id : ℕ) → Call
  Broadcasts : (id : ℕ) → Call
  DestroysCondition : (id : ℕ) → Call

-- what a call of thread t in the entry `now` makes of the table; None where it is refused
abbrev pub after : Call → ℕ → ℕ → Table → Option Table
after (Creates proc param) t now table = Some (create proc param now table).1
after (Waits id) t now table = wait t id now table
after (Detaches id) t now table = detach t id now table
after Ends t now table = Some (ended t now table)
after MakesMutex t now table = Some (with_new (Mutex None) table)
after (Locks id) t now table = lock t id now table
after (Unlocks id) t now table = unlock t id now table
after (DestroysMutex id) t now table = destroy_mutex t id now table
after MakesCondition t now table = Some (with_new Condition table)
after (WaitsAt cond mutex) t now table = wait_at t cond mutex now table
after (Signals id) t now table = signal t id now table
after (Broadcasts id) t now table = broadcast t id now table
after (DestroysCondition id) t now table = destroy_condition t id now table

-- A ready thread makes a call on a table that stands, and isn't refused.
pub record Calls (call : Call) (t now : ℕ) (old new : Table) : Type 0 where
  pub stands : Stands old
  pub ready : IsReady old t
  pub row : after call t now old ≡ Some new

-- some leave a queue at its front, and some come at its end
abbrev pub MovesOn : List ℕ → List ℕ → Type 0
MovesOn queue queue' = (k : ℕ) × (more : List ℕ) × (queue' ≡ drop k queue ++ more)

-- whether a thread waits for a mutex, or at a condition for which it gave that mutex up
abbrev pub wants : ℕ → State → Bool
wants id Ready = false
wants id (WaitsFor k) = k == id
wants id (Listens cond mutex) = mutex == id
wants id Ended = false

-- the entry `now` woke a thread
abbrev pub IsWoken : ℕ → Table → Table → ℕ → Type 0
IsWoken now old new n = (is_ready (state_at old n) ≡ false) × IsReady new n × ((thread_at new n).start ≡ now)

-- a thread is as ready as before, and since the same entry
abbrev pub IsAsBefore : Table → Table → ℕ → Type 0
IsAsBefore old new n = (is_ready (state_at new n) ≡ is_ready (state_at old n)) × ((thread_at new n).start ≡ (thread_at old n).start)

-- whether a call notes its entry as the caller's start, where it leaves the caller ready
abbrev pub notes_caller : Call → Bool
notes_caller (Creates proc param) = false
notes_caller (Waits id) = true
notes_caller (Detaches id) = true
notes_caller Ends = true
notes_caller MakesMutex = false
notes_caller (Locks id) = true
notes_caller (Unlocks id) = true
notes_caller (DestroysMutex id) = true
notes_caller MakesCondition = false
notes_caller (WaitsAt cond mutex) = true
notes_caller (Signals id) = true
notes_caller (Broadcasts id) = true
notes_caller (DestroysCondition id) = true
