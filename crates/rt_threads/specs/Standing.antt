use Rattle.std.specs.Prelude.{◌≡◌, ℕ, ◌≤◌, Bool, true, false, [], length}
use Rattle.rt_threads.specs.declared.kinds.State.{State}
use Rattle.rt_threads.specs.declared.kinds.State.TheVariants.{Ready, Waits, Listens, Ended}
use Rattle.rt_threads.specs.declared.kinds.Handle.{Handle}
use Rattle.rt_threads.specs.declared.kinds.Handle.TheVariants.{Gone, Joinable, Mutex, Condition}
use Rattle.rt_threads.specs.Lists.{times, one_if}
use Rattle.rt_threads.specs.Rows.{is_condition, is_free}
use Rattle.rt_threads.specs.Table.{Table, state_at, handle_at, queue_at, waits_at}

abbrev pub is_joinable : Handle → Bool
is_joinable Gone = false
is_joinable (Joinable thread) = true
is_joinable (Mutex holder) = false
is_joinable Condition = false

abbrev pub is_mutex : Handle → Bool
is_mutex Gone = false
is_mutex (Joinable thread) = false
is_mutex (Mutex holder) = true
is_mutex Condition = false

-- A thread waits at what can be waited for: a thread or a mutex, or a condition, for which it gave a mutex up.
abbrev pub WaitsAtIts : Table → State → Type 0
WaitsAtIts table Ready = Unit {0}
WaitsAtIts table (Waits id) = is_condition (handle_at table id) ≡ false
WaitsAtIts table (Listens cond mutex) = (is_condition (handle_at table cond) ≡ true) × (is_mutex (handle_at table mutex) ≡ true)
WaitsAtIts table Ended = Unit {0}

-- What holds of a table at every moment of a run.
pub record Stands (table : Table) : Type 0 where
  -- a thread stands once in the queue of the id at which it waits, and nowhere else; so one that is ready stands nowhere
  pub queued : (t id : ℕ) → times t (queue_at table id) ≡ one_if (waits_at id (state_at table t))
  pub fitting : (t : ℕ) → WaitsAtIts table (state_at table t)
  -- nobody waits at an id that is given up
  pub gone : (id : ℕ) → handle_at table id ≡ Gone → queue_at table id ≡ []
  -- nobody waits for a mutex that is free
  pub free : (id : ℕ) → is_free (handle_at table id) ≡ true → queue_at table id ≡ []
  -- one thread at most waits for another's end
  pub joined : (id : ℕ) → is_joinable (handle_at table id) ≡ true → length (queue_at table id) ≤ 1
  pub ids : length table.queues ≡ length table.handles
  pub numbers : length table.threads ≤ length table.handles
