use Rattle.std.specs.Prelude.{◌≡◌, ℕ, ◌==◌, Bool, true, false, List, [], ◌∷◌, ◌++◌, slice_index_or, slice_set}
use Rattle.rt_threads.specs.declared.kinds.State.{State}
use Rattle.rt_threads.specs.declared.kinds.State.TheVariants.{Ready, Waits, Listens, Ended}
use Rattle.rt_threads.specs.declared.kinds.Thread.{Thread}
use Rattle.rt_threads.specs.declared.kinds.Handle.{Handle}
use Rattle.rt_threads.specs.declared.kinds.Handle.TheVariants.{Gone}

-- What the runtime keeps of threads, mutexes and conditions.
pub record Table : Type 0 where
  -- the threads by number, 0, 1, 2 and so on, in the order in which they were created; they stay when they have ended
  pub threads : List Thread
  -- what each id names; 0 is no id, and the next id is the length of this list
  pub handles : List Handle
  -- for each id the threads that wait there, first come first
  pub queues : List (List ℕ)

abbrev pub nobody : Thread
nobody = record { state = Ended; start = 0; proc = 0; param = 0; id = 0 }

abbrev pub thread_at : Table → ℕ → Thread
thread_at table t = slice_index_or table.threads t nobody

abbrev pub state_at : Table → ℕ → State
state_at table t = (thread_at table t).state

abbrev pub handle_at : Table → ℕ → Handle
handle_at table id = slice_index_or table.handles id Gone

abbrev pub queue_at : Table → ℕ → List ℕ
queue_at table id = slice_index_or table.queues id []

abbrev pub is_ready : State → Bool
is_ready Ready = true
is_ready (Waits id) = false
is_ready (Listens cond mutex) = false
is_ready Ended = false

abbrev pub has_ended : State → Bool
has_ended Ready = false
has_ended (Waits id) = false
has_ended (Listens cond mutex) = false
has_ended Ended = true

abbrev pub IsReady : Table → ℕ → Type 0
IsReady table t = is_ready (state_at table t) ≡ true

-- whether it waits at this id
abbrev pub waits_at : ℕ → State → Bool
waits_at id Ready = false
waits_at id (Waits k) = k == id
waits_at id (Listens cond mutex) = cond == id
waits_at id Ended = false

-- whether it waits at a condition for which it gave this mutex up
abbrev pub gave_up : ℕ → State → Bool
gave_up id Ready = false
gave_up id (Waits k) = false
gave_up id (Listens cond mutex) = mutex == id
gave_up id Ended = false

abbrev pub with_thread : ℕ → Thread → Table → Table
with_thread t thread table = record table { threads = slice_set table.threads t thread }

abbrev pub with_handle : ℕ → Handle → Table → Table
with_handle id handle table = record table { handles = slice_set table.handles id handle }

abbrev pub with_queue : ℕ → List ℕ → Table → Table
with_queue id queue table = record table { queues = slice_set table.queues id queue }

-- what a thread does is another thing
abbrev pub with_state : ℕ → State → Table → Table
with_state t state table = with_thread t (record (thread_at table t) { state = state }) table

-- the entry `now` leaves a thread ready
abbrev pub with_ready : ℕ → ℕ → Table → Table
with_ready t now table = with_thread t (record (thread_at table t) { state = Ready; start = now }) table

-- a thread goes to the end of the queue of an id
abbrev pub queued : ℕ → ℕ → State → Table → Table
queued t id state table = with_state t state (with_queue id (queue_at table id ++ t ∷ []) table)
