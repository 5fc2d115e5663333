use Rattle.std.specs.Prelude.{◌≡◌, ℕ, zero, suc, ◌+◌, ◌-◌, ◌==◌, nat_lt, Bool, true, false, not, ◌&&◌, if◌then◌else◌, List, [], ◌∷◌, ◌++◌, drop, length, Option, Some, None, is_none, Result, Ok, Err}
use Rattle.std.specs.List.{list_any, count_by}
use Rattle.rt_threads.specs.declared.kinds.State.{State}
use Rattle.rt_threads.specs.declared.kinds.State.TheVariants.{Ready, Waits, Listens, Ended}
use Rattle.rt_threads.specs.declared.kinds.Thread.{Thread}
use Rattle.rt_threads.specs.declared.kinds.Handle.{Handle}
use Rattle.rt_threads.specs.declared.kinds.Handle.TheVariants.{Gone, Joinable, Mutex, Condition}
use Rattle.rt_threads.specs.declared.kinds.BadHandle.{BadHandle}
use Rattle.rt_threads.specs.Lists.{first_of}
use Rattle.rt_threads.specs.Table.{Table, thread_at, state_at, handle_at, queue_at, has_ended, is_ready, gave_up, with_handle, with_queue, with_ready, with_state, queued}

-- What each call makes of the table: t is the thread that calls, `now` the number of its entry, and None stands
-- where the id is no good, so that nothing changes.

-- whether nobody waits at an id
abbrev pub is_quiet : Table → ℕ → Bool
is_quiet table id = is_none (first_of (queue_at table id))

-- The table at the start: the main thread, which is ready, and no id.
abbrev pub first_table : ℕ → Table
first_table proc = record {
  threads = record { state = Ready; start = 0; proc = proc; param = 0; id = 0 } ∷ [];
  handles = Gone ∷ [];
  queues = [] ∷ [];
}

abbrev pub goes_on : State → Bool
goes_on state = not (has_ended state)

-- how many threads have not ended
abbrev pub unended : Table → ℕ
unended table = count_by (λ (thread : Thread). goes_on thread.state) table.threads

-- One more id, for this, at which nobody waits yet.
abbrev pub with_new : Handle → Table → Table
with_new handle table = record table { handles = table.handles ++ handle ∷ []; queues = table.queues ++ [] ∷ [] }

-- the id that is given next
abbrev pub next_id : Table → ℕ
next_id table = length table.handles

-- A new thread is ready, and the entry that created it did that.
abbrev pub created : ℕ → ℕ → ℕ → Table → Table
created proc param now table =
    record (with_new (Joinable (length table.threads)) table) {
      threads = table.threads ++ record { state = Ready; start = now; proc = proc; param = param; id = next_id table } ∷ [];
    }

-- ThreadCreate gives the id of the new thread, and 0 where 256 threads have not ended; no id is used up then.
abbrev pub create : ℕ → ℕ → ℕ → Table → ℕ × Table
create proc param now table = if nat_lt (unended table) 256 then (next_id table, created proc param now table) else (0, table)

-- how many ids were given
abbrev pub given : Table → ℕ
given table = length table.handles - 1

-- A thread's id is given up, and the caller goes on.
abbrev pub given_up : ℕ → ℕ → ℕ → Table → Table
given_up t id now table = with_ready t now (with_handle id Gone table)

-- ThreadWait: the caller goes on where that thread has ended, and waits for it else. The id may not be waited for.
abbrev pub wait_for : Handle → ℕ → ℕ → ℕ → Table → Option Table
wait_for Gone t id now table = None
wait_for (Joinable thread) t id now table =
    if is_quiet table id
    then (if has_ended (state_at table thread) then Some (given_up t id now table) else Some (queued t id (Waits id) table))
    else None
wait_for (Mutex holder) t id now table = None
wait_for Condition t id now table = None

abbrev pub wait : ℕ → ℕ → ℕ → Table → Option Table
wait t id now table = wait_for (handle_at table id) t id now table

-- ThreadDetach gives up the id of a thread, which may not be waited for.
abbrev pub detach_from : Handle → ℕ → ℕ → ℕ → Table → Option Table
detach_from Gone t id now table = None
detach_from (Joinable thread) t id now table = if is_quiet table id then Some (given_up t id now table) else None
detach_from (Mutex holder) t id now table = None
detach_from Condition t id now table = None

abbrev pub detach : ℕ → ℕ → ℕ → Table → Option Table
detach t id now table = detach_from (handle_at table id) t id now table

-- The thread that waits first at an id goes on.
abbrev pub wake_waiter : Option ℕ → ℕ → ℕ → Table → Table
wake_waiter None id now table = table
wake_waiter (Some first) id now table = with_handle id Gone (with_ready first now (with_queue id (drop 1 (queue_at table id)) table))

abbrev pub end_of : Handle → ℕ → ℕ → Table → Table
end_of Gone id now table = table
end_of (Joinable thread) id now table = wake_waiter (first_of (queue_at table id)) id now table
end_of (Mutex holder) id now table = table
end_of Condition id now table = table

-- A thread ends, and the one that waits for it goes on; with that the id is given up.
abbrev pub ended : ℕ → ℕ → Table → Table
ended t now table = end_of (handle_at table (thread_at table t).id) (thread_at table t).id now (with_state t Ended table)

-- MutexLock: the caller takes the mutex where it is free, and waits at the end of its queue else.
abbrev pub lock_mutex : Handle → ℕ → ℕ → ℕ → Table → Option Table
lock_mutex Gone t id now table = None
lock_mutex (Joinable thread) t id now table = None
lock_mutex (Mutex None) t id now table = Some (with_ready t now (with_handle id (Mutex (Some t)) table))
lock_mutex (Mutex (Some holder)) t id now table = Some (queued t id (Waits id) table)
lock_mutex Condition t id now table = None

abbrev pub lock : ℕ → ℕ → ℕ → Table → Option Table
lock t id now table = lock_mutex (handle_at table id) t id now table

-- A mutex that is given up goes to the first of its queue, which becomes ready, and is free where nobody waits.
abbrev pub hand_to : Option ℕ → ℕ → ℕ → Table → Table
hand_to None id now table = with_handle id (Mutex None) table
hand_to (Some first) id now table = with_handle id (Mutex (Some first)) (with_ready first now (with_queue id (drop 1 (queue_at table id)) table))

abbrev pub hand_on : ℕ → ℕ → Table → Table
hand_on id now table = hand_to (first_of (queue_at table id)) id now table

-- whether a thread holds a mutex
abbrev pub holds : Handle → ℕ → Bool
holds Gone t = false
holds (Joinable thread) t = false
holds (Mutex None) t = false
holds (Mutex (Some holder)) t = holder == t
holds Condition t = false

-- MutexUnlock: only the holder may.
abbrev pub unlock : ℕ → ℕ → ℕ → Table → Option Table
unlock t id now table = if holds (handle_at table id) t then Some (with_ready t now (hand_on id now table)) else None

-- whether a thread that waits at a condition gave this mutex up
abbrev pub is_wanted : Table → ℕ → Bool
is_wanted table id = list_any (λ (thread : Thread). gave_up id thread.state) table.threads

-- whether it is a mutex that nobody holds
abbrev pub is_free : Handle → Bool
is_free Gone = false
is_free (Joinable thread) = false
is_free (Mutex None) = true
is_free (Mutex (Some holder)) = false
is_free Condition = false

-- MutexDestroy: the mutex may not be held, nor waited for, nor wanted back by a thread that waits at a condition.
abbrev pub destroy_mutex : ℕ → ℕ → ℕ → Table → Option Table
destroy_mutex t id now table =
    if is_free (handle_at table id) && (is_quiet table id && not (is_wanted table id)) then Some (given_up t id now table) else None

abbrev pub is_condition : Handle → Bool
is_condition Gone = false
is_condition (Joinable thread) = false
is_condition (Mutex holder) = false
is_condition Condition = true

-- CondWait: the caller gives up the mutex, which it holds, and waits at the end of the condition's queue.
abbrev pub wait_at : ℕ → ℕ → ℕ → ℕ → Table → Option Table
wait_at t cond mutex now table =
    if is_condition (handle_at table cond) && holds (handle_at table mutex) t
    then Some (queued t cond (Listens cond mutex) (hand_on mutex now table))
    else None

-- A thread that is woken at a condition takes its mutex where it is free, and is ready; else it joins that queue.
abbrev pub regain_from : Bool → ℕ → ℕ → ℕ → Table → Table
regain_from true first mutex now table = with_ready first now (with_handle mutex (Mutex (Some first)) table)
regain_from false first mutex now table = queued first mutex (Waits mutex) table

abbrev pub regain : ℕ → ℕ → ℕ → Table → Table
regain first mutex now table = regain_from (is_free (handle_at table mutex)) first mutex now table

-- the mutex that a thread gave up
abbrev pub mutex_of : State → ℕ
mutex_of Ready = 0
mutex_of (Waits id) = 0
mutex_of (Listens cond mutex) = mutex
mutex_of Ended = 0

abbrev pub wake : Option ℕ → ℕ → ℕ → Table → Table
wake None cond now table = table
wake (Some first) cond now table = regain first (mutex_of (state_at table first)) now (with_queue cond (drop 1 (queue_at table cond)) table)

-- The first that waits at a condition is woken; nothing changes where nobody waits.
abbrev pub wake_first : ℕ → ℕ → Table → Table
wake_first cond now table = wake (first_of (queue_at table cond)) cond now table

-- CondSignal wakes the first.
abbrev pub signal : ℕ → ℕ → ℕ → Table → Option Table
signal t cond now table = if is_condition (handle_at table cond) then Some (with_ready t now (wake_first cond now table)) else None

-- so many are woken, one after another
abbrev pub wake_times : ℕ → ℕ → ℕ → Table → Table
wake_times zero cond now table = table
wake_times (suc n) cond now table = wake_times n cond now (wake_first cond now table)

-- CondBroadcast wakes all, in order.
abbrev pub broadcast : ℕ → ℕ → ℕ → Table → Option Table
broadcast t cond now table =
    if is_condition (handle_at table cond) then Some (with_ready t now (wake_times (length (queue_at table cond)) cond now table)) else None

-- CondDestroy: nobody may wait at the condition.
abbrev pub destroy_condition : ℕ → ℕ → ℕ → Table → Option Table
destroy_condition t cond now table =
    if is_condition (handle_at table cond) && is_quiet table cond then Some (given_up t cond now table) else None

-- the numbers of the threads that pass, from a number on, rising
abbrev pub numbers : (State → Bool) → ℕ → List Thread → List ℕ
numbers test n [] = []
numbers test n (thread ∷ threads) = if test thread.state then n ∷ numbers test (n + 1) threads else numbers test (n + 1) threads

-- the ready threads, rising
abbrev pub ready_numbers : Table → List ℕ
ready_numbers table = numbers is_ready 0 table.threads

-- A call is its row: it answers Ok where there is one, and leaves the table of that row; else nothing changes.
abbrev pub IsRow : Option Table → Table → Table → Result Unit BadHandle → Type 0
IsRow row old new (Ok u) = row ≡ Some new
IsRow row old new (Err e) = (row ≡ None) × (new ≡ old)
