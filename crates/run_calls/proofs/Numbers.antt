use Rattle.std.proofs.Common.{◌≡◌, ℕ, zero, suc, Bool, true, false, not, ◌&&◌, if◌then◌else◌, drop, length, length-set, Option, Some, None, refl, sym, ap, ◌∙◌}
use Rattle.rt_threads.specs.declared.kinds.State.{State}
use Rattle.rt_threads.specs.declared.kinds.State.TheVariants.{Waits as WaitsFor, Listens, Ended}
use Rattle.rt_threads.specs.declared.kinds.Handle.{Handle}
use Rattle.rt_threads.specs.declared.kinds.Handle.TheVariants.{Gone, Joinable, Mutex, Condition}
use Rattle.rt_threads.specs.Lists.{first_of}
use Rattle.rt_threads.specs.Table.{Table, state_at, handle_at, queue_at, thread_at, has_ended, with_handle, with_queue, with_ready, with_state, queued}
use Rattle.rt_threads.specs.Rows.{is_quiet, given_up, wait_for, detach_from, wake_waiter, end_of, ended, lock_mutex, hand_to, hand_on, holds, is_wanted, is_free, is_condition, regain_from, mutex_of, wake, wake_first, wake_times, with_new}
use Rattle.rt_threads.specs.Laws.{Call, Creates, Waits, Detaches, Ends, MakesMutex, Locks, Unlocks, DestroysMutex, MakesCondition, WaitsAt, Signals, Broadcasts, DestroysCondition, after}
use Rattle.entry_replay.proofs.Pairs.{nothing_there}
use Rattle.entry_replay.proofs.Touched.{same_some}

-- Only a call that creates a thread changes how many there are.

abbrev count : Table → ℕ
count table = length table.threads

abbrev pub CreatesNone : Call → Type 0
CreatesNone (Creates proc param) = ⊥
CreatesNone (Waits id) = Unit {0}
CreatesNone (Detaches id) = Unit {0}
CreatesNone Ends = Unit {0}
CreatesNone MakesMutex = Unit {0}
CreatesNone (Locks id) = Unit {0}
CreatesNone (Unlocks id) = Unit {0}
CreatesNone (DestroysMutex id) = Unit {0}
CreatesNone MakesCondition = Unit {0}
CreatesNone (WaitsAt cond mutex) = Unit {0}
CreatesNone (Signals id) = Unit {0}
CreatesNone (Broadcasts id) = Unit {0}
CreatesNone (DestroysCondition id) = Unit {0}

-- what a row with a condition leaves
if_some : (b : Bool) (x new : Table) → (if b then Some x else None) ≡ Some new → x ≡ new
if_some true x new e = same_some x new e
if_some false x new e = absurd (nothing_there new e)

if_given : (b : Bool) (o : Option Table) (new : Table) → (if b then o else None) ≡ Some new → o ≡ Some new
if_given true o new e = e
if_given false o new e = absurd (nothing_there new e)

of_two : (b : Bool) (x y new : Table) (n : ℕ) → count x ≡ n → count y ≡ n → (if b then Some x else Some y) ≡ Some new → count new ≡ n
of_two true x y new n k l e = ap count (sym (same_some x new e)) ∙ k
of_two false x y new n k l e = ap count (sym (same_some y new e)) ∙ l

of_one : (x new : Table) (n : ℕ) → count x ≡ n → Some x ≡ Some new → count new ≡ n
of_one x new n k e = ap count (sym (same_some x new e)) ∙ k

ready_kept : (t now : ℕ) (table : Table) → count (with_ready t now table) ≡ count table
ready_kept t now table = length-set table.threads t _

queued_kept : (t id : ℕ) (state : State) (table : Table) → count (queued t id state table) ≡ count table
queued_kept t id state table = length-set table.threads t _

wait_kept : (handle : Handle) (t id now : ℕ) (old new : Table) → wait_for handle t id now old ≡ Some new → count new ≡ count old
wait_kept Gone t id now old new e = absurd (nothing_there new e)
wait_kept (Joinable thread) t id now old new e =
    of_two (has_ended (state_at old thread)) (given_up t id now old) (queued t id (WaitsFor id) old) new (count old)
    (ready_kept t now (with_handle id Gone old))
    (queued_kept t id (WaitsFor id) old)
    (if_given (is_quiet old id) (if has_ended (state_at old thread) then Some (given_up t id now old) else Some (queued t id (WaitsFor id) old)) new e)
wait_kept (Mutex holder) t id now old new e = absurd (nothing_there new e)
wait_kept Condition t id now old new e = absurd (nothing_there new e)

given_up_kept : (b : Bool) (t id now : ℕ) (old new : Table) → (if b then Some (given_up t id now old) else None) ≡ Some new → count new ≡ count old
given_up_kept b t id now old new e = ap count (sym (if_some b (given_up t id now old) new e)) ∙ ready_kept t now (with_handle id Gone old)

detach_kept : (handle : Handle) (t id now : ℕ) (old new : Table) → detach_from handle t id now old ≡ Some new → count new ≡ count old
detach_kept Gone t id now old new e = absurd (nothing_there new e)
detach_kept (Joinable thread) t id now old new e = given_up_kept (is_quiet old id) t id now old new e
detach_kept (Mutex holder) t id now old new e = absurd (nothing_there new e)
detach_kept Condition t id now old new e = absurd (nothing_there new e)

waiter_kept : (first : Option ℕ) (id now : ℕ) (table : Table) → count (wake_waiter first id now table) ≡ count table
waiter_kept None id now table = refl
waiter_kept (Some first) id now table = ready_kept first now (with_queue id (drop 1 (queue_at table id)) table)

end_kept : (handle : Handle) (id now : ℕ) (table : Table) → count (end_of handle id now table) ≡ count table
end_kept Gone id now table = refl
end_kept (Joinable thread) id now table = waiter_kept (first_of (queue_at table id)) id now table
end_kept (Mutex holder) id now table = refl
end_kept Condition id now table = refl

lock_kept : (handle : Handle) (t id now : ℕ) (old new : Table) → lock_mutex handle t id now old ≡ Some new → count new ≡ count old
lock_kept Gone t id now old new e = absurd (nothing_there new e)
lock_kept (Joinable thread) t id now old new e = absurd (nothing_there new e)
lock_kept (Mutex None) t id now old new e = of_one (with_ready t now (with_handle id (Mutex (Some t)) old)) new (count old) (ready_kept t now (with_handle id (Mutex (Some t)) old)) e
lock_kept (Mutex (Some holder)) t id now old new e = of_one (queued t id (WaitsFor id) old) new (count old) (queued_kept t id (WaitsFor id) old) e
lock_kept Condition t id now old new e = absurd (nothing_there new e)

hand_kept : (first : Option ℕ) (id now : ℕ) (table : Table) → count (hand_to first id now table) ≡ count table
hand_kept None id now table = refl
hand_kept (Some first) id now table = ready_kept first now (with_queue id (drop 1 (queue_at table id)) table)

regain_kept : (free : Bool) (first mutex now : ℕ) (table : Table) → count (regain_from free first mutex now table) ≡ count table
regain_kept true first mutex now table = ready_kept first now (with_handle mutex (Mutex (Some first)) table)
regain_kept false first mutex now table = queued_kept first mutex (WaitsFor mutex) table

wake_kept : (first : Option ℕ) (cond now : ℕ) (table : Table) → count (wake first cond now table) ≡ count table
wake_kept None cond now table = refl
wake_kept (Some first) cond now table =
    let rest = with_queue cond (drop 1 (queue_at table cond)) table in
    regain_kept (is_free (handle_at rest (mutex_of (state_at table first)))) first (mutex_of (state_at table first)) now rest

woken_kept : (n cond now : ℕ) (table : Table) → count (wake_times n cond now table) ≡ count table
woken_kept zero cond now table = refl
woken_kept (suc n) cond now table = woken_kept n cond now (wake_first cond now table) ∙ wake_kept (first_of (queue_at table cond)) cond now table

-- a call that doesn't create a thread leaves their number
pub numbers_kept : (call : Call) (t now : ℕ) (old new : Table) → CreatesNone call → after call t now old ≡ Some new → length new.threads ≡ length old.threads
numbers_kept (Creates proc param) t now old new none e = absurd none
numbers_kept (Waits id) t now old new none e = wait_kept (handle_at old id) t id now old new e
numbers_kept (Detaches id) t now old new none e = detach_kept (handle_at old id) t id now old new e
numbers_kept Ends t now old new none e =
    let left = with_state t Ended old in
    of_one (ended t now old) new (count old) (end_kept (handle_at old (thread_at old t).id) (thread_at old t).id now left ∙ length-set old.threads t _) e
numbers_kept MakesMutex t now old new none e = of_one (with_new (Mutex None) old) new (count old) refl e
numbers_kept (Locks id) t now old new none e = lock_kept (handle_at old id) t id now old new e
numbers_kept (Unlocks id) t now old new none e =
    ap count (sym (if_some (holds (handle_at old id) t) (with_ready t now (hand_on id now old)) new e))
    ∙ ready_kept t now (hand_on id now old)
    ∙ hand_kept (first_of (queue_at old id)) id now old
numbers_kept (DestroysMutex id) t now old new none e = given_up_kept (is_free (handle_at old id) && (is_quiet old id && not (is_wanted old id))) t id now old new e
numbers_kept MakesCondition t now old new none e = of_one (with_new Condition old) new (count old) refl e
numbers_kept (WaitsAt cond mutex) t now old new none e =
    ap count (sym (if_some (is_condition (handle_at old cond) && holds (handle_at old mutex) t) (queued t cond (Listens cond mutex) (hand_on mutex now old)) new e))
    ∙ queued_kept t cond (Listens cond mutex) (hand_on mutex now old)
    ∙ hand_kept (first_of (queue_at old mutex)) mutex now old
numbers_kept (Signals id) t now old new none e =
    ap count (sym (if_some (is_condition (handle_at old id)) (with_ready t now (wake_first id now old)) new e))
    ∙ ready_kept t now (wake_first id now old)
    ∙ wake_kept (first_of (queue_at old id)) id now old
numbers_kept (Broadcasts id) t now old new none e =
    let all = wake_times (length (queue_at old id)) id now old in
    ap count (sym (if_some (is_condition (handle_at old id)) (with_ready t now all) new e)) ∙ ready_kept t now all ∙ woken_kept (length (queue_at old id)) id now old
numbers_kept (DestroysCondition id) t now old new none e = given_up_kept (is_condition (handle_at old id) && is_quiet old id) t id now old new e
