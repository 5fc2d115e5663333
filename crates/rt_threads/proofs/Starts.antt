use Rattle.std.proofs.Common.{◌≡◌, ◌⊎◌, ℕ, zero, suc, ◌<◌, ◌≤◌, Bool, true, false, cond, not, ◌&&◌, List, [], ◌∷◌, ◌++◌, Option, Some, None, nat_lt, length, get_or, drop, refl, ap, sym, subst, ◌∙◌, arith, inl, inr}
use Rattle.std.proofs.lemmas.Bool.{false≢true, cases_eq, cases_Bool}
use Rattle.std.proofs.lemmas.List.{get_or-set_same, get_or-set_other, length-set, length_push, get_or_append_left, get_or_push}
use Rattle.rt_threads.specs.declared.kinds.State.{State}
use Rattle.rt_threads.specs.declared.kinds.State.TheVariants.{Ready, Waits, Listens, Ended}
use Rattle.rt_threads.specs.declared.kinds.Thread.{Thread}
use Rattle.rt_threads.specs.declared.kinds.Handle.{Handle}
use Rattle.rt_threads.specs.declared.kinds.Handle.TheVariants.{Gone, Joinable, Mutex, Condition}
use Rattle.rt_threads.specs.Lists.{first_of}
use Rattle.rt_threads.specs.Table.{Table, nobody, thread_at, state_at, handle_at, queue_at, is_ready, has_ended, IsReady, waits_at, with_thread, with_handle, with_queue, with_state, with_ready, queued}
use Rattle.rt_threads.specs.Rows.{created, with_new, unended, is_condition, is_free, is_quiet, is_wanted, holds, given_up, wait_for, detach_from, wake_waiter, end_of, ended, lock_mutex, hand_to, hand_on, mutex_of, regain_from, wake, wake_first, wake_times, next_id}
use Rattle.rt_threads.specs.Standing.{Stands}
use Rattle.rt_threads.specs.Laws.{Call, Creates, Waits as CallWaits, Detaches, Ends, MakesMutex, Locks, Unlocks, DestroysMutex, MakesCondition, WaitsAt, Signals, Broadcasts, DestroysCondition, Calls, IsWoken, IsAsBefore, notes_caller}
use Rattle.rt_threads.proofs.Places.{ready_within, first_waits, first_within, state_same}
use Rattle.rt_threads.proofs.Standing.{ended_stands}
use Rattle.rt_threads.proofs.Keeping.{hand_on_ready, wake_first_stands}
use Rattle.rt_threads.proofs.Woken.{wake_first_shorter}
use Rattle.rt_threads.proofs.Evolves.{wake_times_awoken, end_evolves}

-- With which entry a thread starts, change by change.

pub record Starts (t now : ℕ) (old new : Table) : Type 0 where
  pub each : (n : ℕ) → (n ≡ t → ⊥) → n < length old.threads → IsWoken now old new n ⊎ IsAsBefore old new n
  pub threads : length old.threads ≤ length new.threads

joined_starts : (now : ℕ) (a b c : Table) (n : ℕ) → IsWoken now a b n ⊎ IsAsBefore a b n → IsWoken now b c n ⊎ IsAsBefore b c n → IsWoken now a c n ⊎ IsAsBefore a c n
joined_starts now a b c n (inl x) (inl y) = inl (x.0, y.1, y.2)
joined_starts now a b c n (inl x) (inr y) = inl (x.0, y.0 ∙ x.1, y.1 ∙ x.2)
joined_starts now a b c n (inr x) (inl y) = inl (sym x.0 ∙ y.0, y.1, y.2)
joined_starts now a b c n (inr x) (inr y) = inr (y.0 ∙ x.0, y.1 ∙ x.1)

starts_then : (t now : ℕ) (a b c : Table) → Starts t now a b → Starts t now b c → Starts t now a c
starts_then t now a b c x y = record {
  each = λ n u h. joined_starts now a b c n (x.each n u h) (y.each n u (omega (arith, x.threads)));
  threads = omega (arith, x.threads, y.threads);
}

-- the threads are as before
frame_starts : (t now : ℕ) (old new : Table) → new.threads ≡ old.threads → Starts t now old new
frame_starts t now old new same = record {
  each = λ n u h. inr (ap (λ (z : List Thread). is_ready (get_or z n nobody).state) same, ap (λ (z : List Thread). (get_or z n nobody).start) same);
  threads = omega (arith, ap (λ (z : List Thread). length z) same);
}

-- the caller does another thing
caller_starts : (t now : ℕ) (table : Table) (thread : Thread) → Starts t now table (with_thread t thread table)
caller_starts t now table thread = record {
  each = λ n u h. let other = get_or-set_other table.threads t n thread nobody u in inr (ap (λ (x : Thread). is_ready x.state) other, ap (λ (x : Thread). x.start) other);
  threads = omega (arith, length-set table.threads t thread);
}

-- a thread that wasn't ready is woken
woken_starts : (t w now : ℕ) (table : Table) → w < length table.threads → is_ready (state_at table w) ≡ false → Starts t now table (with_ready w now table)
woken_starts t w now table hw idle =
    let thread : Thread = record (thread_at table w) { state = Ready; start = now } in
    record {
      each = λ n u h. elim (cases_eq n w) [
        | inl e ↦ let here : thread_at (with_ready w now table) n ≡ thread = ap (thread_at (with_ready w now table)) e ∙ get_or-set_same table.threads w thread nobody hw in
            inl (ap (λ z. is_ready (state_at table z)) e ∙ idle, ap (λ (x : Thread). is_ready x.state) here, ap (λ (x : Thread). x.start) here)
        | inr m ↦ let other = get_or-set_other table.threads w n thread nobody m in inr (ap (λ (x : Thread). is_ready x.state) other, ap (λ (x : Thread). x.start) other)
      ];
      threads = omega (arith, length-set table.threads w thread);
    }

-- a thread that wasn't ready does another thing, and isn't
moved_starts : (t w now : ℕ) (table : Table) (state : State) → w < length table.threads → is_ready (state_at table w) ≡ false → is_ready state ≡ false → Starts t now table (with_state w state table)
moved_starts t w now table state hw idle still =
    let thread : Thread = record (thread_at table w) { state = state } in
    record {
      each = λ n u h. elim (cases_eq n w) [
        | inl e ↦ let here : thread_at (with_state w state table) n ≡ thread = ap (thread_at (with_state w state table)) e ∙ get_or-set_same table.threads w thread nobody hw in
            inr (ap (λ (x : Thread). is_ready x.state) here ∙ (still ∙ sym (ap (λ z. is_ready (state_at table z)) e ∙ idle)), ap (λ (x : Thread). x.start) here ∙ ap (λ z. (thread_at table z).start) (sym e))
        | inr m ↦ let other = get_or-set_other table.threads w n thread nobody m in inr (ap (λ (x : Thread). is_ready x.state) other, ap (λ (x : Thread). x.start) other)
      ];
      threads = omega (arith, length-set table.threads w thread);
    }

waiting_idle : (s : State) (id : ℕ) → waits_at id s ≡ true → is_ready s ≡ false
waiting_idle Ready id w = cc
waiting_idle (Waits k) id w = refl
waiting_idle (Listens c m) id w = refl
waiting_idle Ended id w = refl

given_up_starts : (t id now : ℕ) (table : Table) → Starts t now table (given_up t id now table)
given_up_starts t id now table = starts_then t now table (with_handle id Gone table) (given_up t id now table) (frame_starts t now table (with_handle id Gone table) refl) (caller_starts t now (with_handle id Gone table) (record (thread_at table t) { state = Ready; start = now }))

queued_starts : (t id now : ℕ) (state : State) (table : Table) → Starts t now table (queued t id state table)
queued_starts t id now state table =
    let more = with_queue id (queue_at table id ++ t ∷ []) table in
    starts_then t now table more (queued t id state table) (frame_starts t now table more refl) (caller_starts t now more (record (thread_at table t) { state = state }))

-- the first of a queue is woken
front_starts : (t w id now : ℕ) (table : Table) → Stands table → first_of (queue_at table id) ≡ Some w → Starts t now table (with_ready w now (with_queue id (drop 1 (queue_at table id)) table))
front_starts t w id now table s is =
    let less = with_queue id (drop 1 (queue_at table id)) table in
    starts_then t now table less (with_ready w now less) (frame_starts t now table less refl) (woken_starts t w now less (first_within table w id s is) (waiting_idle (state_at table w) id (first_waits table w id s is)))

hand_to_starts : (first : Option ℕ) (t id now : ℕ) (table : Table) → first_of (queue_at table id) ≡ first → Stands table → Starts t now table (hand_to first id now table)
hand_to_starts None t id now table is s = frame_starts t now table (hand_to None id now table) refl
hand_to_starts (Some w) t id now table is s =
    let awake = with_ready w now (with_queue id (drop 1 (queue_at table id)) table) in
    starts_then t now table awake (hand_to (Some w) id now table) (front_starts t w id now table s is) (frame_starts t now awake (hand_to (Some w) id now table) refl)

waiter_starts : (first : Option ℕ) (t id now : ℕ) (table : Table) → first_of (queue_at table id) ≡ first → Stands table → Starts t now table (wake_waiter first id now table)
waiter_starts None t id now table is s = frame_starts t now table table refl
waiter_starts (Some w) t id now table is s =
    let awake = with_ready w now (with_queue id (drop 1 (queue_at table id)) table) in
    starts_then t now table awake (wake_waiter (Some w) id now table) (front_starts t w id now table s is) (frame_starts t now awake (wake_waiter (Some w) id now table) refl)

end_starts : (h : Handle) (t id now : ℕ) (table : Table) → Stands table → Starts t now table (end_of h id now table)
end_starts Gone t id now table s = frame_starts t now table table refl
end_starts (Joinable thread) t id now table s = waiter_starts (first_of (queue_at table id)) t id now table refl s
end_starts (Mutex h) t id now table s = frame_starts t now table table refl
end_starts Condition t id now table s = frame_starts t now table table refl

regain_starts : (free : Bool) (t w cond' m now : ℕ) (table : Table) → w < length table.threads → is_ready (state_at table w) ≡ false → Starts t now table (regain_from free w m now (with_queue cond' (drop 1 (queue_at table cond')) table))
regain_starts true t w cond' m now table hw idle =
    let taken = with_handle m (Mutex (Some w)) (with_queue cond' (drop 1 (queue_at table cond')) table) in
    starts_then t now table taken (with_ready w now taken) (frame_starts t now table taken refl) (woken_starts t w now taken hw idle)
regain_starts false t w cond' m now table hw idle =
    let less = with_queue cond' (drop 1 (queue_at table cond')) table in
    let more = with_queue m (queue_at less m ++ w ∷ []) less in
    starts_then t now table more (queued w m (Waits m) less) (frame_starts t now table more refl) (moved_starts t w now more (Waits m) hw idle refl)

wake_starts : (first : Option ℕ) (t cond' now : ℕ) (table : Table) → first_of (queue_at table cond') ≡ first → Stands table → Starts t now table (wake first cond' now table)
wake_starts None t cond' now table is s = frame_starts t now table table refl
wake_starts (Some w) t cond' now table is s =
    regain_starts (is_free (handle_at table (mutex_of (state_at table w)))) t w cond' (mutex_of (state_at table w)) now table (first_within table w cond' s is) (waiting_idle (state_at table w) cond' (first_waits table w cond' s is))

times_starts : (k t cond' now : ℕ) (table : Table) → Stands table → is_condition (handle_at table cond') ≡ true → Starts t now table (wake_times k cond' now table)
times_starts zero t cond' now table s c = frame_starts t now table table refl
times_starts (suc k) t cond' now table s c =
    let next = wake_first cond' now table in
    starts_then t now table next (wake_times k cond' now next) (wake_starts (first_of (queue_at table cond')) t cond' now table refl s)
    (times_starts k t cond' now next (wake_first_stands table cond' now s c) (wake_first_shorter table cond' now s c).condition)

created_starts : (t proc param now : ℕ) (table : Table) → Starts t now table (created proc param now table)
created_starts t proc param now table =
    let thread : Thread = record { state = Ready; start = now; proc = proc; param = param; id = next_id table } in
    record {
      each = λ n u h. let old = get_or_append_left table.threads (thread ∷ []) nobody n h in inr (ap (λ (x : Thread). is_ready x.state) old, ap (λ (x : Thread). x.start) old);
      threads = omega (arith, length_push table.threads thread);
    }

-- What a row says of starts: of the other threads, and of the caller where it is ready.
pub record Begins (t now : ℕ) (old new : Table) : Type 0 where
  pub others : Starts t now old new
  pub caller : IsReady new t → (thread_at new t).start ≡ now

noted : (table : Table) (t now : ℕ) → t < length table.threads → (thread_at (with_ready t now table) t).start ≡ now
noted table t now h = ap (λ (x : Thread). x.start) (get_or-set_same table.threads t (record (thread_at table t) { state = Ready; start = now }) nobody h)

not_noted : (table : Table) (t now : ℕ) (state : State) → t < length table.threads → is_ready state ≡ false → IsReady (with_state t state table) t → (thread_at (with_state t state table) t).start ≡ now
not_noted table t now state h idle r = absurd (false≢true (sym (ap is_ready (state_same table t (record (thread_at table t) { state = state }) h) ∙ idle) ∙ r))

given_up_begins : (t id now : ℕ) (old : Table) → IsReady old t → Begins t now old (given_up t id now old)
given_up_begins t id now old r = record { others = given_up_starts t id now old; caller = λ _. noted (with_handle id Gone old) t now (ready_within old t r) }

queued_begins : (t id now : ℕ) (state : State) (old : Table) → is_ready state ≡ false → IsReady old t → Begins t now old (queued t id state old)
queued_begins t id now state old idle r = record { others = queued_starts t id now state old; caller = not_noted (with_queue id (queue_at old id ++ t ∷ []) old) t now state (ready_within old t r) idle }

-- others first, and then the caller is noted
then_noted : (t now : ℕ) (old mid : Table) → Starts t now old mid → IsReady mid t → Begins t now old (with_ready t now mid)
then_noted t now old mid x r = record {
  others = starts_then t now old mid (with_ready t now mid) x (caller_starts t now mid (record (thread_at mid t) { state = Ready; start = now }));
  caller = λ _. noted mid t now (ready_within mid t r);
}

at_begins : (t now : ℕ) (old a new : Table) → Some a ≡ Some new → Begins t now old a → Begins t now old new
at_begins t now old a new e x = let same : a ≡ new = cc in subst (λ (z : Table). Begins t now old z) same x

tested_begins : (test : Bool) (t now : ℕ) (old a new : Table) → cond test (Some a) None ≡ Some new → (test ≡ true → Begins t now old a) → Begins t now old new
tested_begins true t now old a new e x = at_begins t now old a new e (x refl)
tested_begins false t now old a new e x = cc

none_begins : (new : Table) → None ≡ Some new → ⊥
none_begins new e = cc

wait_begins : (h : Handle) (t id now : ℕ) (old new : Table) → IsReady old t → wait_for h t id now old ≡ Some new → Begins t now old new
wait_begins Gone t id now old new r row = cc
wait_begins (Mutex h) t id now old new r row = cc
wait_begins Condition t id now old new r row = cc
wait_begins (Joinable thread) t id now old new r row =
    elim (cases_Bool (is_quiet old id)) [
      | inl quiet ↦ elim (cases_Bool (has_ended (state_at old thread))) [
        | inl over ↦ at_begins t now old (given_up t id now old) new (rw (quiet, over) at row) (given_up_begins t id now old r)
        | inr over ↦ at_begins t now old (queued t id (Waits id) old) new (rw (quiet, over) at row) (queued_begins t id now (Waits id) old refl r)
      ]
      | inr busy ↦ absurd (none_begins new (rw busy at row))
    ]

detach_begins : (h : Handle) (t id now : ℕ) (old new : Table) → IsReady old t → detach_from h t id now old ≡ Some new → Begins t now old new
detach_begins Gone t id now old new r row = cc
detach_begins (Mutex h) t id now old new r row = cc
detach_begins Condition t id now old new r row = cc
detach_begins (Joinable thread) t id now old new r row = tested_begins (is_quiet old id) t now old (given_up t id now old) new row (λ _. given_up_begins t id now old r)

lock_begins : (h : Handle) (t id now : ℕ) (old new : Table) → IsReady old t → lock_mutex h t id now old ≡ Some new → Begins t now old new
lock_begins Gone t id now old new r row = cc
lock_begins (Joinable thread) t id now old new r row = cc
lock_begins Condition t id now old new r row = cc
lock_begins (Mutex None) t id now old new r row =
    let taken = with_handle id (Mutex (Some t)) old in
    at_begins t now old (with_ready t now taken) new row (then_noted t now old taken (frame_starts t now old taken refl) r)
lock_begins (Mutex (Some holder)) t id now old new r row = at_begins t now old (queued t id (Waits id) old) new row (queued_begins t id now (Waits id) old refl r)

ended_idle : (s : State) → has_ended s ≡ true → is_ready s ≡ true → ⊥
ended_idle Ready e r = cc
ended_idle (Waits id) e r = cc
ended_idle (Listens c m) e r = cc
ended_idle Ended e r = cc

end_begins : (t now : ℕ) (old : Table) → Stands old → IsReady old t → Begins t now old (ended t now old)
end_begins t now old s r =
    let over = with_state t Ended old in
    let id = (thread_at old t).id in
    let h = ready_within old t r in
    let thread : Thread = record (thread_at old t) { state = Ended } in
    let s1 = ended_stands old t s r in
    let later = end_evolves (handle_at old id) t id now over refl s1 in
    let long : t < length over.threads = omega (arith, length-set old.threads t thread) in
    record {
      others = starts_then t now old over (ended t now old) (caller_starts t now old thread) (end_starts (handle_at old id) t id now over s1);
      caller = λ ready. absurd (ended_idle (state_at (ended t now old) t) (later.ended t long (ap has_ended (state_same old t thread h))) ready);
    }

pub call_begins : (call : Call) (t now : ℕ) (old new : Table) → Calls call t now old new → notes_caller call ≡ true → Begins t now old new
call_begins (Creates proc param) t now old new c e = cc
call_begins (CallWaits id) t now old new c e = wait_begins (handle_at old id) t id now old new c.ready c.row
call_begins (Detaches id) t now old new c e = detach_begins (handle_at old id) t id now old new c.ready c.row
call_begins Ends t now old new c e = at_begins t now old (ended t now old) new c.row (end_begins t now old c.stands c.ready)
call_begins MakesMutex t now old new c e = cc
call_begins (Locks id) t now old new c e = lock_begins (handle_at old id) t id now old new c.ready c.row
call_begins (Unlocks id) t now old new c e =
    tested_begins (holds (handle_at old id) t) t now old (with_ready t now (hand_on id now old)) new c.row (λ _.
    then_noted t now old (hand_on id now old) (hand_to_starts (first_of (queue_at old id)) t id now old refl c.stands) (hand_on_ready old id now t c.ready))
call_begins (DestroysMutex id) t now old new c e =
    tested_begins (is_free (handle_at old id) && (is_quiet old id && not (is_wanted old id))) t now old (given_up t id now old) new c.row (λ _. given_up_begins t id now old c.ready)
call_begins MakesCondition t now old new c e = cc
call_begins (WaitsAt cond' mutex) t now old new c e =
    let one = hand_on mutex now old in
    tested_begins (is_condition (handle_at old cond') && holds (handle_at old mutex) t) t now old (queued t cond' (Listens cond' mutex) one) new c.row (λ _.
    let last = queued_begins t cond' now (Listens cond' mutex) one refl (hand_on_ready old mutex now t c.ready) in
    record {
      others = starts_then t now old one (queued t cond' (Listens cond' mutex) one) (hand_to_starts (first_of (queue_at old mutex)) t mutex now old refl c.stands) last.others;
      caller = last.caller;
    })
call_begins (Signals id) t now old new c e =
    tested_begins (is_condition (handle_at old id)) t now old (with_ready t now (wake_first id now old)) new c.row (λ test.
    then_noted t now old (wake_first id now old) (wake_starts (first_of (queue_at old id)) t id now old refl c.stands) ((wake_first_shorter old id now c.stands test).ready t c.ready))
call_begins (Broadcasts id) t now old new c e =
    let all = wake_times (length (queue_at old id)) id now old in
    tested_begins (is_condition (handle_at old id)) t now old (with_ready t now all) new c.row (λ test.
    then_noted t now old all (times_starts (length (queue_at old id)) t id now old c.stands test) ((wake_times_awoken (length (queue_at old id)) t id now old c.stands test).ready c.ready))
call_begins (DestroysCondition id) t now old new c e =
    tested_begins (is_condition (handle_at old id) && is_quiet old id) t now old (given_up t id now old) new c.row (λ _. given_up_begins t id now old c.ready)

at_starts : (t now : ℕ) (old a new : Table) → Some a ≡ Some new → Starts t now old a → Starts t now old new
at_starts t now old a new e x = let same : a ≡ new = cc in subst (λ (z : Table). Starts t now old z) same x

making_starts : (call : Call) (t now : ℕ) (old new : Table) → Calls call t now old new → Starts t now old new
making_starts (Creates proc param) t now old new c =
    elim (cases_Bool (nat_lt (unended old) 256)) [
      | inl few ↦ at_starts t now old (created proc param now old) new (rw few at c.row) (created_starts t proc param now old)
      | inr many ↦ at_starts t now old old new (rw many at c.row) (frame_starts t now old old refl)
    ]
making_starts MakesMutex t now old new c = at_starts t now old (with_new (Mutex None) old) new c.row (frame_starts t now old (with_new (Mutex None) old) refl)
making_starts MakesCondition t now old new c = at_starts t now old (with_new Condition old) new c.row (frame_starts t now old (with_new Condition old) refl)
making_starts (CallWaits id) t now old new c = (call_begins (CallWaits id) t now old new c refl).others
making_starts (Detaches id) t now old new c = (call_begins (Detaches id) t now old new c refl).others
making_starts Ends t now old new c = (call_begins Ends t now old new c refl).others
making_starts (Locks id) t now old new c = (call_begins (Locks id) t now old new c refl).others
making_starts (Unlocks id) t now old new c = (call_begins (Unlocks id) t now old new c refl).others
making_starts (DestroysMutex id) t now old new c = (call_begins (DestroysMutex id) t now old new c refl).others
making_starts (WaitsAt cond' mutex) t now old new c = (call_begins (WaitsAt cond' mutex) t now old new c refl).others
making_starts (Signals id) t now old new c = (call_begins (Signals id) t now old new c refl).others
making_starts (Broadcasts id) t now old new c = (call_begins (Broadcasts id) t now old new c refl).others
making_starts (DestroysCondition id) t now old new c = (call_begins (DestroysCondition id) t now old new c refl).others

pub call_starts : (call : Call) (t now n : ℕ) (old new : Table) → Calls call t now old new → (n ≡ t → ⊥) → n < length old.threads → IsWoken now old new n ⊎ IsAsBefore old new n
call_starts call t now n old new c u h = (making_starts call t now old new c).each n u h

pub created_thread : (proc param now : ℕ) (table : Table) → thread_at (created proc param now table) (length table.threads) ≡ record { state = Ready; start = now; proc = proc; param = param; id = next_id table }
created_thread proc param now table = get_or_push table.threads (record { state = Ready; start = now; proc = proc; param = param; id = next_id table }) nobody (length table.threads) refl
