use Rattle.std.proofs.Common.{◌≡◌, ℕ, suc, ◌+◌, ◌-◌, ◌==◌, ◌<◌, ◌≤◌, Bool, true, false, cond, not, ◌&&◌, List, [], ◌∷◌, ◌++◌, Option, Some, None, is_some, option_map, length, get_or, set, drop, filter, refl, ap, sym, subst, ◌∙◌, arith, inl, inr, eq-eqb, ne_eqb, zero-add}
use Rattle.std.proofs.lemmas.Bool.{false≢true, cases_eq, and_parts}
use Rattle.std.proofs.lemmas.List.{get_or-set_same, get_or-set_other, length-set, get_or_read}
use Rattle.rt_threads.specs.declared.kinds.State.{State}
use Rattle.rt_threads.specs.declared.kinds.State.TheVariants.{Ready, Waits, Listens, Ended}
use Rattle.rt_threads.specs.declared.kinds.Thread.{Thread}
use Rattle.rt_threads.specs.declared.kinds.Handle.{Handle}
use Rattle.rt_threads.specs.declared.kinds.Handle.TheVariants.{Gone, Joinable, Mutex, Condition}
use Rattle.rt_threads.specs.Lists.{first_of}
use Rattle.rt_threads.specs.Table.{Table, nobody, thread_at, state_at, handle_at, queue_at, is_ready, has_ended, IsReady, waits_at, gave_up, with_handle, with_queue, with_state, with_ready, queued}
use Rattle.rt_threads.specs.Rows.{goes_on, numbers, is_condition, is_free, holds, hand_to, hand_on, wait_at, mutex_of, regain_from, regain, wake, wake_first, wake_times, wake_waiter, end_of, ended}
use Rattle.rt_threads.specs.Standing.{Stands, is_mutex, is_joinable}
use Rattle.rt_threads.specs.Kept.{IsKept, wanting}
use Rattle.rt_threads.proofs.Counts.{ones, numbers_set, numbers_leave, count_set, count_has, count_lacks}
use Rattle.rt_threads.proofs.Places.{ready_within, handle_within, ready_gave_none, ready_not_ended, waiting_not_ended, ready_waits_nowhere, first_waits, first_within, none_nil, state_other, queue_same, queue_other, handle_same, handle_other, mutex_named, condition_named, holds_mutex, joinable_named}
use Rattle.rt_threads.proofs.Standing.{IsGood, ended_stands, queued_stands, gone_stands}
use Rattle.rt_threads.proofs.Keeping.{hand_on_ready, woken_stands, wake_first_stands, ready_stays, Listener, listener, not_condition}
use Rattle.rt_threads.proofs.Kept.{hand_on_kept, plain_waiter, kept_set, unwanted}

-- What is kept beside the table where the threads that want a mutex back change, and where a thread ends.

-- one thread does another thing, and hasn't ended: the counts that go with that
pub record Shifts (table table' : Table) (t : ℕ) (thread : Thread) : Type 0 where
  pub stands : Stands table'
  pub threads : table'.threads ≡ set table.threads t thread
  pub within : t < length table.threads
  pub ends : has_ended thread.state ≡ has_ended (state_at table t)
  pub size : length table'.handles ≡ length table.handles

shifted : (table table' : Table) (t : ℕ) (thread : Thread) → Shifts table table' t thread → (id : ℕ) → wanting id table'.threads + cond (gave_up id (state_at table t)) 1 0 ≡ wanting id table.threads + cond (gave_up id thread.state) 1 0
shifted table table' t thread s id = ap (λ (z : List Thread). wanting id z + cond (gave_up id (state_at table t)) 1 0) s.threads ∙ count_set (λ (x : Thread). gave_up id x.state) table.threads t thread nobody s.within

shift_kept : (table table' : Table) (t : ℕ) (thread : Thread) (counts counts' unended : List ℕ) → IsKept table counts unended → Shifts table table' t thread → length counts' ≡ length counts → ((id : ℕ) → get_or counts' id 0 + cond (gave_up id (state_at table t)) 1 0 ≡ get_or counts id 0 + cond (gave_up id thread.state) 1 0) → IsKept table' counts' unended
shift_kept table table' t thread counts counts' unended k s same moved = record {
  stands = s.stands;
  wanted = λ id. omega (arith, moved id, k.wanted id, shifted table table' t thread s id);
  sized = same ∙ (k.sized ∙ sym s.size);
  rising = k.rising ∙ (sym (numbers_set goes_on 0 table.threads t thread nobody s.within (ap not s.ends)) ∙ ap (numbers goes_on 0) (sym s.threads));
}

-- kinds stay when a mutex is handed on
hand_to_kinds : (first : Option ℕ) (table : Table) (id now k : ℕ) → is_mutex (handle_at table id) ≡ true → (is_condition (handle_at (hand_to first id now table) k) ≡ is_condition (handle_at table k)) × (is_mutex (handle_at (hand_to first id now table) k) ≡ is_mutex (handle_at table k))
hand_to_kinds None table id now k m =
    elim (cases_eq k id) [
      | inl e ↦ rw (e, handle_same table id (Mutex None) (handle_within table id (mutex_named (handle_at table id) m))) (sym (not_condition (handle_at table id) m), sym m)
      | inr n ↦ rw (handle_other table id k (Mutex None) n) (refl, refl)
    ]
hand_to_kinds (Some w) table id now k m =
    elim (cases_eq k id) [
      | inl e ↦ rw (e, handle_same table id (Mutex (Some w)) (handle_within table id (mutex_named (handle_at table id) m))) (sym (not_condition (handle_at table id) m), sym m)
      | inr n ↦ rw (handle_other table id k (Mutex (Some w)) n) (refl, refl)
    ]

pub hand_on_kinds : (table : Table) (id now k : ℕ) → is_mutex (handle_at table id) ≡ true → (is_condition (handle_at (hand_on id now table) k) ≡ is_condition (handle_at table k)) × (is_mutex (handle_at (hand_on id now table) k) ≡ is_mutex (handle_at table k))
hand_on_kinds table id now k m = hand_to_kinds (first_of (queue_at table id)) table id now k m

condition_taken : (h : Handle) → is_condition h ≡ true → is_free h ≡ false
condition_taken Gone c = cc
condition_taken (Joinable t) c = cc
condition_taken (Mutex h) c = cc
condition_taken Condition c = refl

condition_alone : (h : Handle) → is_condition h ≡ true → is_joinable h ≡ true → ⊥
condition_alone Gone c j = cc
condition_alone (Joinable t) c j = cc
condition_alone (Mutex h) c j = cc
condition_alone Condition c j = cc

pub listens_good : (table : Table) (t cond mutex : ℕ) → is_condition (handle_at table cond) ≡ true → is_mutex (handle_at table mutex) ≡ true → IsGood table t cond (Listens cond mutex)
listens_good table t cond mutex c m = record {
  there = λ _. refl;
  fits = (c, m);
  named = condition_named (handle_at table cond) c;
  taken = condition_taken (handle_at table cond) c;
  alone = λ j. absurd (condition_alone (handle_at table cond) c j);
}

-- CondWait
pub record CanListen (table new : Table) (t cond mutex now : ℕ) : Type 0 where
  pub condition : is_condition (handle_at table cond) ≡ true
  pub held : is_mutex (handle_at table mutex) ≡ true
  pub left : queued t cond (Listens cond mutex) (hand_on mutex now table) ≡ new

can_listen : (test : Bool) (table new : Table) (t cond' mutex now : ℕ) → (is_condition (handle_at table cond') && holds (handle_at table mutex) t) ≡ test → cond test (Some (queued t cond' (Listens cond' mutex) (hand_on mutex now table))) None ≡ Some new → CanListen table new t cond' mutex now
can_listen true table new t cond' mutex now is row =
    let parts = and_parts (is_condition (handle_at table cond')) (holds (handle_at table mutex) t) is in
    let same : queued t cond' (Listens cond' mutex) (hand_on mutex now table) ≡ new = cc in
    record { condition = parts.0; held = (holds_mutex (handle_at table mutex) t parts.1).0; left = same }
can_listen false table new t cond' mutex now is row = cc

pub listens : (table new : Table) (t cond' mutex now : ℕ) → wait_at t cond' mutex now table ≡ Some new → CanListen table new t cond' mutex now
listens table new t cond' mutex now row = can_listen (is_condition (handle_at table cond') && holds (handle_at table mutex) t) table new t cond' mutex now refl row

pub listens_within : (table new : Table) (t cond' mutex now : ℕ) (counts unended : List ℕ) → wait_at t cond' mutex now table ≡ Some new → IsKept table counts unended → mutex < length counts
listens_within table new t cond' mutex now counts unended row k =
    omega (arith, k.sized, handle_within table mutex (mutex_named (handle_at table mutex) (listens table new t cond' mutex now row).held))

-- the count of those that want the mutex back can be raised
pub listens_fits : (table new : Table) (t cond' mutex now x : ℕ) (counts unended : List ℕ) → wait_at t cond' mutex now table ≡ Some new → IsKept table counts unended → IsReady table t → x ≡ get_or counts mutex x → x + 1 ≤ length counts
listens_fits table new t cond' mutex now x counts unended row k r read =
    let e = get_or_read counts mutex x (listens_within table new t cond' mutex now counts unended row k) read 0 in
    let yes : Thread = record { state = Listens 0 mutex; start = 0; proc = 0; param = 0; id = 0 } in
    omega (arith, e, k.wanted mutex, k.sized, k.stands.numbers, count_lacks (λ (y : Thread). gave_up mutex y.state) table.threads t nobody yes (ready_within table t r) (ready_gave_none (state_at table t) r mutex) (eq-eqb mutex mutex refl))

pub listens_kept : (table new : Table) (t cond' mutex now x : ℕ) (counts unended : List ℕ) → wait_at t cond' mutex now table ≡ Some new → IsKept table counts unended → IsReady table t → x ≡ get_or counts mutex x → IsKept new (set counts mutex (x + 1)) unended
listens_kept table new t cond' mutex now x counts unended row k r read =
    let l = listens table new t cond' mutex now row in
    let hm = listens_within table new t cond' mutex now counts unended row k in
    let e = get_or_read counts mutex x hm read 0 in
    let one = hand_on mutex now table in
    let k1 = hand_on_kept table mutex now counts unended k l.held in
    let r1 = hand_on_ready table mutex now t r in
    let h1 = ready_within one t r1 in
    let good = listens_good one t cond' mutex ((hand_on_kinds table mutex now cond' l.held).0 ∙ l.condition) ((hand_on_kinds table mutex now mutex l.held).1 ∙ l.held) in
    let thread : Thread = record (thread_at one t) { state = Listens cond' mutex } in
    let none : (id : ℕ) → gave_up id (state_at one t) ≡ false = λ id. ready_gave_none (state_at one t) r1 id in
    subst (λ (z : Table). IsKept z (set counts mutex (x + 1)) unended) l.left
    (shift_kept one (queued t cond' (Listens cond' mutex) one) t thread counts (set counts mutex (x + 1)) unended k1
    (record {
      stands = queued_stands one t cond' (Listens cond' mutex) k1.stands r1 good;
      threads = refl;
      within = h1;
      ends = sym (ready_not_ended (state_at one t) r1);
      size = refl;
    })
    (length-set counts mutex (x + 1))
    (λ id. elim (cases_eq id mutex) [
      | inl f ↦ rw (f, get_or-set_same counts mutex (x + 1) 0 hm, none mutex, eq-eqb mutex mutex refl) (omega (arith, e))
      | inr n ↦ rw (get_or-set_other counts mutex id (x + 1) 0 n, none id, ne_eqb mutex id (λ f. n (sym f))) refl
    ]))

-- a waiter at a condition is woken
pub map_some : (o : Option ℕ) (f : ℕ → ℕ) (m : ℕ) → Some m ≡ option_map f o → (w : ℕ) × (o ≡ Some w) × (m ≡ f w)
map_some None f m is = cc
map_some (Some w) f m is = (w, refl, cc)

pub map_none : (o : Option ℕ) (f : ℕ → ℕ) → None ≡ option_map f o → o ≡ None
map_none None f is = refl
map_none (Some w) f is = cc

pub listener_wants : (table : Table) (w cond' : ℕ) → Listener table w cond' → gave_up (mutex_of (state_at table w)) (state_at table w) ≡ true
listener_wants table w cond' l = ap (gave_up (mutex_of (state_at table w))) l.state ∙ eq-eqb (mutex_of (state_at table w)) (mutex_of (state_at table w)) refl

wants_one : (s : State) (c m id : ℕ) → s ≡ Listens c m → gave_up id s ≡ (m == id)
wants_one s c m id is = ap (gave_up id) is

-- what becomes of the threads
pub record Woke (table : Table) (free : Bool) (w cond' m now : ℕ) : Type 0 where
  pub thread : Thread
  pub threads : (regain_from free w m now (with_queue cond' (drop 1 (queue_at table cond')) table)).threads ≡ set table.threads w thread
  pub wants : (id : ℕ) → gave_up id thread.state ≡ false
  pub ends : has_ended thread.state ≡ false
  pub size : length (regain_from free w m now (with_queue cond' (drop 1 (queue_at table cond')) table)).handles ≡ length table.handles

woke : (free : Bool) (table : Table) (w cond' m now : ℕ) → Woke table free w cond' m now
woke true table w cond' m now = record { thread = record (thread_at table w) { state = Ready; start = now }; threads = refl; wants = λ _. refl; ends = refl; size = length-set table.handles m (Mutex (Some w)) }
woke false table w cond' m now = record { thread = record (thread_at table w) { state = Waits m }; threads = refl; wants = λ _. refl; ends = refl; size = refl }

wake_is : (table : Table) (w cond' now : ℕ) → first_of (queue_at table cond') ≡ Some w → wake_first cond' now table ≡ regain w (mutex_of (state_at table w)) now (with_queue cond' (drop 1 (queue_at table cond')) table)
wake_is table w cond' now is = ap (λ z. wake z cond' now table) is

pub wake_none : (table : Table) (cond' now : ℕ) → first_of (queue_at table cond') ≡ None → wake_first cond' now table ≡ table
wake_none table cond' now is = ap (λ z. wake z cond' now table) is

pub woken_within : (table : Table) (w cond' : ℕ) (counts unended : List ℕ) → IsKept table counts unended → is_condition (handle_at table cond') ≡ true → first_of (queue_at table cond') ≡ Some w → mutex_of (state_at table w) < length counts
woken_within table w cond' counts unended k c is =
    omega (arith, k.sized, handle_within table (mutex_of (state_at table w)) (mutex_named (handle_at table (mutex_of (state_at table w))) (listener table w cond' k.stands c is).mutex))

pub woken_counted : (table : Table) (w cond' x : ℕ) (counts unended : List ℕ) → IsKept table counts unended → is_condition (handle_at table cond') ≡ true → first_of (queue_at table cond') ≡ Some w → x ≡ get_or counts (mutex_of (state_at table w)) x → 1 ≤ x
woken_counted table w cond' x counts unended k c is read =
    let m = mutex_of (state_at table w) in
    let e = get_or_read counts m x (woken_within table w cond' counts unended k c is) read 0 in
    omega (arith, e, k.wanted m, count_has (λ (y : Thread). gave_up m y.state) table.threads w nobody (first_within table w cond' k.stands is), ones (gave_up m (state_at table w)) true (listener_wants table w cond' (listener table w cond' k.stands c is)))

pub woken_kept : (table : Table) (w cond' now x : ℕ) (counts unended : List ℕ) → IsKept table counts unended → is_condition (handle_at table cond') ≡ true → first_of (queue_at table cond') ≡ Some w → x ≡ get_or counts (mutex_of (state_at table w)) x → IsKept (wake_first cond' now table) (set counts (mutex_of (state_at table w)) (x - 1)) unended
woken_kept table w cond' now x counts unended k c is read =
    let m = mutex_of (state_at table w) in
    let l = listener table w cond' k.stands c is in
    let hm = woken_within table w cond' counts unended k c is in
    let e = get_or_read counts m x hm read 0 in
    let some = woken_counted table w cond' x counts unended k c is read in
    let free = is_free (handle_at table m) in
    let v = woke free table w cond' m now in
    let same = wake_is table w cond' now is in
    let wants : (id : ℕ) → gave_up id (state_at table w) ≡ (m == id) = λ id. wants_one (state_at table w) cond' m id l.state in
    shift_kept table (wake_first cond' now table) w v.thread counts (set counts m (x - 1)) unended k
    (record {
      stands = wake_first_stands table cond' now k.stands c;
      threads = ap (λ (z : Table). z.threads) same ∙ v.threads;
      within = first_within table w cond' k.stands is;
      ends = v.ends ∙ sym (waiting_not_ended (state_at table w) cond' (first_waits table w cond' k.stands is));
      size = ap (λ (z : Table). length z.handles) same ∙ v.size;
    })
    (length-set counts m (x - 1))
    (λ id. elim (cases_eq id m) [
      | inl f ↦ rw (f, get_or-set_same counts m (x - 1) 0 hm, wants m, v.wants m, eq-eqb m m refl) (omega (arith, e, some))
      | inr n ↦ rw (get_or-set_other counts m id (x - 1) 0 n, wants id, v.wants id, ne_eqb m id (λ f. n (sym f))) refl
    ])

-- the same, of the mutex that the first waiter gave up
pub took_within : (table : Table) (cond' m : ℕ) (counts unended : List ℕ) → IsKept table counts unended → is_condition (handle_at table cond') ≡ true → Some m ≡ option_map (λ w. mutex_of (state_at table w)) (first_of (queue_at table cond')) → m < length counts
took_within table cond' m counts unended k c took =
    let w = map_some (first_of (queue_at table cond')) (λ w. mutex_of (state_at table w)) m took in
    omega (arith, w.2, woken_within table w.0 cond' counts unended k c w.1)

pub took_counted : (table : Table) (cond' m x : ℕ) (counts unended : List ℕ) → IsKept table counts unended → is_condition (handle_at table cond') ≡ true → Some m ≡ option_map (λ w. mutex_of (state_at table w)) (first_of (queue_at table cond')) → x ≡ get_or counts m x → 1 ≤ x
took_counted table cond' m x counts unended k c took read =
    let w = map_some (first_of (queue_at table cond')) (λ w. mutex_of (state_at table w)) m took in
    woken_counted table w.0 cond' x counts unended k c w.1 (read ∙ ap (λ z. get_or counts z x) w.2)

pub took_kept : (table : Table) (cond' now m x : ℕ) (counts unended : List ℕ) → IsKept table counts unended → is_condition (handle_at table cond') ≡ true → Some m ≡ option_map (λ w. mutex_of (state_at table w)) (first_of (queue_at table cond')) → x ≡ get_or counts m x → IsKept (wake_first cond' now table) (set counts m (x - 1)) unended
took_kept table cond' now m x counts unended k c took read =
    let w = map_some (first_of (queue_at table cond')) (λ w. mutex_of (state_at table w)) m took in
    subst (λ (z : ℕ). IsKept (wake_first cond' now table) (set counts z (x - 1)) unended) (sym w.2) (woken_kept table w.0 cond' now x counts unended k c w.1 (read ∙ ap (λ z. get_or counts z x) w.2))

-- the condition's queue is shorter, and all else that a loop over it needs is as before
pub record Shorter (table table' : Table) (cond' : ℕ) : Type 0 where
  pub condition : is_condition (handle_at table' cond') ≡ true
  pub rest : queue_at table' cond' ≡ drop 1 (queue_at table cond')
  pub ready : (t : ℕ) → IsReady table t → IsReady table' t

regain_shorter : (free : Bool) (table : Table) (w cond' m now : ℕ) → is_condition (handle_at table cond') ≡ true → cond' < length table.queues → (m ≡ cond' → ⊥) → ((t : ℕ) → IsReady table t → t ≡ w → ⊥) → Shorter table (regain_from free w m now (with_queue cond' (drop 1 (queue_at table cond')) table)) cond'
regain_shorter true table w cond' m now c hc n other = record {
  condition = ap is_condition (handle_other table m cond' (Mutex (Some w)) (λ e. n (sym e))) ∙ c;
  rest = queue_same table cond' (drop 1 (queue_at table cond')) hc;
  ready = λ t r. ready_stays (with_handle m (Mutex (Some w)) (with_queue cond' (drop 1 (queue_at table cond')) table)) w now t r;
}
regain_shorter false table w cond' m now c hc n other =
    let less = with_queue cond' (drop 1 (queue_at table cond')) table in
    record {
      condition = c;
      rest = queue_other less m cond' (queue_at less m ++ w ∷ []) (λ e. n (sym e)) ∙ queue_same table cond' (drop 1 (queue_at table cond')) hc;
      ready = λ t r. ap is_ready (state_other less w t (record (thread_at less w) { state = Waits m }) (other t r)) ∙ r;
    }

pub wake_shorter : (first : Option ℕ) (table : Table) (cond' now : ℕ) → first_of (queue_at table cond') ≡ first → Stands table → is_condition (handle_at table cond') ≡ true → Shorter table (wake first cond' now table) cond'
wake_shorter None table cond' now is s c = record { condition = c; rest = none_nil (queue_at table cond') is ∙ sym (ap (drop 1) (none_nil (queue_at table cond') is)); ready = λ _ r. r }
wake_shorter (Some w) table cond' now is s c =
    let l = listener table w cond' s c is in
    let waits = first_waits table w cond' s is in
    regain_shorter (is_free (handle_at table (mutex_of (state_at table w)))) table w cond' (mutex_of (state_at table w)) now c
    (omega (arith, s.ids, handle_within table cond' (condition_named (handle_at table cond') c))) l.other
    (λ t r e. false≢true (sym (ready_waits_nowhere (state_at table t) r cond') ∙ (ap (λ z. waits_at cond' (state_at table z)) e ∙ waits)))

pub wake_first_shorter : (table : Table) (cond' now : ℕ) → Stands table → is_condition (handle_at table cond') ≡ true → Shorter table (wake_first cond' now table) cond'
wake_first_shorter table cond' now s c = wake_shorter (first_of (queue_at table cond')) table cond' now refl s c

-- ThreadEnd
left_kept : (table : Table) (t : ℕ) (counts unended : List ℕ) → IsKept table counts unended → IsReady table t → IsKept (with_state t Ended table) counts (filter (λ x. not (x == t)) unended)
left_kept table t counts unended k r =
    let thread : Thread = record (thread_at table t) { state = Ended } in
    let h = ready_within table t r in
    record {
      stands = ended_stands table t k.stands r;
      wanted = λ id. omega (arith, k.wanted id, count_set (λ (x : Thread). gave_up id x.state) table.threads t thread nobody h, ones (gave_up id (state_at table t)) false (ready_gave_none (state_at table t) r id));
      sized = k.sized;
      rising = ap (filter (λ x. not (x == t))) k.rising ∙ sym (numbers_leave goes_on 0 table.threads t thread h refl ∙ ap (λ z. filter (λ x. not (x == z)) (numbers goes_on 0 table.threads)) (zero-add t));
    }

single : (q : List ℕ) → length q ≤ 1 → drop 1 q ≡ []
single [] h = refl
single (x ∷ []) h = refl
single (x ∷ (y ∷ r)) h = absurd (omega arith)

join_no_mutex : (h : Handle) → is_joinable h ≡ true → (is_mutex h ≡ false) × (is_condition h ≡ false)
join_no_mutex Gone j = cc
join_no_mutex (Joinable t) j = (refl, refl)
join_no_mutex (Mutex h) j = cc
join_no_mutex Condition j = cc

waiter_kept : (first : Option ℕ) (table : Table) (id now : ℕ) (counts unended : List ℕ) → first_of (queue_at table id) ≡ first → IsKept table counts unended → is_joinable (handle_at table id) ≡ true → IsKept (wake_waiter first id now table) counts unended
waiter_kept None table id now counts unended is k j = k
waiter_kept (Some w) table id now counts unended is k j =
    let hid = handle_within table id (joinable_named (handle_at table id) j) in
    let hq : id < length table.queues = omega (arith, k.stands.ids) in
    let no = join_no_mutex (handle_at table id) j in
    let awake = with_ready w now (with_queue id (drop 1 (queue_at table id)) table) in
    let s = woken_stands table w id now k.stands hq is in
    let waits = first_waits table w id k.stands is in
    let quiet : queue_at awake id ≡ [] = queue_same table id (drop 1 (queue_at table id)) hq ∙ single (queue_at table id) (k.stands.joined id j) in
    kept_set table (wake_waiter (Some w) id now table) w (record (thread_at table w) { state = Ready; start = now }) counts unended k
    (gone_stands awake id s hid quiet (unwanted awake id s no.0)) refl (first_within table w id k.stands is)
    (sym (waiting_not_ended (state_at table w) id waits)) (λ i. sym (plain_waiter table (state_at table w) id no.1 waits (k.stands.fitting w) i)) (length-set table.handles id Gone)

ended_at_kept : (h : Handle) (table : Table) (id now : ℕ) (counts unended : List ℕ) → handle_at table id ≡ h → IsKept table counts unended → IsKept (end_of h id now table) counts unended
ended_at_kept Gone table id now counts unended is k = k
ended_at_kept (Joinable thread) table id now counts unended is k = waiter_kept (first_of (queue_at table id)) table id now counts unended refl k (ap is_joinable is)
ended_at_kept (Mutex h) table id now counts unended is k = k
ended_at_kept Condition table id now counts unended is k = k

pub ended_kept : (table : Table) (t now : ℕ) (counts unended : List ℕ) → IsKept table counts unended → IsReady table t → IsKept (ended t now table) counts (filter (λ x. not (x == t)) unended)
ended_kept table t now counts unended k r =
    ended_at_kept (handle_at table (thread_at table t).id) (with_state t Ended table) (thread_at table t).id now counts (filter (λ x. not (x == t)) unended) refl (left_kept table t counts unended k r)

some_length : (q : List ℕ) → is_some (first_of q) ≡ true → length q ≡ suc (length (drop 1 q))
some_length [] s = cc
some_length (x ∷ xs) s = refl

none_some_nil : (q : List ℕ) → is_some (first_of q) ≡ false → q ≡ []
none_some_nil [] s = refl
none_some_nil (x ∷ xs) s = cc

-- a broadcast, waiter by waiter
pub times_step : (table next : Table) (cond' now : ℕ) → is_some (first_of (queue_at table cond')) ≡ true → next ≡ wake_first cond' now table → queue_at next cond' ≡ drop 1 (queue_at table cond') → wake_times (length (queue_at next cond')) cond' now next ≡ wake_times (length (queue_at table cond')) cond' now table
times_step table next cond' now some is rest =
    let long : length (queue_at table cond') ≡ suc (length (queue_at next cond')) = some_length (queue_at table cond') some ∙ ap (λ (z : List ℕ). suc (length z)) (sym rest) in
    rw long (ap (wake_times (length (queue_at next cond')) cond' now) is)

pub times_stop : (table next : Table) (cond' now : ℕ) → is_some (first_of (queue_at table cond')) ≡ false → next ≡ wake_first cond' now table → next ≡ wake_times (length (queue_at table cond')) cond' now table
times_stop table next cond' now none is =
    let nil : queue_at table cond' ≡ [] = none_some_nil (queue_at table cond') none in
    let same : next ≡ table = is ∙ wake_none table cond' now (ap first_of nil) in
    same ∙ sym (ap (λ (z : List ℕ). wake_times (length z) cond' now table) nil)
