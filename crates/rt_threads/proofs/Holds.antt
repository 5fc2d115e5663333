use Rattle.std.proofs.Common.{◌≡◌, ℕ, zero, suc, ◌<◌, Bool, true, false, cond, not, ◌&&◌, [], ◌∷◌, ◌++◌, Option, Some, None, nat_lt, length, drop, refl, ap, sym, subst, ◌∙◌, inl, inr, eq-eqb, eqb-true}
use Rattle.std.proofs.lemmas.Bool.{false≢true, cases_eq, cases_lt, cases_Bool, and_parts}
use Rattle.std.proofs.lemmas.List.{get_or_append_left, get_or_past}
use Rattle.rt_threads.specs.declared.kinds.State.{State}
use Rattle.rt_threads.specs.declared.kinds.State.TheVariants.{Ready, Waits, Listens, Ended}
use Rattle.rt_threads.specs.declared.kinds.Thread.{Thread}
use Rattle.rt_threads.specs.declared.kinds.Handle.{Handle}
use Rattle.rt_threads.specs.declared.kinds.Handle.TheVariants.{Gone, Joinable, Mutex, Condition}
use Rattle.rt_threads.specs.Lists.{first_of}
use Rattle.rt_threads.specs.Table.{Table, nobody, thread_at, state_at, handle_at, queue_at, is_ready, has_ended, IsReady, waits_at, with_thread, with_handle, with_queue, with_state, with_ready, queued}
use Rattle.rt_threads.specs.Rows.{created, with_new, unended, is_condition, is_free, is_quiet, is_wanted, holds, given_up, wait_for, detach_from, wake_waiter, end_of, ended, lock_mutex, hand_to, hand_on, mutex_of, regain_from, wake, wake_first, wake_times, next_id}
use Rattle.rt_threads.specs.Standing.{Stands, WaitsAtIts, is_mutex, is_joinable}
use Rattle.rt_threads.specs.Laws.{Call, Creates, Waits as CallWaits, Detaches, Ends, MakesMutex, Locks, Unlocks, DestroysMutex, MakesCondition, WaitsAt, Signals, Broadcasts, DestroysCondition, Calls, wants}
use Rattle.rt_threads.proofs.Places.{ready_within, handle_within, first_waits, first_within, mutex_named, holds_mutex, state_same, state_other, handle_same}
use Rattle.rt_threads.proofs.Standing.{ended_stands}
use Rattle.rt_threads.proofs.Keeping.{listener, not_condition, no_join, wake_first_stands}
use Rattle.rt_threads.proofs.Woken.{wake_first_shorter}
use Rattle.rt_threads.proofs.Evolves.{wake_times_awoken}

-- Who goes on after it wanted a mutex holds it.

none_goes : (new : Table) → None ≡ Some new → ⊥
none_goes new e = cc

condition_joins : (h : Handle) → is_condition h ≡ true → is_joinable h ≡ true → ⊥
condition_joins Gone c j = cc
condition_joins (Joinable t) c j = cc
condition_joins (Mutex h) c j = cc
condition_joins Condition c j = cc

-- who wants a mutex isn't ready, and is there
wants_idle : (s : State) (id : ℕ) → wants id s ≡ true → is_ready s ≡ false
wants_idle Ready id w = cc
wants_idle (Waits k) id w = refl
wants_idle (Listens c m) id w = refl
wants_idle Ended id w = cc

abbrev pub Goes : Table → Table → ℕ → ℕ → Type 0
Goes old new id n = wants id (state_at old n) ≡ true → IsReady new n → handle_at new id ≡ Mutex (Some n)

still_idle : (old new : Table) (id n : ℕ) → state_at new n ≡ state_at old n → Goes old new id n
still_idle old new id n same w r = absurd (false≢true (sym (wants_idle (state_at old n) id w) ∙ (ap is_ready (sym same) ∙ r)))

-- the one that waits first at a mutex wants that mutex alone
waiter_wants : (table : Table) (s : State) (id m : ℕ) → is_mutex (handle_at table m) ≡ true → waits_at m s ≡ true → WaitsAtIts table s → wants id s ≡ true → id ≡ m
waiter_wants table Ready id m x w f h = cc
waiter_wants table (Waits k) id m x w f h = sym (eqb-true k id h) ∙ eqb-true k m w
waiter_wants table (Listens c k) id m x w f h = absurd (false≢true (sym (not_condition (handle_at table m) x) ∙ (ap (λ z. is_condition (handle_at table z)) (sym (eqb-true c m w)) ∙ f.0)))
waiter_wants table Ended id m x w f h = cc

hand_to_goes : (first : Option ℕ) (table : Table) (id m now n : ℕ) → first_of (queue_at table m) ≡ first → Stands table → is_mutex (handle_at table m) ≡ true → Goes table (hand_to first m now table) id n
hand_to_goes None table id m now n is s x = still_idle table (hand_to None m now table) id n refl
hand_to_goes (Some w) table id m now n is s x =
    let less = with_queue m (drop 1 (queue_at table m)) table in
    elim (cases_eq n w) [
      | inl e ↦ λ h r.
          let same : id ≡ m = waiter_wants table (state_at table w) id m x (first_waits table w m s is) (s.fitting w) (ap (λ z. wants id (state_at table z)) (sym e) ∙ h) in
          ap (handle_at (hand_to (Some w) m now table)) same ∙ (handle_same table m (Mutex (Some w)) (handle_within table m (mutex_named (handle_at table m) x)) ∙ ap (λ z. Mutex (Some z)) (sym e))
      | inr u ↦ still_idle table (hand_to (Some w) m now table) id n (state_other less w n (record (thread_at less w) { state = Ready; start = now }) u)
    ]

hand_on_goes : (table : Table) (id m now n : ℕ) → Stands table → is_mutex (handle_at table m) ≡ true → Goes table (hand_on m now table) id n
hand_on_goes table id m now n s x = hand_to_goes (first_of (queue_at table m)) table id m now n refl s x

-- the caller, who doesn't want a mutex, does another thing at the end
caller_goes : (old mid : Table) (t id n : ℕ) (thread : Thread) → (n ≡ t → ⊥) → Goes old mid id n → Goes old (with_thread t thread mid) id n
caller_goes old mid t id n thread u g w r = g w (ap is_ready (sym (state_other mid t n thread u)) ∙ r)

-- one waiter at a condition is woken: it holds its mutex, or wants it still
pub data Wakes (table new : Table) (id n : ℕ) : Type 0 where
  wants_still : wants id (state_at new n) ≡ true → Wakes table new id n
  holds_now : handle_at new id ≡ Mutex (Some n) → Wakes table new id n

listener_wants_its : (s : State) (c m id : ℕ) → s ≡ Listens c m → wants id s ≡ true → id ≡ m
listener_wants_its s c m id is w = sym (eqb-true m id (ap (wants id) (sym is) ∙ w))

regain_wakes : (free : Bool) (table : Table) (w cond' m id now n : ℕ) → is_mutex (handle_at table m) ≡ true → w < length table.threads → state_at table w ≡ Listens cond' m → wants id (state_at table n) ≡ true → Wakes table (regain_from free w m now (with_queue cond' (drop 1 (queue_at table cond')) table)) id n
regain_wakes true table w cond' m id now n x h is want =
    let less = with_queue cond' (drop 1 (queue_at table cond')) table in
    let taken = with_handle m (Mutex (Some w)) less in
    elim (cases_eq n w) [
      | inl e ↦ let same = listener_wants_its (state_at table w) cond' m id is (ap (λ z. wants id (state_at table z)) (sym e) ∙ want) in
          holds_now (ap (handle_at (with_ready w now taken)) same ∙ (handle_same less m (Mutex (Some w)) (handle_within table m (mutex_named (handle_at table m) x)) ∙ ap (λ z. Mutex (Some z)) (sym e)))
      | inr u ↦ wants_still (ap (wants id) (state_other taken w n (record (thread_at taken w) { state = Ready; start = now }) u) ∙ want)
    ]
regain_wakes false table w cond' m id now n x h is want =
    let less = with_queue cond' (drop 1 (queue_at table cond')) table in
    let more = with_queue m (queue_at less m ++ w ∷ []) less in
    let thread : Thread = record (thread_at more w) { state = Waits m } in
    elim (cases_eq n w) [
      | inl e ↦ let same = listener_wants_its (state_at table w) cond' m id is (ap (λ z. wants id (state_at table z)) (sym e) ∙ want) in
          wants_still (ap (wants id) (ap (state_at (with_thread w thread more)) e ∙ state_same more w thread h) ∙ eq-eqb m id (sym same))
      | inr u ↦ wants_still (ap (wants id) (state_other more w n thread u) ∙ want)
    ]

wake_wakes : (first : Option ℕ) (table : Table) (cond' id now n : ℕ) → first_of (queue_at table cond') ≡ first → Stands table → is_condition (handle_at table cond') ≡ true → wants id (state_at table n) ≡ true → Wakes table (wake first cond' now table) id n
wake_wakes None table cond' id now n is s c want = wants_still want
wake_wakes (Some w) table cond' id now n is s c want =
    let l = listener table w cond' s c is in
    regain_wakes (is_free (handle_at table (mutex_of (state_at table w)))) table w cond' (mutex_of (state_at table w)) id now n l.mutex (first_within table w cond' s is) l.state want

goes_on_from : (old new mid : Table) (id n : ℕ) → Wakes old mid id n → Goes mid new id n → (handle_at mid id ≡ Mutex (Some n) → handle_at new id ≡ Mutex (Some n)) → IsReady new n → handle_at new id ≡ Mutex (Some n)
goes_on_from old new mid id n (wants_still h) goes held r = goes h r
goes_on_from old new mid id n (holds_now h) goes held r = held h

pub wake_times_goes : (k : ℕ) (table : Table) (t cond' id now n : ℕ) → (n ≡ t → ⊥) → Stands table → is_condition (handle_at table cond') ≡ true → Goes table (wake_times k cond' now table) id n
wake_times_goes zero table t cond' id now n u s c w r = still_idle table table id n refl w r
wake_times_goes (suc k) table t cond' id now n u s c w r =
    let next = wake_first cond' now table in
    let s1 = wake_first_stands table cond' now s c in
    let c1 = (wake_first_shorter table cond' now s c).condition in
    goes_on_from table (wake_times k cond' now next) next id n (wake_wakes (first_of (queue_at table cond')) table cond' id now n refl s c w)
    (wake_times_goes k next t cond' id now n u s1 c1) ((wake_times_awoken k t cond' now next s1 c1).evolves.held id n u) r

-- ThreadEnd wakes nobody that wants a mutex
joiner_wants : (table : Table) (s : State) (id j : ℕ) → is_mutex (handle_at table id) ≡ true → is_joinable (handle_at table j) ≡ true → waits_at j s ≡ true → WaitsAtIts table s → wants id s ≡ true → ⊥
joiner_wants table Ready id j x y w f h = cc
joiner_wants table (Waits k) id j x y w f h = no_join (handle_at table j) y (ap (λ z. is_mutex (handle_at table z)) (sym (eqb-true k j w) ∙ eqb-true k id h) ∙ x)
joiner_wants table (Listens c k) id j x y w f h = condition_joins (handle_at table j) (ap (λ z. is_condition (handle_at table z)) (sym (eqb-true c j w)) ∙ f.0) y
joiner_wants table Ended id j x y w f h = cc

waiter_goes : (first : Option ℕ) (table : Table) (j id now n : ℕ) → first_of (queue_at table j) ≡ first → Stands table → is_joinable (handle_at table j) ≡ true → is_mutex (handle_at table id) ≡ true → Goes table (wake_waiter first j now table) id n
waiter_goes None table j id now n is s y x = still_idle table table id n refl
waiter_goes (Some w) table j id now n is s y x =
    let less = with_queue j (drop 1 (queue_at table j)) table in
    elim (cases_eq n w) [
      | inl e ↦ λ h r. absurd (joiner_wants table (state_at table w) id j x y (first_waits table w j s is) (s.fitting w) (ap (λ z. wants id (state_at table z)) (sym e) ∙ h))
      | inr u ↦ still_idle table (wake_waiter (Some w) j now table) id n (state_other less w n (record (thread_at less w) { state = Ready; start = now }) u)
    ]

end_goes : (h : Handle) (table : Table) (j id now n : ℕ) → handle_at table j ≡ h → Stands table → is_mutex (handle_at table id) ≡ true → Goes table (end_of h j now table) id n
end_goes Gone table j id now n is s x = still_idle table table id n refl
end_goes (Joinable thread) table j id now n is s x = waiter_goes (first_of (queue_at table j)) table j id now n refl s (ap is_joinable is) x
end_goes (Mutex h) table j id now n is s x = still_idle table table id n refl
end_goes Condition table j id now n is s x = still_idle table table id n refl

-- a row, and a row behind a test
at_goes : (old a new : Table) (id n : ℕ) → Some a ≡ Some new → Goes old a id n → Goes old new id n
at_goes old a new id n e g = let same : a ≡ new = cc in subst (λ (z : Table). Goes old z id n) same g

tested_goes : (test : Bool) (old a new : Table) (id n : ℕ) → cond test (Some a) None ≡ Some new → (test ≡ true → Goes old a id n) → Goes old new id n
tested_goes true old a new id n e g = at_goes old a new id n e (g refl)
tested_goes false old a new id n e g = cc

wait_goes : (h : Handle) (old new : Table) (t j id now n : ℕ) → (n ≡ t → ⊥) → wait_for h t j now old ≡ Some new → Goes old new id n
wait_goes Gone old new t j id now n u row = cc
wait_goes (Mutex h) old new t j id now n u row = cc
wait_goes Condition old new t j id now n u row = cc
wait_goes (Joinable thread) old new t j id now n u row =
    elim (cases_Bool (is_quiet old j)) [
      | inl quiet ↦ elim (cases_Bool (has_ended (state_at old thread))) [
        | inl over ↦ at_goes old (given_up t j now old) new id n (rw (quiet, over) at row) (still_idle old (given_up t j now old) id n (state_other old t n (record (thread_at old t) { state = Ready; start = now }) u))
        | inr over ↦ at_goes old (queued t j (Waits j) old) new id n (rw (quiet, over) at row) (still_idle old (queued t j (Waits j) old) id n (state_other old t n (record (thread_at old t) { state = Waits j }) u))
      ]
      | inr busy ↦ absurd (none_goes new (rw busy at row))
    ]

detach_goes : (h : Handle) (old new : Table) (t j id now n : ℕ) → (n ≡ t → ⊥) → detach_from h t j now old ≡ Some new → Goes old new id n
detach_goes Gone old new t j id now n u row = cc
detach_goes (Mutex h) old new t j id now n u row = cc
detach_goes Condition old new t j id now n u row = cc
detach_goes (Joinable thread) old new t j id now n u row =
    tested_goes (is_quiet old j) old (given_up t j now old) new id n row (λ _. still_idle old (given_up t j now old) id n (state_other old t n (record (thread_at old t) { state = Ready; start = now }) u))

lock_goes : (h : Handle) (old new : Table) (t j id now n : ℕ) → (n ≡ t → ⊥) → lock_mutex h t j now old ≡ Some new → Goes old new id n
lock_goes Gone old new t j id now n u row = cc
lock_goes (Joinable thread) old new t j id now n u row = cc
lock_goes Condition old new t j id now n u row = cc
lock_goes (Mutex None) old new t j id now n u row =
    let taken = with_handle j (Mutex (Some t)) old in
    at_goes old (with_ready t now taken) new id n row (still_idle old (with_ready t now taken) id n (state_other old t n (record (thread_at old t) { state = Ready; start = now }) u))
lock_goes (Mutex (Some holder)) old new t j id now n u row =
    at_goes old (queued t j (Waits j) old) new id n row (still_idle old (queued t j (Waits j) old) id n (state_other old t n (record (thread_at old t) { state = Waits j }) u))

-- a thread that wants a mutex is there
wants_within : (table : Table) (n id : ℕ) → wants id (state_at table n) ≡ true → n < length table.threads
wants_within table n id w = elim (cases_lt n (length table.threads)) [
  | inl h ↦ h
  | inr h ↦ absurd (false≢true (sym (ap (λ (x : Thread). wants id x.state) (get_or_past table.threads n nobody h)) ∙ w))
]

created_goes : (old : Table) (proc param now id n : ℕ) → Goes old (created proc param now old) id n
created_goes old proc param now id n w =
    still_idle old (created proc param now old) id n (ap (λ (x : Thread). x.state) (get_or_append_left old.threads (record { state = Ready; start = now; proc = proc; param = param; id = next_id old } ∷ []) nobody n (wants_within old n id w))) w

-- the caller is ready, and so wants no mutex
other_wants : (table : Table) (t id n : ℕ) → IsReady table t → wants id (state_at table n) ≡ true → n ≡ t → ⊥
other_wants table t id n r w e = false≢true (sym (wants_idle (state_at table n) id w) ∙ (ap (λ z. is_ready (state_at table z)) e ∙ r))

call_goes : (call : Call) (t now n id : ℕ) (old new : Table) → (n ≡ t → ⊥) → Calls call t now old new → is_mutex (handle_at old id) ≡ true → Goes old new id n
call_goes (Creates proc param) t now n id old new u c x =
    elim (cases_Bool (nat_lt (unended old) 256)) [
      | inl few ↦ at_goes old (created proc param now old) new id n (rw few at c.row) (created_goes old proc param now id n)
      | inr many ↦ at_goes old old new id n (rw many at c.row) (still_idle old old id n refl)
    ]
call_goes (CallWaits j) t now n id old new u c x = wait_goes (handle_at old j) old new t j id now n u c.row
call_goes (Detaches j) t now n id old new u c x = detach_goes (handle_at old j) old new t j id now n u c.row
call_goes Ends t now n id old new u c x =
    let over = with_state t Ended old in
    let j = (thread_at old t).id in
    let same : state_at over n ≡ state_at old n = state_other old t n (record (thread_at old t) { state = Ended }) u in
    at_goes old (ended t now old) new id n c.row (λ w. end_goes (handle_at old j) over j id now n refl (ended_stands old t c.stands c.ready) x (ap (wants id) same ∙ w))
call_goes MakesMutex t now n id old new u c x = at_goes old (with_new (Mutex None) old) new id n c.row (still_idle old (with_new (Mutex None) old) id n refl)
call_goes (Locks j) t now n id old new u c x = lock_goes (handle_at old j) old new t j id now n u c.row
call_goes (Unlocks j) t now n id old new u c x =
    tested_goes (holds (handle_at old j) t) old (with_ready t now (hand_on j now old)) new id n c.row (λ h.
    caller_goes old (hand_on j now old) t id n (record (thread_at (hand_on j now old) t) { state = Ready; start = now }) u (hand_on_goes old id j now n c.stands (holds_mutex (handle_at old j) t h).0))
call_goes (DestroysMutex j) t now n id old new u c x =
    tested_goes (is_free (handle_at old j) && (is_quiet old j && not (is_wanted old j))) old (given_up t j now old) new id n c.row (λ _. still_idle old (given_up t j now old) id n (state_other old t n (record (thread_at old t) { state = Ready; start = now }) u))
call_goes MakesCondition t now n id old new u c x = at_goes old (with_new Condition old) new id n c.row (still_idle old (with_new Condition old) id n refl)
call_goes (WaitsAt cond' mutex) t now n id old new u c x =
    let one = hand_on mutex now old in
    let more = with_queue cond' (queue_at one cond' ++ t ∷ []) one in
    tested_goes (is_condition (handle_at old cond') && holds (handle_at old mutex) t) old (queued t cond' (Listens cond' mutex) one) new id n c.row (λ test.
    let held = (and_parts (is_condition (handle_at old cond')) (holds (handle_at old mutex) t) test).1 in
    caller_goes old more t id n (record (thread_at more t) { state = Listens cond' mutex }) u (hand_on_goes old id mutex now n c.stands (holds_mutex (handle_at old mutex) t held).0))
call_goes (Signals j) t now n id old new u c x =
    let one = wake_times 1 j now old in
    tested_goes (is_condition (handle_at old j)) old (with_ready t now one) new id n c.row (λ test.
    caller_goes old one t id n (record (thread_at one t) { state = Ready; start = now }) u (wake_times_goes 1 old t j id now n u c.stands test))
call_goes (Broadcasts j) t now n id old new u c x =
    let all = wake_times (length (queue_at old j)) j now old in
    tested_goes (is_condition (handle_at old j)) old (with_ready t now all) new id n c.row (λ test.
    caller_goes old all t id n (record (thread_at all t) { state = Ready; start = now }) u (wake_times_goes (length (queue_at old j)) old t j id now n u c.stands test))
call_goes (DestroysCondition j) t now n id old new u c x =
    tested_goes (is_condition (handle_at old j) && is_quiet old j) old (given_up t j now old) new id n c.row (λ _. still_idle old (given_up t j now old) id n (state_other old t n (record (thread_at old t) { state = Ready; start = now }) u))

pub goes_as_holder : (call : Call) (t now n id : ℕ) (old new : Table) → Calls call t now old new → is_mutex (handle_at old id) ≡ true → wants id (state_at old n) ≡ true → IsReady new n → handle_at new id ≡ Mutex (Some n)
goes_as_holder call t now n id old new c x w r = call_goes call t now n id old new (other_wants old t id n c.ready w) c x w r

-- who locks a mutex and goes on holds it
taken_lock : (h : Handle) (old new : Table) (t id now : ℕ) → handle_at old id ≡ h → IsReady old t → lock_mutex h t id now old ≡ Some new → IsReady new t → handle_at new id ≡ Mutex (Some t)
taken_lock Gone old new t id now is r row f = cc
taken_lock (Joinable thread) old new t id now is r row f = cc
taken_lock Condition old new t id now is r row f = cc
taken_lock (Mutex None) old new t id now is r row f =
    let taken = with_handle id (Mutex (Some t)) old in
    let same : with_ready t now taken ≡ new = cc in
    ap (λ (z : Table). handle_at z id) (sym same) ∙ handle_same old id (Mutex (Some t)) (handle_within old id (mutex_named (handle_at old id) (ap is_mutex is)))
taken_lock (Mutex (Some holder)) old new t id now is r row f =
    let same : queued t id (Waits id) old ≡ new = cc in
    absurd (false≢true (sym (ap is_ready (state_same (with_queue id (queue_at old id ++ t ∷ []) old) t (record (thread_at old t) { state = Waits id }) (ready_within old t r))) ∙ (ap (λ (z : Table). is_ready (state_at z t)) same ∙ f)))

pub taken_by_lock : (t now id : ℕ) (old new : Table) → Calls (Locks id) t now old new → IsReady new t → handle_at new id ≡ Mutex (Some t)
taken_by_lock t now id old new c r = taken_lock (handle_at old id) old new t id now refl c.ready c.row r
