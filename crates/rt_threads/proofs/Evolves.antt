use Rattle.std.proofs.Common.{◌≡◌, ℕ, zero, suc, ◌+◌, ◌-◌, ◌<◌, ◌≤◌, Bool, true, false, cond, not, ◌&&◌, List, [], ◌∷◌, ◌++◌, Option, Some, None, nat_lt, length, drop, refl, ap, sym, subst, ◌∙◌, arith, inl, inr, append-nil, append_assoc}
use Rattle.std.proofs.lemmas.Bool.{false≢true, true≢false, cases_eq, cases_Bool, and_parts}
use Rattle.std.proofs.lemmas.List.{length-set, length_push, get_or_append_left, drop-drop}
use Rattle.rt_threads.specs.declared.kinds.State.{State}
use Rattle.rt_threads.specs.declared.kinds.State.TheVariants.{Ready, Waits, Listens, Ended}
use Rattle.rt_threads.specs.declared.kinds.Thread.{Thread}
use Rattle.rt_threads.specs.declared.kinds.Handle.{Handle}
use Rattle.rt_threads.specs.declared.kinds.Handle.TheVariants.{Gone, Joinable, Mutex, Condition}
use Rattle.rt_threads.specs.Lists.{first_of}
use Rattle.rt_threads.specs.Table.{Table, nobody, thread_at, state_at, handle_at, queue_at, has_ended, IsReady, with_thread, with_handle, with_queue, with_state, with_ready, queued}
use Rattle.rt_threads.specs.Rows.{created, with_new, unended, is_condition, is_free, is_quiet, is_wanted, holds, given_up, wait_for, detach_from, wake_waiter, end_of, ended, lock_mutex, hand_to, hand_on, mutex_of, regain_from, wake, wake_first, wake_times, next_id}
use Rattle.rt_threads.specs.Standing.{Stands, is_mutex, is_joinable}
use Rattle.rt_threads.specs.Laws.{Call, Creates, Waits as CallWaits, Detaches, Ends, MakesMutex, Locks, Unlocks, DestroysMutex, MakesCondition, WaitsAt, Signals, Broadcasts, DestroysCondition, Calls, MovesOn}
use Rattle.rt_threads.proofs.Places.{ready_not_ended, waiting_not_ended, first_waits, mutex_named, condition_named, joinable_named, free_named, holds_mutex, handle_within, state_other, queue_same, queue_other, handle_other}
use Rattle.rt_threads.proofs.Standing.{ended_stands}
use Rattle.rt_threads.proofs.Keeping.{hand_on_stands, hand_on_ready, wake_first_stands, listener}
use Rattle.rt_threads.proofs.Woken.{wake_first_shorter}
use Rattle.rt_threads.proofs.Grown.{default_push, with_more}

-- What no call of thread t undoes, change by change.

pub record Evolves (t : ℕ) (old new : Table) : Type 0 where
  pub queues : (id : ℕ) → MovesOn (queue_at old id) (queue_at new id)
  pub ended : (n : ℕ) → n < length old.threads → has_ended (state_at old n) ≡ true → has_ended (state_at new n) ≡ true
  pub gone : (id : ℕ) → id < length old.handles → handle_at old id ≡ Gone → handle_at new id ≡ Gone
  pub held : (id holder : ℕ) → (holder ≡ t → ⊥) → handle_at old id ≡ Mutex (Some holder) → handle_at new id ≡ Mutex (Some holder)
  pub ids : length old.handles ≤ length new.handles
  pub threads : length old.threads ≤ length new.threads

mutex_gone : (holder : ℕ) → Mutex (Some holder) ≡ Gone → ⊥
mutex_gone holder e = cc

join_mutex : (thread holder : ℕ) → Joinable thread ≡ Mutex (Some holder) → ⊥
join_mutex thread holder e = cc

holders_same : (a b : ℕ) → Mutex (Some a) ≡ Mutex (Some b) → a ≡ b
holders_same a b e = cc

none_new : (new : Table) → None ≡ Some new → ⊥
none_new new e = cc

drop_append : (n : ℕ) (xs ys : List ℕ) → drop n (xs ++ ys) ≡ drop n xs ++ drop (n - length xs) ys
drop_append zero xs ys = let e : zero ≡ zero - length xs = omega arith in ap (λ (z : ℕ). xs ++ drop z ys) e
drop_append (suc n) [] ys = let e : suc n ≡ suc n - zero = omega arith in ap (λ (z : ℕ). drop z ys) e
drop_append (suc n) (x ∷ xs) ys = drop_append n xs ys ∙ (let e : n - length xs ≡ suc n - suc (length xs) = omega arith in ap (λ (z : ℕ). drop n xs ++ drop z ys) e)

moves_none : (q : List ℕ) → MovesOn q q
moves_none q = (0, [], sym (append-nil q))

moves_then : (a b c : List ℕ) → MovesOn a b → MovesOn b c → MovesOn a c
moves_then a b c first second =
    let k = first.0 in
    let m = first.1 in
    let j = second.0 in (
      k + j,
      drop (j - length (drop k a)) m ++ second.1,
      second.2 ∙ (ap (λ z. drop j z ++ second.1) first.2 ∙ (ap (λ z. z ++ second.1) (drop_append j (drop k a) m ∙ ap (λ z. z ++ drop (j - length (drop k a)) m) (drop-drop j k a)) ∙ append_assoc (drop (k + j) a) (drop (j - length (drop k a)) m) second.1)),
    )

pub same_evolves : (t : ℕ) (table : Table) → Evolves t table table
same_evolves t table = record {
  queues = λ id. moves_none (queue_at table id);
  ended = λ n h e. e;
  gone = λ id h e. e;
  held = λ id holder n e. e;
  ids = omega arith;
  threads = omega arith;
}

pub evolves_then : (t : ℕ) (a b c : Table) → Evolves t a b → Evolves t b c → Evolves t a c
evolves_then t a b c x y = record {
  queues = λ id. moves_then (queue_at a id) (queue_at b id) (queue_at c id) (x.queues id) (y.queues id);
  ended = λ n h e. y.ended n (omega (arith, x.threads)) (x.ended n h e);
  gone = λ id h e. y.gone id (omega (arith, x.ids)) (x.gone id h e);
  held = λ id holder n e. y.held id holder n (x.held id holder n e);
  ids = omega (arith, x.ids, y.ids);
  threads = omega (arith, x.threads, y.threads);
}

-- one thread, which has not ended, does another thing
thread_evolves : (t w : ℕ) (table : Table) (thread : Thread) → has_ended (state_at table w) ≡ false → Evolves t table (with_thread w thread table)
thread_evolves t w table thread alive = record {
  queues = λ id. moves_none (queue_at table id);
  ended = λ n h e. elim (cases_eq n w) [
    | inl f ↦ absurd (true≢false (sym e ∙ (ap (λ z. has_ended (state_at table z)) f ∙ alive)))
    | inr m ↦ ap has_ended (state_other table w n thread m) ∙ e
  ];
  gone = λ id h e. e;
  held = λ id holder n e. e;
  ids = omega arith;
  threads = omega (arith, length-set table.threads w thread);
}

-- an id that named something, and no other thread's mutex, names another thing
handle_evolves : (t id : ℕ) (table : Table) (h : Handle) → (handle_at table id ≡ Gone → ⊥) → ((holder : ℕ) → handle_at table id ≡ Mutex (Some holder) → holder ≡ t) → Evolves t table (with_handle id h table)
handle_evolves t id table h named own = record {
  queues = λ k. moves_none (queue_at table k);
  ended = λ n b e. e;
  gone = λ k b e. elim (cases_eq k id) [
    | inl f ↦ absurd (named (ap (handle_at table) (sym f) ∙ e))
    | inr m ↦ handle_other table id k h m ∙ e
  ];
  held = λ k holder n e. elim (cases_eq k id) [
    | inl f ↦ absurd (n (own holder (ap (handle_at table) (sym f) ∙ e)))
    | inr m ↦ handle_other table id k h m ∙ e
  ];
  ids = omega (arith, length-set table.handles id h);
  threads = omega arith;
}

-- a queue moves on
queue_evolves : (t id : ℕ) (table : Table) (q : List ℕ) → id < length table.queues → MovesOn (queue_at table id) q → Evolves t table (with_queue id q table)
queue_evolves t id table q h moves = record {
  queues = λ k. elim (cases_eq k id) [
    | inl f ↦ rw (f, queue_same table id q h) moves
    | inr m ↦ rw (queue_other table id k q m) (moves_none (queue_at table k))
  ];
  ended = λ n b e. e;
  gone = λ k b e. e;
  held = λ k holder n e. e;
  ids = omega arith;
  threads = omega arith;
}

ready_evolves : (t w now : ℕ) (table : Table) → has_ended (state_at table w) ≡ false → Evolves t table (with_ready w now table)
ready_evolves t w now table alive = thread_evolves t w table (record (thread_at table w) { state = Ready; start = now }) alive

popped_evolves : (t id : ℕ) (table : Table) → id < length table.queues → Evolves t table (with_queue id (drop 1 (queue_at table id)) table)
popped_evolves t id table h = queue_evolves t id table (drop 1 (queue_at table id)) h (1, [], sym (append-nil (drop 1 (queue_at table id))))

queued_evolves : (t w id : ℕ) (state : State) (table : Table) → id < length table.queues → has_ended (state_at table w) ≡ false → Evolves t table (queued w id state table)
queued_evolves t w id state table h alive =
    let more = with_queue id (queue_at table id ++ w ∷ []) table in
    evolves_then t table more (queued w id state table) (queue_evolves t id table (queue_at table id ++ w ∷ []) h (0, w ∷ [], refl)) (thread_evolves t w more (record (thread_at more w) { state = state }) alive)

given_up_evolves : (t id now : ℕ) (table : Table) → IsReady table t → (handle_at table id ≡ Gone → ⊥) → ((holder : ℕ) → handle_at table id ≡ Mutex (Some holder) → holder ≡ t) → Evolves t table (given_up t id now table)
given_up_evolves t id now table r named own =
    evolves_then t table (with_handle id Gone table) (given_up t id now table) (handle_evolves t id table Gone named own) (ready_evolves t t now (with_handle id Gone table) (ready_not_ended (state_at table t) r))

hand_to_evolves : (first : Option ℕ) (t id now : ℕ) (table : Table) → first_of (queue_at table id) ≡ first → Stands table → handle_at table id ≡ Mutex (Some t) → Evolves t table (hand_to first id now table)
hand_to_evolves None t id now table is s m = handle_evolves t id table (Mutex None) (λ e. mutex_gone t (sym m ∙ e)) (λ holder e. holders_same holder t (sym e ∙ m))
hand_to_evolves (Some w) t id now table is s m =
    let hq : id < length table.queues = omega (arith, s.ids, handle_within table id (λ e. mutex_gone t (sym m ∙ e))) in
    let less = with_queue id (drop 1 (queue_at table id)) table in
    let awake = with_ready w now less in
    evolves_then t table less (hand_to (Some w) id now table) (popped_evolves t id table hq)
    (evolves_then t less awake (hand_to (Some w) id now table) (ready_evolves t w now less (waiting_not_ended (state_at table w) id (first_waits table w id s is)))
    (handle_evolves t id awake (Mutex (Some w)) (λ e. mutex_gone t (sym m ∙ e)) (λ holder e. holders_same holder t (sym e ∙ m))))

hand_on_evolves : (t id now : ℕ) (table : Table) → Stands table → handle_at table id ≡ Mutex (Some t) → Evolves t table (hand_on id now table)
hand_on_evolves t id now table s m = hand_to_evolves (first_of (queue_at table id)) t id now table refl s m

regain_evolves : (free : Bool) (t w cond' m now : ℕ) (table : Table) → is_free (handle_at table m) ≡ free → cond' < length table.queues → m < length table.queues → has_ended (state_at table w) ≡ false → Evolves t table (regain_from free w m now (with_queue cond' (drop 1 (queue_at table cond')) table))
regain_evolves true t w cond' m now table is hc hm alive =
    let less = with_queue cond' (drop 1 (queue_at table cond')) table in
    let taken = with_handle m (Mutex (Some w)) less in
    evolves_then t table less (with_ready w now taken) (popped_evolves t cond' table hc)
    (evolves_then t less taken (with_ready w now taken) (handle_evolves t m less (Mutex (Some w)) (free_named (handle_at table m) is) (λ holder e. absurd (false≢true (sym (ap is_free e) ∙ is)))) (ready_evolves t w now taken alive))
regain_evolves false t w cond' m now table is hc hm alive =
    let less = with_queue cond' (drop 1 (queue_at table cond')) table in
    evolves_then t table less (queued w m (Waits m) less) (popped_evolves t cond' table hc) (queued_evolves t w m (Waits m) less (omega (arith, length-set table.queues cond' (drop 1 (queue_at table cond')))) alive)

wake_evolves : (first : Option ℕ) (t cond' now : ℕ) (table : Table) → first_of (queue_at table cond') ≡ first → Stands table → is_condition (handle_at table cond') ≡ true → Evolves t table (wake first cond' now table)
wake_evolves None t cond' now table is s c = same_evolves t table
wake_evolves (Some w) t cond' now table is s c =
    let m = mutex_of (state_at table w) in
    let l = listener table w cond' s c is in
    regain_evolves (is_free (handle_at table m)) t w cond' m now table refl
    (omega (arith, s.ids, handle_within table cond' (condition_named (handle_at table cond') c)))
    (omega (arith, s.ids, handle_within table m (mutex_named (handle_at table m) l.mutex)))
    (waiting_not_ended (state_at table w) cond' (first_waits table w cond' s is))

wake_first_evolves : (t cond' now : ℕ) (table : Table) → Stands table → is_condition (handle_at table cond') ≡ true → Evolves t table (wake_first cond' now table)
wake_first_evolves t cond' now table s c = wake_evolves (first_of (queue_at table cond')) t cond' now table refl s c

-- after so many are woken the table has evolved, and is one on which the caller can go on
pub record Awoken (t cond' : ℕ) (old new : Table) : Type 0 where
  pub evolves : Evolves t old new
  pub stands : Stands new
  pub ready : IsReady old t → IsReady new t

pub wake_times_awoken : (n t cond' now : ℕ) (table : Table) → Stands table → is_condition (handle_at table cond') ≡ true → Awoken t cond' table (wake_times n cond' now table)
wake_times_awoken zero t cond' now table s c = record { evolves = same_evolves t table; stands = s; ready = λ r. r }
wake_times_awoken (suc n) t cond' now table s c =
    let next = wake_first cond' now table in
    let short = wake_first_shorter table cond' now s c in
    let rest = wake_times_awoken n t cond' now next (wake_first_stands table cond' now s c) short.condition in
    record {
      evolves = evolves_then t table next (wake_times n cond' now next) (wake_first_evolves t cond' now table s c) rest.evolves;
      stands = rest.stands;
      ready = λ r. rest.ready (short.ready t r);
    }

waiter_evolves : (first : Option ℕ) (t id now : ℕ) (table : Table) → first_of (queue_at table id) ≡ first → Stands table → is_joinable (handle_at table id) ≡ true → Evolves t table (wake_waiter first id now table)
waiter_evolves None t id now table is s j = same_evolves t table
waiter_evolves (Some w) t id now table is s j =
    let named = joinable_named (handle_at table id) j in
    let less = with_queue id (drop 1 (queue_at table id)) table in
    let awake = with_ready w now less in
    evolves_then t table less (wake_waiter (Some w) id now table) (popped_evolves t id table (omega (arith, s.ids, handle_within table id named)))
    (evolves_then t less awake (wake_waiter (Some w) id now table) (ready_evolves t w now less (waiting_not_ended (state_at table w) id (first_waits table w id s is)))
    (handle_evolves t id awake Gone named (λ holder e. absurd (false≢true (sym (ap is_joinable e) ∙ j)))))

pub end_evolves : (h : Handle) (t id now : ℕ) (table : Table) → handle_at table id ≡ h → Stands table → Evolves t table (end_of h id now table)
end_evolves Gone t id now table is s = same_evolves t table
end_evolves (Joinable thread) t id now table is s = waiter_evolves (first_of (queue_at table id)) t id now table refl s (ap is_joinable is)
end_evolves (Mutex h) t id now table is s = same_evolves t table
end_evolves Condition t id now table is s = same_evolves t table

ended_evolves : (t now : ℕ) (table : Table) → Stands table → IsReady table t → Evolves t table (ended t now table)
ended_evolves t now table s r =
    let over = with_state t Ended table in
    let id = (thread_at table t).id in
    evolves_then t table over (ended t now table) (thread_evolves t t table (record (thread_at table t) { state = Ended }) (ready_not_ended (state_at table t) r)) (end_evolves (handle_at table id) t id now over refl (ended_stands table t s r))

new_evolves : (t : ℕ) (h : Handle) (table : Table) → Evolves t table (with_new h table)
new_evolves t h table = record {
  queues = λ id. rw (default_push table.queues [] id) (moves_none (queue_at table id));
  ended = λ n b e. e;
  gone = λ id b e. get_or_append_left table.handles (h ∷ []) Gone id b ∙ e;
  held = λ id holder n e. get_or_append_left table.handles (h ∷ []) Gone id (handle_within table id (λ f. mutex_gone holder (sym e ∙ f))) ∙ e;
  ids = omega (arith, length_push table.handles h);
  threads = omega arith;
}

more_evolves : (t : ℕ) (thread : Thread) (table : Table) → Evolves t table (with_more thread table)
more_evolves t thread table = record {
  queues = λ id. moves_none (queue_at table id);
  ended = λ n b e. ap (λ (x : Thread). has_ended x.state) (get_or_append_left table.threads (thread ∷ []) nobody n b) ∙ e;
  gone = λ id b e. e;
  held = λ id holder n e. e;
  ids = omega arith;
  threads = omega (arith, length_push table.threads thread);
}

created_evolves : (t proc param now : ℕ) (table : Table) → Evolves t table (created proc param now table)
created_evolves t proc param now table =
    let grown = with_new (Joinable (length table.threads)) table in
    evolves_then t table grown (created proc param now table) (new_evolves t (Joinable (length table.threads)) table) (more_evolves t (record { state = Ready; start = now; proc = proc; param = param; id = next_id table }) grown)

-- a row behind a test, and a row at its table
some_evolves : (t : ℕ) (old a new : Table) → Some a ≡ Some new → Evolves t old a → Evolves t old new
some_evolves t old a new e x = let same : a ≡ new = cc in subst (λ (z : Table). Evolves t old z) same x

if_evolves : (test : Bool) (t : ℕ) (old a new : Table) → cond test (Some a) None ≡ Some new → (test ≡ true → Evolves t old a) → Evolves t old new
if_evolves true t old a new e x = some_evolves t old a new e (x refl)
if_evolves false t old a new e x = cc

wait_evolves : (h : Handle) (t id now : ℕ) (old new : Table) → handle_at old id ≡ h → Stands old → IsReady old t → wait_for h t id now old ≡ Some new → Evolves t old new
wait_evolves Gone t id now old new is s r row = cc
wait_evolves (Mutex h) t id now old new is s r row = cc
wait_evolves Condition t id now old new is s r row = cc
wait_evolves (Joinable thread) t id now old new is s r row =
    let named = joinable_named (handle_at old id) (ap is_joinable is) in
    elim (cases_Bool (is_quiet old id)) [
      | inl quiet ↦ elim (cases_Bool (has_ended (state_at old thread))) [
        | inl over ↦ some_evolves t old (given_up t id now old) new (rw (quiet, over) at row) (given_up_evolves t id now old r named (λ holder e. absurd (join_mutex thread holder (sym is ∙ e))))
        | inr over ↦ some_evolves t old (queued t id (Waits id) old) new (rw (quiet, over) at row) (queued_evolves t t id (Waits id) old (omega (arith, s.ids, handle_within old id named)) (ready_not_ended (state_at old t) r))
      ]
      | inr busy ↦ absurd (none_new new (rw busy at row))
    ]

detach_evolves : (h : Handle) (t id now : ℕ) (old new : Table) → handle_at old id ≡ h → IsReady old t → detach_from h t id now old ≡ Some new → Evolves t old new
detach_evolves Gone t id now old new is r row = cc
detach_evolves (Mutex h) t id now old new is r row = cc
detach_evolves Condition t id now old new is r row = cc
detach_evolves (Joinable thread) t id now old new is r row =
    if_evolves (is_quiet old id) t old (given_up t id now old) new row (λ _. given_up_evolves t id now old r (joinable_named (handle_at old id) (ap is_joinable is)) (λ holder e. absurd (join_mutex thread holder (sym is ∙ e))))

lock_evolves : (h : Handle) (t id now : ℕ) (old new : Table) → handle_at old id ≡ h → Stands old → IsReady old t → lock_mutex h t id now old ≡ Some new → Evolves t old new
lock_evolves Gone t id now old new is s r row = cc
lock_evolves (Joinable thread) t id now old new is s r row = cc
lock_evolves Condition t id now old new is s r row = cc
lock_evolves (Mutex None) t id now old new is s r row =
    let taken = with_handle id (Mutex (Some t)) old in
    some_evolves t old (with_ready t now taken) new row (evolves_then t old taken (with_ready t now taken)
    (handle_evolves t id old (Mutex (Some t)) (free_named (handle_at old id) (ap is_free is)) (λ holder e. absurd (false≢true (sym (ap is_free e) ∙ ap is_free is))))
    (ready_evolves t t now taken (ready_not_ended (state_at old t) r)))
lock_evolves (Mutex (Some holder)) t id now old new is s r row =
    some_evolves t old (queued t id (Waits id) old) new row (queued_evolves t t id (Waits id) old (omega (arith, s.ids, handle_within old id (mutex_named (handle_at old id) (ap is_mutex is)))) (ready_not_ended (state_at old t) r))

pub call_evolves : (call : Call) (t now : ℕ) (old new : Table) → Calls call t now old new → Evolves t old new
call_evolves (Creates proc param) t now old new c =
    elim (cases_Bool (nat_lt (unended old) 256)) [
      | inl few ↦ some_evolves t old (created proc param now old) new (rw few at c.row) (created_evolves t proc param now old)
      | inr many ↦ some_evolves t old old new (rw many at c.row) (same_evolves t old)
    ]
call_evolves (CallWaits id) t now old new c = wait_evolves (handle_at old id) t id now old new refl c.stands c.ready c.row
call_evolves (Detaches id) t now old new c = detach_evolves (handle_at old id) t id now old new refl c.ready c.row
call_evolves Ends t now old new c = some_evolves t old (ended t now old) new c.row (ended_evolves t now old c.stands c.ready)
call_evolves MakesMutex t now old new c = some_evolves t old (with_new (Mutex None) old) new c.row (new_evolves t (Mutex None) old)
call_evolves (Locks id) t now old new c = lock_evolves (handle_at old id) t id now old new refl c.stands c.ready c.row
call_evolves (Unlocks id) t now old new c =
    if_evolves (holds (handle_at old id) t) t old (with_ready t now (hand_on id now old)) new c.row (λ h.
    evolves_then t old (hand_on id now old) (with_ready t now (hand_on id now old)) (hand_on_evolves t id now old c.stands (holds_mutex (handle_at old id) t h).1)
    (ready_evolves t t now (hand_on id now old) (ready_not_ended (state_at (hand_on id now old) t) (hand_on_ready old id now t c.ready))))
call_evolves (DestroysMutex id) t now old new c =
    if_evolves (is_free (handle_at old id) && (is_quiet old id && not (is_wanted old id))) t old (given_up t id now old) new c.row (λ test.
    let free = (and_parts (is_free (handle_at old id)) (is_quiet old id && not (is_wanted old id)) test).0 in
    given_up_evolves t id now old c.ready (free_named (handle_at old id) free) (λ holder e. absurd (false≢true (sym (ap is_free e) ∙ free))))
call_evolves MakesCondition t now old new c = some_evolves t old (with_new Condition old) new c.row (new_evolves t Condition old)
call_evolves (WaitsAt cond' mutex) t now old new c =
    if_evolves (is_condition (handle_at old cond') && holds (handle_at old mutex) t) t old (queued t cond' (Listens cond' mutex) (hand_on mutex now old)) new c.row (λ test.
    let parts = and_parts (is_condition (handle_at old cond')) (holds (handle_at old mutex) t) test in
    let one = hand_on mutex now old in
    let first = hand_on_evolves t mutex now old c.stands (holds_mutex (handle_at old mutex) t parts.1).1 in
    let s1 = hand_on_stands old mutex now c.stands (holds_mutex (handle_at old mutex) t parts.1).0 in
    evolves_then t old one (queued t cond' (Listens cond' mutex) one) first
    (queued_evolves t t cond' (Listens cond' mutex) one (omega (arith, s1.ids, first.ids, handle_within old cond' (condition_named (handle_at old cond') parts.0))) (ready_not_ended (state_at one t) (hand_on_ready old mutex now t c.ready))))
call_evolves (Signals id) t now old new c =
    if_evolves (is_condition (handle_at old id)) t old (with_ready t now (wake_first id now old)) new c.row (λ test.
    evolves_then t old (wake_first id now old) (with_ready t now (wake_first id now old)) (wake_first_evolves t id now old c.stands test)
    (ready_evolves t t now (wake_first id now old) (ready_not_ended (state_at (wake_first id now old) t) ((wake_first_shorter old id now c.stands test).ready t c.ready))))
call_evolves (Broadcasts id) t now old new c =
    let all = wake_times (length (queue_at old id)) id now old in
    if_evolves (is_condition (handle_at old id)) t old (with_ready t now all) new c.row (λ test.
    let woken = wake_times_awoken (length (queue_at old id)) t id now old c.stands test in
    evolves_then t old all (with_ready t now all) woken.evolves (ready_evolves t t now all (ready_not_ended (state_at all t) (woken.ready c.ready))))
call_evolves (DestroysCondition id) t now old new c =
    if_evolves (is_condition (handle_at old id) && is_quiet old id) t old (given_up t id now old) new c.row (λ test.
    let condition = (and_parts (is_condition (handle_at old id)) (is_quiet old id) test).0 in
    given_up_evolves t id now old c.ready (condition_named (handle_at old id) condition) (λ holder e. absurd (false≢true (sym (ap is_condition e) ∙ condition))))
