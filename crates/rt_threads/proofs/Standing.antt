use Rattle.std.proofs.Common.{◌≡◌, ℕ, ◌==◌, ◌<◌, ◌≤◌, true, false, cond, List, [], ◌∷◌, ◌++◌, Option, Some, None, length, drop, refl, ap, sym, ◌∙◌, arith, inl, inr, eq-eqb, ne_eqb}
use Rattle.std.proofs.lemmas.Bool.{false≢true, true≢false, cases_Bool, cases_eq}
use Rattle.std.proofs.lemmas.List.{length-set, length_push}
use Rattle.rt_threads.specs.declared.kinds.State.{State}
use Rattle.rt_threads.specs.declared.kinds.State.TheVariants.{Ready, Waits, Listens, Ended}
use Rattle.rt_threads.specs.declared.kinds.Thread.{Thread}
use Rattle.rt_threads.specs.declared.kinds.Handle.{Handle}
use Rattle.rt_threads.specs.declared.kinds.Handle.TheVariants.{Gone, Joinable, Mutex, Condition}
use Rattle.rt_threads.specs.Lists.{times, first_of}
use Rattle.rt_threads.specs.Table.{Table, thread_at, state_at, handle_at, queue_at, IsReady, waits_at, gave_up, with_thread, with_handle, with_queue, with_state, with_ready, queued}
use Rattle.rt_threads.specs.Rows.{is_condition, is_free}
use Rattle.rt_threads.specs.Standing.{Stands, WaitsAtIts, is_mutex, is_joinable}
use Rattle.rt_threads.proofs.Times.{times_there, times_push_same, times_push_other}
use Rattle.rt_threads.proofs.Places.{ready_within, handle_within, ready_nowhere, first_cons, first_within, first_leaves, state_same, state_other, queue_same, queue_other, handle_same, handle_other}

-- A table that stands goes on standing, change by change.

-- small facts
nil_from : (q : List ℕ) → length q ≤ 0 → q ≡ []
nil_from [] h = refl
nil_from (x ∷ xs) h = absurd (omega arith)

times_past : (k w : ℕ) (xs : List ℕ) → (w ≡ k → ⊥) → times k (w ∷ xs) ≡ times k xs
times_past k w xs n = times_there k w xs n

mutex_no_condition : (h : Handle) → is_mutex h ≡ true → is_condition h ≡ false
mutex_no_condition Gone m = refl
mutex_no_condition (Joinable t) m = refl
mutex_no_condition (Mutex h) m = refl
mutex_no_condition Condition m = cc

not_gone : (holder : Option ℕ) → Mutex holder ≡ Gone → ⊥
not_gone holder e = cc

free_none : (holder : Option ℕ) → is_free (Mutex holder) ≡ true → holder ≡ None
free_none None e = refl
free_none (Some x) e = cc

-- nobody waits at an id whose queue is empty
pub nobody_waits : (table : Table) (id t : ℕ) → Stands table → queue_at table id ≡ [] → waits_at id (state_at table t) ≡ false
nobody_waits table id t s quiet = elim (cases_Bool (waits_at id (state_at table t))) [
  | inl e ↦ absurd (omega (arith, s.queued t id ∙ ap (λ z. cond z 1 0) e, ap (times t) quiet))
  | inr e ↦ e
]

still_waits : (table : Table) (id : ℕ) (s : State) → id < length table.handles → waits_at id s ≡ false → gave_up id s ≡ false → WaitsAtIts table s → WaitsAtIts (with_handle id Gone table) s
still_waits table id Ready hid w g fits = tt
still_waits table id (Waits k) hid w g fits =
    ap is_condition (handle_other table id k Gone (λ e. true≢false (sym (eq-eqb k id e) ∙ w))) ∙ fits
still_waits table id (Listens c m) hid w g fits = (
  ap is_condition (handle_other table id c Gone (λ e. true≢false (sym (eq-eqb c id e) ∙ w))) ∙ fits.0,
  ap is_mutex (handle_other table id m Gone (λ e. true≢false (sym (eq-eqb m id e) ∙ g))) ∙ fits.1,
)
still_waits table id Ended hid w g fits = tt

-- a thread's place is as good in a table whose ids name things of the same kinds
pub waits_same : (table table' : Table) (s : State) → ((id : ℕ) → is_condition (handle_at table' id) ≡ is_condition (handle_at table id)) → ((id : ℕ) → is_mutex (handle_at table' id) ≡ is_mutex (handle_at table id)) → WaitsAtIts table s → WaitsAtIts table' s
waits_same table table' Ready c m w = tt
waits_same table table' (Waits id) c m w = c id ∙ w
waits_same table table' (Listens cond mutex) c m w = (c cond ∙ w.0, m mutex ∙ w.1)
waits_same table table' Ended c m w = tt

-- what one thread does is another thing, and it stands in no queue before and after
pub idle_stands : (table : Table) (t : ℕ) (thread : Thread) → Stands table → IsReady table t → ((id : ℕ) → waits_at id thread.state ≡ false) → WaitsAtIts (with_thread t thread table) thread.state → Stands (with_thread t thread table)
idle_stands table t thread s r none fits =
    let h = ready_within table t r in
    record {
      queued = λ k id. elim (cases_eq k t) [
        | inl e ↦ rw (e, state_same table t thread h, none id) (ready_nowhere table t s r id)
        | inr n ↦ rw (state_other table t k thread n) (s.queued k id)
      ];
      fitting = λ k. elim (cases_eq k t) [
        | inl e ↦ rw (e, state_same table t thread h) fits
        | inr n ↦ rw (state_other table t k thread n) (waits_same table (with_thread t thread table) (state_at table k) (λ _. refl) (λ _. refl) (s.fitting k))
      ];
      gone = s.gone;
      free = s.free;
      joined = s.joined;
      ids = s.ids;
      numbers = omega (arith, s.numbers, length-set table.threads t thread);
    }

pub ready_stands : (table : Table) (t now : ℕ) → Stands table → IsReady table t → Stands (with_ready t now table)
ready_stands table t now s r = idle_stands table t (record (thread_at table t) { state = Ready; start = now }) s r (λ _. refl) tt

pub ended_stands : (table : Table) (t : ℕ) → Stands table → IsReady table t → Stands (with_state t Ended table)
ended_stands table t s r = idle_stands table t (record (thread_at table t) { state = Ended }) s r (λ _. refl) tt

-- the first of a queue leaves it and is ready
pub popped_stands : (table : Table) (w id : ℕ) → Stands table → id < length table.queues → first_of (queue_at table id) ≡ Some w → Stands (with_state w Ready (with_queue id (drop 1 (queue_at table id)) table))
popped_stands table w id s hid is =
    let q = queue_at table id in
    let less = with_queue id (drop 1 q) table in
    let thread : Thread = record (thread_at table w) { state = Ready } in
    let h = first_within table w id s is in
    let cut : (k : ℕ) → length (queue_at less k) ≤ length (queue_at table k) = λ k. elim (cases_eq k id) [
      | inl e ↦ rw (e, queue_same table id (drop 1 q) hid) (omega (arith, ap (λ (z : List ℕ). length z) (first_cons q w is)))
      | inr n ↦ rw (queue_other table id k (drop 1 q) n) (omega arith)
    ] in
    let nil : (k : ℕ) → queue_at table k ≡ [] → queue_at less k ≡ [] = λ k e. nil_from (queue_at less k) (omega (arith, cut k, ap (λ (z : List ℕ). length z) e)) in
    record {
      queued = λ k j. elim (cases_eq k w) [
        | inl e ↦ rw (e, state_same less w thread h) (first_leaves table w id s hid is j)
        | inr n ↦ rw (state_other less w k thread n) (elim (cases_eq j id) [
          | inl f ↦ rw (f, queue_same table id (drop 1 q) hid) (sym (ap (times k) (first_cons q w is) ∙ times_past k w (drop 1 q) (λ g. n (sym g))) ∙ s.queued k id)
          | inr m ↦ rw (queue_other table id j (drop 1 q) m) (s.queued k j)
        ])
      ];
      fitting = λ k. elim (cases_eq k w) [
        | inl e ↦ rw (e, state_same less w thread h) tt
        | inr n ↦ rw (state_other less w k thread n) (waits_same table (with_thread w thread less) (state_at table k) (λ _. refl) (λ _. refl) (s.fitting k))
      ];
      gone = λ k g. nil k (s.gone k g);
      free = λ k g. nil k (s.free k g);
      joined = λ k g. omega (arith, cut k, s.joined k g);
      ids = length-set table.queues id (drop 1 q) ∙ s.ids;
      numbers = omega (arith, s.numbers, length-set table.threads w thread);
    }

-- a ready thread goes to the end of a queue
pub record IsGood (table : Table) (t id : ℕ) (state : State) : Type 0 where
  pub there : (k : ℕ) → waits_at k state ≡ (id == k)
  pub fits : WaitsAtIts table state
  pub named : handle_at table id ≡ Gone → ⊥
  pub taken : is_free (handle_at table id) ≡ false
  pub alone : is_joinable (handle_at table id) ≡ true → queue_at table id ≡ []

pub queued_stands : (table : Table) (t id : ℕ) (state : State) → Stands table → IsReady table t → IsGood table t id state → Stands (queued t id state table)
queued_stands table t id state s r g =
    let q = queue_at table id in
    let more = with_queue id (q ++ t ∷ []) table in
    let thread : Thread = record (thread_at table t) { state = state } in
    let h = ready_within table t r in
    let hid : id < length table.queues = omega (arith, handle_within table id g.named, s.ids) in
    record {
      queued = λ k j. elim (cases_eq k t) [
        | inl e ↦ rw (e, state_same more t thread h, g.there j) (elim (cases_eq j id) [
          | inl f ↦ rw (f, queue_same table id (q ++ t ∷ []) hid, eq-eqb id id refl) (omega (arith, times_push_same t q, ready_nowhere table t s r id))
          | inr m ↦ rw (queue_other table id j (q ++ t ∷ []) m, ne_eqb id j (λ f. m (sym f))) (ready_nowhere table t s r j)
        ])
        | inr n ↦ rw (state_other more t k thread n) (elim (cases_eq j id) [
          | inl f ↦ rw (f, queue_same table id (q ++ t ∷ []) hid) (times_push_other k t q (λ f. n (sym f)) ∙ s.queued k id)
          | inr m ↦ rw (queue_other table id j (q ++ t ∷ []) m) (s.queued k j)
        ])
      ];
      fitting = λ k. elim (cases_eq k t) [
        | inl e ↦ rw (e, state_same more t thread h) (waits_same table (with_thread t thread more) state (λ _. refl) (λ _. refl) g.fits)
        | inr n ↦ rw (state_other more t k thread n) (waits_same table (with_thread t thread more) (state_at table k) (λ _. refl) (λ _. refl) (s.fitting k))
      ];
      gone = λ k e. elim (cases_eq k id) [
        | inl f ↦ absurd (g.named (ap (handle_at table) (sym f) ∙ e))
        | inr m ↦ rw (queue_other table id k (q ++ t ∷ []) m) (s.gone k e)
      ];
      free = λ k e. elim (cases_eq k id) [
        | inl f ↦ absurd (false≢true (sym g.taken ∙ (ap (λ z. is_free (handle_at table z)) (sym f) ∙ e)))
        | inr m ↦ rw (queue_other table id k (q ++ t ∷ []) m) (s.free k e)
      ];
      joined = λ k e. elim (cases_eq k id) [
        | inl f ↦ rw (f, queue_same table id (q ++ t ∷ []) hid) (omega (arith, length_push q t, ap (λ (z : List ℕ). length z) (g.alone (ap (λ z. is_joinable (handle_at table z)) (sym f) ∙ e))))
        | inr m ↦ rw (queue_other table id k (q ++ t ∷ []) m) (s.joined k e)
      ];
      ids = length-set table.queues id (q ++ t ∷ []) ∙ s.ids;
      numbers = omega (arith, s.numbers, length-set table.threads t thread);
    }

-- A mutex has another holder, or none where nobody waits for it.
pub holder_stands : (table : Table) (id : ℕ) (holder : Option ℕ) → Stands table → is_mutex (handle_at table id) ≡ true → id < length table.handles → (holder ≡ None → queue_at table id ≡ []) → Stands (with_handle id (Mutex holder) table)
holder_stands table id holder s m hid quiet =
    let new : Handle = Mutex holder in
    let conditions : (k : ℕ) → is_condition (handle_at (with_handle id new table) k) ≡ is_condition (handle_at table k) = λ k. elim (cases_eq k id) [
      | inl e ↦ rw (e, handle_same table id new hid) (sym (mutex_no_condition (handle_at table id) m))
      | inr n ↦ rw (handle_other table id k new n) refl
    ] in
    let mutexes : (k : ℕ) → is_mutex (handle_at (with_handle id new table) k) ≡ is_mutex (handle_at table k) = λ k. elim (cases_eq k id) [
      | inl e ↦ rw (e, handle_same table id new hid) (sym m)
      | inr n ↦ rw (handle_other table id k new n) refl
    ] in
    record {
      queued = s.queued;
      fitting = λ k. waits_same table (with_handle id new table) (state_at table k) conditions mutexes (s.fitting k);
      gone = λ k e. elim (cases_eq k id) [
        | inl f ↦ absurd (not_gone holder (sym (handle_same table id new hid) ∙ (ap (handle_at (with_handle id new table)) (sym f) ∙ e)))
        | inr n ↦ s.gone k (sym (handle_other table id k new n) ∙ e)
      ];
      free = λ k e. elim (cases_eq k id) [
        | inl f ↦ ap (queue_at table) f ∙ quiet (free_none holder (ap is_free (sym (handle_same table id new hid) ∙ ap (handle_at (with_handle id new table)) (sym f)) ∙ e))
        | inr n ↦ s.free k (ap is_free (sym (handle_other table id k new n)) ∙ e)
      ];
      joined = λ k e. elim (cases_eq k id) [
        | inl f ↦ absurd (false≢true (ap is_joinable (sym (handle_same table id new hid) ∙ ap (handle_at (with_handle id new table)) (sym f)) ∙ e))
        | inr n ↦ s.joined k (ap is_joinable (sym (handle_other table id k new n)) ∙ e)
      ];
      ids = s.ids ∙ sym (length-set table.handles id new);
      numbers = omega (arith, s.numbers, length-set table.handles id new);
    }

-- An id is given up at which nobody waits, and which nobody wants back.
pub gone_stands : (table : Table) (id : ℕ) → Stands table → id < length table.handles → queue_at table id ≡ [] → ((t : ℕ) → gave_up id (state_at table t) ≡ false) → Stands (with_handle id Gone table)
gone_stands table id s hid quiet unwanted =
    record {
      queued = s.queued;
      fitting = λ t. still_waits table id (state_at table t) hid (nobody_waits table id t s quiet) (unwanted t) (s.fitting t);
      gone = λ k e. elim (cases_eq k id) [ inl f ↦ ap (queue_at table) f ∙ quiet | inr n ↦ s.gone k (sym (handle_other table id k Gone n) ∙ e) ];
      free = λ k e. elim (cases_eq k id) [ inl f ↦ ap (queue_at table) f ∙ quiet | inr n ↦ s.free k (ap is_free (sym (handle_other table id k Gone n)) ∙ e) ];
      joined = λ k e. elim (cases_eq k id) [
        | inl f ↦ omega (arith, ap (λ (z : List ℕ). length z) (ap (queue_at table) f ∙ quiet))
        | inr n ↦ s.joined k (ap is_joinable (sym (handle_other table id k Gone n)) ∙ e)
      ];
      ids = s.ids ∙ sym (length-set table.handles id Gone);
      numbers = omega (arith, s.numbers, length-set table.handles id Gone);
    }
