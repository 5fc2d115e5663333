use Rattle.std.proofs.Common.{◌≡◌, ℕ, ◌<◌, Bool, true, false, cond, List, [], ◌∷◌, ◌++◌, Option, Some, None, length, get_or, set, drop, refl, ap, sym, subst, ◌∙◌, arith, inl, inr, eqb-true}
use Rattle.std.proofs.lemmas.Bool.{false≢true, cases_eq}
use Rattle.std.proofs.lemmas.List.{get_or-set_same, set-set}
use Rattle.rt_threads.specs.declared.kinds.State.{State}
use Rattle.rt_threads.specs.declared.kinds.State.TheVariants.{Ready, Waits, Listens, Ended}
use Rattle.rt_threads.specs.declared.kinds.Thread.{Thread}
use Rattle.rt_threads.specs.declared.kinds.Handle.{Handle}
use Rattle.rt_threads.specs.declared.kinds.Handle.TheVariants.{Gone, Joinable, Mutex, Condition}
use Rattle.rt_threads.specs.Lists.{first_of}
use Rattle.rt_threads.specs.Table.{Table, nobody, thread_at, state_at, handle_at, queue_at, is_ready, IsReady, waits_at, with_queue, with_state, with_ready, queued}
use Rattle.rt_threads.specs.Rows.{is_condition, is_free, hand_to, hand_on, mutex_of, regain_from, wake, wake_first}
use Rattle.rt_threads.specs.Standing.{Stands, WaitsAtIts, is_mutex, is_joinable}
use Rattle.rt_threads.proofs.Places.{ready_within, handle_within, first_waits, first_within, none_nil, state_same, state_other, mutex_named, condition_named}
use Rattle.rt_threads.proofs.Standing.{ready_stands, popped_stands, queued_stands, holder_stands}

-- The table stands after a mutex is handed on and after a waiter is woken, and who was ready still is.

-- a thread of which two things are said one after another
state_twice : (threads : List Thread) (w : ℕ) (thread : Thread) (f : Thread → Thread) → w < length threads → ((x : Thread) → f (record x { state = Ready }) ≡ f x) → set (set threads w (record (get_or threads w nobody) { state = Ready })) w (f (get_or (set threads w (record (get_or threads w nobody) { state = Ready })) w nobody)) ≡ set threads w (f (get_or threads w nobody))
state_twice threads w thread f h same =
    let x = get_or threads w nobody in
    rw (get_or-set_same threads w (record x { state = Ready }) nobody h, set-set threads w (record x { state = Ready }) (f (record x { state = Ready }))) (ap (set threads w) (same x))

pub ready_twice : (table : Table) (w now : ℕ) → w < length table.threads → with_ready w now (with_state w Ready table) ≡ with_ready w now table
ready_twice table w now h =
    ap (λ (z : List Thread). let t : Table = record table { threads = z } in t) (state_twice table.threads w nobody (λ (x : Thread). let y : Thread = record x { state = Ready; start = now } in y) h (λ _. refl))

pub queued_twice : (table : Table) (w id : ℕ) (state : State) → w < length table.threads → queued w id state (with_state w Ready table) ≡ queued w id state table
queued_twice table w id state h =
    ap (λ (z : List Thread). let t : Table = record (with_queue id (queue_at table id ++ w ∷ []) table) { threads = z } in t) (state_twice table.threads w nobody (λ (x : Thread). let y : Thread = record x { state = state } in y) h (λ _. refl))

-- the first of a queue becomes ready
pub woken_stands : (table : Table) (w id now : ℕ) → Stands table → id < length table.queues → first_of (queue_at table id) ≡ Some w → Stands (with_ready w now (with_queue id (drop 1 (queue_at table id)) table))
woken_stands table w id now s hid is =
    let less = with_queue id (drop 1 (queue_at table id)) table in
    let h = first_within table w id s is in
    let popped = popped_stands table w id s hid is in
    let ready : IsReady (with_state w Ready less) w = ap is_ready (state_same less w (record (thread_at less w) { state = Ready }) h) in
    subst Stands (ready_twice less w now h) (ready_stands (with_state w Ready less) w now popped ready)

pub hand_to_stands : (first : Option ℕ) (table : Table) (id now : ℕ) → first_of (queue_at table id) ≡ first → Stands table → is_mutex (handle_at table id) ≡ true → Stands (hand_to first id now table)
hand_to_stands None table id now is s m = holder_stands table id None s m (handle_within table id (mutex_named (handle_at table id) m)) (λ _. none_nil (queue_at table id) is)
hand_to_stands (Some w) table id now is s m =
    let hid = handle_within table id (mutex_named (handle_at table id) m) in
    holder_stands (with_ready w now (with_queue id (drop 1 (queue_at table id)) table)) id (Some w) (woken_stands table w id now s (omega (arith, s.ids)) is) m hid (λ e. cc)

pub hand_on_stands : (table : Table) (id now : ℕ) → Stands table → is_mutex (handle_at table id) ≡ true → Stands (hand_on id now table)
hand_on_stands table id now s m = hand_to_stands (first_of (queue_at table id)) table id now refl s m

-- a thread that the entry leaves ready is, and the others are as they were
pub ready_stays : (table : Table) (w now t : ℕ) → IsReady table t → IsReady (with_ready w now table) t
ready_stays table w now t r = elim (cases_eq t w) [
  | inl e ↦ ap is_ready (ap (state_at (with_ready w now table)) e ∙ state_same table w (record (thread_at table w) { state = Ready; start = now }) (rw e at (ready_within table t r)))
  | inr n ↦ ap is_ready (state_other table w t (record (thread_at table w) { state = Ready; start = now }) n) ∙ r
]

pub hand_to_ready : (first : Option ℕ) (table : Table) (id now t : ℕ) → IsReady table t → IsReady (hand_to first id now table) t
hand_to_ready None table id now t r = r
hand_to_ready (Some w) table id now t r = ready_stays (with_queue id (drop 1 (queue_at table id)) table) w now t r

pub hand_on_ready : (table : Table) (id now t : ℕ) → IsReady table t → IsReady (hand_on id now table) t
hand_on_ready table id now t r = hand_to_ready (first_of (queue_at table id)) table id now t r

-- what is known of the thread that waits first at a condition
pub record Listener (table : Table) (w cond : ℕ) : Type 0 where
  pub state : state_at table w ≡ Listens cond (mutex_of (state_at table w))
  pub mutex : is_mutex (handle_at table (mutex_of (state_at table w))) ≡ true
  pub other : mutex_of (state_at table w) ≡ cond → ⊥

listener_of : (table : Table) (s : State) (cond : ℕ) → waits_at cond s ≡ true → is_condition (handle_at table cond) ≡ true → WaitsAtIts table s → (s ≡ Listens cond (mutex_of s)) × (is_mutex (handle_at table (mutex_of s)) ≡ true)
listener_of table Ready cond w c f = cc
listener_of table (Waits k) cond w c f = absurd (false≢true (sym f ∙ (ap (λ z. is_condition (handle_at table z)) (eqb-true k cond w) ∙ c)))
listener_of table (Listens k m) cond w c f = (ap (λ z. Listens z m) (eqb-true k cond w), f.1)
listener_of table Ended cond w c f = cc

pub no_both : (h : Handle) → is_condition h ≡ true → is_mutex h ≡ true → ⊥
no_both Gone c m = cc
no_both (Joinable t) c m = cc
no_both (Mutex h) c m = cc
no_both Condition c m = cc

pub listener : (table : Table) (w cond : ℕ) → Stands table → is_condition (handle_at table cond) ≡ true → first_of (queue_at table cond) ≡ Some w → Listener table w cond
listener table w cond s c is =
    let l = listener_of table (state_at table w) cond (first_waits table w cond s is) c (s.fitting w) in
    record { state = l.0; mutex = l.1; other = λ e. no_both (handle_at table cond) c (ap (λ z. is_mutex (handle_at table z)) (sym e) ∙ l.1) }

pub not_condition : (h : Handle) → is_mutex h ≡ true → is_condition h ≡ false
not_condition Gone m = cc
not_condition (Joinable t) m = cc
not_condition (Mutex h) m = refl
not_condition Condition m = cc

pub no_join : (h : Handle) → is_joinable h ≡ true → is_mutex h ≡ true → ⊥
no_join Gone j m = cc
no_join (Joinable t) j m = cc
no_join (Mutex h) j m = cc
no_join Condition j m = cc

regain_stands : (free : Bool) (table : Table) (w cond mutex now : ℕ) → is_free (handle_at table mutex) ≡ free → Stands table → cond < length table.queues → first_of (queue_at table cond) ≡ Some w → is_mutex (handle_at table mutex) ≡ true → (mutex ≡ cond → ⊥) → Stands (regain_from free w mutex now (with_queue cond (drop 1 (queue_at table cond)) table))
regain_stands true table w cond mutex now is s hc first m other =
    let hm = handle_within table mutex (mutex_named (handle_at table mutex) m) in
    holder_stands (with_ready w now (with_queue cond (drop 1 (queue_at table cond)) table)) mutex (Some w) (woken_stands table w cond now s hc first) m hm (λ e. cc)
regain_stands false table w cond mutex now is s hc first m other =
    let less = with_queue cond (drop 1 (queue_at table cond)) table in
    let h = first_within table w cond s first in
    let popped = popped_stands table w cond s hc first in
    let ready : IsReady (with_state w Ready less) w = ap is_ready (state_same less w (record (thread_at less w) { state = Ready }) h) in
    subst Stands (queued_twice less w mutex (Waits mutex) h) (queued_stands (with_state w Ready less) w mutex (Waits mutex) popped ready (record {
      there = λ _. refl;
      fits = not_condition (handle_at table mutex) m;
      named = mutex_named (handle_at table mutex) m;
      taken = is;
      alone = λ j. absurd (no_join (handle_at table mutex) j m);
    }))

pub wake_stands : (first : Option ℕ) (table : Table) (cond now : ℕ) → first_of (queue_at table cond) ≡ first → Stands table → is_condition (handle_at table cond) ≡ true → Stands (wake first cond now table)
wake_stands None table cond now is s c = s
wake_stands (Some w) table cond now is s c =
    let l = listener table w cond s c is in
    let hc = handle_within table cond (condition_named (handle_at table cond) c) in
    regain_stands (is_free (handle_at table (mutex_of (state_at table w)))) table w cond (mutex_of (state_at table w)) now refl s (omega (arith, s.ids)) is l.mutex l.other

pub wake_first_stands : (table : Table) (cond now : ℕ) → Stands table → is_condition (handle_at table cond) ≡ true → Stands (wake_first cond now table)
wake_first_stands table cond now s c = wake_stands (first_of (queue_at table cond)) table cond now refl s c
