use Rattle.std.proofs.Common.{◌≡◌, ℕ, ◌+◌, ◌<◌, Bool, true, false, cond, List, [], ◌∷◌, Some, None, is_none, length, drop, refl, ap, sym, ◌∙◌, arith, inl, inr, eqb-true, ne_eqb}
use Rattle.std.proofs.lemmas.Bool.{false≢true, cases_lt, cases_eq}
use Rattle.std.proofs.lemmas.List.{get_or_past, get_or-set_same, get_or-set_other}
use Rattle.rt_threads.specs.declared.kinds.State.{State}
use Rattle.rt_threads.specs.declared.kinds.State.TheVariants.{Ready, Waits, Listens, Ended}
use Rattle.rt_threads.specs.declared.kinds.Thread.{Thread}
use Rattle.rt_threads.specs.declared.kinds.Handle.{Handle}
use Rattle.rt_threads.specs.declared.kinds.Handle.TheVariants.{Gone, Joinable, Mutex, Condition}
use Rattle.rt_threads.specs.Lists.{times, first_of}
use Rattle.rt_threads.specs.Table.{Table, nobody, state_at, handle_at, queue_at, is_ready, has_ended, IsReady, waits_at, gave_up, with_thread, with_handle, with_queue}
use Rattle.rt_threads.specs.Rows.{is_condition, is_free, holds}
use Rattle.rt_threads.specs.Standing.{Stands, is_mutex, is_joinable}
use Rattle.rt_threads.proofs.Times.{times_here}

-- Where threads and ids are, and who waits where.

pub ready_within : (table : Table) (t : ℕ) → IsReady table t → t < length table.threads
ready_within table t r = elim (cases_lt t (length table.threads)) [
  | inl h ↦ h
  | inr h ↦ absurd (false≢true (sym (ap (λ (x : Thread). is_ready x.state) (get_or_past table.threads t nobody h)) ∙ r))
]

pub handle_within : (table : Table) (id : ℕ) → (handle_at table id ≡ Gone → ⊥) → id < length table.handles
handle_within table id n = elim (cases_lt id (length table.handles)) [
  | inl h ↦ h
  | inr h ↦ absurd (n (get_or_past table.handles id Gone h))
]

pub mutex_named : (h : Handle) → is_mutex h ≡ true → h ≡ Gone → ⊥
mutex_named h m e = false≢true (sym (ap is_mutex e) ∙ m)

pub condition_named : (h : Handle) → is_condition h ≡ true → h ≡ Gone → ⊥
condition_named h m e = false≢true (sym (ap is_condition e) ∙ m)

pub free_named : (h : Handle) → is_free h ≡ true → h ≡ Gone → ⊥
free_named h m e = false≢true (sym (ap is_free e) ∙ m)

pub joinable_named : (h : Handle) → is_joinable h ≡ true → h ≡ Gone → ⊥
joinable_named h m e = false≢true (sym (ap is_joinable e) ∙ m)

pub free_mutex : (h : Handle) → is_free h ≡ true → is_mutex h ≡ true
free_mutex Gone f = cc
free_mutex (Joinable t) f = cc
free_mutex (Mutex None) f = refl
free_mutex (Mutex (Some t)) f = cc
free_mutex Condition f = cc

pub holds_mutex : (h : Handle) (t : ℕ) → holds h t ≡ true → (is_mutex h ≡ true) × (h ≡ Mutex (Some t))
holds_mutex Gone t f = cc
holds_mutex (Joinable x) t f = cc
holds_mutex (Mutex None) t f = cc
holds_mutex (Mutex (Some x)) t f = (refl, ap (λ z. Mutex (Some z)) (eqb-true x t f))
holds_mutex Condition t f = cc

pub ready_waits_nowhere : (s : State) → is_ready s ≡ true → (id : ℕ) → waits_at id s ≡ false
ready_waits_nowhere Ready r id = refl
ready_waits_nowhere (Waits k) r id = cc
ready_waits_nowhere (Listens c m) r id = cc
ready_waits_nowhere Ended r id = refl

pub ready_gave_none : (s : State) → is_ready s ≡ true → (id : ℕ) → gave_up id s ≡ false
ready_gave_none Ready r id = refl
ready_gave_none (Waits k) r id = refl
ready_gave_none (Listens c m) r id = cc
ready_gave_none Ended r id = refl

pub ready_not_ended : (s : State) → is_ready s ≡ true → has_ended s ≡ false
ready_not_ended Ready r = refl
ready_not_ended (Waits k) r = refl
ready_not_ended (Listens c m) r = refl
ready_not_ended Ended r = cc

pub waiting_not_ended : (s : State) (id : ℕ) → waits_at id s ≡ true → has_ended s ≡ false
waiting_not_ended Ready id r = refl
waiting_not_ended (Waits k) id r = refl
waiting_not_ended (Listens c m) id r = refl
waiting_not_ended Ended id r = cc

pub one_place : (s : State) (i j : ℕ) → waits_at i s ≡ true → (j ≡ i → ⊥) → waits_at j s ≡ false
one_place Ready i j w n = refl
one_place (Waits k) i j w n = ne_eqb k j (λ e. n (sym e ∙ eqb-true k i w))
one_place (Listens c m) i j w n = ne_eqb c j (λ e. n (sym e ∙ eqb-true c i w))
one_place Ended i j w n = refl

pub ready_nowhere : (table : Table) (t : ℕ) → Stands table → IsReady table t → (k : ℕ) → times t (queue_at table k) ≡ 0
ready_nowhere table t s r k = s.queued t k ∙ ap (λ z. cond z 1 0) (ready_waits_nowhere (state_at table t) r k)

pub waits_within : (table : Table) (t id : ℕ) → waits_at id (state_at table t) ≡ true → t < length table.threads
waits_within table t id w = elim (cases_lt t (length table.threads)) [
  | inl h ↦ h
  | inr h ↦ absurd (false≢true (sym (ap (λ (x : Thread). waits_at id x.state) (get_or_past table.threads t nobody h)) ∙ w))
]

pub first_cons : (q : List ℕ) (w : ℕ) → first_of q ≡ Some w → q ≡ w ∷ drop 1 q
first_cons [] w is = cc
first_cons (x ∷ xs) w is = let e : x ≡ w = cc in ap (λ z. z ∷ xs) e

pub quiet_nil : (q : List ℕ) → is_none (first_of q) ≡ true → q ≡ []
quiet_nil [] is = refl
quiet_nil (x ∷ xs) is = cc

pub none_nil : (q : List ℕ) → first_of q ≡ None → q ≡ []
none_nil [] is = refl
none_nil (x ∷ xs) is = cc

pub times_first : (q : List ℕ) (w : ℕ) → first_of q ≡ Some w → times w q ≡ 1 + times w (drop 1 q)
times_first q w is = ap (times w) (first_cons q w is) ∙ times_here w w (drop 1 q) refl

pub if_one : (b : Bool) → 0 < cond b 1 0 → b ≡ true
if_one true h = refl
if_one false h = absurd (omega arith)

pub first_waits : (table : Table) (w id : ℕ) → Stands table → first_of (queue_at table id) ≡ Some w → waits_at id (state_at table w) ≡ true
first_waits table w id s is = if_one (waits_at id (state_at table w)) (omega (arith, s.queued w id, times_first (queue_at table id) w is))

pub first_within : (table : Table) (w id : ℕ) → Stands table → first_of (queue_at table id) ≡ Some w → w < length table.threads
first_within table w id s is = waits_within table w id (first_waits table w id s is)

-- once the first is taken out of its queue it stands nowhere
pub first_leaves : (table : Table) (w id : ℕ) → Stands table → id < length table.queues → first_of (queue_at table id) ≡ Some w → (k : ℕ) → times w (queue_at (with_queue id (drop 1 (queue_at table id)) table) k) ≡ 0
first_leaves table w id s hid is k =
    let waits = first_waits table w id s is in
    elim (cases_eq k id) [
      | inl e ↦ rw (e, get_or-set_same table.queues id (drop 1 (queue_at table id)) [] hid) (omega (arith, times_first (queue_at table id) w is, s.queued w id ∙ ap (λ z. cond z 1 0) waits))
      | inr n ↦ rw (get_or-set_other table.queues id k (drop 1 (queue_at table id)) [] n) (s.queued w k ∙ ap (λ z. cond z 1 0) (one_place (state_at table w) id k waits n))
    ]

-- a thread that is read back after it was put there, and the others
pub state_same : (table : Table) (t : ℕ) (thread : Thread) → t < length table.threads → state_at (with_thread t thread table) t ≡ thread.state
state_same table t thread h = ap (λ (x : Thread). x.state) (get_or-set_same table.threads t thread nobody h)

pub state_other : (table : Table) (t k : ℕ) (thread : Thread) → (k ≡ t → ⊥) → state_at (with_thread t thread table) k ≡ state_at table k
state_other table t k thread n = ap (λ (x : Thread). x.state) (get_or-set_other table.threads t k thread nobody n)

pub queue_same : (table : Table) (id : ℕ) (q : List ℕ) → id < length table.queues → queue_at (with_queue id q table) id ≡ q
queue_same table id q h = get_or-set_same table.queues id q [] h

pub queue_other : (table : Table) (id k : ℕ) (q : List ℕ) → (k ≡ id → ⊥) → queue_at (with_queue id q table) k ≡ queue_at table k
queue_other table id k q n = get_or-set_other table.queues id k q [] n

pub handle_same : (table : Table) (id : ℕ) (h : Handle) → id < length table.handles → handle_at (with_handle id h table) id ≡ h
handle_same table id h hid = get_or-set_same table.handles id h Gone hid

pub handle_other : (table : Table) (id k : ℕ) (h : Handle) → (k ≡ id → ⊥) → handle_at (with_handle id h table) k ≡ handle_at table k
handle_other table id k h n = get_or-set_other table.handles id k h Gone n
