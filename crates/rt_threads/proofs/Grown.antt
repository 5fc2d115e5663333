use Rattle.std.proofs.Common.{◌≡◌, ℕ, zero, suc, ◌+◌, ◌<◌, ◌≤◌, ◌^◌, true, false, cond, List, [], ◌∷◌, ◌++◌, length, get_or, refl, ap, sym, subst, ◌∙◌, arith, inl, inr, eq-eqb, zero-add}
use Rattle.std.proofs.lemmas.Bool.{true≢false, cases_eq, cases_lt}
use Rattle.std.proofs.lemmas.List.{length_push, get_or_push, get_or_append_left, get_or_past}
use Rattle.rt_threads.specs.declared.kinds.State.{State}
use Rattle.rt_threads.specs.declared.kinds.State.TheVariants.{Ready, Waits, Listens, Ended}
use Rattle.rt_threads.specs.declared.kinds.Thread.{Thread}
use Rattle.rt_threads.specs.declared.kinds.Handle.{Handle}
use Rattle.rt_threads.specs.declared.kinds.Handle.TheVariants.{Gone, Joinable}
use Rattle.rt_threads.specs.Lists.{times}
use Rattle.rt_threads.specs.Table.{Table, nobody, state_at, handle_at, queue_at, waits_at, gave_up}
use Rattle.rt_threads.specs.Rows.{goes_on, numbers, first_table, with_new, created, next_id, given, is_condition, is_free}
use Rattle.rt_threads.specs.Standing.{Stands, WaitsAtIts, is_mutex, is_joinable}
use Rattle.rt_threads.specs.Kept.{IsKept}
use Rattle.rt_threads.proofs.Counts.{numbers_push, count_push}
use Rattle.rt_threads.proofs.Places.{handle_within, mutex_named, condition_named}
use Rattle.rt_threads.proofs.Standing.{nobody_waits}

-- The table stands at the start, and after an id or a thread is made.

-- a default at the end of a list is found there anyway
pub default_push : {X : Type 0} (xs : List X) (d : X) (k : ℕ) → get_or (xs ++ d ∷ []) k d ≡ get_or xs k d
default_push [] d zero = refl
default_push [] d (suc k) = refl
default_push (x ∷ xs) d zero = refl
default_push (x ∷ xs) d (suc k) = default_push xs d k

new_fits : (table : Table) (h : Handle) (s : State) → ((id : ℕ) → waits_at id s ≡ true → id < length table.handles) → WaitsAtIts table s → WaitsAtIts (with_new h table) s
new_fits table h Ready within w = tt
new_fits table h (Waits id) within w = ap is_condition (get_or_append_left table.handles (h ∷ []) Gone id (within id (eq-eqb id id refl))) ∙ w
new_fits table h (Listens c m) within w = (
  ap is_condition (get_or_append_left table.handles (h ∷ []) Gone c (handle_within table c (condition_named (handle_at table c) w.0))) ∙ w.0,
  ap is_mutex (get_or_append_left table.handles (h ∷ []) Gone m (handle_within table m (mutex_named (handle_at table m) w.1))) ∙ w.1,
)
new_fits table h Ended within w = tt

queue_past : (table : Table) (id : ℕ) → length table.queues ≤ id → queue_at table id ≡ []
queue_past table id h = get_or_past table.queues id [] h

waits_below : (table : Table) (t id : ℕ) → Stands table → waits_at id (state_at table t) ≡ true → id < length table.handles
waits_below table t id s w = elim (cases_lt id (length table.handles)) [
  | inl h ↦ h
  | inr h ↦ absurd (true≢false (sym w ∙ nobody_waits table id t s (queue_past table id (omega (arith, s.ids)))))
]

pub new_stands : (table : Table) (h : Handle) → Stands table → Stands (with_new h table)
new_stands table h s =
    let same : (id : ℕ) → queue_at (with_new h table) id ≡ queue_at table id = λ id. default_push table.queues [] id in
    let old : (id : ℕ) → id < length table.handles → handle_at (with_new h table) id ≡ handle_at table id = λ id b. get_or_append_left table.handles (h ∷ []) Gone id b in
    record {
      queued = λ t id. ap (times t) (same id) ∙ s.queued t id;
      fitting = λ t. new_fits table h (state_at table t) (λ id w. waits_below table t id s w) (s.fitting t);
      gone = λ id e. elim (cases_lt id (length table.handles)) [
        | inl b ↦ same id ∙ s.gone id (sym (old id b) ∙ e)
        | inr b ↦ same id ∙ queue_past table id (omega (arith, s.ids))
      ];
      free = λ id e. elim (cases_lt id (length table.handles)) [
        | inl b ↦ same id ∙ s.free id (ap is_free (sym (old id b)) ∙ e)
        | inr b ↦ same id ∙ queue_past table id (omega (arith, s.ids))
      ];
      joined = λ id e. elim (cases_lt id (length table.handles)) [
        | inl b ↦ rw (same id) (s.joined id (ap is_joinable (sym (old id b)) ∙ e))
        | inr b ↦ rw (same id, queue_past table id (omega (arith, s.ids))) (omega arith)
      ];
      ids = length_push table.queues [] ∙ (ap (λ z. z + 1) s.ids ∙ sym (length_push table.handles h));
      numbers = omega (arith, s.numbers, length_push table.handles h);
    }

-- a table with one more thread
abbrev pub with_more : Thread → Table → Table
with_more thread table = record table { threads = table.threads ++ thread ∷ [] }

same_waits : (table : Table) (thread : Thread) (s : State) → WaitsAtIts table s → WaitsAtIts (with_more thread table) s
same_waits table thread Ready w = tt
same_waits table thread (Waits id) w = w
same_waits table thread (Listens c m) w = w
same_waits table thread Ended w = tt

more_state : (table : Table) (thread : Thread) (t : ℕ) → thread.state ≡ Ready → ((id : ℕ) → waits_at id (state_at (with_more thread table) t) ≡ waits_at id (state_at table t)) × (WaitsAtIts table (state_at table t) → WaitsAtIts (with_more thread table) (state_at (with_more thread table) t))
more_state table thread t is =
    elim (cases_lt t (length table.threads)) [
      | inl b ↦ let e : state_at (with_more thread table) t ≡ state_at table t = ap (λ (x : Thread). x.state) (get_or_append_left table.threads (thread ∷ []) nobody t b) in
          ((λ id. ap (waits_at id) e), λ w. subst (WaitsAtIts (with_more thread table)) (sym e) (same_waits table thread (state_at table t) w))
      | inr b ↦
          let past : state_at table t ≡ Ended = ap (λ (x : Thread). x.state) (get_or_past table.threads t nobody b) in
          elim (cases_eq t (length table.threads)) [
            | inl e ↦ let here : state_at (with_more thread table) t ≡ Ready = ap (λ (x : Thread). x.state) (get_or_push table.threads thread nobody t (sym e)) ∙ is in
                ((λ id. ap (waits_at id) here ∙ sym (ap (waits_at id) past)), λ _. subst (WaitsAtIts (with_more thread table)) (sym here) tt)
            | inr n ↦ let here : state_at (with_more thread table) t ≡ Ended = ap (λ (x : Thread). x.state) (get_or_past (table.threads ++ thread ∷ []) t nobody (omega (arith, length_push table.threads thread))) in
                ((λ id. ap (waits_at id) here ∙ sym (ap (waits_at id) past)), λ _. subst (WaitsAtIts (with_more thread table)) (sym here) tt)
          ]
    ]

pub more_stands : (table : Table) (thread : Thread) → Stands table → thread.state ≡ Ready → length table.threads < length table.handles → Stands (with_more thread table)
more_stands table thread s is room = record {
  queued = λ t id. s.queued t id ∙ ap (λ z. cond z 1 0) (sym ((more_state table thread t is).0 id));
  fitting = λ t. (more_state table thread t is).1 (s.fitting t);
  gone = s.gone;
  free = s.free;
  joined = s.joined;
  ids = s.ids;
  numbers = omega (arith, length_push table.threads thread);
}

pub new_kept : (table : Table) (h : Handle) (counts unended : List ℕ) → IsKept table counts unended → IsKept (with_new h table) (counts ++ 0 ∷ []) unended
new_kept table h counts unended k = record {
  stands = new_stands table h k.stands;
  wanted = λ id. default_push counts 0 id ∙ k.wanted id;
  sized = length_push counts 0 ∙ (ap (λ z. z + 1) k.sized ∙ sym (length_push table.handles h));
  rising = k.rising;
}

pub created_kept : (table : Table) (proc param now : ℕ) (counts unended : List ℕ) → IsKept table counts unended → IsKept (created proc param now table) (counts ++ 0 ∷ []) (unended ++ length table.threads ∷ [])
created_kept table proc param now counts unended k =
    let h : Handle = Joinable (length table.threads) in
    let grown = new_kept table h counts unended k in
    let thread : Thread = record { state = Ready; start = now; proc = proc; param = param; id = next_id table } in
    record {
      stands = more_stands (with_new h table) thread grown.stands refl (omega (arith, length_push table.handles h, k.stands.numbers));
      wanted = λ id. omega (arith, grown.wanted id, count_push (λ (x : Thread). gave_up id x.state) table.threads thread);
      sized = grown.sized;
      rising = ap (λ z. z ++ length table.threads ∷ []) k.rising ∙ sym (numbers_push goes_on 0 table.threads thread refl ∙ ap (λ z. numbers goes_on 0 table.threads ++ z ∷ []) (zero-add (length table.threads)));
    }

-- there are as many threads as ids, and the main thread, at most
pub threads_few : (table : Table) (counts unended : List ℕ) → IsKept table counts unended → given table < 2 ^ 30 → length table.threads < 2 ^ 32
threads_few table counts unended k few = omega (arith, k.stands.numbers)

first_waits_nowhere : (proc t id : ℕ) → waits_at id (state_at (first_table proc) t) ≡ false
first_waits_nowhere proc zero id = refl
first_waits_nowhere proc (suc t) id = refl

first_fits : (proc t : ℕ) → WaitsAtIts (first_table proc) (state_at (first_table proc) t)
first_fits proc zero = tt
first_fits proc (suc t) = tt

pub first_kept : (proc : ℕ) → IsKept (first_table proc) (0 ∷ []) (0 ∷ [])
first_kept proc =
    let table = first_table proc in
    let no_queue : (id : ℕ) → queue_at table id ≡ [] = λ id. default_push [] [] id in
    let no_handle : (id : ℕ) → handle_at table id ≡ Gone = λ id. default_push [] Gone id in
    record {
      stands = record {
        queued = λ t id. rw (no_queue id) (sym (ap (λ z. cond z 1 0) (first_waits_nowhere proc t id)));
        fitting = λ t. first_fits proc t;
        gone = λ id _. no_queue id;
        free = λ id _. no_queue id;
        joined = λ id _. omega (arith, ap (λ (z : List ℕ). length z) (no_queue id));
        ids = refl;
        numbers = omega arith;
      };
      wanted = λ id. default_push [] 0 id;
      sized = refl;
      rising = refl;
    }
