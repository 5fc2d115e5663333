use Rattle.std.proofs.Common.{◌≡◌, ℕ, zero, suc, ◌<◌, Bool, true, false, cond, List, [], ◌∷◌, ◌++◌, Some, None, Ok, nat_lt, length, get_or, count_by, refl, ap, sym, subst, ◌∙◌, arith, inl, inr, eq-eqb}
use Rattle.std.proofs.lemmas.Bool.{cases_lt, cases_Bool, cases_eq}
use Rattle.std.proofs.lemmas.List.{length_push, get_or_push, get_or_append_left, get_or_past, get_or_default}
use Rattle.std.proofs.lemmas.List.Sums.{sum_by-cons}
use Rattle.rt_threads.specs.declared.kinds.State.{State}
use Rattle.rt_threads.specs.declared.kinds.State.TheVariants.{Ready, Waits, Listens, Ended}
use Rattle.rt_threads.specs.declared.kinds.Thread.{Thread}
use Rattle.rt_threads.specs.declared.kinds.Handle.TheVariants.{Gone, Mutex, Condition}
use Rattle.rt_threads.specs.Lists.{times}
use Rattle.rt_threads.specs.Table.{Table, nobody, state_at, handle_at, queue_at, is_ready, has_ended, IsReady, waits_at, gave_up, with_ready}
use Rattle.rt_threads.specs.Rows.{goes_on, numbers, unended, created, with_new, wake_first, wake_times, ended, is_condition}
use Rattle.rt_threads.specs.Standing.{Stands, is_mutex}
use Rattle.rt_threads.specs.Kept.{IsKept, wanting}
use Rattle.rt_threads.specs.Laws.{Call, Creates, Waits as CallWaits, Detaches, Ends, MakesMutex, Locks, Unlocks, DestroysMutex, MakesCondition, WaitsAt, Signals, Broadcasts, DestroysCondition, Calls}
use Rattle.rt_threads.proofs.Counts.{ones}
use Rattle.rt_threads.proofs.Places.{ready_nowhere}
use Rattle.rt_threads.proofs.Standing.{ready_stands}
use Rattle.rt_threads.proofs.Keeping.{wake_first_stands}
use Rattle.rt_threads.proofs.Kept.{unwanted, waited_kept, detached_kept, locked_kept, unlocked_kept, destroyed_kept, destroyed_condition_kept}
use Rattle.rt_threads.proofs.Woken.{listens_within, listens_kept, ended_kept, wake_first_shorter}
use Rattle.rt_threads.proofs.Grown.{new_stands, created_kept}
use Rattle.rt_threads.proofs.Evolves.{call_evolves, wake_times_awoken}

-- Each call leaves a table that stands.

-- what is counted beside a table that stands
abbrev pub listed : (ℕ → ℕ) → ℕ → List ℕ
listed f zero = []
listed f (suc n) = listed f n ++ f n ∷ []

length_listed : (f : ℕ → ℕ) (n : ℕ) → length (listed f n) ≡ n
length_listed f zero = refl
length_listed f (suc n) = omega (arith, length_push (listed f n) (f n), length_listed f n)

listed_at : (f : ℕ → ℕ) (n k : ℕ) → k < n → get_or (listed f n) k 0 ≡ f k
listed_at f zero k h = absurd (omega arith)
listed_at f (suc n) k h = elim (cases_eq k n) [
  | inl e ↦ get_or_push (listed f n) (f n) 0 k (length_listed f n ∙ sym e) ∙ ap f (sym e)
  | inr m ↦ get_or_append_left (listed f n) (f n ∷ []) 0 k (omega (arith, length_listed f n)) ∙ listed_at f n k (omega arith)
]

count_none : (p : Thread → Bool) (threads : List Thread) → ((k : ℕ) → p (get_or threads k nobody) ≡ false) → count_by p threads ≡ 0
count_none p [] none = refl
count_none p (x ∷ xs) none = omega (arith, sum_by-cons (λ y. cond (p y) 1 0) x xs, ones (p x) false (none 0), count_none p xs (λ k. none (suc k)))

counts_of : Table → List ℕ
counts_of table = listed (λ id. wanting id table.threads) (length table.handles)

kept_of : (table : Table) → Stands table → IsKept table (counts_of table) (numbers goes_on 0 table.threads)
unfolding counts_of
kept_of table s = record {
  stands = s;
  wanted = λ id. elim (cases_lt id (length table.handles)) [
    | inl h ↦ listed_at (λ k. wanting k table.threads) (length table.handles) id h
    | inr h ↦ get_or_past (listed (λ k. wanting k table.threads) (length table.handles)) id 0 (omega (arith, length_listed (λ k. wanting k table.threads) (length table.handles)))
        ∙ sym (count_none (λ (x : Thread). gave_up id x.state) table.threads (unwanted table id s (ap is_mutex (get_or_past table.handles id Gone h))))
  ];
  sized = length_listed (λ k. wanting k table.threads) (length table.handles);
  rising = refl;
}

at_stands : (a new : Table) → Some a ≡ Some new → Stands a → Stands new
at_stands a new e s = let same : a ≡ new = cc in subst Stands same s

tested_stands : (test : Bool) (a new : Table) → cond test (Some a) None ≡ Some new → (test ≡ true → Stands a) → Stands new
tested_stands true a new e s = at_stands a new e (s refl)
tested_stands false a new e s = cc

pub call_stands : (call : Call) (t now : ℕ) (old new : Table) → Calls call t now old new → Stands new
call_stands (Creates proc param) t now old new c =
    elim (cases_Bool (nat_lt (unended old) 256)) [
      | inl few ↦ at_stands (created proc param now old) new (rw few at c.row) (created_kept old proc param now (counts_of old) (numbers goes_on 0 old.threads) (kept_of old c.stands)).stands
      | inr many ↦ at_stands old new (rw many at c.row) c.stands
    ]
call_stands (CallWaits id) t now old new c = (waited_kept old new (Ok tt) t id now (counts_of old) (numbers goes_on 0 old.threads) c.row (kept_of old c.stands) c.ready).stands
call_stands (Detaches id) t now old new c = (detached_kept old new (Ok tt) t id now (counts_of old) (numbers goes_on 0 old.threads) c.row (kept_of old c.stands) c.ready).stands
call_stands Ends t now old new c = at_stands (ended t now old) new c.row (ended_kept old t now (counts_of old) (numbers goes_on 0 old.threads) (kept_of old c.stands) c.ready).stands
call_stands MakesMutex t now old new c = at_stands (with_new (Mutex None) old) new c.row (new_stands old (Mutex None) c.stands)
call_stands (Locks id) t now old new c = (locked_kept old new (Ok tt) t id now (counts_of old) (numbers goes_on 0 old.threads) c.row (kept_of old c.stands) c.ready).stands
call_stands (Unlocks id) t now old new c = (unlocked_kept old new (Ok tt) t id now (counts_of old) (numbers goes_on 0 old.threads) c.row (kept_of old c.stands) c.ready).stands
call_stands (DestroysMutex id) t now old new c = (destroyed_kept old new (Ok tt) t id now (counts_of old) (numbers goes_on 0 old.threads) c.row (kept_of old c.stands) c.ready).stands
call_stands MakesCondition t now old new c = at_stands (with_new Condition old) new c.row (new_stands old Condition c.stands)
call_stands (WaitsAt cond' mutex) t now old new c =
    let k = kept_of old c.stands in
    let h = listens_within old new t cond' mutex now (counts_of old) (numbers goes_on 0 old.threads) c.row k in
    (listens_kept old new t cond' mutex now (get_or (counts_of old) mutex 0) (counts_of old) (numbers goes_on 0 old.threads) c.row k c.ready (get_or_default (counts_of old) mutex 0 (get_or (counts_of old) mutex 0) h)).stands
call_stands (Signals id) t now old new c =
    tested_stands (is_condition (handle_at old id)) (with_ready t now (wake_first id now old)) new c.row (λ test.
    ready_stands (wake_first id now old) t now (wake_first_stands old id now c.stands test) ((wake_first_shorter old id now c.stands test).ready t c.ready))
call_stands (Broadcasts id) t now old new c =
    let all = wake_times (length (queue_at old id)) id now old in
    tested_stands (is_condition (handle_at old id)) (with_ready t now all) new c.row (λ test.
    let woken = wake_times_awoken (length (queue_at old id)) t id now old c.stands test in
    ready_stands all t now woken.stands (woken.ready c.ready))
call_stands (DestroysCondition id) t now old new c = (destroyed_condition_kept old new (Ok tt) t id now (counts_of old) (numbers goes_on 0 old.threads) c.row (kept_of old c.stands) c.ready).stands

-- who isn't ready and hasn't ended waits somewhere
pub record WaitsSomewhere (s : State) : Type 0 where
  pub id : ℕ
  pub there : waits_at id s ≡ true

waits_somewhere : (s : State) → is_ready s ≡ false → has_ended s ≡ false → WaitsSomewhere s
waits_somewhere Ready r e = cc
waits_somewhere (Waits id) r e = record { id = id; there = eq-eqb id id refl }
waits_somewhere (Listens c m) r e = record { id = c; there = eq-eqb c c refl }
waits_somewhere Ended r e = cc

ended_not_ready : (s : State) → has_ended s ≡ true → is_ready s ≡ true → ⊥
ended_not_ready Ready e r = cc
ended_not_ready (Waits id) e r = cc
ended_not_ready (Listens c m) e r = cc
ended_not_ready Ended e r = cc

pub left_queue : (call : Call) (t now n : ℕ) (old new : Table) → Calls call t now old new → n < length old.threads → is_ready (state_at old n) ≡ false → IsReady new n → (id : ℕ) × (times n (queue_at old id) ≡ 1) × (times n (queue_at new id) ≡ 0)
left_queue call t now n old new c h idle r =
    let alive : has_ended (state_at old n) ≡ false = elim (cases_Bool (has_ended (state_at old n))) [
      | inl e ↦ absurd (ended_not_ready (state_at new n) ((call_evolves call t now old new c).ended n h e) r)
      | inr e ↦ e
    ] in
    let w = waits_somewhere (state_at old n) idle alive in
    (w.id, c.stands.queued n w.id ∙ ap (λ z. cond z 1 0) w.there, ready_nowhere new n (call_stands call t now old new c) r w.id)
