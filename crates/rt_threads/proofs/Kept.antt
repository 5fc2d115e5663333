use Rattle.std.proofs.Common.{◌≡◌, ℕ, ◌<◌, Bool, true, false, cond, not, ◌&&◌, List, [], Option, Some, None, Result, Ok, Err, length, set, refl, ap, sym, subst, ◌∙◌, arith, inl, inr, ne_eqb, eqb-true}
use Rattle.std.proofs.lemmas.Bool.{false≢true, cases_Bool, and_parts, not-true}
use Rattle.std.proofs.lemmas.List.{length-set}
use Rattle.rt_threads.specs.declared.kinds.State.{State}
use Rattle.rt_threads.specs.declared.kinds.State.TheVariants.{Ready, Waits, Listens, Ended}
use Rattle.rt_threads.specs.declared.kinds.Thread.{Thread}
use Rattle.rt_threads.specs.declared.kinds.Handle.{Handle}
use Rattle.rt_threads.specs.declared.kinds.Handle.TheVariants.{Gone, Joinable, Mutex, Condition}
use Rattle.rt_threads.specs.declared.kinds.BadHandle.{BadHandle}
use Rattle.rt_threads.specs.Lists.{first_of}
use Rattle.rt_threads.specs.Table.{Table, nobody, thread_at, state_at, handle_at, queue_at, has_ended, IsReady, waits_at, gave_up, with_handle, with_ready, queued}
use Rattle.rt_threads.specs.Rows.{IsRow, goes_on, numbers, is_condition, is_free, is_quiet, is_wanted, holds, given_up, wait_for, wait, detach_from, detach, lock_mutex, lock, hand_to, hand_on, unlock, destroy_mutex, destroy_condition}
use Rattle.rt_threads.specs.Standing.{Stands, WaitsAtIts, is_mutex, is_joinable}
use Rattle.rt_threads.specs.Kept.{IsKept, wanting}
use Rattle.rt_threads.proofs.Counts.{ones, numbers_set, count_set, any_none}
use Rattle.rt_threads.proofs.Places.{ready_within, handle_within, ready_gave_none, ready_not_ended, waiting_not_ended, first_waits, first_within, quiet_nil, mutex_named, condition_named, holds_mutex, free_named, joinable_named}
use Rattle.rt_threads.proofs.Standing.{IsGood, ready_stands, queued_stands, holder_stands, gone_stands}
use Rattle.rt_threads.proofs.Keeping.{hand_on_stands, hand_on_ready, not_condition}

-- What is kept beside the table stays right, call by call.

-- the threads are as before
pub kept_frame : (table table' : Table) (counts unended : List ℕ) → IsKept table counts unended → Stands table' → table'.threads ≡ table.threads → length table'.handles ≡ length table.handles → IsKept table' counts unended
kept_frame table table' counts unended k s same size = record {
  stands = s;
  wanted = λ id. k.wanted id ∙ ap (wanting id) (sym same);
  sized = k.sized ∙ sym size;
  rising = k.rising ∙ ap (numbers goes_on 0) (sym same);
}

-- one thread does another thing, but hasn't ended, and wants no other mutex back
pub kept_set : (table table' : Table) (t : ℕ) (thread : Thread) (counts unended : List ℕ) → IsKept table counts unended → Stands table' → table'.threads ≡ set table.threads t thread → t < length table.threads → has_ended thread.state ≡ has_ended (state_at table t) → ((id : ℕ) → gave_up id thread.state ≡ gave_up id (state_at table t)) → length table'.handles ≡ length table.handles → IsKept table' counts unended
kept_set table table' t thread counts unended k s threads h ends wants size =
    let same_count : (id : ℕ) → wanting id (set table.threads t thread) ≡ wanting id table.threads = λ id. omega (arith, count_set (λ (x : Thread). gave_up id x.state) table.threads t thread nobody h, ones (gave_up id thread.state) (gave_up id (state_at table t)) (wants id)) in
    record {
      stands = s;
      wanted = λ id. k.wanted id ∙ (sym (same_count id) ∙ ap (wanting id) (sym threads));
      sized = k.sized ∙ sym size;
      rising = k.rising ∙ (sym (numbers_set goes_on 0 table.threads t thread nobody h (ap not ends)) ∙ ap (numbers goes_on 0) (sym threads));
    }

pub kept_ready : (table : Table) (t now : ℕ) (counts unended : List ℕ) → IsKept table counts unended → IsReady table t → IsKept (with_ready t now table) counts unended
kept_ready table t now counts unended k r =
    kept_set table (with_ready t now table) t (record (thread_at table t) { state = Ready; start = now }) counts unended k (ready_stands table t now k.stands r) refl (ready_within table t r)
    (sym (ready_not_ended (state_at table t) r)) (λ id. sym (ready_gave_none (state_at table t) r id)) refl

-- the caller waits for a thread or a mutex
pub kept_waits : (table : Table) (t id : ℕ) (counts unended : List ℕ) → IsKept table counts unended → IsReady table t → IsGood table t id (Waits id) → IsKept (queued t id (Waits id) table) counts unended
kept_waits table t id counts unended k r g =
    kept_set table (queued t id (Waits id) table) t (record (thread_at table t) { state = Waits id }) counts unended k (queued_stands table t id (Waits id) k.stands r g) refl (ready_within table t r)
    (sym (ready_not_ended (state_at table t) r)) (λ j. sym (ready_gave_none (state_at table t) r j)) refl

-- an id is given up and the caller goes on
pub kept_given_up : (table : Table) (t id now : ℕ) (counts unended : List ℕ) → IsKept table counts unended → IsReady table t → id < length table.handles → queue_at table id ≡ [] → ((j : ℕ) → gave_up id (state_at table j) ≡ false) → IsKept (given_up t id now table) counts unended
kept_given_up table t id now counts unended k r hid quiet unwanted =
    kept_ready (with_handle id Gone table) t now counts unended (kept_frame table (with_handle id Gone table) counts unended k (gone_stands table id k.stands hid quiet unwanted) refl (length-set table.handles id Gone)) r

-- nobody wants back what is no mutex
unwanted_kind : (table : Table) (s : State) (id : ℕ) → is_mutex (handle_at table id) ≡ false → WaitsAtIts table s → gave_up id s ≡ false
unwanted_kind table Ready id plain w = refl
unwanted_kind table (Waits j) id plain w = refl
unwanted_kind table (Listens c m) id plain w = ne_eqb m id (λ e. false≢true (sym plain ∙ (ap (λ z. is_mutex (handle_at table z)) (sym e) ∙ w.1)))
unwanted_kind table Ended id plain w = refl

pub unwanted : (table : Table) (id : ℕ) → Stands table → is_mutex (handle_at table id) ≡ false → (j : ℕ) → gave_up id (state_at table j) ≡ false
unwanted table id s plain j = unwanted_kind table (state_at table j) id plain (s.fitting j)

-- where a row is the call's, what holds of the row's table holds of the table that is left
pub row_kept : (row : Option Table) (old new : Table) (result : Result Unit BadHandle) (counts unended : List ℕ) → IsRow row old new result → IsKept old counts unended → ((table : Table) → row ≡ Some table → IsKept table counts unended) → IsKept new counts unended
row_kept row old new (Ok u) counts unended is k then = then new is
row_kept row old new (Err e) counts unended is k then = subst (λ (z : Table). IsKept z counts unended) (sym is.1) k

some_kept : (a b : Table) (counts unended : List ℕ) → Some a ≡ Some b → IsKept a counts unended → IsKept b counts unended
some_kept a b counts unended e k = let same : a ≡ b = cc in subst (λ (z : Table). IsKept z counts unended) same k

none_some : (new : Table) → None ≡ Some new → ⊥
none_some new e = cc

-- a row behind a test
if_kept : (test : Bool) (a b : Table) (counts unended : List ℕ) → cond test (Some a) None ≡ Some b → (test ≡ true → IsKept a counts unended) → IsKept b counts unended
if_kept true a b counts unended e k = some_kept a b counts unended e (k refl)
if_kept false a b counts unended e k = cc

no_mutex_joinable : (h : Handle) → is_joinable h ≡ true → is_mutex h ≡ false
no_mutex_joinable Gone j = cc
no_mutex_joinable (Joinable t) j = refl
no_mutex_joinable (Mutex h) j = cc
no_mutex_joinable Condition j = cc

no_mutex_condition : (h : Handle) → is_condition h ≡ true → is_mutex h ≡ false
no_mutex_condition Gone j = cc
no_mutex_condition (Joinable t) j = cc
no_mutex_condition (Mutex h) j = cc
no_mutex_condition Condition j = refl

-- ThreadWait
wait_kept : (h : Handle) (table new : Table) (t id now : ℕ) (counts unended : List ℕ) → handle_at table id ≡ h → IsKept table counts unended → IsReady table t → wait_for h t id now table ≡ Some new → IsKept new counts unended
wait_kept Gone table new t id now counts unended is k r row = cc
wait_kept (Mutex h) table new t id now counts unended is k r row = cc
wait_kept Condition table new t id now counts unended is k r row = cc
wait_kept (Joinable thread) table new t id now counts unended is k r row =
    let j : is_joinable (handle_at table id) ≡ true = ap is_joinable is in
    let hid = handle_within table id (joinable_named (handle_at table id) j) in
    elim (cases_Bool (is_quiet table id)) [
      | inl quiet ↦ elim (cases_Bool (has_ended (state_at table thread))) [
        | inl over ↦ some_kept (given_up t id now table) new counts unended (rw (quiet, over) at row) (kept_given_up table t id now counts unended k r hid (quiet_nil (queue_at table id) quiet) (unwanted table id k.stands (no_mutex_joinable (handle_at table id) j)))
        | inr over ↦ some_kept (queued t id (Waits id) table) new counts unended (rw (quiet, over) at row) (kept_waits table t id counts unended k r (record {
          there = λ _. refl;
          fits = ap is_condition is;
          named = joinable_named (handle_at table id) j;
          taken = ap is_free is;
          alone = λ _. quiet_nil (queue_at table id) quiet;
        }))
      ]
      | inr busy ↦ absurd (none_some new (rw busy at row))
    ]

pub waited_kept : (table new : Table) (result : Result Unit BadHandle) (t id now : ℕ) (counts unended : List ℕ) → IsRow (wait t id now table) table new result → IsKept table counts unended → IsReady table t → IsKept new counts unended
waited_kept table new result t id now counts unended row k r =
    row_kept (wait t id now table) table new result counts unended row k (λ z e. wait_kept (handle_at table id) table z t id now counts unended refl k r e)

-- ThreadDetach
detach_kept : (h : Handle) (table new : Table) (t id now : ℕ) (counts unended : List ℕ) → handle_at table id ≡ h → IsKept table counts unended → IsReady table t → detach_from h t id now table ≡ Some new → IsKept new counts unended
detach_kept Gone table new t id now counts unended is k r row = cc
detach_kept (Mutex h) table new t id now counts unended is k r row = cc
detach_kept Condition table new t id now counts unended is k r row = cc
detach_kept (Joinable thread) table new t id now counts unended is k r row =
    let j : is_joinable (handle_at table id) ≡ true = ap is_joinable is in
    if_kept (is_quiet table id) (given_up t id now table) new counts unended row (λ quiet. kept_given_up table t id now counts unended k r (handle_within table id (joinable_named (handle_at table id) j)) (quiet_nil (queue_at table id) quiet) (unwanted table id k.stands (no_mutex_joinable (handle_at table id) j)))

pub detached_kept : (table new : Table) (result : Result Unit BadHandle) (t id now : ℕ) (counts unended : List ℕ) → IsRow (detach t id now table) table new result → IsKept table counts unended → IsReady table t → IsKept new counts unended
detached_kept table new result t id now counts unended row k r =
    row_kept (detach t id now table) table new result counts unended row k (λ z e. detach_kept (handle_at table id) table z t id now counts unended refl k r e)

-- MutexLock
lock_kept : (h : Handle) (table new : Table) (t id now : ℕ) (counts unended : List ℕ) → handle_at table id ≡ h → IsKept table counts unended → IsReady table t → lock_mutex h t id now table ≡ Some new → IsKept new counts unended
lock_kept Gone table new t id now counts unended is k r row = cc
lock_kept (Joinable thread) table new t id now counts unended is k r row = cc
lock_kept Condition table new t id now counts unended is k r row = cc
lock_kept (Mutex None) table new t id now counts unended is k r row =
    let m : is_mutex (handle_at table id) ≡ true = ap is_mutex is in
    let hid = handle_within table id (mutex_named (handle_at table id) m) in
    let taken : Table = with_handle id (Mutex (Some t)) table in
    some_kept (with_ready t now taken) new counts unended row
    (kept_ready taken t now counts unended (kept_frame table taken counts unended k (holder_stands table id (Some t) k.stands m hid (λ e. cc)) refl (length-set table.handles id (Mutex (Some t)))) r)
lock_kept (Mutex (Some holder)) table new t id now counts unended is k r row =
    let m : is_mutex (handle_at table id) ≡ true = ap is_mutex is in
    some_kept (queued t id (Waits id) table) new counts unended row (kept_waits table t id counts unended k r (record {
      there = λ _. refl;
      fits = ap is_condition is;
      named = mutex_named (handle_at table id) m;
      taken = ap is_free is;
      alone = λ j. absurd (false≢true (sym (ap is_joinable is) ∙ j));
    }))

pub locked_kept : (table new : Table) (result : Result Unit BadHandle) (t id now : ℕ) (counts unended : List ℕ) → IsRow (lock t id now table) table new result → IsKept table counts unended → IsReady table t → IsKept new counts unended
locked_kept table new result t id now counts unended row k r =
    row_kept (lock t id now table) table new result counts unended row k (λ z e. lock_kept (handle_at table id) table z t id now counts unended refl k r e)

-- a mutex is handed on
pub plain_waiter : (table : Table) (s : State) (id : ℕ) → is_condition (handle_at table id) ≡ false → waits_at id s ≡ true → WaitsAtIts table s → (j : ℕ) → gave_up j s ≡ false
plain_waiter table Ready id m w f j = refl
plain_waiter table (Waits x) id m w f j = refl
plain_waiter table (Listens c x) id m w f j = absurd (false≢true (sym m ∙ (ap (λ z. is_condition (handle_at table z)) (sym (eqb-true c id w)) ∙ f.0)))
plain_waiter table Ended id m w f j = refl

hand_to_kept : (first : Option ℕ) (table : Table) (id now : ℕ) (counts unended : List ℕ) → first_of (queue_at table id) ≡ first → IsKept table counts unended → is_mutex (handle_at table id) ≡ true → Stands (hand_to first id now table) → IsKept (hand_to first id now table) counts unended
hand_to_kept None table id now counts unended is k m s = kept_frame table (hand_to None id now table) counts unended k s refl (length-set table.handles id (Mutex None))
hand_to_kept (Some w) table id now counts unended is k m s =
    let waits = first_waits table w id k.stands is in
    kept_set table (hand_to (Some w) id now table) w (record (thread_at table w) { state = Ready; start = now }) counts unended k s refl (first_within table w id k.stands is)
    (sym (waiting_not_ended (state_at table w) id waits)) (λ j. sym (plain_waiter table (state_at table w) id (not_condition (handle_at table id) m) waits (k.stands.fitting w) j)) (length-set table.handles id (Mutex (Some w)))

pub hand_on_kept : (table : Table) (id now : ℕ) (counts unended : List ℕ) → IsKept table counts unended → is_mutex (handle_at table id) ≡ true → IsKept (hand_on id now table) counts unended
hand_on_kept table id now counts unended k m = hand_to_kept (first_of (queue_at table id)) table id now counts unended refl k m (hand_on_stands table id now k.stands m)

-- MutexUnlock
pub unlocked_kept : (table new : Table) (result : Result Unit BadHandle) (t id now : ℕ) (counts unended : List ℕ) → IsRow (unlock t id now table) table new result → IsKept table counts unended → IsReady table t → IsKept new counts unended
unlocked_kept table new result t id now counts unended row k r =
    row_kept (unlock t id now table) table new result counts unended row k (λ z e.
    if_kept (holds (handle_at table id) t) (with_ready t now (hand_on id now table)) z counts unended e (λ held.
    kept_ready (hand_on id now table) t now counts unended (hand_on_kept table id now counts unended k (holds_mutex (handle_at table id) t held).0) (hand_on_ready table id now t r)))

-- MutexDestroy
pub destroyed_kept : (table new : Table) (result : Result Unit BadHandle) (t id now : ℕ) (counts unended : List ℕ) → IsRow (destroy_mutex t id now table) table new result → IsKept table counts unended → IsReady table t → IsKept new counts unended
destroyed_kept table new result t id now counts unended row k r =
    row_kept (destroy_mutex t id now table) table new result counts unended row k (λ z e.
    if_kept (is_free (handle_at table id) && (is_quiet table id && not (is_wanted table id))) (given_up t id now table) z counts unended e (λ test.
    let parts = and_parts (is_free (handle_at table id)) (is_quiet table id && not (is_wanted table id)) test in
    let rest = and_parts (is_quiet table id) (not (is_wanted table id)) parts.1 in
    kept_given_up table t id now counts unended k r (handle_within table id (free_named (handle_at table id) parts.0)) (quiet_nil (queue_at table id) rest.0)
    (any_none (λ (x : Thread). gave_up id x.state) table.threads nobody (not-true (is_wanted table id) rest.1) refl)))

-- CondDestroy
pub destroyed_condition_kept : (table new : Table) (result : Result Unit BadHandle) (t id now : ℕ) (counts unended : List ℕ) → IsRow (destroy_condition t id now table) table new result → IsKept table counts unended → IsReady table t → IsKept new counts unended
destroyed_condition_kept table new result t id now counts unended row k r =
    row_kept (destroy_condition t id now table) table new result counts unended row k (λ z e.
    if_kept (is_condition (handle_at table id) && is_quiet table id) (given_up t id now table) z counts unended e (λ test.
    let parts = and_parts (is_condition (handle_at table id)) (is_quiet table id) test in
    kept_given_up table t id now counts unended k r (handle_within table id (condition_named (handle_at table id) parts.0)) (quiet_nil (queue_at table id) parts.1)
    (unwanted table id k.stands (no_mutex_condition (handle_at table id) parts.0))))
