use Rattle.std.proofs.Common.{◌≡◌, ℕ, ◌≤◌, Bool, true, List, slice_get, Option, Some, None, is_some, true≢false, refl, sym, ap, ◌∙◌, subst, arith}
use Rattle.thread_system.specs.Effect.{Effect}
use Rattle.thread_system.specs.Memory.{Memory}
use Rattle.entry_replay.specs.Accesses.{Access, Store, at_cells, untouched, raced_in}
use Rattle.entry_replay.specs.Runs.{End, Calling, Trapped, Spent, Raced, Runs, goes_on, reads, reads_badly, reads_raced, writes, writes_badly, writes_raced, takes_turn, lacks_turn, calls, calls_raced, traps}
use Rattle.entry_replay.specs.World.{System, Runtime, Past, Common, start_of, latest, since, memory_at, race_of, common_after}
use Rattle.entry_replay.specs.Replay.{Entry, Replays, Own}
use Rattle.entry_replay.specs.Laws.{Lawful, Agrees, Outcome, as_recorded, raced_at, EntryBy, Reported}
use Rattle.entry_replay.proofs.Determined.{determined}
use Rattle.entry_replay.proofs.Touched.{raced_touched, never_races, never_raced_in}
use Rattle.entry_replay.proofs.Serial.{commits}
use Rattle.entry_replay.proofs.History.{stands, memory_agrees}

-- ---- serial order

since_agrees : {S W : Type 0} (sys : System S) (rt : Runtime W) (turns : ℕ) (first : W) → Lawful rt → (schedule : List ℕ) (c : Common W) (states : List S) → Replays sys rt turns first schedule c states → (t n : ℕ) → start_of rt c t ≤ n → Agrees (since rt c t) (memory_at (rt.memory first) c.history n) (rt.memory c.shared)
since_agrees sys rt turns first lawful schedule c states run t n from =
    let s = stands sys rt turns first lawful schedule c states run in
    subst (λ (m : Memory). Agrees (since rt c t) (memory_at (rt.memory first) c.history n) m) (sym s.now) (memory_agrees (rt.memory first) c.history (start_of rt c t) n from s.chained)

-- A run that was made on the memory as it stood after any entry from the thread's start on is on the present memory
-- itself, or it races at the first of its accesses to a touched byte.
pub serial_order : {S W : Type 0} (sys : System S) (rt : Runtime W) (turns : ℕ) (first : W) → Lawful rt → (schedule : List ℕ) (c : Common W) (states : List S) → Replays sys rt turns first schedule c states → (t n : ℕ) → start_of rt c t ≤ n → (s : S) (acc : List Access) (w : List Store) (e : End S) → Runs (sys.step t) rt.cells untouched turns (memory_at (rt.memory first) c.history n) s acc w e → Outcome (sys.step t) rt.cells (since rt c t) turns (rt.memory c.shared) s acc w e (raced_in (since rt c t) acc)
serial_order {S} sys rt turns first lawful schedule c states run t n from s acc w e made =
    commits S (sys.step t) rt.cells (since rt c t) turns (memory_at (rt.memory first) c.history n) (rt.memory c.shared) s acc w e (since_agrees sys rt turns first lawful schedule c states run t n from) made

entry_by : {S W : Type 0} (sys : System S) (rt : Runtime W) (turns : ℕ) (c : Common W) (states : List S) (t : ℕ) (s : S) (acc : List Access) (w : List Store) (e : End S) → c.ending ≡ None → rt.is_ready c.shared t ≡ true → slice_get states t ≡ Some s → (o : Option Access) → Outcome (sys.step t) rt.cells (since rt c t) turns (rt.memory c.shared) s acc w e o → EntryBy sys rt turns c states t w e o
entry_by sys rt turns c states t s acc w e goes ready is _ (as_recorded run) = record { goes_on = goes; ready = ready; state = s; state_is = is; accesses = acc; stores = w; end = e; run = run; common_is = refl; states_are = refl }
entry_by sys rt turns c states t s acc w e goes ready is _ (raced_at x front before run) = record { goes_on = goes; ready = ready; state = s; state_is = is; accesses = front; stores = before; end = Raced x; run = run; common_is = refl; states_are = refl }

-- So it gives the thread's entry, with no second run.
pub entry_of_record : {S W : Type 0} (sys : System S) (rt : Runtime W) (turns : ℕ) (first : W) → Lawful rt → (schedule : List ℕ) (c : Common W) (states : List S) → Replays sys rt turns first schedule c states → (t n : ℕ) → start_of rt c t ≤ n → (s : S) (acc : List Access) (w : List Store) (e : End S) → c.ending ≡ None → rt.is_ready c.shared t ≡ true → slice_get states t ≡ Some s → Runs (sys.step t) rt.cells untouched turns (memory_at (rt.memory first) c.history n) s acc w e → EntryBy sys rt turns c states t w e (raced_in (since rt c t) acc)
entry_of_record sys rt turns first lawful schedule c states run t n from s acc w e goes ready is made =
    entry_by sys rt turns c states t s acc w e goes ready is (raced_in (since rt c t) acc) (serial_order sys rt turns first lawful schedule c states run t n from s acc w e made)

-- ---- true races

abbrev pub IsNoRace : {S : Type 0} → End S → Type 0
IsNoRace {S} (Calling number args line next) = Unit {0}
IsNoRace {S} (Trapped kind line) = Unit {0}
IsNoRace {S} (Spent line) = Unit {0}
IsNoRace {S} (Raced x) = ⊥

-- where no byte counts as touched, no run races
own_never_races : {S : Type 0} (step : S → Effect S) (cells : ℕ → List ℕ → List ℕ) (turns : ℕ) (m : Memory) (s : S) (acc : List Access) (w : List Store) (e : End S) → Runs step cells untouched turns m s acc w e → IsNoRace e
own_never_races step cells turns m s acc w e (goes_on _ _ _ next _ _ _ is rest) = own_never_races step cells turns m next acc w e rest
own_never_races step cells turns m s _ w e (reads _ _ _ addr width line value next acc _ _ is finds rest) = own_never_races step cells turns m (next value) acc w e rest
own_never_races step cells turns m s _ w _ (reads_badly _ _ _ addr width line next is misses) = tt
own_never_races step cells turns m s _ w _ (reads_raced _ _ _ addr width line next x is races) = never_races m addr width line x races
own_never_races step cells turns m s _ _ e (writes _ _ _ addr width value line old next acc w _ is finds rest) = own_never_races step cells turns _ next acc w e rest
own_never_races step cells turns m s _ w _ (writes_badly _ _ _ addr width value line next is misses) = tt
own_never_races step cells turns m s _ w _ (writes_raced _ _ _ addr width value line next x is races) = never_races m addr width line x races
own_never_races step cells _ m s acc w e (takes_turn turns _ _ line next _ _ _ is rest) = own_never_races step cells turns m next acc w e rest
own_never_races step cells _ m s _ w _ (lacks_turn _ _ line next is) = tt
own_never_races step cells turns m s _ w _ (calls _ _ _ number args line next is quiet) = tt
own_never_races step cells turns m s _ w _ (calls_raced _ _ _ number args line next x is races) = never_raced_in (at_cells line (cells number args)) x races
own_never_races step cells turns m s _ w _ (traps _ _ _ kind line is) = tt

abbrev pub access_or : {S : Type 0} → Access → End S → Access
access_or {S} other (Calling number args line next) = other
access_or {S} other (Trapped kind line) = other
access_or {S} other (Spent line) = other
access_or {S} other (Raced x) = x

-- what the first access to a touched byte says of the end of the entry
abbrev pub Tells : {S : Type 0} → End S → Option Access → Type 0
Tells end None = IsNoRace end
Tells end (Some x) = end ≡ Raced x

tells : {S : Type 0} (step : S → Effect S) (cells : ℕ → List ℕ → List ℕ) (touched : ℕ → Bool) (turns : ℕ) (now : Memory) (s : S) (acc acc' : List Access) (w w' : List Store) (e e' : End S) → IsNoRace e → Runs step cells touched turns now s acc' w' e' → (o : Option Access) → Outcome step cells touched turns now s acc w e o → Tells e' o
tells step cells touched turns now s acc acc' w w' e e' none run _ (as_recorded made) = subst IsNoRace (determined step cells touched turns now s acc acc' w w' e e' made run).end none
tells step cells touched turns now s acc acc' w w' e e' none run _ (raced_at x front before made) = (determined step cells touched turns now s acc' front w' before e' (Raced x) run made).end

pub entry_tells : {S W : Type 0} (sys : System S) (rt : Runtime W) (turns : ℕ) (first : W) → Lawful rt → (schedule : List ℕ) (c after : Common W) (states states_then : List S) (t : ℕ) → Replays sys rt turns first schedule c states → (entry : Entry sys rt turns c states t after states_then) (own : Own sys rt turns first c t entry.state) → Tells entry.end (raced_in (since rt c t) own.accesses)
entry_tells sys rt turns first lawful schedule c after states states_then t run entry own =
    tells (sys.step t) rt.cells (since rt c t) turns (rt.memory c.shared) entry.state own.accesses entry.accesses own.stores entry.stores own.end entry.end
    (own_never_races (sys.step t) rt.cells turns (memory_at (rt.memory first) c.history (start_of rt c t)) entry.state own.accesses own.stores own.end own.run)
    entry.run (raced_in (since rt c t) own.accesses)
    (serial_order sys rt turns first lawful schedule c states run t (start_of rt c t) (omega arith) entry.state own.accesses own.stores own.end own.run)

races_by : {S : Type 0} (end : End S) (o : Option Access) (x : Access) → Tells end o → end ≡ Raced x → o ≡ Some x
races_by end None x told is = absurd (subst IsNoRace is told)
races_by end (Some y) x told is = ap (λ (z : Access). Some z) (ap (access_or x) (sym told ∙ is))

raced_by : {S : Type 0} (end : End S) (o : Option Access) (x : Access) → Tells end o → o ≡ Some x → end ≡ Raced x
raced_by {S} end o x told is = subst (Tells {S = S} end) is told

-- An entry is raced exactly where its own segment accesses a byte that was touched since the thread's start, and then
-- at the first such access.
pub races_there : {S W : Type 0} (sys : System S) (rt : Runtime W) (turns : ℕ) (first : W) → Lawful rt → (schedule : List ℕ) (c after : Common W) (states states_then : List S) (t : ℕ) → Replays sys rt turns first schedule c states → (entry : Entry sys rt turns c states t after states_then) (own : Own sys rt turns first c t entry.state) (x : Access) → entry.end ≡ Raced x → raced_in (since rt c t) own.accesses ≡ Some x
races_there sys rt turns first lawful schedule c after states states_then t run entry own x = races_by entry.end (raced_in (since rt c t) own.accesses) x (entry_tells sys rt turns first lawful schedule c after states states_then t run entry own)

pub there_it_races : {S W : Type 0} (sys : System S) (rt : Runtime W) (turns : ℕ) (first : W) → Lawful rt → (schedule : List ℕ) (c after : Common W) (states states_then : List S) (t : ℕ) → Replays sys rt turns first schedule c states → (entry : Entry sys rt turns c states t after states_then) (own : Own sys rt turns first c t entry.state) (x : Access) → raced_in (since rt c t) own.accesses ≡ Some x → entry.end ≡ Raced x
there_it_races sys rt turns first lawful schedule c after states states_then t run entry own x = raced_by entry.end (raced_in (since rt c t) own.accesses) x (entry_tells sys rt turns first lawful schedule c after states states_then t run entry own)

reported_by : {W : Type 0} (rt : Runtime W) (c : Common W) (t : ℕ) (x : Access) (after : Common W) → after.ending ≡ Some (race_of t x (start_of rt c t) (latest (start_of rt c t) c.history x.addr)) → (o : Option Past) → latest (start_of rt c t) c.history x.addr ≡ o → is_some o ≡ true → Reported rt c t x after
reported_by rt c t x after ending None is some = absurd (true≢false (sym some))
reported_by rt c t x after ending (Some p) is some = record { past = p; touched = is; ending = ending ∙ ap (λ o. Some (race_of t x (start_of rt c t) o)) is }

-- The report names that byte, both lines, the thread's start, and the latest entry that touched the byte.
pub reported : {S W : Type 0} (sys : System S) (rt : Runtime W) (turns : ℕ) (first : W) → Lawful rt → (schedule : List ℕ) (c after : Common W) (states states_then : List S) (t : ℕ) → Replays sys rt turns first schedule c states → (entry : Entry sys rt turns c states t after states_then) (own : Own sys rt turns first c t entry.state) (x : Access) → raced_in (since rt c t) own.accesses ≡ Some x → Reported rt c t x after
reported {S} sys rt turns first lawful schedule c after states states_then t run entry own x races =
    let end = there_it_races sys rt turns first lawful schedule c after states states_then t run entry own x races in
    let is : after ≡ common_after {S = S} rt c t entry.stores (Raced x) = entry.common_is ∙ ap (λ e. common_after rt c t entry.stores e) end in
    reported_by rt c t x after (ap (λ k. k.ending) is) (latest (start_of rt c t) c.history x.addr) refl (raced_touched (since rt c t) own.accesses x races)
