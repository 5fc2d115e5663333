use Rattle.std.proofs.Common.{◌≡◌, ℕ, suc, ◌+◌, ◌<◌, ◌≤◌, List, [], ◌∷◌, ◌++◌, length, length-append, length-set, slice_set, Option, Some, None, refl, sym, ap, ◌∙◌, subst, arith}
use Rattle.entry_replay.specs.Accesses.{Store}
use Rattle.entry_replay.specs.Runs.{End, Calling, Trapped, Spent, Raced, Runs}
use Rattle.entry_replay.specs.World.{System, Start, Applied, Refuses, Does, Runtime, Common, since, common_after, applied, with_made, states_by, states_after}
use Rattle.entry_replay.specs.Replay.{Entry, Replays, begins, one_more}
use Rattle.entry_replay.specs.Laws.{Lawful, Paired, CarriesOut, ComesTo, SameEnd, same_call, same_trap, same_spent, same_race, AlwaysEnds}
use Rattle.entry_replay.proofs.Carried.{carries}
use Rattle.entry_replay.proofs.Determined.{determined}
use Rattle.entry_replay.proofs.Pairs.{paired_at, paired_back, paired_set, paired_more, paired_length}
use Rattle.entry_replay.proofs.Touched.{same_some}

-- ---- determined

-- A thread's step is a function, so a schedule has one replay.
pub record SameWorld {S W : Type 0} (c c' : Common W) (xs ys : List S) : Type 0 where
  pub common : c ≡ c'
  pub states : xs ≡ ys

one_entry : {S W : Type 0} (sys : System S) (rt : Runtime W) (turns : ℕ) (c : Common W) (states : List S) (t : ℕ) (d d' : Common W) (xs ys : List S) → Entry sys rt turns c states t d xs → Entry sys rt turns c states t d' ys → SameWorld d d' xs ys
one_entry {S} sys rt turns c states t d d' xs ys e f =
    let here : f.state ≡ e.state = same_some f.state e.state (sym f.state_is ∙ e.state_is) in
    let run = subst (λ (s : S). Runs (sys.step t) rt.cells (since rt c t) turns (rt.memory c.shared) s f.accesses f.stores f.end) here f.run in
    let same = determined (sys.step t) rt.cells (since rt c t) turns (rt.memory c.shared) e.state e.accesses f.accesses e.stores f.stores e.end f.end e.run run in
    record {
      common = e.common_is ∙ (λ i. common_after rt c t (same.stores i) (same.end i)) ∙ sym f.common_is;
      states = e.states_are ∙ (λ i. states_after sys rt c t (same.stores i) (same.end i) states) ∙ sym f.states_are;
    }

pub one_replay : {S W : Type 0} (sys : System S) (rt : Runtime W) (turns : ℕ) (first : W) (schedule : List ℕ) (c c' : Common W) (xs ys : List S) → Replays sys rt turns first schedule c xs → Replays sys rt turns first schedule c' ys → SameWorld c c' xs ys
one_replay sys rt turns first _ c c' xs ys begins begins = record { common = refl; states = refl }
one_replay sys rt turns first _ c c' xs ys (one_more schedule d _ states _ t run entry) (one_more _ d' _ states' _ _ run' entry') =
    let same = one_replay sys rt turns first schedule d d' states states' run run' in
    let other : Entry sys rt turns d states t c' ys = subst (λ k. Entry sys rt turns k states t c' ys) (sym same.common) (subst (λ k. Entry sys rt turns d' k t c' ys) (sym same.states) entry') in
    one_entry sys rt turns d states t c c' xs ys entry other

-- ---- at most one thread more an entry

made_few : {S W : Type 0} (sys : System S) (rt : Runtime W) (t : ℕ) (next : ℕ → S) (states : List S) (a : Applied W) → length (states_by sys t next states a) ≤ suc (length states)
made_few sys rt t next states (Refuses kind) = omega arith
made_few sys rt t next states (Does d) = by_made d.made where
  by_made : (o : Option Start) → length (with_made sys o (slice_set states t (next d.answer))) ≤ suc (length states)
  by_made None = let e = length-set states t (next d.answer) in omega (arith, e)
  by_made (Some s) =
      let longer = slice_set states t (next d.answer) in
      let e : length longer ≡ length states = length-set states t (next d.answer) in
      let f : length (longer ++ sys.start (length longer) s.proc s.param ∷ []) ≡ length longer + 1 = length-append longer (sys.start (length longer) s.proc s.param ∷ []) in
      omega (arith, e, f)

few_after : {S W : Type 0} (sys : System S) (rt : Runtime W) (c : Common W) (t : ℕ) (w : List Store) (e : End S) (states : List S) → length (states_after sys rt c t w e states) ≤ suc (length states)
few_after sys rt c t w (Calling number args line next) states = made_few sys rt t next states (applied rt c t w number args line)
few_after sys rt c t w (Trapped kind line) states = omega arith
few_after sys rt c t w (Spent line) states = omega arith
few_after sys rt c t w (Raced x) states = omega arith

pub few_states : {S W : Type 0} (sys : System S) (rt : Runtime W) (turns : ℕ) (first : W) (schedule : List ℕ) (c : Common W) (states : List S) → Replays sys rt turns first schedule c states → length states ≤ suc (length schedule)
few_states sys rt turns first _ c states begins = omega arith
few_states sys rt turns first _ c _ (one_more schedule d _ states states_then t run entry) =
    let few = few_states sys rt turns first schedule d states run in
    let one = few_after sys rt d t entry.stores entry.end states in
    let more : length states_then ≤ suc (length states) = subst (λ l. length l ≤ suc (length states)) (sym entry.states_are) one in
    omega (arith, few, more)

-- ---- carried

-- ends that are the same one leave one common part
pub same_common : {A B W : Type 0} (R : A → B → Type 0) (rt : Runtime W) (c : Common W) (t : ℕ) (w : List Store) (e : End A) (f : End B) → SameEnd R e f → common_after rt c t w e ≡ common_after rt c t w f
same_common R rt c t w _ _ (same_call number args line next onward r) = refl
same_common R rt c t w _ _ (same_trap kind line) = refl
same_common R rt c t w _ _ (same_spent line) = refl
same_common R rt c t w _ _ (same_race x) = refl

made_paired : {A B : Type 0} (from : System A) (to : System B) (R : ℕ → A → B → Type 0) (procs most : ℕ) → CarriesOut from to R procs most → (made : Option Start) → ((s : Start) → made ≡ Some s → s.proc < procs) → (xs : List A) (ys : List B) → length xs < most → Paired R xs ys → Paired R (with_made from made xs) (with_made to made ys)
made_paired from to R procs most carried None creates xs ys few p = p
made_paired from to R procs most carried (Some s) creates xs ys few p =
    subst (λ n. Paired R (xs ++ from.start (length xs) s.proc s.param ∷ []) (ys ++ to.start n s.proc s.param ∷ [])) (paired_length R xs ys p)
    (paired_more R xs ys (from.start (length xs) s.proc s.param) (to.start (length xs) s.proc s.param) (carried.starts (length xs) s.proc s.param few (creates s refl)) p)

states_paired : {A B W : Type 0} (from : System A) (to : System B) (R : ℕ → A → B → Type 0) (rt : Runtime W) (most : ℕ) → CarriesOut from to R rt.procs most → Lawful rt → (number : ℕ) (args : List ℕ) (t now line : ℕ) (x : W) (next : ℕ → A) (onward : ℕ → B) → ((v : ℕ) → R t (next v) (onward v)) → (xs : List A) (ys : List B) → length xs < most → Paired R xs ys → (a : Applied W) → rt.applies number args t now line x ≡ a → Paired R (states_by from t next xs a) (states_by to t onward ys a)
states_paired from to R rt most carried lawful number args t now line x next onward r xs ys few p (Refuses kind) is = p
states_paired from to R rt most carried lawful number args t now line x next onward r xs ys few p (Does d) is =
    let e : length (slice_set xs t (next d.answer)) ≡ length xs = length-set xs t (next d.answer) in
    made_paired from to R rt.procs most carried d.made (λ s made. lawful.creates number args t now line x d s is made) (slice_set xs t (next d.answer)) (slice_set ys t (onward d.answer)) (omega (arith, e)) (paired_set R xs ys t (next d.answer) (onward d.answer) (r d.answer) p)

ends_paired : {A B W : Type 0} (from : System A) (to : System B) (R : ℕ → A → B → Type 0) (rt : Runtime W) (most : ℕ) → CarriesOut from to R rt.procs most → Lawful rt → (c : Common W) (t : ℕ) (w : List Store) (xs : List A) (ys : List B) → length xs < most → Paired R xs ys → (e : End A) (f : End B) → SameEnd (R t) e f → Paired R (states_after from rt c t w e xs) (states_after to rt c t w f ys)
ends_paired from to R rt most carried lawful c t w xs ys few p _ _ (same_call number args line next onward r) = states_paired from to R rt most carried lawful number args t _ line (rt.stored w c.shared) next onward r xs ys few p (applied rt c t w number args line) refl
ends_paired from to R rt most carried lawful c t w xs ys few p _ _ (same_trap kind line) = p
ends_paired from to R rt most carried lawful c t w xs ys few p _ _ (same_spent line) = p
ends_paired from to R rt most carried lawful c t w xs ys few p _ _ (same_race x) = p

-- What a replay of the first kind of thread comes to, in the second: the same world, and threads that are related.
pub record CarriedReplay {A B W : Type 0} (R : ℕ → A → B → Type 0) (to : System B) (rt : Runtime W) (turns : ℕ) (first : W) (schedule : List ℕ) (c : Common W) (xs : List A) : Type 0 where
  pub states : List B
  pub replay : Replays to rt turns first schedule c states
  pub paired : Paired R xs states

carries_entry : {A B W : Type 0} (from : System A) (to : System B) (R : ℕ → A → B → Type 0) (rt : Runtime W) (turns most : ℕ) (first : W) → CarriesOut from to R rt.procs most → Lawful rt → (schedule : List ℕ) (c after : Common W) (xs xs' : List A) (t : ℕ) → length xs < most → CarriedReplay R to rt turns first schedule c xs → Entry from rt turns c xs t after xs' → CarriedReplay R to rt turns first (t ∷ schedule) after xs'
carries_entry from to R rt turns most first carried lawful schedule c after xs xs' t few before entry =
    let there = paired_at R xs before.states t entry.state before.paired entry.state_is in
    let run = carries (from.step t) (to.step t) (R t) (carried.steps t) rt.cells (since rt c t) turns (rt.memory c.shared) entry.state there.state entry.accesses entry.stores entry.end there.related entry.run in
    let last : Entry to rt turns c before.states t after (states_after to rt c t entry.stores run.end before.states) = record {
      goes_on = entry.goes_on;
      ready = entry.ready;
      state = there.state;
      state_is = there.is;
      accesses = entry.accesses;
      stores = entry.stores;
      end = run.end;
      run = run.run;
      common_is = entry.common_is ∙ same_common (R t) rt c t entry.stores entry.end run.end run.same;
      states_are = refl;
    } in
    record {
      states = states_after to rt c t entry.stores run.end before.states;
      replay = one_more schedule c after before.states (states_after to rt c t entry.stores run.end before.states) t before.replay last;
      paired = subst (λ l. Paired R l (states_after to rt c t entry.stores run.end before.states)) (sym entry.states_are) (ends_paired from to R rt most carried lawful c t entry.stores xs before.states few before.paired entry.end run.end run.same);
    }

-- Where one kind of thread carries out another, each schedule's replay of the one is a replay of the other, with the
-- same world.
pub carries_replay : {A B W : Type 0} (from : System A) (to : System B) (R : ℕ → A → B → Type 0) (rt : Runtime W) (turns most : ℕ) (first : W) → CarriesOut from to R rt.procs most → Lawful rt → 0 < rt.procs → (schedule : List ℕ) (c : Common W) (xs : List A) → length schedule < most → Replays from rt turns first schedule c xs → CarriedReplay R to rt turns first schedule c xs
carries_replay from to R rt turns most first carried lawful some _ c xs few begins = record { states = to.start 0 0 0 ∷ []; replay = begins; paired = (carried.starts 0 0 0 few some, tt) }
carries_replay from to R rt turns most first carried lawful some _ c _ few (one_more schedule d _ xs xs' t run entry) =
    let before = carries_replay from to R rt turns most first carried lawful some schedule d xs (omega arith) run in
    let states = few_states from rt turns first schedule d xs run in
    carries_entry from to R rt turns most first carried lawful schedule d c xs xs' t (omega (arith, states)) before entry

-- ---- and back

pub record AnsweredReplay {A B W : Type 0} (R : ℕ → A → B → Type 0) (from : System A) (rt : Runtime W) (turns : ℕ) (first : W) (schedule : List ℕ) (c : Common W) (ys : List B) : Type 0 where
  pub states : List A
  pub replay : Replays from rt turns first schedule c states
  pub paired : Paired R states ys

answers_entry : {A B W : Type 0} (from : System A) (to : System B) (R : ℕ → A → B → Type 0) (rt : Runtime W) (turns most : ℕ) (first : W) → CarriesOut from to R rt.procs most → Lawful rt → AlwaysEnds from R rt turns → (schedule : List ℕ) (c after : Common W) (ys ys' : List B) (t : ℕ) → length ys < most → AnsweredReplay R from rt turns first schedule c ys → Entry to rt turns c ys t after ys' → AnsweredReplay R from rt turns first (t ∷ schedule) after ys'
answers_entry from to R rt turns most first carried lawful ends schedule c after ys ys' t few before entry =
    let there = paired_back R before.states ys t entry.state before.paired entry.state_is in
    let mine = ends t there.state entry.state there.related (since rt c t) (rt.memory c.shared) in
    let run = carries (from.step t) (to.step t) (R t) (carried.steps t) rt.cells (since rt c t) turns (rt.memory c.shared) there.state entry.state mine.accesses mine.stores mine.end there.related mine.run in
    let one = determined (to.step t) rt.cells (since rt c t) turns (rt.memory c.shared) entry.state mine.accesses entry.accesses mine.stores entry.stores run.end entry.end run.run entry.run in
    let same : SameEnd (R t) mine.end entry.end = subst (λ e. SameEnd (R t) mine.end e) one.end run.same in
    let last : Entry from rt turns c before.states t after (states_after from rt c t mine.stores mine.end before.states) = record {
      goes_on = entry.goes_on;
      ready = entry.ready;
      state = there.state;
      state_is = there.is;
      accesses = mine.accesses;
      stores = mine.stores;
      end = mine.end;
      run = mine.run;
      common_is = entry.common_is ∙ ap (λ w. common_after rt c t w entry.end) (sym one.stores) ∙ sym (same_common (R t) rt c t mine.stores mine.end entry.end same);
      states_are = refl;
    } in
    let same_length = paired_length R before.states ys before.paired in
    let paired = ends_paired from to R rt most carried lawful c t mine.stores before.states ys (omega (arith, same_length)) before.paired mine.end entry.end same in
    record {
      states = states_after from rt c t mine.stores mine.end before.states;
      replay = one_more schedule c after before.states (states_after from rt c t mine.stores mine.end before.states) t before.replay last;
      paired = subst (λ l. Paired R (states_after from rt c t mine.stores mine.end before.states) l) (ap (λ w. states_after to rt c t w entry.end ys) one.stores ∙ sym entry.states_are) paired;
    }

-- Where the runs of the first kind of thread come to an end, each schedule's replay of the second is one of the first,
-- with the same world.
pub answers_replay : {A B W : Type 0} (from : System A) (to : System B) (R : ℕ → A → B → Type 0) (rt : Runtime W) (turns most : ℕ) (first : W) → CarriesOut from to R rt.procs most → Lawful rt → 0 < rt.procs → AlwaysEnds from R rt turns → (schedule : List ℕ) (c : Common W) (ys : List B) → length schedule < most → Replays to rt turns first schedule c ys → AnsweredReplay R from rt turns first schedule c ys
answers_replay from to R rt turns most first carried lawful some ends _ c ys few begins = record { states = from.start 0 0 0 ∷ []; replay = begins; paired = (carried.starts 0 0 0 few some, tt) }
answers_replay from to R rt turns most first carried lawful some ends _ c _ few (one_more schedule d _ ys ys' t run entry) =
    let before = answers_replay from to R rt turns most first carried lawful some ends schedule d ys (omega arith) run in
    let states = few_states to rt turns first schedule d ys run in
    answers_entry from to R rt turns most first carried lawful ends schedule d c ys ys' t (omega (arith, states)) before entry

-- Both ways.
pub same_replays : {A B W : Type 0} (from : System A) (to : System B) (R : ℕ → A → B → Type 0) (rt : Runtime W) (turns most : ℕ) (first : W) → CarriesOut from to R rt.procs most → Lawful rt → 0 < rt.procs → AlwaysEnds from R rt turns → (schedule : List ℕ) (c : Common W) → length schedule < most → (ComesTo from rt turns first schedule c → ComesTo to rt turns first schedule c) × (ComesTo to rt turns first schedule c → ComesTo from rt turns first schedule c)
same_replays from to R rt turns most first carried lawful some ends schedule c few = (
  λ w. let there = carries_replay from to R rt turns most first carried lawful some schedule c w.0 few w.1 in (there.states, there.replay),
  λ w. let here = answers_replay from to R rt turns most first carried lawful some ends schedule c w.0 few w.1 in (here.states, here.replay),
)
