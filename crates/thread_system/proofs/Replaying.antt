use Rattle.std.proofs.Common.{◌≡◌, ℕ, ◌<◌, ◌≤◌, Bool, true, false, nat_lt, List, ◌++◌, refl, sym, ap, ◌∙◌, subst, append_assoc, arith}
use Rattle.std.proofs.lemmas.Bool.{ltb-true, ltb-false}
use Rattle.thread_system.specs.Effect.{Effect}
use Rattle.thread_system.specs.Segment.{End}
use Rattle.thread_system.specs.Simulation.{Simulates, SameEnd, same_call, same_trap, same_spent}
use Rattle.thread_system.specs.LoneCalls.{CallResult, Prints, Ends, IsNone, call_result}
use Rattle.thread_system.specs.Replay.{nothing, bad_code, Finish, Ended, Stopped, OutOfTurns, Standing, Going, Over, standing_by, written_at, standing_at, Entry, Replays, begins, one_more, SameStanding, both_go, both_over}
use Rattle.thread_system.proofs.Carrying.{carries}
use Rattle.thread_system.proofs.Determined.{determined}

-- ---- determined

-- Two runs have written the same bytes and stand at the same place.
pub record SameRun {S : Type 0} (bytes bytes' : List ℕ) (standing standing' : Standing S) : Type 0 where
  pub bytes_are : bytes ≡ bytes'
  pub stands : standing ≡ standing'

-- A thread's step is a function, so what its next entry writes and comes to is determined.
pub one_entry : {S : Type 0} (step : S → Effect S) (turns : ℕ) (state : S) (bytes bytes' : List ℕ) (standing standing' : Standing S) → Entry step turns state bytes standing → Entry step turns state bytes' standing' → SameRun bytes bytes' standing standing'
one_entry step turns state bytes bytes' standing standing' e f =
    let same = determined step turns nothing nothing nothing state e.end f.end e.segment f.segment in
    record {
      bytes_are = e.bytes_are ∙ ap written_at same.end ∙ sym f.bytes_are;
      stands = e.stands ∙ ap standing_at same.end ∙ sym f.stands;
    }

-- the state that a thread goes on from
abbrev pub state_or : {S : Type 0} → S → Standing S → S
state_or other (Going state) = state
state_or other (Over finish) = other

pub same_state : {S : Type 0} (s t : S) → ◌≡◌ {A = Standing S} (Going s) (Going t) → s ≡ t
same_state s t e = ap (state_or s) e

abbrev pub is_over : {S : Type 0} → Standing S → Type 0
is_over (Going state) = ⊥
is_over (Over finish) = Unit {0}

pub never_both : {S : Type 0} (finish : Finish) (s : S) → ◌≡◌ {A = Standing S} (Over finish) (Going s) → ⊥
never_both finish s e = subst is_over e tt

-- What a replay writes and comes to is determined by the number of its entries.
pub one_replay : {S : Type 0} (step : S → Effect S) (turns : ℕ) (first : S) (entries : ℕ) (bytes bytes' : List ℕ) (standing standing' : Standing S) → Replays step turns first entries bytes standing → Replays step turns first entries bytes' standing' → SameRun bytes bytes' standing standing'
one_replay step turns first _ bytes bytes' standing standing' begins begins = record { bytes_are = refl; stands = refl }
one_replay step turns first _ bytes bytes' standing standing' (one_more entries before item state _ run entry) (one_more _ before' item' state' _ run' entry') =
    let same = one_replay step turns first entries before before' (Going state) (Going state') run run' in
    let here : state' ≡ state = sym (same_state state state' same.stands) in
    let last = one_entry step turns state item item' standing standing' entry (subst (λ s. Entry step turns s item' standing') here entry') in
    record { bytes_are = ap (λ bs. bs ++ item) same.bytes_are ∙ ap (λ bs. before' ++ bs) last.bytes_are; stands = last.stands }

-- ---- fronts

-- What a replay came to after fewer entries: the thread went on, and what was written then stands first.
pub record Earlier {S : Type 0} (step : S → Effect S) (turns : ℕ) (first : S) (fewer : ℕ) (bytes : List ℕ) : Type 0 where
  pub front : List ℕ
  pub rest : List ℕ
  pub state : S
  pub replay : Replays step turns first fewer front (Going state)
  pub bytes_are : bytes ≡ front ++ rest

-- A front of a replay is a replay.
pub front_of : {S : Type 0} (step : S → Effect S) (turns : ℕ) (first : S) (entries fewer : ℕ) (bytes : List ℕ) (standing : Standing S) → fewer < entries → Replays step turns first entries bytes standing → Earlier step turns first fewer bytes
front_of step turns first _ fewer bytes standing few begins = absurd (omega arith)
front_of step turns first _ fewer bytes standing few (one_more entries before item state _ run entry) = by_count (λ l. front_of step turns first entries fewer before (Going state) l run) (nat_lt fewer entries) refl where
  by_count : (fewer < entries → Earlier step turns first fewer before) → (t : Bool) → nat_lt fewer entries ≡ t → Earlier step turns first fewer (before ++ item)
  by_count earlier true e =
      let w = earlier (ltb-true fewer entries e) in
      record { front = w.front; rest = w.rest ++ item; state = w.state; replay = w.replay; bytes_are = ap (λ bs. bs ++ item) w.bytes_are ∙ append_assoc w.front w.rest item }
  by_count earlier false e =
      let least : entries ≤ fewer = ltb-false fewer entries e in
      let same : entries ≡ fewer = omega arith in
      record { front = before; rest = item; state = state; replay = subst (λ n. Replays step turns first n before (Going state)) same run; bytes_are = refl }

-- No replay has more entries than one that is over.
pub over_is_last : {S : Type 0} (step : S → Effect S) (turns : ℕ) (first : S) (entries more : ℕ) (bytes longer : List ℕ) (finish : Finish) (standing : Standing S) → Replays step turns first entries bytes (Over finish) → Replays step turns first more longer standing → more ≤ entries
over_is_last step turns first entries more bytes longer finish standing over other = by_count (nat_lt entries more) refl where
  by_count : (t : Bool) → nat_lt entries more ≡ t → more ≤ entries
  by_count true e =
      let w = front_of step turns first more entries longer standing (ltb-true entries more e) other in
      absurd (never_both finish w.state (one_replay step turns first entries bytes w.front (Over finish) (Going w.state) over w.replay).stands)
  by_count false e = ltb-false entries more e

-- ---- carried

same_by : {A B : Type 0} (R : A → B → Type 0) (result : CallResult) (line : ℕ) (next : ℕ → A) (then : ℕ → B) → ((v : ℕ) → R (next v) (then v)) → SameStanding R (standing_by result line next) (standing_by result line then)
same_by R (Prints bytes) line next then r = both_go (next 0) (then 0) (r 0)
same_by R (Ends status) line next then r = both_over (Ended status)
same_by R IsNone line next then r = both_over (Stopped bad_code line)

-- Ends that are the same one write the same bytes, and leave the two runs alike.
pub same_written : {A B : Type 0} (R : A → B → Type 0) (e : End A) (f : End B) → SameEnd R e f → written_at e ≡ written_at f
same_written R e f (same_call number args line next then r) = refl
same_written R e f (same_trap kind line) = refl
same_written R e f (same_spent line) = refl

pub same_after : {A B : Type 0} (R : A → B → Type 0) (e : End A) (f : End B) → SameEnd R e f → SameStanding R (standing_at e) (standing_at f)
same_after R e f (same_call number args line next then r) = same_by R (call_result number args) line next then r
same_after R e f (same_trap kind line) = both_over (Stopped kind line)
same_after R e f (same_spent line) = both_over (OutOfTurns line)

-- What an entry of the first kind of thread comes to, in the second.
pub record CarriedEntry {A B : Type 0} (R : A → B → Type 0) (carried : B → Effect B) (turns : ℕ) (state : B) (bytes : List ℕ) (standing : Standing A) : Type 0 where
  pub after : Standing B
  pub entry : Entry carried turns state bytes after
  pub same : SameStanding R standing after

-- A simulation carries entries: the second kind of thread writes the same bytes.
pub carries_entry : {A B : Type 0} (step : A → Effect A) (carried : B → Effect B) (R : A → B → Type 0) → Simulates step carried R → (turns : ℕ) (a : A) (b : B) (bytes : List ℕ) (standing : Standing A) → R a b → Entry step turns a bytes standing → CarriedEntry R carried turns b bytes standing
carries_entry step carried R simulation turns a b bytes standing r e =
    let c = carries step carried R simulation turns nothing a b nothing e.end r e.segment in
    record {
      after = standing_at c.end;
      entry = record { end = c.end; segment = c.segment; bytes_are = e.bytes_are ∙ same_written R e.end c.end c.same; stands = refl };
      same = subst (λ s. SameStanding R s (standing_at c.end)) (sym e.stands) (same_after R e.end c.end c.same);
    }

-- Where the first thread goes on, so does the second.
pub record GoesToo {A B : Type 0} (R : A → B → Type 0) (a : A) (after : Standing B) : Type 0 where
  pub state : B
  pub stands : after ≡ Going state
  pub related : R a state

pub goes_too : {A B : Type 0} (R : A → B → Type 0) (a : A) (after : Standing B) → SameStanding R (Going a) after → GoesToo R a after
goes_too R _ after (both_go a b r) = record { state = b; stands = refl; related = r }

-- What a replay of the first kind of thread comes to, in the second.
pub record CarriedReplay {A B : Type 0} (R : A → B → Type 0) (carried : B → Effect B) (turns : ℕ) (first : B) (entries : ℕ) (bytes : List ℕ) (standing : Standing A) : Type 0 where
  pub after : Standing B
  pub replay : Replays carried turns first entries bytes after
  pub same : SameStanding R standing after

-- A simulation carries replays: the second kind of thread makes as many entries, writes the same bytes, and stands
-- alike after them.
pub carries_replay : {A B : Type 0} (step : A → Effect A) (carried : B → Effect B) (R : A → B → Type 0) → Simulates step carried R → (turns : ℕ) (a : A) (b : B) (entries : ℕ) (bytes : List ℕ) (standing : Standing A) → R a b → Replays step turns a entries bytes standing → CarriedReplay R carried turns b entries bytes standing
carries_replay step carried R simulation turns a b _ bytes standing r begins = record { after = Going b; replay = begins; same = both_go a b r }
carries_replay step carried R simulation turns a b _ bytes standing r (one_more entries before item state _ run entry) =
    let w = carries_replay step carried R simulation turns a b entries before (Going state) r run in
    let on = goes_too R state w.after w.same in
    let last = carries_entry step carried R simulation turns state on.state item standing on.related entry in
    record {
      after = last.after;
      replay = one_more entries before item on.state last.after (subst (λ s. Replays carried turns b entries before s) on.stands w.replay) last.entry;
      same = last.same;
    }
