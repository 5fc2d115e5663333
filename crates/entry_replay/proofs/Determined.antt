use Rattle.std.proofs.Common.{◌≡◌, ℕ, zero, suc, Bool, List, [], ◌++◌, Option, Some, None, refl, sym, ap, ◌∙◌}
use Rattle.thread_system.specs.Effect.{Effect, Silent, Reads, Writes, Turn, Calls, Traps}
use Rattle.thread_system.specs.Memory.{Memory}
use Rattle.thread_system.specs.Segment.{bad_pointer}
use Rattle.entry_replay.specs.Accesses.{Access, Store, Verdict, Races, Misses, Finds, addresses, at_line, at_cells, stores_of, with_stores, raced_in, tries}
use Rattle.entry_replay.specs.Runs.{End, Calling, Trapped, Spent, Raced, Runs, goes_on, reads, reads_badly, reads_raced, writes, writes_badly, writes_raced, takes_turn, lacks_turn, calls, calls_raced, traps}

-- Two runs from one state and one memory make the same accesses and stores, and come to the same end.
pub record Same {S : Type 0} (acc acc' : List Access) (w w' : List Store) (e e' : End S) : Type 0 where
  pub accesses : acc ≡ acc'
  pub stores : w ≡ w'
  pub end : e ≡ e'

-- a run goes on, behind these accesses and stores
pub record Goes {S : Type 0} (step : S → Effect S) (cells : ℕ → List ℕ → List ℕ) (touched : ℕ → Bool) (turns : ℕ) (m : Memory) (next : S) (front : List Access) (done : List Store) (acc : List Access) (w : List Store) (e : End S) : Type 0 where
  pub later : List Access
  pub more : List Store
  pub accesses : acc ≡ front ++ later
  pub stores : w ≡ done ++ more
  pub run : Runs step cells touched turns m next later more e

-- what becomes of a run at an access, by the verdict
abbrev pub AtRead : {S : Type 0} → (S → Effect S) → (ℕ → List ℕ → List ℕ) → (ℕ → Bool) → ℕ → Memory → List Access → List Store → End S → Verdict → List Access → ℕ → (ℕ → S) → Type 0
AtRead step cells touched turns m acc w e (Finds value) here line next = Goes step cells touched turns m (next value) here [] acc w e
AtRead step cells touched turns m acc w e Misses here line next = Same here acc [] w (Trapped bad_pointer line) e
AtRead step cells touched turns m acc w e (Races x) here line next = Same here acc [] w (Raced x) e

abbrev pub AtWrite : {S : Type 0} → (S → Effect S) → (ℕ → List ℕ → List ℕ) → (ℕ → Bool) → ℕ → Memory → List Access → List Store → End S → Verdict → List Access → List Store → ℕ → S → Type 0
AtWrite step cells touched turns m acc w e (Finds old) here done line next = Goes step cells touched turns (with_stores done m) next here done acc w e
AtWrite step cells touched turns m acc w e Misses here done line next = Same here acc [] w (Trapped bad_pointer line) e
AtWrite step cells touched turns m acc w e (Races x) here done line next = Same here acc [] w (Raced x) e

abbrev pub AtCall : {S : Type 0} → List Access → List Store → End S → Option Access → List Access → End S → Type 0
AtCall acc w e None here call = Same here acc [] w call e
AtCall acc w e (Some x) here call = Same here acc [] w (Raced x) e

-- what a state's one effect says of each form that it may have, for a run that begins there
abbrev pub Does : {S : Type 0} → (S → Effect S) → (ℕ → List ℕ → List ℕ) → (ℕ → Bool) → ℕ → Memory → List Access → List Store → End S → Effect S → Type 0
Does step cells touched turns m acc w e (Silent next) = Runs step cells touched turns m next acc w e
Does step cells touched turns m acc w e (Reads addr width line next) = AtRead step cells touched turns m acc w e (tries touched m addr width line) (at_line line (addresses addr width)) line next
Does step cells touched turns m acc w e (Writes addr width value line next) = AtWrite step cells touched turns m acc w e (tries touched m addr width line) (at_line line (addresses addr width)) (stores_of addr width value) line next
Does step cells touched zero m acc w e (Turn line next) = Same [] acc [] w (Spent line) e
Does step cells touched (suc turns) m acc w e (Turn line next) = Runs step cells touched turns m next acc w e
Does step cells touched turns m acc w e (Calls number args line next) = AtCall acc w e (raced_in touched (at_cells line (cells number args))) (at_cells line (cells number args)) (Calling number args line next)
Does step cells touched turns m acc w e (Traps kind line) = Same [] acc [] w (Trapped kind line) e

does : {S : Type 0} (step : S → Effect S) (cells : ℕ → List ℕ → List ℕ) (touched : ℕ → Bool) (turns : ℕ) (m : Memory) (s : S) (acc : List Access) (w : List Store) (e : End S) → Runs step cells touched turns m s acc w e → Does step cells touched turns m acc w e (step s)
does step cells touched turns m s acc w e (goes_on _ _ _ next _ _ _ is rest) = rw is rest
does step cells touched turns m s _ w e (reads _ _ _ addr width line value next acc _ _ is finds rest) = rw (is, finds) (record { later = acc; more = w; accesses = refl; stores = refl; run = rest })
does step cells touched turns m s acc w e (reads_badly _ _ _ addr width line next is misses) = rw (is, misses) (record { accesses = refl; stores = refl; end = refl })
does step cells touched turns m s acc w e (reads_raced _ _ _ addr width line next y is races) = rw (is, races) (record { accesses = refl; stores = refl; end = refl })
does step cells touched turns m s _ _ e (writes _ _ _ addr width value line old next acc w _ is finds rest) = rw (is, finds) (record { later = acc; more = w; accesses = refl; stores = refl; run = rest })
does step cells touched turns m s acc w e (writes_badly _ _ _ addr width value line next is misses) = rw (is, misses) (record { accesses = refl; stores = refl; end = refl })
does step cells touched turns m s acc w e (writes_raced _ _ _ addr width value line next y is races) = rw (is, races) (record { accesses = refl; stores = refl; end = refl })
does step cells touched _ m s acc w e (takes_turn turns _ _ line next _ _ _ is rest) = rw is rest
does step cells touched _ m s acc w e (lacks_turn _ _ line next is) = rw is (record { accesses = refl; stores = refl; end = refl })
does step cells touched turns m s acc w e (calls _ _ _ number args line next is quiet) = rw (is, quiet) (record { accesses = refl; stores = refl; end = refl })
does step cells touched turns m s acc w e (calls_raced _ _ _ number args line next y is races) = rw (is, races) (record { accesses = refl; stores = refl; end = refl })
does step cells touched turns m s acc w e (traps _ _ _ kind line is) = rw is (record { accesses = refl; stores = refl; end = refl })

-- A thread's step is a function, so its run on a memory makes one list of accesses and one of stores, and comes to one
-- end.
pub determined : {S : Type 0} (step : S → Effect S) (cells : ℕ → List ℕ → List ℕ) (touched : ℕ → Bool) (turns : ℕ) (m : Memory) (s : S) (acc acc' : List Access) (w w' : List Store) (e e' : End S) → Runs step cells touched turns m s acc w e → Runs step cells touched turns m s acc' w' e' → Same acc acc' w w' e e'
determined step cells touched turns m s acc acc' w w' e e' (goes_on _ _ _ next _ _ _ is rest) other =
    determined step cells touched turns m next acc acc' w w' e e' rest (rw is at (does step cells touched turns m s acc' w' e' other))
determined step cells touched turns m s _ acc' w w' e e' (reads _ _ _ addr width line value next acc _ _ is finds rest) other =
    let g : Goes step cells touched turns m (next value) (at_line line (addresses addr width)) [] acc' w' e' = rw (is, finds) at (does step cells touched turns m s acc' w' e' other) in
    let same = determined step cells touched turns m (next value) acc g.later w g.more e e' rest g.run in
    record { accesses = ap (λ l. at_line line (addresses addr width) ++ l) same.accesses ∙ sym g.accesses; stores = same.stores ∙ sym g.stores; end = same.end }
determined step cells touched turns m s acc acc' w w' e e' (reads_badly _ _ _ addr width line next is misses) other =
    rw (is, misses) at (does step cells touched turns m s acc' w' e' other)
determined step cells touched turns m s acc acc' w w' e e' (reads_raced _ _ _ addr width line next y is races) other =
    rw (is, races) at (does step cells touched turns m s acc' w' e' other)
determined step cells touched turns m s _ acc' _ w' e e' (writes _ _ _ addr width value line old next acc w _ is finds rest) other =
    let done = stores_of addr width value in
    let g : Goes step cells touched turns (with_stores done m) next (at_line line (addresses addr width)) done acc' w' e' = rw (is, finds) at (does step cells touched turns m s acc' w' e' other) in
    let same = determined step cells touched turns (with_stores done m) next acc g.later w g.more e e' rest g.run in
    record { accesses = ap (λ l. at_line line (addresses addr width) ++ l) same.accesses ∙ sym g.accesses; stores = ap (λ l. stores_of addr width value ++ l) same.stores ∙ sym g.stores; end = same.end }
determined step cells touched turns m s acc acc' w w' e e' (writes_badly _ _ _ addr width value line next is misses) other =
    rw (is, misses) at (does step cells touched turns m s acc' w' e' other)
determined step cells touched turns m s acc acc' w w' e e' (writes_raced _ _ _ addr width value line next y is races) other =
    rw (is, races) at (does step cells touched turns m s acc' w' e' other)
determined step cells touched _ m s acc acc' w w' e e' (takes_turn turns _ _ line next _ _ _ is rest) other =
    determined step cells touched turns m next acc acc' w w' e e' rest (rw is at (does step cells touched (suc turns) m s acc' w' e' other))
determined step cells touched _ m s acc acc' w w' e e' (lacks_turn _ _ line next is) other =
    rw is at (does step cells touched zero m s acc' w' e' other)
determined step cells touched turns m s acc acc' w w' e e' (calls _ _ _ number args line next is quiet) other =
    rw (is, quiet) at (does step cells touched turns m s acc' w' e' other)
determined step cells touched turns m s acc acc' w w' e e' (calls_raced _ _ _ number args line next y is races) other =
    rw (is, races) at (does step cells touched turns m s acc' w' e' other)
determined step cells touched turns m s acc acc' w w' e e' (traps _ _ _ kind line is) other =
    rw is at (does step cells touched turns m s acc' w' e' other)
