use Rattle.std.proofs.Common.{◌≡◌, ℕ, suc, Bool, List, [], ◌++◌, Option, Some, None, refl, sym, ◌∙◌, subst}
use Rattle.thread_system.specs.Effect.{Effect, Silent, Reads, Writes, Turn, Calls}
use Rattle.thread_system.specs.Memory.{Memory}
use Rattle.thread_system.specs.Segment.{bad_pointer}
use Rattle.entry_replay.specs.Accesses.{Access, Store, Misses, Finds, addresses, at_line, at_cells, stores_of, with_stores, untouched, raced_in, tries}
use Rattle.entry_replay.specs.Runs.{End, Calling, Trapped, Raced, Runs, goes_on, reads, reads_badly, reads_raced, writes, writes_badly, writes_raced, takes_turn, lacks_turn, calls, calls_raced, traps}
use Rattle.entry_replay.specs.Laws.{Agrees, Outcome, as_recorded, raced_at}
use Rattle.entry_replay.proofs.Touched.{or_else, raced_append, tries_alike, tries_races, stores_agree, never_races, never_raced_in}

-- A run that was made where no byte counts as touched, on another memory that agrees with its own outside of the
-- touched bytes: it is the same up to its first access to a touched byte, and there it races.
module _ (S : Type 0) (step : S → Effect S) (cells : ℕ → List ℕ → List ℕ) (touched : ℕ → Bool) where
  past_silent : (turns : ℕ) (now : Memory) (s next : S) (acc : List Access) (w : List Store) (e : End S) (o : Option Access) → step s ≡ Silent next → Outcome step cells touched turns now next acc w e o → Outcome step cells touched turns now s acc w e o
  past_silent turns now s next acc w e _ is (as_recorded run) = as_recorded (goes_on turns now s next acc w e is run)
  past_silent turns now s next acc w e _ is (raced_at x front before run) = raced_at x front before (goes_on turns now s next front before (Raced x) is run)

  past_turn : (turns : ℕ) (now : Memory) (s next : S) (line : ℕ) (acc : List Access) (w : List Store) (e : End S) (o : Option Access) → step s ≡ Turn line next → Outcome step cells touched turns now next acc w e o → Outcome step cells touched (suc turns) now s acc w e o
  past_turn turns now s next line acc w e _ is (as_recorded run) = as_recorded (takes_turn turns now s line next acc w e is run)
  past_turn turns now s next line acc w e _ is (raced_at x front before run) = raced_at x front before (takes_turn turns now s line next front before (Raced x) is run)

  past_read : (turns : ℕ) (now : Memory) (s : S) (addr width line value : ℕ) (next : ℕ → S) (acc : List Access) (w : List Store) (e : End S) (o : Option Access) → step s ≡ Reads addr width line next → tries touched now addr width line ≡ Finds value → Outcome step cells touched turns now (next value) acc w e o → Outcome step cells touched turns now s (at_line line (addresses addr width) ++ acc) w e o
  past_read turns now s addr width line value next acc w e _ is finds (as_recorded run) = as_recorded (reads turns now s addr width line value next acc w e is finds run)
  past_read turns now s addr width line value next acc w e _ is finds (raced_at x front before run) = raced_at x (at_line line (addresses addr width) ++ front) before (reads turns now s addr width line value next front before (Raced x) is finds run)

  past_write : (turns : ℕ) (now : Memory) (s : S) (addr width value line old : ℕ) (next : S) (acc : List Access) (w : List Store) (e : End S) (o : Option Access) → step s ≡ Writes addr width value line next → tries touched now addr width line ≡ Finds old → Outcome step cells touched turns (with_stores (stores_of addr width value) now) next acc w e o → Outcome step cells touched turns now s (at_line line (addresses addr width) ++ acc) (stores_of addr width value ++ w) e o
  past_write turns now s addr width value line old next acc w e _ is finds (as_recorded run) = as_recorded (writes turns now s addr width value line old next acc w e is finds run)
  past_write turns now s addr width value line old next acc w e _ is finds (raced_at x front before run) = raced_at x (at_line line (addresses addr width) ++ front) (stores_of addr width value ++ before) (writes turns now s addr width value line old next front before (Raced x) is finds run)

  -- an access in the middle
  read_on : (turns : ℕ) (base now : Memory) (s : S) (addr width line value : ℕ) (next : ℕ → S) (acc : List Access) (w : List Store) (e : End S) → step s ≡ Reads addr width line next → Agrees touched base now → tries untouched base addr width line ≡ Finds value → Outcome step cells touched turns now (next value) acc w e (raced_in touched acc) → (o : Option Access) → raced_in touched (at_line line (addresses addr width)) ≡ o → Outcome step cells touched turns now s (at_line line (addresses addr width) ++ acc) w e (or_else o (raced_in touched acc))
  read_on turns base now s addr width line value next acc w e is agrees finds rest None quiet = past_read turns now s addr width line value next acc w e (raced_in touched acc) is (tries_alike touched base now addr width line agrees quiet ∙ finds) rest
  read_on turns base now s addr width line value next acc w e is agrees finds rest (Some x) races = raced_at x (at_line line (addresses addr width)) [] (reads_raced turns now s addr width line next x is (tries_races touched now addr width line x races))

  write_on : (turns : ℕ) (base now : Memory) (s : S) (addr width value line old : ℕ) (next : S) (acc : List Access) (w : List Store) (e : End S) → step s ≡ Writes addr width value line next → Agrees touched base now → tries untouched base addr width line ≡ Finds old → Outcome step cells touched turns (with_stores (stores_of addr width value) now) next acc w e (raced_in touched acc) → (o : Option Access) → raced_in touched (at_line line (addresses addr width)) ≡ o → Outcome step cells touched turns now s (at_line line (addresses addr width) ++ acc) (stores_of addr width value ++ w) e (or_else o (raced_in touched acc))
  write_on turns base now s addr width value line old next acc w e is agrees finds rest None quiet = past_write turns now s addr width value line old next acc w e (raced_in touched acc) is (tries_alike touched base now addr width line agrees quiet ∙ finds) rest
  write_on turns base now s addr width value line old next acc w e is agrees finds rest (Some x) races = raced_at x (at_line line (addresses addr width)) [] (writes_raced turns now s addr width value line next x is (tries_races touched now addr width line x races))

  -- an access at the end
  read_last : (turns : ℕ) (base now : Memory) (s : S) (addr width line : ℕ) (next : ℕ → S) → step s ≡ Reads addr width line next → Agrees touched base now → tries untouched base addr width line ≡ Misses → (o : Option Access) → raced_in touched (at_line line (addresses addr width)) ≡ o → Outcome step cells touched turns now s (at_line line (addresses addr width)) [] (Trapped bad_pointer line) o
  read_last turns base now s addr width line next is agrees misses None quiet = as_recorded (reads_badly turns now s addr width line next is (tries_alike touched base now addr width line agrees quiet ∙ misses))
  read_last turns base now s addr width line next is agrees misses (Some x) races = raced_at x (at_line line (addresses addr width)) [] (reads_raced turns now s addr width line next x is (tries_races touched now addr width line x races))

  write_last : (turns : ℕ) (base now : Memory) (s : S) (addr width value line : ℕ) (next : S) → step s ≡ Writes addr width value line next → Agrees touched base now → tries untouched base addr width line ≡ Misses → (o : Option Access) → raced_in touched (at_line line (addresses addr width)) ≡ o → Outcome step cells touched turns now s (at_line line (addresses addr width)) [] (Trapped bad_pointer line) o
  write_last turns base now s addr width value line next is agrees misses None quiet = as_recorded (writes_badly turns now s addr width value line next is (tries_alike touched base now addr width line agrees quiet ∙ misses))
  write_last turns base now s addr width value line next is agrees misses (Some x) races = raced_at x (at_line line (addresses addr width)) [] (writes_raced turns now s addr width value line next x is (tries_races touched now addr width line x races))

  call_last : (turns : ℕ) (now : Memory) (s : S) (number : ℕ) (args : List ℕ) (line : ℕ) (next : ℕ → S) → step s ≡ Calls number args line next → (o : Option Access) → raced_in touched (at_cells line (cells number args)) ≡ o → Outcome step cells touched turns now s (at_cells line (cells number args)) [] (Calling number args line next) o
  call_last turns now s number args line next is None quiet = as_recorded (calls turns now s number args line next is quiet)
  call_last turns now s number args line next is (Some x) races = raced_at x (at_cells line (cells number args)) [] (calls_raced turns now s number args line next x is races)

  pub commits : (turns : ℕ) (base now : Memory) (s : S) (acc : List Access) (w : List Store) (e : End S) → Agrees touched base now → Runs step cells untouched turns base s acc w e → Outcome step cells touched turns now s acc w e (raced_in touched acc)
  commits turns base now s acc w e agrees (goes_on _ _ _ next _ _ _ is rest) = past_silent turns now s next acc w e (raced_in touched acc) is (commits turns base now next acc w e agrees rest)
  commits turns base now s _ w e agrees (reads _ _ _ addr width line value next acc _ _ is finds rest) =
      let here = at_line line (addresses addr width) in
      subst (λ o. Outcome step cells touched turns now s (here ++ acc) w e o) (sym (raced_append touched here acc))
      (read_on turns base now s addr width line value next acc w e is agrees finds (commits turns base now (next value) acc w e agrees rest) (raced_in touched here) refl)
  commits turns base now s _ w e agrees (reads_badly _ _ _ addr width line next is misses) = read_last turns base now s addr width line next is agrees misses (raced_in touched (at_line line (addresses addr width))) refl
  commits turns base now s _ w e agrees (reads_raced _ _ _ addr width line next x is races) = absurd (never_races base addr width line x races)
  commits turns base now s _ _ e agrees (writes _ _ _ addr width value line old next acc w _ is finds rest) =
      let here = at_line line (addresses addr width) in
      let done = stores_of addr width value in
      subst (λ o. Outcome step cells touched turns now s (here ++ acc) (done ++ w) e o) (sym (raced_append touched here acc))
      (write_on turns base now s addr width value line old next acc w e is agrees finds (commits turns (with_stores done base) (with_stores done now) next acc w e (stores_agree touched done base now agrees) rest) (raced_in touched here) refl)
  commits turns base now s _ w e agrees (writes_badly _ _ _ addr width value line next is misses) = write_last turns base now s addr width value line next is agrees misses (raced_in touched (at_line line (addresses addr width))) refl
  commits turns base now s _ w e agrees (writes_raced _ _ _ addr width value line next x is races) = absurd (never_races base addr width line x races)
  commits _ base now s acc w e agrees (takes_turn turns _ _ line next _ _ _ is rest) = past_turn turns now s next line acc w e (raced_in touched acc) is (commits turns base now next acc w e agrees rest)
  commits _ base now s acc w e agrees (lacks_turn _ _ line next is) = as_recorded (lacks_turn now s line next is)
  commits turns base now s _ w e agrees (calls _ _ _ number args line next is quiet) = call_last turns now s number args line next is (raced_in touched (at_cells line (cells number args))) refl
  commits turns base now s _ w e agrees (calls_raced _ _ _ number args line next x is races) = absurd (never_raced_in (at_cells line (cells number args)) x races)
  commits turns base now s acc w e agrees (traps _ _ _ kind line is) = as_recorded (traps turns now s kind line is)
