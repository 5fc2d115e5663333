use Rattle.std.proofs.Common.{ℕ, zero, suc, Bool, List, [], ◌++◌}
use Rattle.thread_system.specs.Effect.{Effect}
use Rattle.thread_system.specs.Memory.{Memory}
use Rattle.thread_system.specs.Segment.{bad_pointer}
use Rattle.thread_system.specs.Simulation.{Quiets, stays, moves, Simulates}
use Rattle.entry_replay.specs.Accesses.{Access, Store, addresses, at_line, at_cells, stores_of, with_stores}
use Rattle.entry_replay.specs.Runs.{End, Calling, Trapped, Spent, Raced, Runs, goes_on, reads, reads_badly, reads_raced, writes, writes_badly, writes_raced, takes_turn, lacks_turn, calls, calls_raced, traps}
use Rattle.entry_replay.specs.Laws.{SameEnd, same_call, same_trap, same_spent, same_race}

-- silent steps in front of a run
pub after_quiets : {S : Type 0} (step : S → Effect S) (cells : ℕ → List ℕ → List ℕ) (touched : ℕ → Bool) (turns : ℕ) (m : Memory) (s last : S) (acc : List Access) (w : List Store) (e : End S) → Quiets step s last → Runs step cells touched turns m last acc w e → Runs step cells touched turns m s acc w e
after_quiets step cells touched turns m s last acc w e (stays x) run = run
after_quiets step cells touched turns m s last acc w e (moves x next y is rest) run = goes_on turns m s next acc w e is (after_quiets step cells touched turns m next last acc w e rest run)

-- What a run of the first kind of thread comes to, in the second.
pub record CarriedRun {A B : Type 0} (R : A → B → Type 0) (carried : B → Effect B) (cells : ℕ → List ℕ → List ℕ) (touched : ℕ → Bool) (turns : ℕ) (m : Memory) (b : B) (acc : List Access) (w : List Store) (e : End A) : Type 0 where
  pub end : End B
  pub run : Runs carried cells touched turns m b acc w end
  pub same : SameEnd R e end

-- A simulation carries runs: the second kind of thread makes the same accesses, stores, turns and calls, races where the
-- first does, and comes to the same end.
pub carries : {A B : Type 0} (step : A → Effect A) (carried : B → Effect B) (R : A → B → Type 0) → Simulates step carried R → (cells : ℕ → List ℕ → List ℕ) (touched : ℕ → Bool) (turns : ℕ) (m : Memory) (a : A) (b : B) (acc : List Access) (w : List Store) (e : End A) → R a b → Runs step cells touched turns m a acc w e → CarriedRun R carried cells touched turns m b acc w e
carries step carried R simulation cells touched turns m a b acc w e r (goes_on _ _ _ next _ _ _ is rest) =
    let x = rw is at (simulation a b r) in
    let c = carries step carried R simulation cells touched turns m next x.0 acc w e x.2 rest in
    record { end = c.end; run = after_quiets carried cells touched turns m b x.0 acc w c.end x.1 c.run; same = c.same }
carries step carried R simulation cells touched turns m a b _ w e r (reads _ _ _ addr width line value next acc _ _ is finds rest) =
    let x = rw is at (simulation a b r) in
    let c = carries step carried R simulation cells touched turns m (next value) (x.1 value) acc w e (x.4 value) rest in
    let here = at_line line (addresses addr width) in
    record { end = c.end; run = after_quiets carried cells touched turns m b x.0 (here ++ acc) w c.end x.2 (reads turns m x.0 addr width line value x.1 acc w c.end x.3 finds c.run); same = c.same }
carries step carried R simulation cells touched turns m a b _ w e r (reads_badly _ _ _ addr width line next is misses) =
    let x = rw is at (simulation a b r) in
    record { end = Trapped bad_pointer line; run = after_quiets carried cells touched turns m b x.0 (at_line line (addresses addr width)) [] (Trapped bad_pointer line) x.2 (reads_badly turns m x.0 addr width line x.1 x.3 misses); same = same_trap bad_pointer line }
carries step carried R simulation cells touched turns m a b _ w e r (reads_raced _ _ _ addr width line next y is races) =
    let x = rw is at (simulation a b r) in
    record { end = Raced y; run = after_quiets carried cells touched turns m b x.0 (at_line line (addresses addr width)) [] (Raced y) x.2 (reads_raced turns m x.0 addr width line x.1 y x.3 races); same = same_race y }
carries step carried R simulation cells touched turns m a b _ _ e r (writes _ _ _ addr width value line old next acc w _ is finds rest) =
    let x = rw is at (simulation a b r) in
    let c = carries step carried R simulation cells touched turns (with_stores (stores_of addr width value) m) next x.1 acc w e x.4 rest in
    let here = at_line line (addresses addr width) in
    record { end = c.end; run = after_quiets carried cells touched turns m b x.0 (here ++ acc) (stores_of addr width value ++ w) c.end x.2 (writes turns m x.0 addr width value line old x.1 acc w c.end x.3 finds c.run); same = c.same }
carries step carried R simulation cells touched turns m a b _ w e r (writes_badly _ _ _ addr width value line next is misses) =
    let x = rw is at (simulation a b r) in
    record { end = Trapped bad_pointer line; run = after_quiets carried cells touched turns m b x.0 (at_line line (addresses addr width)) [] (Trapped bad_pointer line) x.2 (writes_badly turns m x.0 addr width value line x.1 x.3 misses); same = same_trap bad_pointer line }
carries step carried R simulation cells touched turns m a b _ w e r (writes_raced _ _ _ addr width value line next y is races) =
    let x = rw is at (simulation a b r) in
    record { end = Raced y; run = after_quiets carried cells touched turns m b x.0 (at_line line (addresses addr width)) [] (Raced y) x.2 (writes_raced turns m x.0 addr width value line x.1 y x.3 races); same = same_race y }
carries step carried R simulation cells touched _ m a b acc w e r (takes_turn turns _ _ line next _ _ _ is rest) =
    let x = rw is at (simulation a b r) in
    let c = carries step carried R simulation cells touched turns m next x.1 acc w e x.4 rest in
    record { end = c.end; run = after_quiets carried cells touched (suc turns) m b x.0 acc w c.end x.2 (takes_turn turns m x.0 line x.1 acc w c.end x.3 c.run); same = c.same }
carries step carried R simulation cells touched _ m a b acc w e r (lacks_turn _ _ line next is) =
    let x = rw is at (simulation a b r) in
    record { end = Spent line; run = after_quiets carried cells touched zero m b x.0 [] [] (Spent line) x.2 (lacks_turn m x.0 line x.1 x.3); same = same_spent line }
carries step carried R simulation cells touched turns m a b _ w e r (calls _ _ _ number args line next is quiet) =
    let x = rw is at (simulation a b r) in
    record { end = Calling number args line x.1; run = after_quiets carried cells touched turns m b x.0 (at_cells line (cells number args)) [] (Calling number args line x.1) x.2 (calls turns m x.0 number args line x.1 x.3 quiet); same = same_call number args line next x.1 x.4 }
carries step carried R simulation cells touched turns m a b _ w e r (calls_raced _ _ _ number args line next y is races) =
    let x = rw is at (simulation a b r) in
    record { end = Raced y; run = after_quiets carried cells touched turns m b x.0 (at_cells line (cells number args)) [] (Raced y) x.2 (calls_raced turns m x.0 number args line x.1 y x.3 races); same = same_race y }
carries step carried R simulation cells touched turns m a b acc w e r (traps _ _ _ kind line is) =
    let x = rw is at (simulation a b r) in
    record { end = Trapped kind line; run = after_quiets carried cells touched turns m b x.0 [] [] (Trapped kind line) x.1 (traps turns m x.0 kind line x.2); same = same_trap kind line }
