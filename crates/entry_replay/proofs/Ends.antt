use Rattle.std.proofs.Common.{◌≡◌, ℕ, zero, suc, ◌<◌, Bool, List, [], ◌++◌, Option, Some, None, refl, arith}
use Rattle.thread_system.specs.Effect.{Effect, Silent, Reads, Writes, Turn, Calls, Traps}
use Rattle.thread_system.specs.Memory.{Memory}
use Rattle.thread_system.specs.Segment.{bad_pointer}
use Rattle.entry_replay.specs.Accesses.{Access, Verdict, Races, Misses, Finds, addresses, at_line, at_cells, stores_of, with_stores, raced_in, tries}
use Rattle.entry_replay.specs.Runs.{Calling, Trapped, Spent, Raced, goes_on, reads, reads_badly, reads_raced, writes, writes_badly, writes_raced, takes_turn, lacks_turn, calls, calls_raced, traps}
use Rattle.entry_replay.specs.Laws.{ComesToAnEnd, Lessens}

-- Where each step without a turn lessens a size, every run comes to an end.
module _ (S : Type 0) (step : S → Effect S) (cells : ℕ → List ℕ → List ℕ) (touched : ℕ → Bool) (Good : S → Type 0) (size : S → ℕ) where
  -- with fewer turns every run comes to an end
  abbrev pub FewerTurns : ℕ → Type 0
  FewerTurns zero = Unit {0}
  FewerTurns (suc turns) = (m : Memory) (s : S) → Good s → ComesToAnEnd step cells touched turns m s

  read_ends : (turns : ℕ) (m : Memory) (s : S) (addr width line : ℕ) (next : ℕ → S) → step s ≡ Reads addr width line next → ((v : ℕ) → ComesToAnEnd step cells touched turns m (next v)) → (v : Verdict) → tries touched m addr width line ≡ v → ComesToAnEnd step cells touched turns m s
  read_ends turns m s addr width line next is rest (Races x) races = record { accesses = at_line line (addresses addr width); stores = []; end = Raced x; run = reads_raced turns m s addr width line next x is races }
  read_ends turns m s addr width line next is rest Misses misses = record { accesses = at_line line (addresses addr width); stores = []; end = Trapped bad_pointer line; run = reads_badly turns m s addr width line next is misses }
  read_ends turns m s addr width line next is rest (Finds value) finds =
      let r = rest value in
      record { accesses = at_line line (addresses addr width) ++ r.accesses; stores = r.stores; end = r.end; run = reads turns m s addr width line value next r.accesses r.stores r.end is finds r.run }

  write_ends : (turns : ℕ) (m : Memory) (s : S) (addr width value line : ℕ) (next : S) → step s ≡ Writes addr width value line next → ComesToAnEnd step cells touched turns (with_stores (stores_of addr width value) m) next → (v : Verdict) → tries touched m addr width line ≡ v → ComesToAnEnd step cells touched turns m s
  write_ends turns m s addr width value line next is rest (Races x) races = record { accesses = at_line line (addresses addr width); stores = []; end = Raced x; run = writes_raced turns m s addr width value line next x is races }
  write_ends turns m s addr width value line next is rest Misses misses = record { accesses = at_line line (addresses addr width); stores = []; end = Trapped bad_pointer line; run = writes_badly turns m s addr width value line next is misses }
  write_ends turns m s addr width value line next is r (Finds old) finds = record { accesses = at_line line (addresses addr width) ++ r.accesses; stores = stores_of addr width value ++ r.stores; end = r.end; run = writes turns m s addr width value line old next r.accesses r.stores r.end is finds r.run }

  turn_ends : (turns : ℕ) (m : Memory) (s : S) (line : ℕ) (next : S) → Good next → FewerTurns turns → step s ≡ Turn line next → ComesToAnEnd step cells touched turns m s
  turn_ends zero m s line next good fewer is = record { accesses = []; stores = []; end = Spent line; run = lacks_turn m s line next is }
  turn_ends (suc turns) m s line next good fewer is =
      let r = fewer m next good in
      record { accesses = r.accesses; stores = r.stores; end = r.end; run = takes_turn turns m s line next r.accesses r.stores r.end is r.run }

  call_ends : (turns : ℕ) (m : Memory) (s : S) (number : ℕ) (args : List ℕ) (line : ℕ) (next : ℕ → S) → step s ≡ Calls number args line next → (o : Option Access) → raced_in touched (at_cells line (cells number args)) ≡ o → ComesToAnEnd step cells touched turns m s
  call_ends turns m s number args line next is None quiet = record { accesses = at_cells line (cells number args); stores = []; end = Calling number args line next; run = calls turns m s number args line next is quiet }
  call_ends turns m s number args line next is (Some x) races = record { accesses = at_cells line (cells number args); stores = []; end = Raced x; run = calls_raced turns m s number args line next x is races }

  by_effect : (turns : ℕ) (m : Memory) (s : S) → FewerTurns turns → ((m' : Memory) (next : S) → Good next → size next < size s → ComesToAnEnd step cells touched turns m' next) → (e : Effect S) → step s ≡ e → Lessens Good size s e → ComesToAnEnd step cells touched turns m s
  by_effect turns m s fewer smaller (Silent next) is less =
      let r = smaller m next less.1 less.0 in
      record { accesses = r.accesses; stores = r.stores; end = r.end; run = goes_on turns m s next r.accesses r.stores r.end is r.run }
  by_effect turns m s fewer smaller (Reads addr width line next) is less = read_ends turns m s addr width line next is (λ v. smaller m (next v) (less v).1 (less v).0) (tries touched m addr width line) refl
  by_effect turns m s fewer smaller (Writes addr width value line next) is less = write_ends turns m s addr width value line next is (smaller (with_stores (stores_of addr width value) m) next less.1 less.0) (tries touched m addr width line) refl
  by_effect turns m s fewer smaller (Turn line next) is good = turn_ends turns m s line next good fewer is
  by_effect turns m s fewer smaller (Calls number args line next) is less = call_ends turns m s number args line next is (raced_in touched (at_cells line (cells number args))) refl
  by_effect turns m s fewer smaller (Traps kind line) is less = record { accesses = []; stores = []; end = Trapped kind line; run = traps turns m s kind line is }

  -- by induction on what bounds the size
  ends_below : ((s : S) → Good s → Lessens Good size s (step s)) → (turns bound : ℕ) (m : Memory) (s : S) → FewerTurns turns → Good s → size s < bound → ComesToAnEnd step cells touched turns m s
  ends_below lessens turns zero m s fewer good below = absurd (omega arith)
  ends_below lessens turns (suc bound) m s fewer good below = by_effect turns m s fewer (λ m' next well less. ends_below lessens turns bound m' next fewer well (omega arith)) (step s) refl (lessens s good)

  pub always_comes : ((s : S) → Good s → Lessens Good size s (step s)) → (turns : ℕ) (m : Memory) (s : S) → Good s → ComesToAnEnd step cells touched turns m s
  always_comes lessens zero m s good = ends_below lessens zero (suc (size s)) m s tt good (omega arith)
  always_comes lessens (suc turns) m s good = ends_below lessens (suc turns) (suc (size s)) m s (λ m' next well. always_comes lessens turns m' next well) good (omega arith)
