use Rattle.std.proofs.Common.{◌≡◌, ℕ, zero, suc, ◌+◌, ◌*◌, ◌==◌, Bool, if◌then◌else◌, List, [], ◌∷◌, ◌++◌, Some, option_map, option_and_then, refl, sym, ap, ◌∙◌}
use Rattle.thread_system.specs.Effect.{Effect}
use Rattle.thread_system.specs.Memory.{Memory, next_address, read, with_byte}
use Rattle.entry_replay.specs.Accesses.{Access, Store, addresses, at_line, stores_of, with_stores, raced_in, tried, tries}
use Rattle.entry_replay.specs.Runs.{End, Runs, goes_on, reads, reads_badly, reads_raced, writes, writes_badly, writes_raced, takes_turn, lacks_turn, calls, calls_raced, traps}
use Rattle.entry_replay.specs.Laws.{AnswersAlike}

-- A run is the same on every memory that answers its accesses alike.

alike_front : (base now : Memory) (xs ys : List Access) → AnswersAlike base now (xs ++ ys) → AnswersAlike base now xs × AnswersAlike base now ys
alike_front base now [] ys alike = (tt, alike)
alike_front base now (x ∷ xs) ys alike = let more = alike_front base now xs ys alike.1 in ((alike.0, more.0), more.1)

read_alike : (base now : Memory) (a width line : ℕ) → AnswersAlike base now (at_line line (addresses a width)) → read base a width ≡ read now a width
read_alike base now a zero line alike = refl
read_alike base now a (suc width) line alike =
    let one = alike.0 refl in
    let more = read_alike base now (next_address a) width line alike.1 in
    λ i. option_and_then (λ low. option_map (λ high. low + 256 * high) (more i)) (one i)

verdict_alike : (touched : ℕ → Bool) (base now : Memory) (a width line : ℕ) → AnswersAlike base now (at_line line (addresses a width)) → tries touched now a width line ≡ tries touched base a width line
verdict_alike touched base now a width line alike = ap (λ r. tried (raced_in touched (at_line line (addresses a width))) r) (sym (read_alike base now a width line alike))

-- the same stores leave a byte alike
stored_alike : (w : List Store) (base now : Memory) (a : ℕ) → base a ≡ now a → with_stores w base a ≡ with_stores w now a
stored_alike [] base now a e = e
stored_alike (x ∷ w) base now a e = stored_alike w (with_byte base x.addr x.byte) (with_byte now x.addr x.byte) a (ap (λ o. if a == x.addr then Some x.byte else o) e)

alike_stored : (w : List Store) (base now : Memory) (acc : List Access) → AnswersAlike base now acc → AnswersAlike (with_stores w base) (with_stores w now) acc
alike_stored w base now [] alike = tt
alike_stored w base now (x ∷ xs) alike = (λ looked. stored_alike w base now x.addr (alike.0 looked), alike_stored w base now xs alike.1)

pub same_answers : {S : Type 0} (step : S → Effect S) (cells : ℕ → List ℕ → List ℕ) (touched : ℕ → Bool) (turns : ℕ) (base now : Memory) (s : S) (acc : List Access) (w : List Store) (e : End S) → AnswersAlike base now acc → Runs step cells touched turns base s acc w e → Runs step cells touched turns now s acc w e
same_answers step cells touched turns base now s acc w e alike (goes_on _ _ _ next _ _ _ is rest) = goes_on turns now s next acc w e is (same_answers step cells touched turns base now next acc w e alike rest)
same_answers step cells touched turns base now s _ w e alike (reads _ _ _ addr width line value next acc _ _ is finds rest) =
    let parts = alike_front base now (at_line line (addresses addr width)) acc alike in
    reads turns now s addr width line value next acc w e is (verdict_alike touched base now addr width line parts.0 ∙ finds) (same_answers step cells touched turns base now (next value) acc w e parts.1 rest)
same_answers step cells touched turns base now s _ w e alike (reads_badly _ _ _ addr width line next is misses) = reads_badly turns now s addr width line next is (verdict_alike touched base now addr width line alike ∙ misses)
same_answers step cells touched turns base now s _ w e alike (reads_raced _ _ _ addr width line next x is races) = reads_raced turns now s addr width line next x is (verdict_alike touched base now addr width line alike ∙ races)
same_answers step cells touched turns base now s _ _ e alike (writes _ _ _ addr width value line old next acc w _ is finds rest) =
    let done = stores_of addr width value in
    let parts = alike_front base now (at_line line (addresses addr width)) acc alike in
    writes turns now s addr width value line old next acc w e is (verdict_alike touched base now addr width line parts.0 ∙ finds) (same_answers step cells touched turns (with_stores done base) (with_stores done now) next acc w e (alike_stored done base now acc parts.1) rest)
same_answers step cells touched turns base now s _ w e alike (writes_badly _ _ _ addr width value line next is misses) = writes_badly turns now s addr width value line next is (verdict_alike touched base now addr width line alike ∙ misses)
same_answers step cells touched turns base now s _ w e alike (writes_raced _ _ _ addr width value line next x is races) = writes_raced turns now s addr width value line next x is (verdict_alike touched base now addr width line alike ∙ races)
same_answers step cells touched _ base now s acc w e alike (takes_turn turns _ _ line next _ _ _ is rest) = takes_turn turns now s line next acc w e is (same_answers step cells touched turns base now next acc w e alike rest)
same_answers step cells touched _ base now s acc w e alike (lacks_turn _ _ line next is) = lacks_turn now s line next is
same_answers step cells touched turns base now s _ w e alike (calls _ _ _ number args line next is quiet) = calls turns now s number args line next is quiet
same_answers step cells touched turns base now s _ w e alike (calls_raced _ _ _ number args line next x is races) = calls_raced turns now s number args line next x is races
same_answers step cells touched turns base now s acc w e alike (traps _ _ _ kind line is) = traps turns now s kind line is
