use Rattle.std.proofs.Common.{◌≡◌, ℕ, zero, suc, Option, Some, None, refl}
use Rattle.thread_system.specs.Effect.{Effect, Silent, Reads, Writes, Turn, Calls, Traps}
use Rattle.thread_system.specs.Memory.{Memory, read, write}
use Rattle.thread_system.specs.Segment.{bad_pointer, End, Calling, Trapped, Spent, Segment, goes_on, reads, reads_badly, writes, writes_badly, takes_turn, lacks_turn, calls, traps}

-- Two segments from one state and one memory come to the same memory and the same end.
pub record Same {S : Type 0} (after after' : Memory) (e e' : End S) : Type 0 where
  pub memory : after ≡ after'
  pub end : e ≡ e'

-- what becomes of a segment at an access that may find nothing there
abbrev pub FoundOrNot : {S : Type 0} → (S → Effect S) → ℕ → Memory → Memory → End S → Option ℕ → ℕ → (ℕ → S) → Type 0
FoundOrNot step turns m after e (Some value) line next = Segment step turns m (next value) after e
FoundOrNot step turns m after e None line next = Same m after (Trapped bad_pointer line) e

abbrev pub DoneOrNot : {S : Type 0} → (S → Effect S) → ℕ → Memory → Memory → End S → Option Memory → ℕ → S → Type 0
DoneOrNot step turns m after e (Some written) line next = Segment step turns written next after e
DoneOrNot step turns m after e None line next = Same m after (Trapped bad_pointer line) e

-- what a state's one effect says of each form that it may have, for a segment that begins there
abbrev pub Does : {S : Type 0} → (S → Effect S) → ℕ → Memory → Memory → End S → Effect S → Type 0
Does step turns m after e (Silent next) = Segment step turns m next after e
Does step turns m after e (Reads addr width line next) = FoundOrNot step turns m after e (read m addr width) line next
Does step turns m after e (Writes addr width value line next) = DoneOrNot step turns m after e (write m addr width value) line next
Does step zero m after e (Turn line next) = Same m after (Spent line) e
Does step (suc turns) m after e (Turn line next) = Segment step turns m next after e
Does step turns m after e (Calls number args line next) = Same m after (Calling number args line next) e
Does step turns m after e (Traps kind line) = Same m after (Trapped kind line) e

does : {S : Type 0} (step : S → Effect S) (turns : ℕ) (m after : Memory) (s : S) (e : End S) → Segment step turns m s after e → Does step turns m after e (step s)
does step turns m after s e (goes_on _ _ _ _ next _ is rest) = rw is rest
does step turns m after s e (reads _ _ _ _ addr width line value next _ is found rest) = rw (is, found) rest
does step turns m after s e (reads_badly _ _ _ addr width line next is found) = rw (is, found) (record { memory = refl; end = refl })
does step turns m after s e (writes _ _ written _ _ addr width value line next _ is done rest) = rw (is, done) rest
does step turns m after s e (writes_badly _ _ _ addr width value line next is done) = rw (is, done) (record { memory = refl; end = refl })
does step _ m after s e (takes_turn turns _ _ _ line next _ is rest) = rw is rest
does step _ m after s e (lacks_turn _ _ line next is) = rw is (record { memory = refl; end = refl })
does step turns m after s e (calls _ _ _ number args line next is) = rw is (record { memory = refl; end = refl })
does step turns m after s e (traps _ _ _ kind line is) = rw is (record { memory = refl; end = refl })

-- A thread's step is a function, so a segment comes to one memory and one end.
pub determined : {S : Type 0} (step : S → Effect S) (turns : ℕ) (m after after' : Memory) (s : S) (e e' : End S) → Segment step turns m s after e → Segment step turns m s after' e' → Same after after' e e'
determined step turns m after after' s e e' (goes_on _ _ _ _ next _ is rest) other =
    determined step turns m after after' next e e' rest (rw is at (does step turns m after' s e' other))
determined step turns m after after' s e e' (reads _ _ _ _ addr width line value next _ is found rest) other =
    determined step turns m after after' (next value) e e' rest (rw (is, found) at (does step turns m after' s e' other))
determined step turns m after after' s e e' (reads_badly _ _ _ addr width line next is found) other =
    rw (is, found) at (does step turns m after' s e' other)
determined step turns m after after' s e e' (writes _ _ written _ _ addr width value line next _ is done rest) other =
    determined step turns written after after' next e e' rest (rw (is, done) at (does step turns m after' s e' other))
determined step turns m after after' s e e' (writes_badly _ _ _ addr width value line next is done) other =
    rw (is, done) at (does step turns m after' s e' other)
determined step _ m after after' s e e' (takes_turn turns _ _ _ line next _ is rest) other =
    determined step turns m after after' next e e' rest (rw is at (does step (suc turns) m after' s e' other))
determined step _ m after after' s e e' (lacks_turn _ _ line next is) other =
    rw is at (does step zero m after' s e' other)
determined step turns m after after' s e e' (calls _ _ _ number args line next is) other =
    rw is at (does step turns m after' s e' other)
determined step turns m after after' s e e' (traps _ _ _ kind line is) other =
    rw is at (does step turns m after' s e' other)
