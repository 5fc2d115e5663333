use Rattle.std.specs.Prelude.{◌≡◌, ℕ, List}
use Rattle.thread_system.specs.Effect.{Effect, Silent, Reads, Writes, Turn, Calls, Traps}
use Rattle.thread_system.specs.Segment.{End, Calling, Trapped, Spent}

-- From one state a thread comes to another by silent steps alone.
pub data Quiets {S : Type 0} (step : S → Effect S) : S → S → Type 0 where
  stays : (s : S) → Quiets step s s
  moves : (s next last : S) → step s ≡ Silent next → Quiets step next last → Quiets step s last

-- After some silent steps the second thread has the same effect as the first, and then the two are related
-- again, whatever was read or answered.
abbrev pub Matches : {A B : Type 0} → (A → B → Type 0) → (B → Effect B) → Effect A → B → Type 0
Matches {B = B} R step (Silent a) b = (last : B) × Quiets step b last × R a last
Matches {B = B} R step (Reads addr width line next) b = (last : B) × (then : ℕ → B) × Quiets step b last × (step last ≡ Reads addr width line then) × ((v : ℕ) → R (next v) (then v))
Matches {B = B} R step (Writes addr width value line next) b = (last : B) × (then : B) × Quiets step b last × (step last ≡ Writes addr width value line then) × R next then
Matches {B = B} R step (Turn line next) b = (last : B) × (then : B) × Quiets step b last × (step last ≡ Turn line then) × R next then
Matches {B = B} R step (Calls number args line next) b = (last : B) × (then : ℕ → B) × Quiets step b last × (step last ≡ Calls number args line then) × ((v : ℕ) → R (next v) (then v))
Matches {B = B} R step (Traps kind line) b = (last : B) × Quiets step b last × (step last ≡ Traps kind line)

-- The second kind of thread carries out the first: each step of the one is matched, and the relation holds again.
abbrev pub Simulates : {A B : Type 0} → (A → Effect A) → (B → Effect B) → (A → B → Type 0) → Type 0
Simulates {A} {B} step carried R = (a : A) (b : B) → R a b → Matches R carried (step a) b

-- The two ends are the same one, and where the threads go on they are related whatever the answer is.
pub data SameEnd {A B : Type 0} (R : A → B → Type 0) : End A → End B → Type 0 where
  same_call : (number : ℕ) (args : List ℕ) (line : ℕ) (next : ℕ → A) (then : ℕ → B) → ((v : ℕ) → R (next v) (then v)) → SameEnd R (Calling number args line next) (Calling number args line then)
  same_trap : (kind line : ℕ) → SameEnd R (Trapped kind line) (Trapped kind line)
  same_spent : (line : ℕ) → SameEnd R (Spent line) (Spent line)
