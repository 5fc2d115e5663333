use Rattle.std.specs.Prelude.{ℕ, List}

-- What one step of a thread does. A thread of any kind (source, middle code, machine) is a type of states
-- and a function from each state to its effect, so a step does at most one thing that others can see.
pub data Effect (S : Type 0) : Type 0 where
  -- the thread goes on, and nobody else can tell
  Silent : (next : S) → Effect S
  -- it reads `width` bytes from an address on, and goes on with the number that they spell
  Reads : (addr width line : ℕ) (next : ℕ → S) → Effect S
  -- it writes the low `width` bytes of a value from an address on
  Writes : (addr width value line : ℕ) (next : S) → Effect S
  -- it takes a turn, of which a segment has a limited number
  Turn : (line : ℕ) (next : S) → Effect S
  -- it calls the runtime, and goes on with the answer
  Calls : (number : ℕ) (args : List ℕ) (line : ℕ) (next : ℕ → S) → Effect S
  -- it ends with a trap
  Traps : (kind line : ℕ) → Effect S
