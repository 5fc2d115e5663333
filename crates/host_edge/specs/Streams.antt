-- What a call does to the bytes that a source has left, or that a sink was given, where these are told.
use Rattle.std.specs.Prelude.{◌≡◌, ℕ, ◌<◌, ◌≤◌, List, length, take, is_some, MatchResult, ⊤, Option, Result}
use Rattle.std.specs.Io.KnownBytes.{Appends, Consumes, Keeps, IsAtEnd}

-- what was told is told still, and what wasn't isn't
abbrev pub SameTelling : {A : Type 0} → Option A → Option A → Type 0
SameTelling old new = is_some old ≡ is_some new

-- a read into these bytes: it took the bytes that it answers from the front of what was left, and a fault took none
pub record Reads {E : Type 0} (old new : Option (List ℕ)) (into : List ℕ) (result : Result ℕ E) : Type 0 where
  pub bytes : MatchResult result (λ n. Consumes old new (take n into)) (λ _. Keeps old new)
  pub within : MatchResult result (λ n. n ≤ length into) (λ _. ⊤)
  pub ends : MatchResult result (λ n. n ≡ 0 → 0 < length into → IsAtEnd new) (λ _. ⊤)

-- a put of this piece: as many of its first bytes as it answers were appended, and a fault appended none
pub record Puts {E : Type 0} (old new : Option (List ℕ)) (piece : List ℕ) (result : Result ℕ E) : Type 0 where
  pub bytes : MatchResult result (λ n. Appends old new (take n piece)) (λ _. Keeps old new)
  pub within : MatchResult result (λ n. n ≤ length piece) (λ _. ⊤)
  pub some : MatchResult result (λ n. 0 < length piece → 0 < n) (λ _. ⊤)

-- some first bytes were appended, and not all of them
abbrev pub AppendsProperPrefix : Option (List ℕ) → Option (List ℕ) → List ℕ → Type 0
AppendsProperPrefix old new bytes = (n : ℕ) × (n < length bytes) × Appends old new (take n bytes)
