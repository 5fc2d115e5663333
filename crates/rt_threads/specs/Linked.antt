use Rattle.std.specs.Prelude.{◌≡◌, ◌≢◌, ℕ, zero, suc, ◌+◌, ◌<◌, ◌≤◌, List, [], ◌∷◌, Option, Some, None, length, slice_index_or, slice_set}
use Rattle.rt_threads.specs.declared.queues.Ends.{Ends}
use Rattle.rt_threads.specs.Lists.{times}

-- the members from one on, each told by the one before it, at most so many
abbrev pub walk : ℕ → List (Option ℕ) → Option ℕ → List ℕ
walk zero behind link = []
walk (suc n) behind None = []
walk (suc n) behind (Some t) = t ∷ walk n behind (slice_index_or behind t None)

-- where a queue begins
abbrev pub first_link : Option Ends → Option ℕ
first_link None = None
first_link (Some ends) = Some ends.first

-- the queue between two ends
abbrev pub line_of : List (Option ℕ) → Option Ends → List ℕ
line_of behind ends = walk (length behind) behind (first_link ends)

-- these are the members from one on, and nobody stands behind the last
abbrev pub Lies : List (Option ℕ) → Option ℕ → List ℕ → Type 0
Lies behind link [] = link ≡ None
Lies behind link (t ∷ rest) = (link ≡ Some t) × Lies behind (slice_index_or behind t None) rest

-- the member that stands last
abbrev pub last_of : List ℕ → Option ℕ
last_of [] = None
last_of (x ∷ []) = Some x
last_of (x ∷ (y ∷ rest)) = last_of (y ∷ rest)

abbrev pub last_link : Option Ends → Option ℕ
last_link None = None
last_link (Some ends) = Some ends.last

-- the queue of a number
abbrev pub line_at : List (Option ℕ) → List (Option Ends) → ℕ → List ℕ
line_at behind ends k = line_of behind (slice_index_or ends k None)

-- Members and ends make queues: each comes to its end, no member stands in two places, and each that stands somewhere is there.
pub record IsLinked (behind : List (Option ℕ)) (ends : List (Option Ends)) : Type 0 where
  pub lies : (k : ℕ) → Lies behind (first_link (slice_index_or ends k None)) (line_at behind ends k)
  pub last : (k : ℕ) → last_of (line_at behind ends k) ≡ last_link (slice_index_or ends k None)
  pub within : (k t : ℕ) → 0 < times t (line_at behind ends k) → t < length behind
  pub once : (k t : ℕ) → times t (line_at behind ends k) ≤ 1
  pub apart : (j k t : ℕ) → j ≢ k → times t (line_at behind ends j) + times t (line_at behind ends k) ≤ 1

-- who stands behind whom once a member stands at the end of the queue with these ends
abbrev pub linked : List (Option ℕ) → Option Ends → ℕ → List (Option ℕ)
linked behind None t = slice_set behind t None
linked behind (Some ends) t = slice_set (slice_set behind t None) ends.last (Some t)

-- the ends of that queue then
abbrev pub joined : Option Ends → ℕ → Ends
joined None t = record { first = t; last = t }
joined (Some ends) t = record { first = ends.first; last = t }

-- the ends of a queue without its first member, behind which this one stands
abbrev pub shortened : Option ℕ → Ends → Option Ends
shortened None ends = None
shortened (Some second) ends = Some (record { first = second; last = ends.last })

abbrev pub LastIsWithin : Option Ends → ℕ → Type 0
LastIsWithin None n = Unit {0}
LastIsWithin (Some ends) n = ends.last < n
