-- The best candidates so far.
use Rattle.std.specs.Prelude.{◌≡◌, ℕ, ◌++◌, Option, Some, List, [], ◌∷◌, length}
use Rattle.overload_pick.specs.declared.choosing.Best.{Best}
use Rattle.overload_pick.specs.declared.choosing.Best.TheVariants as best
use Rattle.overload_pick.specs.Choice.{IsLeast, NoneFits, sum_at}
use Rattle.std.specs.Prelude.{◌<◌}

pub record LeadsAlone (sums : List (Option ℕ)) (sum number : ℕ) : Type 0 where
  pub is_least : IsLeast sums number sum
  pub alone : (other : ℕ) → sum_at sums other ≡ Some sum → other ≡ number

pub record LeadTogether (sums : List (Option ℕ)) (sum first second : ℕ) : Type 0 where
  pub rising : first < second
  pub is_least : IsLeast sums first sum
  pub also : sum_at sums second ≡ Some sum
  pub none_before : (other : ℕ) → other < second → sum_at sums other ≡ Some sum → other ≡ first

-- who leads among candidates with these sums, and with which sum
abbrev pub IsBest : List (Option ℕ) → Best → Type 0
IsBest sums best.Nobody = NoneFits sums
IsBest sums (best.One sum number) = LeadsAlone sums sum number
IsBest sums (best.Tie sum first second) = LeadTogether sums sum first second

-- with one candidate more the second leads where the first led before
abbrev pub Follows : Best → Option ℕ → ℕ → Best → Type 0
Follows old sum number new = (sums : List (Option ℕ)) → number ≡ length sums → IsBest sums old → IsBest (sums ++ sum ∷ []) new
