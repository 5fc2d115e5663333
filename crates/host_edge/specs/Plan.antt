-- Calls that are counted, some of which fail.
use Rattle.std.specs.Prelude.{ℕ, ◌+◌, ◌-◌, ◌^◌, ◌==◌, Bool, List, min, if◌then◌else◌}
use Rattle.std.specs.List.{list_any}

-- how many calls were made, the numbers of those that fail, counted from 1, and how many did
pub record Plan : Type 0 where
  pub calls : ℕ
  pub failing : List ℕ
  pub faults : ℕ

-- before the first call
abbrev pub first_plan : List ℕ → Plan
first_plan failing = record { calls = 0; failing = failing; faults = 0 }

-- one more, up to the last value of a count
abbrev pub counted : ℕ → ℕ
counted count = min (count + 1) (2 ^ 64 - 1)

-- whether the next call fails: its number is among those that do
abbrev pub next_fails : Plan → Bool
next_fails plan = list_any (λ n. n == counted plan.calls) plan.failing

-- after the next call
abbrev pub after_call : Plan → Plan
after_call plan =
    record plan { calls = counted plan.calls; faults = if next_fails plan then counted plan.faults else plan.faults }
