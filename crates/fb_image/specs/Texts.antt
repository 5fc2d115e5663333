-- The literals of a program.
use Rattle.std.specs.Prelude.{ℕ, ◌^◌, ◌<◌, ◌≤◌, List, length}
use Rattle.std.specs.List.{AllByRecursion}

-- a literal has at most 16,777,216 bytes
abbrev pub IsLiteral : List ℕ → Type 0
IsLiteral bytes = length bytes ≤ 16777216

pub record AreLiterals (literals : List (List ℕ)) : Type 0 where
  pub count : length literals < 2 ^ 32
  pub each : AllByRecursion IsLiteral literals
