use Rattle.std.specs.Prelude.{ℕ, List}

-- a list of numbers, and how many more it takes without memory
pub record Roomy : Type 0 where
  pub items : List ℕ
  pub spare : ℕ
