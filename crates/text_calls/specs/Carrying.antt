-- What a call does to one cell, in memory and heap.
use Rattle.std.specs.Prelude.{◌≡◌, ◌≢◌, ℕ, Some}
use Rattle.places.specs.declared.kinds.Cell.{Cell}
use Rattle.places.specs.Memory.{Places, cell_at}
use Rattle.text_calls.specs.Answers.{KeepsRest}

-- one cell is set, and everything else stays
pub record SetsOne (old new : Places) (a : ℕ) (cell : Cell) : Type 0 where
  pub here : cell_at new a ≡ Some cell
  pub others : (q : ℕ) → q ≢ a → cell_at new q ≡ cell_at old q
  pub rest : KeepsRest old new
