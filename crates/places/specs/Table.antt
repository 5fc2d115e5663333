-- The table by which the cell of a byte is found in one look-up.
use Rattle.std.specs.Prelude.{◌≡◌, ℕ, ◌+◌, ◌-◌, ◌/◌, ◌==◌, Bool, false, if◌then◌else◌, List, [], ◌∷◌, slice_index_or, slice_set, Option, Some, None}
use Rattle.std.specs.List.{list_any}
use Rattle.places.specs.Place.{cell_over}

-- Whether the cell that has a byte begins there.
abbrev pub begins_at : List ℕ → ℕ → Option ℕ → Bool
begins_at cells r None = false
begins_at cells r (Some k) = slice_index_or cells k 0 == r

-- A table has a number for each eight bytes of an element: 0 where no cell has them, else one more than the cell's.
abbrev pub number_before : ℕ → Option ℕ
number_before n = if n == 0 then None else Some (n - 1)

abbrev pub cell_by : List ℕ → ℕ → Option ℕ
cell_by table r = number_before (slice_index_or table (r / 8) 0)

-- The table with a number for the three words of a cell, and with those of cells that begin at these offsets, numbered
-- from one on.
abbrev pub with_words : ℕ → ℕ → List ℕ → List ℕ
with_words w k table = slice_set (slice_set (slice_set table w k) (w + 1) k) (w + 2) k

abbrev pub with_cells : ℕ → List ℕ → List ℕ → List ℕ
with_cells k [] table = table
with_cells k (c ∷ cs) table = with_cells (k + 1) cs (with_words (c / 8) (k + 1) table)

-- The table tells which cell has a byte, and a cell begins only at a byte that is its own.
pub record IsTable (cells table : List ℕ) : Type 0 where
  pub over : (r : ℕ) → cell_by table r ≡ cell_over cells r
  pub begins : (r : ℕ) → list_any (λ c. c == r) cells ≡ begins_at cells r (cell_over cells r)
