use Rattle.std.specs.Prelude.{◌≡◌, ℕ, List, length, slice_index_or}
use Rattle.std.specs.List.{count_by}
use Rattle.rt_threads.specs.declared.kinds.Thread.{Thread}
use Rattle.rt_threads.specs.Table.{Table, gave_up}
use Rattle.rt_threads.specs.Rows.{goes_on, numbers}
use Rattle.rt_threads.specs.Standing.{Stands}

-- how many threads wait at conditions for which they gave this mutex up
abbrev pub wanting : ℕ → List Thread → ℕ
wanting id threads = count_by (λ (thread : Thread). gave_up id thread.state) threads

-- The table stands, and what is kept beside it is so: for each id how many threads want it back, and the numbers of
-- the threads that have not ended.
pub record IsKept (table : Table) (counts unended : List ℕ) : Type 0 where
  pub stands : Stands table
  pub wanted : (id : ℕ) → slice_index_or counts id 0 ≡ wanting id table.threads
  pub sized : length counts ≡ length table.handles
  pub rising : unended ≡ numbers goes_on 0 table.threads
