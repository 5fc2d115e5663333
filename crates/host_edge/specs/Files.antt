-- Files by their names.
use Rattle.std.specs.Prelude.{ℕ, List, map, String, string_bytes}
use Rattle.std.specs.Ordering.{nat_cmp}
use Rattle.std.specs.Cmp.Lexicographic.{slice_cmp}
use Rattle.std.specs.FinMap.{FinMap, from_entries}

-- the bytes of files under their names, which are bytes too
abbrev pub FileMap : Type 0
FileMap = FinMap (slice_cmp nat_cmp) (List ℕ)

-- what is held under the names of these entries
abbrev pub files_of : {A : Type 0} → List (String A × List ℕ) → FileMap
files_of entries = from_entries (map (λ e. (string_bytes e.0, e.1)) entries)
