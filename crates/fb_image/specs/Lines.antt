-- The line of the text that a code word belongs to.
use Rattle.std.specs.Prelude.{ℕ, nat_le, if◌then◌else◌, List, [], ◌∷◌}
use Rattle.fb_base.specs.declared.shape.LineAt.{LineAt}

-- the line that stands with the last index that isn't above the given one, or the line before where there is no such index
abbrev pub last_line : ℕ → List LineAt → ℕ → ℕ
last_line before [] index = before
last_line before (l ∷ ls) index = last_line (if nat_le l.index index then l.line else before) ls index

abbrev pub line_of : List LineAt → ℕ → ℕ
line_of lines index = last_line 0 lines index
