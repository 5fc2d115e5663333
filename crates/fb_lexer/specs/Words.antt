-- The table of the reserved words.
use Rattle.std.specs.Prelude.{ℕ, List, [], ◌∷◌, Option, Some, None, Bool, true, ◌&&◌, if◌then◌else◌, map}
use Rattle.std.specs.Str.{bytes_eq}
use Rattle.std.specs.Ordering.{nat_cmp, is_lt}
use Rattle.std.specs.Cmp.Lexicographic.{slice_cmp}
use Rattle.fb_lexer.specs.declared.word.TheConstants.{WORDS}
use Rattle.fb_lexer.specs.declared.word.Word.{Word}

-- a table of words, each under its spelling
abbrev pub Rows : Type 0
Rows = List (List ℕ × Word)

-- the first word of a table under these bytes
abbrev pub row_of : Rows → List ℕ → Option Word
row_of [] name = None
row_of (row ∷ rows) name = if bytes_eq row.0 name then Some row.1 else row_of rows name

-- one spelling comes before another in the order of the bytes
abbrev pub is_before : List ℕ → List ℕ → Bool
is_before a b = is_lt (slice_cmp nat_cmp a b)

-- each spelling of a table comes before the next
abbrev pub are_sorted : Rows → Bool
are_sorted [] = true
are_sorted (row ∷ []) = true
are_sorted (row ∷ next ∷ rows) = is_before row.0 next.0 && are_sorted (next ∷ rows)

-- the reserved words
abbrev pub words : Rows
words = map (λ row. (row.0.now, row.1)) WORDS

-- the reserved word of these bytes
unfoldable pub word_of : List ℕ → Option Word
word_of name = row_of words name
