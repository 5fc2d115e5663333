-- What the rules of an image say of its numbers.
use Rattle.std.proofs.Common.{◌≡◌, ℕ, ◌+◌, ◌-◌, ◌*◌, ◌<◌, ◌≤◌, List, [], ◌∷◌, ◌++◌, length, get_or, All, inl, inr, arith}
use Rattle.std.specs.List.{AllByRecursion}
use Rattle.std.specs.List.Sorted.{IsStrictlyIncreasing}
use Rattle.std.proofs.lemmas.Bool.{cases_lt}
use Rattle.std.proofs.lemmas.List.{length_push, get_or_append_left, get_or_push}
use Rattle.std.proofs.lemmas.List.Elements.{All-from_recursion}
use Rattle.fb_base.specs.declared.shape.Shape.{Shape}
use Rattle.fb_base.specs.declared.shape.LineAt.{LineAt}
use Rattle.fb_image.specs.Format.{AllAlong, IsCell, after_cell, IsAlign, IsShape, after_shape, AreShapes, IsLine, after_line, AreLines, IsWord, HasWords}

-- no more lines than code words
lines_fit : (words low : ℕ) (ls : List LineAt) → low ≤ words → AllAlong (IsLine words) after_line low ls → length ls + low ≤ words
lines_fit words low [] le rules = omega arith
lines_fit words low (l ∷ ls) le rules = omega (arith, lines_fit words (after_line l) ls (omega (arith, rules.0.within)) rules.1, rules.0.rises)

pub fewer_lines : (words : ℕ) (ls : List LineAt) → AreLines words ls → length ls ≤ words
fewer_lines words ls rules = omega (arith, lines_fit words 0 ls (omega arith) rules)

cells_fit : (size low : ℕ) (cs : List ℕ) → low ≤ size → AllAlong (IsCell size) after_cell low cs → 24 * length cs + low ≤ size
cells_fit size low [] le rules = omega arith
cells_fit size low (c ∷ cs) le rules = omega (arith, cells_fit size (after_cell c) cs rules.0.within rules.1, rules.0.above)

cells_are_words : (size low : ℕ) (cs : List ℕ) → size ≤ 16777216 → AllAlong (IsCell size) after_cell low cs → AllByRecursion IsWord cs
cells_are_words size low [] le rules = tt
cells_are_words size low (c ∷ cs) le rules = (omega (arith, rules.0.within), cells_are_words size (after_cell c) cs le rules.1)

align_is_word : (n : ℕ) → IsAlign n → IsWord n
align_is_word n (inl e) = omega arith
align_is_word n (inr (inl e)) = omega arith
align_is_word n (inr (inr (inl e))) = omega arith
align_is_word n (inr (inr (inr e))) = omega arith

pub shape_words : (least : ℕ) (s : Shape) → IsShape least s → HasWords s
shape_words least s rules = record {
  size = omega (arith, rules.greatest_size);
  align = align_is_word s.align rules.align;
  count = omega (arith, cells_fit s.size 0 s.cells (omega arith) rules.cells, rules.greatest_size);
  cells = All-from_recursion IsWord s.cells (cells_are_words s.size 0 s.cells rules.greatest_size rules.cells);
}

each_shape_words : (least : ℕ) (ss : List Shape) → AllAlong IsShape after_shape least ss → AllByRecursion HasWords ss
each_shape_words least [] rules = tt
each_shape_words least (s ∷ ss) rules = (shape_words least s rules.0, each_shape_words (after_shape s) ss rules.1)

pub shapes_words : (ss : List Shape) → AreShapes ss → All HasWords ss
shapes_words ss rules = All-from_recursion HasWords ss (each_shape_words 0 ss rules)

-- one more number, above the last
pub rising_push : (xs : List ℕ) (y : ℕ) → IsStrictlyIncreasing xs → (0 < length xs → get_or xs (length xs - 1) 0 < y) → IsStrictlyIncreasing (xs ++ y ∷ [])
rising_push xs y rising above k lt =
    elim (cases_lt (k + 1) (length xs)) [
      | inl within ↦ rw (get_or_append_left xs (y ∷ []) 0 k (omega arith), get_or_append_left xs (y ∷ []) 0 (k + 1) within) (rising k within)
      | inr past ↦
          let len = length_push xs y in
          let k-is : k ≡ length xs - 1 = omega arith in
          rw (get_or_append_left xs (y ∷ []) 0 k (omega arith), get_or_push xs y 0 (k + 1) (omega arith), k-is) (above (omega arith))
    ]

pub last_push : (xs : List ℕ) (y : ℕ) → get_or (xs ++ y ∷ []) (length (xs ++ y ∷ []) - 1) 0 ≡ y
last_push xs y = let len = length_push xs y in get_or_push xs y 0 (length (xs ++ y ∷ []) - 1) (omega arith)
