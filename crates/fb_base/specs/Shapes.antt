-- The rules of a shape.
use Rattle.std.specs.Prelude.{◌≡◌, ℕ, ◌+◌, ◌%◌, ◌≤◌, ◌⊎◌, List, [], ◌∷◌}
use Rattle.fb_base.specs.declared.shape.Shape.{Shape}

-- The first item keeps the rule at a number, and each further one at the number that the item before it gives.
abbrev pub AllAlong : {A : Type 0} → (ℕ → A → Type 0) → (A → ℕ) → ℕ → List A → Type 0
AllAlong rule next low [] = Unit {0}
AllAlong rule next low (x ∷ xs) = rule low x × AllAlong rule next (next x) xs

-- a string cell takes 24 bytes within its place, from a multiple of 8 on, and none below low
pub record IsCell (size low cell : ℕ) : Type 0 where
  pub above : low ≤ cell
  pub aligned : cell % 8 ≡ 0
  pub within : cell + 24 ≤ size

abbrev pub after_cell : ℕ → ℕ
after_cell cell = cell + 24

abbrev pub AreCells : ℕ → List ℕ → Type 0
AreCells size cells = AllAlong (IsCell size) after_cell 0 cells

abbrev pub IsAlign : ℕ → Type 0
IsAlign n = (n ≡ 1) ⊎ (n ≡ 2) ⊎ (n ≡ 4) ⊎ (n ≡ 8)

-- a shape of at least so many bytes
pub record IsShape (least : ℕ) (s : Shape) : Type 0 where
  pub least_size : least ≤ s.size
  pub greatest_size : s.size ≤ 16777216
  pub align : IsAlign s.align
  pub divides : s.size % s.align ≡ 0
  pub cells : AreCells s.size s.cells
