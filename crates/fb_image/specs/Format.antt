-- What an image is made of, and the rules that its parts keep.
use Rattle.std.specs.Prelude.{◌≡◌, ℕ, ◌+◌, ◌^◌, ◌<◌, ◌≤◌, List, length}
use Rattle.std.specs.List.{All, AllByRecursion}
pub use Rattle.fb_base.specs.Shapes.{AllAlong, IsCell, after_cell, AreCells, IsAlign, IsShape}
use Rattle.fb_base.specs.declared.shape.Shape.{Shape}
use Rattle.fb_base.specs.declared.shape.LineAt.{LineAt}
use Rattle.fb_image.specs.declared.image.ImageParts.{ImageParts}
use Rattle.fb_image.specs.Texts.{AreLiterals}

abbrev pub after_shape : Shape → ℕ
after_shape s = 1

-- the first shape may have no bytes, and all others have some
abbrev pub AreShapes : List Shape → Type 0
AreShapes shapes = AllAlong IsShape after_shape 0 shapes

-- The index of a line of so many code words: 0 where no line stands before it (low is 0), else at least low.
pub record IsLine (words low : ℕ) (l : LineAt) : Type 0 where
  pub first : low ≡ 0 → l.index ≡ 0
  pub rises : low ≤ l.index
  pub within : l.index < words
  pub number : 1 ≤ l.line

abbrev pub after_line : LineAt → ℕ
after_line l = l.index + 1

-- the first index is 0, and indexes rise below the number of code words
abbrev pub AreLines : ℕ → List LineAt → Type 0
AreLines words lines = AllAlong (IsLine words) after_line 0 lines

-- The rules of the format that the types of the parts don't keep by themselves.
pub record KeepsRules (p : ImageParts) : Type 0 where
  pub some_code : 1 ≤ length p.code
  pub code : length p.code < 2 ^ 32
  pub some_entries : 1 ≤ length p.entries
  pub entries : length p.entries < 2 ^ 32
  pub each_entry : AllByRecursion (λ e. e < length p.code) p.entries
  pub some_shapes : 1 ≤ length p.shapes
  pub shapes : length p.shapes < 2 ^ 32
  pub each_shape : AreShapes p.shapes
  pub some_lines : 1 ≤ length p.lines
  pub each_line : AreLines (length p.code) p.lines

-- a number of 32 bits
abbrev pub IsWord : ℕ → Type 0
IsWord n = n < 2 ^ 32

-- the numbers of a shape are words
pub record HasWords (s : Shape) : Type 0 where
  pub size : IsWord s.size
  pub align : IsWord s.align
  pub count : IsWord (length s.cells)
  pub cells : All IsWord s.cells

-- the rules that the types of the parts keep
pub record HasTypes (p : ImageParts) : Type 0 where
  pub code : AllByRecursion IsWord p.code
  pub literals : AreLiterals p.literals
  pub lines : AllByRecursion (λ l. IsWord l.line) p.lines

-- the parts are an image
pub record IsImage (p : ImageParts) : Type 0 where
  pub rules : KeepsRules p
  pub types : HasTypes p
