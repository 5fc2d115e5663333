-- The bytes of an image: one spelling for each. All numbers are words of four bytes, the lowest byte first.
use Rattle.std.specs.Prelude.{ℕ, List, [], ◌∷◌, ◌++◌, ◌<◌, length, slice_index}
use Rattle.std.specs.List.{flat_map}
use Rattle.std.specs.Int.{w32, to_le_bytes}
use Rattle.fb_base.specs.declared.shape.Shape.{Shape}
use Rattle.fb_base.specs.declared.shape.LineAt.{LineAt}
use Rattle.fb_image.specs.declared.image.ImageParts.{ImageParts}

unfoldable pub word : ℕ → List ℕ
word n = to_le_bytes w32 n

abbrev pub shape : Shape → List ℕ
shape s = word s.size ++ word s.align ++ word (length s.cells) ++ flat_map word s.cells

abbrev pub literal : List ℕ → List ℕ
literal bytes = word (length bytes) ++ bytes

abbrev pub line : LineAt → List ℕ
line l = word l.index ++ word l.line

-- FBRV
unfoldable pub magic : List ℕ
magic = 70 ∷ 66 ∷ 82 ∷ 86 ∷ []

unfoldable pub version : List ℕ
version = 1 ∷ 0 ∷ 0 ∷ 0 ∷ []

abbrev pub counts : ImageParts → List ℕ
counts p = word (length p.code) ++ word (length p.entries) ++ word (length p.shapes) ++ word (length p.literals) ++ word (length p.lines)

abbrev pub header : ImageParts → List ℕ
header p = magic ++ version ++ counts p

abbrev pub lists : ImageParts → List ℕ
lists p = flat_map word p.code ++ flat_map word p.entries ++ flat_map shape p.shapes ++ flat_map literal p.literals ++ flat_map line p.lines

abbrev pub spelling : ImageParts → List ℕ
spelling p = header p ++ lists p

-- numbers that are bytes
abbrev pub AreBytes : List ℕ → Type 0
AreBytes bytes = (i : ℕ) → slice_index bytes i < 256
