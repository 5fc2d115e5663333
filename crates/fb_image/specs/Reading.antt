-- Reading an image from left to right, with the first fault that is met.
use Rattle.std.specs.Prelude.{ℕ, zero, suc, ◌+◌, ◌%◌, Bool, ◌==◌, nat_lt, nat_le, ◌&&◌, ◌||◌, if◌then◌else◌, List, [], ◌∷◌, length, take, drop, Result, Ok, Err}
use Rattle.std.specs.Int.{w32, from_le_bytes}
use Rattle.fb_base.specs.declared.ending.ImageWhy.{ImageWhy}
use Rattle.fb_base.specs.declared.ending.ImageWhy.TheVariants.{Magic, Version, Count, Entry, ShapeRule, LiteralRule, LineRule, Short, Extra}
use Rattle.fb_base.specs.declared.shape.Shape.{Shape}
use Rattle.fb_base.specs.declared.shape.LineAt.{LineAt}
use Rattle.fb_image.specs.declared.fields.Counts.{Counts}
use Rattle.fb_image.specs.declared.image.ImageParts.{ImageParts}
use Rattle.fb_image.specs.Format.{after_cell, after_shape, after_line}

-- a fault: why, and how many bytes there are from its first one to the end
pub record Fault : Type 0 where
  pub left : ℕ
  pub why : ImageWhy

infixl 10 ◌>>=◌
abbrev pub ◌>>=◌ : {A B : Type 0} → Result A Fault → (A → Result B Fault) → Result B Fault
(Ok x) >>= f = f x
(Err e) >>= f = Err e

-- a field that the end cuts off
abbrev pub short : {A : Type 0} → Result A Fault
short = Err (record { left = 0; why = Short })

-- a field that breaks a rule, with the bytes that begin at its first one
abbrev pub broken : {A : Type 0} → ImageWhy → List ℕ → Result A Fault
broken why bytes = Err (record { left = length bytes; why = why })

-- Each reader gives what stands at the front, and the bytes after it.
unfoldable pub word_at : List ℕ → Result (ℕ × List ℕ) Fault
word_at bytes = if nat_lt (length bytes) 4 then short else Ok (from_le_bytes w32 (take 4 bytes), drop 4 bytes)

-- a word that passes a test
abbrev pub word_such : (ℕ → Bool) → ImageWhy → List ℕ → Result (ℕ × List ℕ) Fault
word_such test why bytes = do
  n ← word_at bytes
  if test n.0 then Ok n else broken why bytes

-- so many items, each at the number that the item before it gives
unfoldable pub many_at : {A : Type 0} → (ℕ → List ℕ → Result (A × List ℕ) Fault) → (A → ℕ) → ℕ → ℕ → List ℕ → Result (List A × List ℕ) Fault
many_at item next low zero bytes = Ok ([], bytes)
many_at item next low (suc n) bytes = do
  first ← item low bytes
  others ← many_at item next (next first.0) n first.1
  Ok (first.0 ∷ others.0, others.1)

-- items to which the one before says nothing
abbrev pub no_more : {A : Type 0} → A → ℕ
no_more x = 0

abbrev pub code_at : ℕ → List ℕ → Result (ℕ × List ℕ) Fault
code_at low = word_at

abbrev pub entry_at : ℕ → ℕ → List ℕ → Result (ℕ × List ℕ) Fault
entry_at words low = word_such (λ n. nat_lt n words) Entry

abbrev pub fits_cell : ℕ → ℕ → ℕ → Bool
fits_cell size low n = nat_le low n && (n % 8 == 0) && nat_le (n + 24) size

abbrev pub cell_at : ℕ → ℕ → List ℕ → Result (ℕ × List ℕ) Fault
cell_at size low = word_such (fits_cell size low) ShapeRule

abbrev pub fits_size : ℕ → ℕ → Bool
fits_size least n = nat_le least n && nat_le n 16777216

abbrev pub fits_align : ℕ → ℕ → Bool
fits_align size n = ((n == 1) || (n == 2) || (n == 4) || (n == 8)) && (size % n == 0)

-- a shape of at least so many bytes
unfoldable pub shape_at : ℕ → List ℕ → Result (Shape × List ℕ) Fault
shape_at least bytes = do
  size ← word_such (fits_size least) ShapeRule bytes
  align ← word_such (fits_align size.0) ShapeRule size.1
  count ← word_at align.1
  cells ← many_at (cell_at size.0) after_cell 0 count.0 count.1
  Ok (record { size = size.0; align = align.0; cells = cells.0 }, cells.1)

unfoldable pub literal_at : ℕ → List ℕ → Result (List ℕ × List ℕ) Fault
literal_at low bytes = do
  n ← word_such (λ n. nat_le n 16777216) LiteralRule bytes
  if nat_lt (length n.1) n.0 then short else Ok (take n.0 n.1, drop n.0 n.1)

-- the first index, before which there is no line, is 0
abbrev pub fits_index : ℕ → ℕ → ℕ → Bool
fits_index words low n = nat_le low n && nat_lt n words && (nat_lt 0 low || (n == 0))

unfoldable pub line_at : ℕ → ℕ → List ℕ → Result (LineAt × List ℕ) Fault
line_at words low bytes = do
  index ← word_such (fits_index words low) LineRule bytes
  line ← word_such (nat_lt 0) LineRule index.1
  Ok (record { index = index.0; line = line.0 }, line.1)

abbrev pub some_at : List ℕ → Result (ℕ × List ℕ) Fault
some_at = word_such (nat_lt 0) Count

unfoldable pub counts_at : List ℕ → Result (Counts × List ℕ) Fault
counts_at bytes = do
  code ← some_at bytes
  entries ← some_at code.1
  shapes ← some_at entries.1
  literals ← word_at shapes.1
  lines ← some_at literals.1
  Ok (record { code = code.0; entries = entries.0; shapes = shapes.0; literals = literals.0; lines = lines.0 }, lines.1)

-- the number that the bytes FBRV spell
abbrev pub magic_number : ℕ
magic_number = 0x56524246

-- the counts, after the magic bytes and the version
unfoldable pub header_at : List ℕ → Result (Counts × List ℕ) Fault
header_at bytes = do
  magic ← word_such (λ n. n == magic_number) Magic bytes
  version ← word_such (λ n. n == 1) Version magic.1
  counts_at version.1

unfoldable pub lists_at : Counts → List ℕ → Result (ImageParts × List ℕ) Fault
lists_at counts bytes = do
  code ← many_at code_at no_more 0 counts.code bytes
  entries ← many_at (entry_at counts.code) no_more 0 counts.entries code.1
  shapes ← many_at shape_at after_shape 0 counts.shapes entries.1
  literals ← many_at literal_at no_more 0 counts.literals shapes.1
  lines ← many_at (line_at counts.code) after_line 0 counts.lines literals.1
  Ok (record { code = code.0; entries = entries.0; shapes = shapes.0; literals = literals.0; lines = lines.0 }, lines.1)

-- all of the bytes
unfoldable pub parts_of : List ℕ → Result ImageParts Fault
parts_of bytes = do
  counts ← header_at bytes
  parts ← lists_at counts.0 counts.1
  if length parts.1 == 0 then Ok parts.0 else broken Extra parts.1
