-- The image of a program's code.
use Rattle.std.specs.Prelude.{ℕ, suc, ◌==◌, if◌then◌else◌, List, [], ◌∷◌, map, max}
use Rattle.fb_base.specs.declared.shape.Shape.{Shape}
use Rattle.fb_base.specs.declared.shape.LineAt.{LineAt}
use Rattle.fb_image.specs.declared.image.ImageParts.{ImageParts}
use Rattle.mid_code.specs.declared.op.LinedOp.{LinedOp}
use Rattle.rv_isa.specs.Encoding.{word_of}
use Rattle.rv_select.specs.declared.lined.LinedInst.{LinedInst}
use Rattle.rv_select.specs.Layout.{selected, entries_from}

abbrev pub words_of : List LinedInst → List ℕ
words_of is = map (λ i. word_of i.inst) is

-- lines count from 1
abbrev pub line_number : LinedInst → ℕ
line_number i = max i.line 1

-- Where the line changes: from index k on, behind an instruction of line `before`.
abbrev pub lines_from : ℕ → ℕ → List LinedInst → List LineAt
lines_from k before [] = []
lines_from k before (i ∷ is) = if line_number i == before then lines_from (suc k) before is else record { index = k; line = line_number i } ∷ lines_from (suc k) (line_number i) is

-- the place that all threads share has no bytes
abbrev pub no_shape : Shape
no_shape = record { size = 0; align = 1; cells = [] }

-- The parts of the image of a program.
abbrev pub parts_of : List (List LinedOp) → ImageParts
parts_of procs = record {
  code = words_of (selected procs);
  entries = entries_from 0 0 procs;
  shapes = no_shape ∷ [];
  literals = [];
  lines = lines_from 0 0 (selected procs);
}
