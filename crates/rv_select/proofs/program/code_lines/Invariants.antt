use Rattle.std.proofs.Common.{◌≡◌, ◌++◌, drop}
use Rattle.rv_select.specs.Image.{lines_from}
use Rattle.rv_select.proofs.program.code_lines.Given as goal

abbrev pub invariant-loop-one : goal.invariant-loop-one
invariant-loop-one l = record {
  place : l.index ≡ l.one-index;
  lines : l.lines ++ lines_from l.index l.before (drop l.one-index l.code) ≡ lines_from 0 0 l.code;
}
