use Rattle.std.proofs.Common.{◌≡◌, ◌==◌, ◌+◌, ◌≤◌, count_by, take, drop}
use Rattle.fb_lexer.specs.Rows.{place_behind}
use Rattle.fb_lexer.proofs.row.place_behind.Given as goal

abbrev pub invariant-loop-b : goal.invariant-loop-b
invariant-loop-b l = record {
  value : place_behind l.place (drop l.b-index l.bytes) ≡ place_behind l.fn.at l.bytes;
  line : l.place.line ≡ l.fn.at.line + count_by (λ b. b == 10) (take l.b-index l.bytes);
  few : l.place.line ≤ l.fn.at.line + l.b-index;
  col : l.place.col ≤ l.fn.at.col + l.b-index;
  some : 1 ≤ l.place.col;
}
