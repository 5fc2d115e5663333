use Rattle.std.proofs.Common.{◌≡◌, ◌≤◌, ◌+◌, ◌-◌}
use Rattle.parse_parts.specs.Steps.{words}
use Rattle.parse_parts.proofs.steps.words.Given as goal

abbrev pub invariant-loop-turn : goal.invariant-loop-turn
invariant-loop-turn l = record {
  value : words l.count l.fn.cursor ≡ l.found + words (l.count - l._turn) l.cursor;
  most : l.found ≤ l._turn;
}
