use Rattle.std.proofs.Common.{◌≡◌, ◌≤◌, ◌+◌, ◌-◌, ◌*◌, length, []}
use Rattle.parse_parts.specs.Steps.{repeat}
use Rattle.parse_stmt.specs.Module.{item_turn}
use Rattle.parse_stmt.proofs.module.module_.Given as goal

abbrev pub invariant-loop-turn : goal.invariant-loop-turn
invariant-loop-turn l = record {
  reads : repeat (item_turn 200 199) (length l.fn.cursor + 1) (record { items = []; tokens = 0 }) l.fn.cursor ≡ repeat (item_turn 200 199) (l._turn-end - l._turn) l.found l.cursor;
  few : l.found.tokens ≤ 65536 * l._turn;
  turns : l._turn-end ≤ 65537;
}
