use Rattle.std.proofs.Common.{◌≡◌, ◌+◌, ◌-◌, length}
use Rattle.parse_parts.specs.Steps.{repeat}
use Rattle.parse_parts.proofs.turns.all_of.Given as goal

abbrev pub invariant-loop-turn : goal.invariant-loop-turn
invariant-loop-turn g l = repeat (g.P.Turning.turned l.turning) (length l.fn.cursor + 1) l.fn.found l.fn.cursor ≡ repeat (g.P.Turning.turned l.turning) (l._turn-end - l._turn) l.found l.cursor
