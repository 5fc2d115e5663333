use Rattle.std.proofs.Common.{◌≡◌, ◌≤◌, length, vec_len}
use Rattle.name_scope.specs.Scopes.{outer_scopes}
use Rattle.name_scope.specs.Kept.{IsKept, pile_of, scopes_of}
use Rattle.name_scope.proofs.scopes.Scopes.leave.Given as goal

abbrev pub invariant-loop-step : goal.invariant-loop-step
invariant-loop-step l = record {
  kept : IsKept l.self-inside.names (pile_of l.self-inside.steps.items) l.self-inside.depth;
  within : 1 ≤ length (scopes_of (pile_of l.self-inside.steps.items));
  outer : outer_scopes (scopes_of (pile_of l.self-inside.steps.items)) ≡ outer_scopes l.fn.self;
}

abbrev pub decreases-loop-step : goal.decreases-loop-step
decreases-loop-step l = vec_len l.self-inside.steps
