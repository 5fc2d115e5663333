use Rattle.std.proofs.Common.{◌≡◌, ℕ, ◌+◌, ◌-◌, length}
use Rattle.rv_step.specs.Pages.{SameBytes, KeepsMore}
use Rattle.rv_step.proofs.stack.Stack.reserve.Given as goal

abbrev pub invariant-loop-alloc : goal.invariant-loop-alloc
invariant-loop-alloc l = record { bytes : SameBytes l.initial.self-inside.pages.items l.self-inside.pages.items; more : KeepsMore l.initial.self-inside.pages.items l.self-inside.pages.items }

abbrev pub decreases-loop-alloc : goal.decreases-loop-alloc
decreases-loop-alloc l = l.index + 1 - length l.self-inside.pages.items
