use Rattle.std.proofs.Common.{◌≡◌, drop}
use Rattle.rv_select.specs.Slots.{with_ops, slots_of}
use Rattle.rv_select.proofs.slots.slots_for.Given as goal

-- the slots so far, with those of what is left
abbrev pub invariant-loop-at : goal.invariant-loop-at
invariant-loop-at l = with_ops l.slots (drop l.at-index l.ops) ≡ slots_of l.ops
