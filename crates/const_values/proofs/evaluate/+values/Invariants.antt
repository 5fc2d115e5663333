use Rattle.std.proofs.Common.{◌≡◌, drop, map}
use Rattle.const_values.specs.Values.{value_of, without_value}
use Rattle.const_values.proofs.evaluate.+values.Given as goal

-- no part so far has a fault
abbrev pub invariant-fault_among-loop-part : goal.invariant-fault_among-loop-part
invariant-fault_among-loop-part g l =
    without_value (map (value_of (g.K.Known.named l.known) (g.K.Known.sized l.known)) (drop l.part-index l.parts)) ≡ without_value (map (value_of (g.K.Known.named l.known) (g.K.Known.sized l.known)) l.parts)
