use Rattle.std.proofs.Common.{◌≡◌, ◌+◌, ◌-◌, length}
use Rattle.places.specs.Place.{with_flags}
use Rattle.places.proofs.flags.Flags.set_all.Given as goal

abbrev pub invariant-loop-i : goal.invariant-loop-i
invariant-loop-i l = record { rest : with_flags l.i (l.from + l.count - l.i) l.self ≡ with_flags l.from l.count l.initial.self; kept : length l.self ≡ length l.initial.self }
