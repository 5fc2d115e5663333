use Rattle.std.proofs.Common.{◌≡◌, ◌+◌, drop, option_map}
use Rattle.str_heap.specs.Blocks.{fit_at}
use Rattle.str_heap.proofs.holes.fit_at.Given as goal

-- what the rest answers, so many further on
abbrev pub invariant-loop-i : goal.invariant-loop-i
invariant-loop-i l = fit_at l.n l.holes ≡ option_map (λ k. l.i + k) (fit_at l.n (drop l.i l.holes))
