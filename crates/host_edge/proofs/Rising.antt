-- A count that rose in a part of a stretch rose in all of it, and a count that is 0 for ever never did.
use Rattle.std.proofs.Common.{ℕ, ◌≤◌, arith}
use Rattle.host_edge.specs.Faults.{Rose}

pub rose_then : (before mid now : ℕ) → Rose before mid → mid ≤ now → Rose before now
rose_then before mid now rose later = omega arith

pub then_rose : (before mid now : ℕ) → before ≤ mid → Rose mid now → Rose before now
then_rose before mid now later rose = omega arith

pub never_rose : Rose 0 0 → ⊥
never_rose rose = omega arith
