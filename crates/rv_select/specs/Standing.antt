-- Code that stands in a machine.
use Rattle.std.specs.Prelude.{◌≡◌, ℕ, suc, List, [], ◌∷◌, Some}
use Rattle.rv_isa.specs.declared.inst.Inst.{Inst}
use Rattle.rv_isa.specs.Machine.{Machine}

-- From a place on stand these instructions, and all have this line.
abbrev pub StandsAt : Machine → (line k : ℕ) → List Inst → Type 0
StandsAt h l k [] = Unit {0}
StandsAt h l k (i ∷ is) = (h.fetch k ≡ Some i) × (h.line k ≡ l) × StandsAt h l (suc k) is
