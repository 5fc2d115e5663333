-- The values that wait inside an expression: each stands in the register of its height.
use Rattle.std.specs.Prelude.{◌≡◌, ℕ, zero, suc, List, [], ◌∷◌}
use Rattle.mid_code.specs.declared.reg.Reg.TheVariants.{Temp}
use Rattle.mid_code.specs.Registers.{Regs}

-- So many registers hold the values of a stack, the last one its top.
pub data Holds (regs : Regs) : ℕ → List ℕ → Type 0 where
  bottom : Holds regs zero []
  topped : (d value : ℕ) (values : List ℕ) → regs (Temp d) ≡ value → Holds regs d values → Holds regs (suc d) (value ∷ values)
