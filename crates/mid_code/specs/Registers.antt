-- The virtual registers of an activation, as a function from each to its value.
use Rattle.std.specs.Prelude.{ℕ, Bool, false, ◌==◌, if◌then◌else◌}
use Rattle.mid_code.specs.declared.reg.Reg.{Reg}
use Rattle.mid_code.specs.declared.reg.Reg.TheVariants.{Temp, Var, Place}

abbrev pub Regs : Type 0
Regs = Reg → ℕ

-- Whether two names are of one register: of one bank, with one number.
abbrev pub is_same : Reg → Reg → Bool
is_same (Temp i) (Temp j) = i == j
is_same (Var i) (Var j) = i == j
is_same (Place i) (Place j) = i == j
is_same a b = false

-- The registers after a value was put into one. The registers of the other banks are as before by computation.
abbrev pub with_reg : Regs → Reg → ℕ → Regs
with_reg regs to value = λ r. if is_same r to then value else regs r
