use Rattle.std.proofs.Common.{◌≡◌, ◌≢◌, ℕ, suc, ◌≤◌, ◌==◌, true, false, List, ◌∷◌, arith, refl}
use Rattle.mid_code.specs.declared.reg.Reg.TheVariants.{Temp}
use Rattle.mid_code.specs.Registers.{Regs, with_reg}
use Rattle.mid_flow.specs.Values.{Holds, bottom, topped}

-- A value that comes into a register at the height or above it leaves the values that wait.
pub holds_below : (regs : Regs) (d n v : ℕ) (values : List ℕ) → d ≤ n → Holds regs d values → Holds (with_reg regs (Temp n) v) d values
holds_below regs _ n v _ le bottom = bottom
holds_below regs _ n v _ le (topped d value values is more) =
    let ne : d ≢ n = omega arith in
    let off : (d == n) ≡ false = grind (arith, ne) in
    topped d value values (rw off is) (holds_below regs d n v values (omega arith) more)

-- a value that comes on top of those that wait
pub holds_more : (regs : Regs) (d v : ℕ) (values : List ℕ) → Holds regs d values → Holds (with_reg regs (Temp d) v) (suc d) (v ∷ values)
holds_more regs d v values h =
    let on : (d == d) ≡ true = grind arith in
    topped d v values (rw on refl) (holds_below regs d d v values (omega arith) h)
