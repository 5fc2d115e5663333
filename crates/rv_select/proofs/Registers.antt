use Rattle.std.proofs.Common.{◌≡◌, ℕ, ◌<◌, ◌^◌, Bool, true, false, if◌then◌else◌, refl, ap}
use Rattle.std.proofs.lemmas.Bool.{eq-eqb, eqb-true}
use Rattle.mid_code.specs.declared.reg.Reg.{Reg}
use Rattle.mid_code.specs.declared.reg.Reg.TheVariants as regs
use Rattle.mid_code.specs.Registers.{Regs, is_same, with_reg}

-- Whether two of middle code's registers are one.

pub same_self : (a : Reg) → is_same a a ≡ true
same_self (regs.Temp i) = eq-eqb i i refl
same_self (regs.Var i) = eq-eqb i i refl
same_self (regs.Place i) = eq-eqb i i refl

same_means : (a b : Reg) → is_same a b ≡ true → a ≡ b
same_means (regs.Temp i) (regs.Temp j) e = ap regs.Temp (eqb-true i j e)
same_means (regs.Temp i) (regs.Var j) e = cc
same_means (regs.Temp i) (regs.Place j) e = cc
same_means (regs.Var i) (regs.Temp j) e = cc
same_means (regs.Var i) (regs.Var j) e = ap regs.Var (eqb-true i j e)
same_means (regs.Var i) (regs.Place j) e = cc
same_means (regs.Place i) (regs.Temp j) e = cc
same_means (regs.Place i) (regs.Var j) e = cc
same_means (regs.Place i) (regs.Place j) e = ap regs.Place (eqb-true i j e)

-- one register or another, with what the test says
pub data AreSame (a b : Reg) : Type 0 where
  one : a ≡ b → is_same a b ≡ true → AreSame a b
  two : (a ≡ b → ⊥) → is_same a b ≡ false → AreSame a b

same_by : (t : Bool) (a b : Reg) → is_same a b ≡ t → AreSame a b
same_by true a b e = one (same_means a b e) e
same_by false a b e = two (λ s. cc (e, ap (is_same a) s, same_self a)) e

pub same_cases : (a b : Reg) → AreSame a b
same_cases a b = same_by (is_same a b) a b refl

small_by : (t : Bool) (regs : Regs) (x : ℕ) (r : Reg) → x < 2 ^ 64 → ((q : Reg) → regs q < 2 ^ 64) → (if t then x else regs r) < 2 ^ 64
small_by true regs x r small others = small
small_by false regs x r small others = others r

pub with_small : (regs : Regs) (d : Reg) (x : ℕ) → x < 2 ^ 64 → ((q : Reg) → regs q < 2 ^ 64) → (r : Reg) → with_reg regs d x r < 2 ^ 64
with_small regs d x small others r = small_by (is_same r d) regs x r small others
