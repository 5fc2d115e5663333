-- That structured code reads no register before it is written.
use Rattle.std.specs.Prelude.{◌≡◌, Bool, true, if◌then◌else◌, List, [], ◌∷◌, Option, Some, None}
use Rattle.mid_code.specs.declared.reg.Reg.{Reg}
use Rattle.mid_code.specs.Registers.{is_same}
use Rattle.mid_code.specs.Flow.{reads_of, writes_of}
use Rattle.mid_flow.specs.Structure.{Code, Broken, Nothing, Then, When, Loop, LeaveUnless, Round, End}
use Rattle.mid_flow.specs.Laws.{IsStraight}

-- which registers are written by now
abbrev pub Known : Type 0
Known = Reg → Bool

-- one more
abbrev pub with_known : Option Reg → Known → Known
with_known None known = known
with_known (Some to) known = λ r. if is_same r to then true else known r

abbrev pub AreKnown : Known → List Reg → Type 0
AreKnown known [] = Unit {0}
AreKnown known (r ∷ rs) = (known r ≡ true) × AreKnown known rs

-- whether code begins with an operation
abbrev pub Begins : Code → Type 0
Begins (Then op line rest) = Unit {0}
Begins c = ⊥

-- what encloses code most closely
pub data Inside : Type 0 where
  Nowhere : Inside
  Block : Inside
  Cycle : Inside

abbrev pub IsInBlock : Inside → Type 0
IsInBlock Nowhere = ⊥
IsInBlock Block = Unit {0}
IsInBlock Cycle = Unit {0}

abbrev pub IsInLoop : Inside → Type 0
IsInLoop Nowhere = ⊥
IsInLoop Block = ⊥
IsInLoop Cycle = Unit {0}

-- Each register that the code reads is known there, and a block ends or is left only inside one. What a block writes
-- isn't known behind it.
abbrev pub IsWritten : Known → Inside → Code → Type 0
IsWritten known inside Broken = Unit {0}
IsWritten known inside Nothing = Unit {0}
IsWritten known inside (Then op line rest) = IsStraight op × AreKnown known (reads_of op) × IsWritten (with_known (writes_of op) known) inside rest
IsWritten known inside (When test line body rest) = (known test ≡ true) × IsWritten known Block body × IsWritten known inside rest
IsWritten known inside (Loop body rest) = Begins body × IsWritten known Cycle body × IsWritten known inside rest
IsWritten known inside (LeaveUnless test line rest) = IsInBlock inside × (known test ≡ true) × IsWritten known inside rest
IsWritten known inside (Round line) = IsInLoop inside
IsWritten known inside End = IsInBlock inside
