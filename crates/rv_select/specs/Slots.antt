-- Every register of a procedure has a slot of its own.
use Rattle.std.specs.Prelude.{ℕ, ◌+◌, ◌-◌, ◌^◌, ◌≤◌, min, max, List, [], ◌∷◌, Option, Some, None}
use Rattle.mid_code.specs.declared.reg.Reg.{Reg}
use Rattle.mid_code.specs.declared.reg.Reg.TheVariants as regs
use Rattle.mid_code.specs.declared.op.MidOp.{MidOp}
use Rattle.mid_code.specs.declared.op.MidOp.TheVariants.{Const, Copy, Both, Divide, Runtime, Skip, Back, Unless}
use Rattle.mid_code.specs.declared.op.LinedOp.{LinedOp}
use Rattle.rv_select.specs.declared.slots.Slots.{Slots}
use Rattle.rv_select.specs.Places.{Place, Slot}

-- The banks one behind the other: the values that wait, the addresses of places, the variables.
abbrev pub slot_of : Slots → Reg → ℕ
slot_of n (regs.Temp i) = i
slot_of n (regs.Place i) = n.temps + i
slot_of n (regs.Var i) = n.temps + (n.places + i)

-- the last slot of a frame
abbrev pub last_slot : ℕ
last_slot = 2 ^ 18 - 33

-- A register's place. In a program whose slots fit into a frame no register is beyond the last slot.
abbrev pub place_of : Slots → Reg → Place
place_of n r = Slot (min (slot_of n r) last_slot)

abbrev pub FitFrame : Slots → Type 0
FitFrame n = n.temps + (n.places + n.vars) ≤ 2 ^ 18 - 32

-- ---- how many slots there are

abbrev pub no_slots : Slots
no_slots = record { temps = 0; places = 0; vars = 0 }

-- the slots with one for a register
abbrev pub with_slot : Slots → Reg → Slots
with_slot n (regs.Temp i) = record { temps = max n.temps (i + 1); places = n.places; vars = n.vars }
with_slot n (regs.Place i) = record { temps = n.temps; places = max n.places (i + 1); vars = n.vars }
with_slot n (regs.Var i) = record { temps = n.temps; places = n.places; vars = max n.vars (i + 1) }

abbrev pub with_slot_if : Slots → Option Reg → Slots
with_slot_if n None = n
with_slot_if n (Some r) = with_slot n r

-- with one for each register of an operation
abbrev pub with_op : Slots → MidOp → Slots
with_op n (Const to value) = with_slot n to
with_op n (Copy to from) = with_slot (with_slot n from) to
with_op n (Both op to left right) = with_slot (with_slot (with_slot n left) right) to
with_op n (Divide op to left right) = with_slot (with_slot (with_slot n left) right) to
with_op n (Runtime number a b c d to) = with_slot_if (with_slot_if (with_slot_if (with_slot_if (with_slot_if n a) b) c) d) to
with_op n (Skip target) = n
with_op n (Back target) = n
with_op n (Unless test target) = with_slot n test

abbrev pub with_ops : Slots → List LinedOp → Slots
with_ops n [] = n
with_ops n (o ∷ ops) = with_ops (with_op n o.op) ops

-- the slots of a procedure
abbrev pub slots_of : List LinedOp → Slots
slots_of ops = with_ops no_slots ops
