-- How many instructions an operation has, before any is made. It doesn't depend on where the operation stands.
use Rattle.std.specs.Prelude.{◌≡◌, ℕ, zero, suc, ◌+◌, ◌-◌, ◌/◌, ◌^◌, nat_lt, if◌then◌else◌, Option, Some, None, length}
use Rattle.mid_code.specs.declared.reg.Reg.{Reg}
use Rattle.mid_code.specs.declared.op.WordOp.{WordOp}
use Rattle.mid_code.specs.declared.op.WordOp.TheVariants.{Plus, Minus, Times, LessS, AtMostS, Same, Other}
use Rattle.mid_code.specs.declared.op.MidOp.{MidOp}
use Rattle.mid_code.specs.declared.op.MidOp.TheVariants.{Const, Copy, Both, Divide, Runtime, Skip, Back, Unless}
use Rattle.rv_select.specs.Places.{Place, Slot, Real, slot_off}
use Rattle.rv_select.specs.Emission.{op_code}

-- a value fetched from its place, or kept there
abbrev pub move_size : Place → ℕ
move_size (Slot k) = if nat_lt (slot_off k) 2048 then 1 else 3
move_size (Real q) = 1

-- a number, eleven bits at a time: so many pieces at the most behind the first
abbrev pub pieces_size : ℕ → ℕ → ℕ
pieces_size zero n = 1
pieces_size (suc pieces) n = if nat_lt n 2048 then 1 else pieces_size pieces (n / 2048) + 2

abbrev pub const_size : ℕ → ℕ
const_size n = if nat_lt n 2048 then 1 else if nat_lt n (2 ^ 31 - 2048) then 2 else pieces_size 5 n

-- an operator between two registers
abbrev pub word_op_size : WordOp → ℕ
word_op_size Plus = 1
word_op_size Minus = 1
word_op_size Times = 1
word_op_size LessS = 2
word_op_size AtMostS = 2
word_op_size Same = 3
word_op_size Other = 3

abbrev pub argument_size : (Reg → Place) → Option Reg → ℕ
argument_size place None = 1
argument_size place (Some a) = move_size (place a)

abbrev pub answer_size : (Reg → Place) → Option Reg → ℕ
answer_size place None = 0
answer_size place (Some to) = move_size (place to)

-- A division has four instructions that test its divisor, a runtime call two behind its arguments, and a jump where a
-- value is 0 a branch and a jump.
abbrev pub size_of : (Reg → Place) → MidOp → ℕ
size_of place (Const to value) = const_size value + move_size (place to)
size_of place (Copy to from) = move_size (place from) + move_size (place to)
size_of place (Both op to left right) = move_size (place left) + move_size (place right) + word_op_size op + move_size (place to)
size_of place (Divide op to left right) = move_size (place left) + move_size (place right) + 5 + move_size (place to)
size_of place (Runtime number a b c d to) = argument_size place a + argument_size place b + argument_size place c + argument_size place d + 2 + answer_size place to
size_of place (Skip target) = 1
size_of place (Back target) = 1
size_of place (Unless test target) = move_size (place test) + 2

-- As many instructions are made.
abbrev pub SizesAreLengths : Type 0
SizesAreLengths = (place : Reg → Place) (start : ℕ → ℕ) (i : ℕ) (op : MidOp) → length (op_code place start i op) ≡ size_of place op
