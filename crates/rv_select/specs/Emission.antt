-- The instructions of each operation of middle code.
--
-- How this is read: `op_code` has one clause for each operation. F stands for fetching a register's value into a
-- scratch register, K for keeping one in its place; all else is about the scratch registers 5 to 7, 10 to 13 and 17.
use Rattle.std.specs.Prelude.{ℕ, zero, suc, ◌+◌, ◌-◌, ◌*◌, ◌/◌, ◌%◌, ◌^◌, nat_lt, if◌then◌else◌, List, [], ◌∷◌, ◌++◌, length, Option, Some, None}
use Rattle.mid_code.specs.declared.reg.Reg.{Reg}
use Rattle.mid_code.specs.declared.op.WordOp.{WordOp}
use Rattle.mid_code.specs.declared.op.WordOp.TheVariants.{Plus, Minus, Times, LessS, AtMostS, Same, Other}
use Rattle.mid_code.specs.declared.op.Division.{Division}
use Rattle.mid_code.specs.declared.op.Division.TheVariants.{DivS, RemS}
use Rattle.mid_code.specs.declared.op.MidOp.{MidOp}
use Rattle.mid_code.specs.declared.op.MidOp.TheVariants.{Const, Copy, Both, Divide, Runtime, Skip, Back, Unless}
use Rattle.rv_isa.specs.declared.inst.Inst.{Inst}
use Rattle.rv_isa.specs.declared.inst.Inst.TheVariants.{Lui, Jal, Bne, Addi, Slli, Sltiu, Add, Sub, Slt, Sltu, Mul, Div, Rem, Ecall}
use Rattle.rv_select.specs.Places.{Place, fetch_code, keep_code}

-- A number into a register, eleven bits at a time: so many pieces at the most behind the first.
abbrev pub pieces_code : ℕ → ℕ → ℕ → List Inst
pieces_code zero r n = Addi r 0 (n % 2048) ∷ []
pieces_code (suc pieces) r n = if nat_lt n 2048 then Addi r 0 n ∷ [] else pieces_code pieces r (n / 2048) ++ (Slli r r 11 ∷ (Addi r r (n % 2048) ∷ []))

-- A number into a register: by one instruction, by two, or by pieces.
abbrev pub const_code : ℕ → ℕ → List Inst
const_code r n =
    if nat_lt n 2048 then Addi r 0 n ∷ []
    else if nat_lt n (2 ^ 31 - 2048) then Lui r ((n + 2048) / 4096) ∷ (Addi r r (n % 4096) ∷ [])
    else pieces_code 5 r n

-- The runtime call that traps with a kind.
abbrev pub trap_code : ℕ → List Inst
trap_code kind = Addi 10 0 kind ∷ (Addi 17 0 70 ∷ (Ecall ∷ []))

-- two values into registers 5 and 6
abbrev pub two_code : Place → Place → List Inst
two_code a b = fetch_code 5 a ++ fetch_code 6 b

-- The offset of a JAL from one code word to another, in units of two bytes.
abbrev pub jump_offset : ℕ → ℕ → ℕ
jump_offset from to = (2 ^ 20 + 2 * to - 2 * from) % 2 ^ 20

abbrev pub jump_code : ℕ → ℕ → List Inst
jump_code from to = Jal 0 (jump_offset from to) ∷ []

-- A jump from a code word to another where a place has 0. It is a jump behind a branch, since a branch reaches less far.
abbrev pub unless_code : Place → ℕ → ℕ → List Inst
unless_code p from to = fetch_code 5 p ++ (Bne 5 0 4 ∷ jump_code (from + length (fetch_code 5 p) + 1) to)

-- an operator between registers 5 and 6, into register 5
abbrev pub word_op_code : WordOp → List Inst
word_op_code Plus = Add 5 5 6 ∷ []
word_op_code Minus = Sub 5 5 6 ∷ []
word_op_code Times = Mul 5 5 6 ∷ []
word_op_code LessS = Slt 5 5 6 ∷ (Sub 5 0 5 ∷ [])
word_op_code AtMostS = Slt 5 6 5 ∷ (Addi 5 5 4095 ∷ [])
word_op_code Same = Sub 5 5 6 ∷ (Sltiu 5 5 1 ∷ (Sub 5 0 5 ∷ []))
word_op_code Other = Sub 5 5 6 ∷ (Sltu 5 0 5 ∷ (Sub 5 0 5 ∷ []))

abbrev pub division_inst : Division → Inst
division_inst DivS = Div 5 5 6
division_inst RemS = Rem 5 5 6

-- An argument of a runtime call into its register; one that is missing is 0.
abbrev pub argument_code : (Reg → Place) → ℕ → Option Reg → List Inst
argument_code place r None = Addi r 0 0 ∷ []
argument_code place r (Some a) = fetch_code r (place a)

-- the answer of a runtime call into its place, if it is wanted
abbrev pub answer_code : (Reg → Place) → Option Reg → List Inst
answer_code place None = []
answer_code place (Some to) = keep_code (place to) 10

abbrev pub arguments_code : (Reg → Place) → (a b c d : Option Reg) → List Inst
arguments_code place a b c d = argument_code place 10 a ++ (argument_code place 11 b ++ (argument_code place 12 c ++ argument_code place 13 d))

abbrev pub ask_code : ℕ → List Inst
ask_code number = Addi 17 0 number ∷ (Ecall ∷ [])

-- a test for a zero divisor, in register 6: it leads around the trap DivZero where it isn't 0
abbrev pub zero_test : List Inst
zero_test = Bne 6 0 8 ∷ trap_code 3

-- The instructions of the operation at position i of a procedure, where the registers have these places and the
-- operation at each position begins at this code word.
abbrev pub op_code : (Reg → Place) → (ℕ → ℕ) → ℕ → MidOp → List Inst
op_code place start i (Const to value) = const_code 5 value ++ keep_code (place to) 5
op_code place start i (Copy to from) = fetch_code 5 (place from) ++ keep_code (place to) 5
op_code place start i (Both op to left right) = (two_code (place left) (place right) ++ word_op_code op) ++ keep_code (place to) 5
op_code place start i (Divide op to left right) = (two_code (place left) (place right) ++ zero_test) ++ (division_inst op ∷ keep_code (place to) 5)
op_code place start i (Runtime number a b c d to) = (arguments_code place a b c d ++ ask_code number) ++ answer_code place to
op_code place start i (Skip target) = jump_code (start i) (start target)
op_code place start i (Back target) = jump_code (start i) (start target)
op_code place start i (Unless test target) = unless_code (place test) (start i) (start target)
