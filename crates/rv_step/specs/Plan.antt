use Rattle.std.specs.Prelude.{ℕ, ◌+◌, ◌-◌, ◌*◌, ◌/◌, ◌%◌, ◌^◌, Bool, true, false, not, ◌||◌, ◌==◌, nat_lt, if◌then◌else◌, bit_and, bit_or, bit_xor}
use Rattle.thread_system.specs.Effect.{Effect, Silent, Traps}
use Rattle.word64.specs.Words.{less_signed, shift_right_signed}
use Rattle.rv_isa.specs.Words.{signed_imm, signed_upper, signed_branch, signed_jump, truth, word, low_word, quotient_signed, remainder_signed, quotient, remainder, high_signed, high_mixed, high_unsigned}
use Rattle.rv_isa.specs.Machine.{Machine, Cpu, reg_at, address, is_back, bad_code, line_at, writes, loads, stores, jumps, asks}
use Rattle.rv_isa.specs.declared.inst.Inst.{Inst}
use Rattle.rv_isa.specs.declared.inst.Inst.TheVariants.{Lui, Auipc, Jal, Jalr, Beq, Bne, Blt, Bge, Bltu, Bgeu, Lb, Lh, Lw, Ld, Lbu, Lhu, Lwu, Sb, Sh, Sw, Sd, Addi, Slti, Sltiu, Xori, Ori, Andi, Slli, Srli, Srai, Add, Sub, Sll, Slt, Sltu, Xor, Srl, Sra, Or, And, Mul, Mulh, Mulhsu, Mulhu, Div, Divu, Rem, Remu, Addiw, Slliw, Srliw, Sraiw, Addw, Subw, Sllw, Srlw, Sraw, Mulw, Divw, Divuw, Remw, Remuw, Fence, Ecall, Ebreak}
use Rattle.rv_step.specs.declared.plan.Datum.{Datum}
use Rattle.rv_step.specs.declared.plan.Datum.TheVariants as data_of
use Rattle.rv_step.specs.declared.plan.Plan.{Plan}
use Rattle.rv_step.specs.declared.plan.Plan.TheVariants as plans
use Rattle.rv_step.specs.Step.{passed}

-- How many bytes a number in memory has, and whether it has a sign.
abbrev pub datum_width : Datum → ℕ
datum_width data_of.Byte = 1
datum_width data_of.SignedByte = 1
datum_width data_of.Half = 2
datum_width data_of.SignedHalf = 2
datum_width data_of.Word = 4
datum_width data_of.SignedWord = 4
datum_width data_of.Double = 8

abbrev pub datum_sign : Datum → Bool
datum_sign data_of.Byte = false
datum_sign data_of.SignedByte = true
datum_sign data_of.Half = false
datum_sign data_of.SignedHalf = true
datum_sign data_of.Word = false
datum_sign data_of.SignedWord = true
datum_sign data_of.Double = false

-- a branch goes to its target if it is taken
abbrev pub branch_plan : Cpu → Bool → ℕ → Plan
branch_plan c taken offset = if taken then plans.Jump (is_back c ((c.pc + signed_branch offset) % 2 ^ 64)) 0 ((c.pc + signed_branch offset) % 2 ^ 64) else plans.Pass

abbrev pub link_plan : Cpu → ℕ → ℕ → Plan
link_plan c rd offset = plans.Jump (not (rd == 0) || is_back c ((c.pc + signed_jump offset) % 2 ^ 64)) rd ((c.pc + signed_jump offset) % 2 ^ 64)

-- What an instruction is going to do, with all values from the registers.
unfoldable pub plan_of : Cpu → Inst → Plan
plan_of c (Lui rd imm) = plans.Value rd (signed_upper imm)
plan_of c (Auipc rd imm) = plans.Value rd ((c.pc + signed_upper imm) % 2 ^ 64)
plan_of c (Jal rd offset) = link_plan c rd offset
plan_of c (Jalr rd rs1 imm) = plans.Jump true rd (2 * (address c rs1 imm / 2))
plan_of c (Beq rs1 rs2 offset) = branch_plan c (reg_at c.regs rs1 == reg_at c.regs rs2) offset
plan_of c (Bne rs1 rs2 offset) = branch_plan c (not (reg_at c.regs rs1 == reg_at c.regs rs2)) offset
plan_of c (Blt rs1 rs2 offset) = branch_plan c (less_signed (reg_at c.regs rs1) (reg_at c.regs rs2)) offset
plan_of c (Bge rs1 rs2 offset) = branch_plan c (not (less_signed (reg_at c.regs rs1) (reg_at c.regs rs2))) offset
plan_of c (Bltu rs1 rs2 offset) = branch_plan c (nat_lt (reg_at c.regs rs1) (reg_at c.regs rs2)) offset
plan_of c (Bgeu rs1 rs2 offset) = branch_plan c (not (nat_lt (reg_at c.regs rs1) (reg_at c.regs rs2))) offset
plan_of c (Lb rd rs1 imm) = plans.Load data_of.SignedByte rd (address c rs1 imm)
plan_of c (Lh rd rs1 imm) = plans.Load data_of.SignedHalf rd (address c rs1 imm)
plan_of c (Lw rd rs1 imm) = plans.Load data_of.SignedWord rd (address c rs1 imm)
plan_of c (Ld rd rs1 imm) = plans.Load data_of.Double rd (address c rs1 imm)
plan_of c (Lbu rd rs1 imm) = plans.Load data_of.Byte rd (address c rs1 imm)
plan_of c (Lhu rd rs1 imm) = plans.Load data_of.Half rd (address c rs1 imm)
plan_of c (Lwu rd rs1 imm) = plans.Load data_of.Word rd (address c rs1 imm)
plan_of c (Sb rs1 rs2 imm) = plans.Store data_of.Byte (reg_at c.regs rs2) (address c rs1 imm)
plan_of c (Sh rs1 rs2 imm) = plans.Store data_of.Half (reg_at c.regs rs2) (address c rs1 imm)
plan_of c (Sw rs1 rs2 imm) = plans.Store data_of.Word (reg_at c.regs rs2) (address c rs1 imm)
plan_of c (Sd rs1 rs2 imm) = plans.Store data_of.Double (reg_at c.regs rs2) (address c rs1 imm)
plan_of c (Addi rd rs1 imm) = plans.Value rd ((reg_at c.regs rs1 + signed_imm imm) % 2 ^ 64)
plan_of c (Slti rd rs1 imm) = plans.Value rd (truth (less_signed (reg_at c.regs rs1) (signed_imm imm)))
plan_of c (Sltiu rd rs1 imm) = plans.Value rd (truth (nat_lt (reg_at c.regs rs1) (signed_imm imm)))
plan_of c (Xori rd rs1 imm) = plans.Value rd (bit_xor (reg_at c.regs rs1) (signed_imm imm))
plan_of c (Ori rd rs1 imm) = plans.Value rd (bit_or (reg_at c.regs rs1) (signed_imm imm))
plan_of c (Andi rd rs1 imm) = plans.Value rd (bit_and (reg_at c.regs rs1) (signed_imm imm))
plan_of c (Slli rd rs1 amount) = plans.Value rd ((reg_at c.regs rs1 * 2 ^ (amount % 64)) % 2 ^ 64)
plan_of c (Srli rd rs1 amount) = plans.Value rd (reg_at c.regs rs1 / 2 ^ (amount % 64))
plan_of c (Srai rd rs1 amount) = plans.Value rd (shift_right_signed (reg_at c.regs rs1) (amount % 64))
plan_of c (Add rd rs1 rs2) = plans.Value rd ((reg_at c.regs rs1 + reg_at c.regs rs2) % 2 ^ 64)
plan_of c (Sub rd rs1 rs2) = plans.Value rd ((reg_at c.regs rs1 + (2 ^ 64 - reg_at c.regs rs2)) % 2 ^ 64)
plan_of c (Sll rd rs1 rs2) = plans.Value rd ((reg_at c.regs rs1 * 2 ^ (reg_at c.regs rs2 % 64)) % 2 ^ 64)
plan_of c (Slt rd rs1 rs2) = plans.Value rd (truth (less_signed (reg_at c.regs rs1) (reg_at c.regs rs2)))
plan_of c (Sltu rd rs1 rs2) = plans.Value rd (truth (nat_lt (reg_at c.regs rs1) (reg_at c.regs rs2)))
plan_of c (Xor rd rs1 rs2) = plans.Value rd (bit_xor (reg_at c.regs rs1) (reg_at c.regs rs2))
plan_of c (Srl rd rs1 rs2) = plans.Value rd (reg_at c.regs rs1 / 2 ^ (reg_at c.regs rs2 % 64))
plan_of c (Sra rd rs1 rs2) = plans.Value rd (shift_right_signed (reg_at c.regs rs1) (reg_at c.regs rs2 % 64))
plan_of c (Or rd rs1 rs2) = plans.Value rd (bit_or (reg_at c.regs rs1) (reg_at c.regs rs2))
plan_of c (And rd rs1 rs2) = plans.Value rd (bit_and (reg_at c.regs rs1) (reg_at c.regs rs2))
plan_of c (Mul rd rs1 rs2) = plans.Value rd ((reg_at c.regs rs1 * reg_at c.regs rs2) % 2 ^ 64)
plan_of c (Mulh rd rs1 rs2) = plans.Value rd (high_signed (reg_at c.regs rs1) (reg_at c.regs rs2))
plan_of c (Mulhsu rd rs1 rs2) = plans.Value rd (high_mixed (reg_at c.regs rs1) (reg_at c.regs rs2))
plan_of c (Mulhu rd rs1 rs2) = plans.Value rd (high_unsigned (reg_at c.regs rs1) (reg_at c.regs rs2))
plan_of c (Div rd rs1 rs2) = plans.Value rd (quotient_signed (reg_at c.regs rs1) (reg_at c.regs rs2))
plan_of c (Divu rd rs1 rs2) = plans.Value rd (quotient (reg_at c.regs rs1) (reg_at c.regs rs2))
plan_of c (Rem rd rs1 rs2) = plans.Value rd (remainder_signed (reg_at c.regs rs1) (reg_at c.regs rs2))
plan_of c (Remu rd rs1 rs2) = plans.Value rd (remainder (reg_at c.regs rs1) (reg_at c.regs rs2))
plan_of c (Addiw rd rs1 imm) = plans.Value rd (word ((reg_at c.regs rs1 + signed_imm imm) % 2 ^ 64))
plan_of c (Slliw rd rs1 amount) = plans.Value rd (word ((reg_at c.regs rs1 * 2 ^ (amount % 64)) % 2 ^ 64))
plan_of c (Srliw rd rs1 amount) = plans.Value rd (word (low_word (reg_at c.regs rs1) / 2 ^ (amount % 64)))
plan_of c (Sraiw rd rs1 amount) = plans.Value rd (word (shift_right_signed (word (reg_at c.regs rs1)) (amount % 64)))
plan_of c (Addw rd rs1 rs2) = plans.Value rd (word ((reg_at c.regs rs1 + reg_at c.regs rs2) % 2 ^ 64))
plan_of c (Subw rd rs1 rs2) = plans.Value rd (word ((reg_at c.regs rs1 + (2 ^ 64 - reg_at c.regs rs2)) % 2 ^ 64))
plan_of c (Sllw rd rs1 rs2) = plans.Value rd (word ((reg_at c.regs rs1 * 2 ^ (reg_at c.regs rs2 % 32 % 64)) % 2 ^ 64))
plan_of c (Srlw rd rs1 rs2) = plans.Value rd (word (low_word (reg_at c.regs rs1) / 2 ^ (reg_at c.regs rs2 % 32 % 64)))
plan_of c (Sraw rd rs1 rs2) = plans.Value rd (word (shift_right_signed (word (reg_at c.regs rs1)) (reg_at c.regs rs2 % 32 % 64)))
plan_of c (Mulw rd rs1 rs2) = plans.Value rd (word ((reg_at c.regs rs1 * reg_at c.regs rs2) % 2 ^ 64))
plan_of c (Divw rd rs1 rs2) = plans.Value rd (word (quotient_signed (word (reg_at c.regs rs1)) (word (reg_at c.regs rs2))))
plan_of c (Divuw rd rs1 rs2) = plans.Value rd (word (quotient (low_word (reg_at c.regs rs1)) (low_word (reg_at c.regs rs2))))
plan_of c (Remw rd rs1 rs2) = plans.Value rd (word (remainder_signed (word (reg_at c.regs rs1)) (word (reg_at c.regs rs2))))
plan_of c (Remuw rd rs1 rs2) = plans.Value rd (word (remainder (low_word (reg_at c.regs rs1)) (low_word (reg_at c.regs rs2))))
plan_of c (Fence rd rs1 imm) = plans.Pass
plan_of c Ecall = plans.Call
plan_of c Ebreak = plans.Break

-- What a plan does.
abbrev pub carried : Machine → Cpu → Plan → Effect Cpu
carried h c (plans.Value rd value) = writes c rd value
carried h c (plans.Load datum rd addr) = loads h c (datum_width datum) (datum_sign datum) rd addr
carried h c (plans.Store datum value addr) = stores h c (datum_width datum) value addr
carried h c (plans.Jump is_turn rd target) = jumps h c is_turn rd target
carried h c plans.Pass = Silent (passed c)
carried h c plans.Call = asks h c
carried h c plans.Break = Traps bad_code (line_at h c.pc)
