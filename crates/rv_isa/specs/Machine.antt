use Rattle.std.specs.Prelude.{ℕ, zero, suc, ◌+◌, ◌-◌, ◌*◌, ◌/◌, ◌%◌, ◌^◌, Bool, true, false, not, ◌&&◌, ◌||◌, ◌==◌, nat_lt, if◌then◌else◌, [], ◌∷◌, Option, Some, None, bit_and, bit_or, bit_xor}
use Rattle.thread_system.specs.Effect.{Effect, Silent, Reads, Writes, Turn, Calls, Traps}
use Rattle.thread_system.specs.Segment.{bad_pointer}
use Rattle.word64.specs.Words.{less_signed, shift_right_signed, extend}
use Rattle.rv_isa.specs.Words.{signed_imm, signed_upper, signed_branch, signed_jump, truth, word, low_word, quotient_signed, remainder_signed, quotient, remainder, high_signed, high_mixed, high_unsigned, loaded, stored}
use Rattle.rv_isa.specs.declared.inst.Inst.{Inst}
use Rattle.rv_isa.specs.declared.inst.Inst.TheVariants.{Lui, Auipc, Jal, Jalr, Beq, Bne, Blt, Bge, Bltu, Bgeu, Lb, Lh, Lw, Ld, Lbu, Lhu, Lwu, Sb, Sh, Sw, Sd, Addi, Slti, Sltiu, Xori, Ori, Andi, Slli, Srli, Srai, Add, Sub, Sll, Slt, Sltu, Xor, Srl, Sra, Or, And, Mul, Mulh, Mulhsu, Mulhu, Div, Divu, Rem, Remu, Addiw, Slliw, Srliw, Sraiw, Addw, Subw, Sllw, Srlw, Sraw, Mulw, Divw, Divuw, Remw, Remuw, Fence, Ecall, Ebreak}

-- the kind of the trap where there is no instruction to go on with
abbrev pub bad_code : ℕ
bad_code = 11

-- What a thread of the machine is: the address of its next instruction, its registers, and the bytes of its own
-- stack by address. Register 0 is never asked.
pub record Cpu : Type 0 where
  pub pc : ℕ
  pub regs : ℕ → ℕ
  pub bytes : ℕ → ℕ

-- What its steps stand on: the instruction at each index of the code, the line of the text at each, and the first
-- address of its own stack, which has 2 ^ 32 bytes.
pub record Machine : Type 0 where
  pub fetch : ℕ → Option Inst
  pub line : ℕ → ℕ
  pub low : ℕ

-- A register's value: register 0 reads 0.
abbrev pub reg_at : (ℕ → ℕ) → ℕ → ℕ
reg_at regs zero = 0
reg_at regs (suc r) = regs (suc r)

-- The registers after a value was written to one: what is written to register 0 is dropped.
abbrev pub with_reg : (ℕ → ℕ) → ℕ → ℕ → (ℕ → ℕ)
with_reg regs zero v = regs
with_reg regs (suc r) v = λ q. if q == suc r then v % 2 ^ 64 else regs q

-- the line of the instruction at an address
abbrev pub line_at : Machine → ℕ → ℕ
line_at h pc = h.line (pc / 4)

-- the next instruction, with a value in a register
abbrev pub moves_on : Cpu → ℕ → ℕ → Cpu
moves_on c rd v = record { pc = c.pc + 4; regs = with_reg c.regs rd v; bytes = c.bytes }

abbrev pub writes : Cpu → ℕ → ℕ → Effect Cpu
writes c rd v = Silent (moves_on c rd v)

-- the address of a load, a store or a JALR
abbrev pub address : Cpu → ℕ → ℕ → ℕ
address c rs1 imm = (reg_at c.regs rs1 + signed_imm imm) % 2 ^ 64

-- Whether so many bytes lie in the own stack, and whether an access begins there.
abbrev pub on_stack : Machine → ℕ → ℕ → Bool
on_stack h a width = not (nat_lt a h.low) && nat_lt (a + width) (h.low + (2 ^ 32 + 1))

abbrev pub in_stack : Machine → ℕ → Bool
in_stack h a = not (nat_lt a h.low) && nat_lt a (h.low + 2 ^ 32)

-- a load: nobody else sees one from the own stack, and one that passes the stack's end is a trap
abbrev pub loads : Machine → Cpu → ℕ → Bool → ℕ → ℕ → Effect Cpu
loads h c width has_sign rd a =
    if on_stack h a width then writes c rd (extend width has_sign (loaded c.bytes a width))
    else if in_stack h a then Traps bad_pointer (line_at h c.pc)
    else Reads a width (line_at h c.pc) (λ v. moves_on c rd (extend width has_sign v))

-- a store
abbrev pub stores : Machine → Cpu → ℕ → ℕ → ℕ → Effect Cpu
stores h c width value a =
    if on_stack h a width then Silent (record { pc = c.pc + 4; regs = c.regs; bytes = stored c.bytes a width value })
    else if in_stack h a then Traps bad_pointer (line_at h c.pc)
    else Writes a width value (line_at h c.pc) (record { pc = c.pc + 4; regs = c.regs; bytes = c.bytes })

-- a jump to an address, which is a turn or not, with the address behind it put into a register
abbrev pub jumps : Machine → Cpu → Bool → ℕ → ℕ → Effect Cpu
jumps h c is_turn rd target =
    if not (target % 4 == 0) then Traps bad_code (line_at h c.pc)
    else if is_turn then Turn (line_at h c.pc) (record { pc = target; regs = with_reg c.regs rd (c.pc + 4); bytes = c.bytes })
    else Silent (record { pc = target; regs = with_reg c.regs rd (c.pc + 4); bytes = c.bytes })

-- Whether going to an address is a turn: the way isn't ahead.
abbrev pub is_back : Cpu → ℕ → Bool
is_back c target = not (nat_lt c.pc target)

-- a branch, which is a jump where it is taken
abbrev pub branches : Machine → Cpu → Bool → ℕ → Effect Cpu
branches h c taken offset =
    if taken then jumps h c (is_back c ((c.pc + signed_branch offset) % 2 ^ 64)) 0 ((c.pc + signed_branch offset) % 2 ^ 64)
    else Silent (record { pc = c.pc + 4; regs = c.regs; bytes = c.bytes })

-- the runtime call that traps, with the trap's kind as its argument
abbrev pub trap_call : ℕ
trap_call = 70

-- Whether a call's number and first argument ask for a trap that there is.
abbrev pub is_trap_call : ℕ → ℕ → Bool
is_trap_call number kind = (number == trap_call) && (nat_lt 0 kind && nat_lt kind 12)

-- a call of the runtime: its number stands in register 17, its arguments in registers 10 to 13, its answer in
-- register 10
abbrev pub asks : Machine → Cpu → Effect Cpu
asks h c =
    if is_trap_call (c.regs 17) (c.regs 10) then Traps (c.regs 10) (line_at h c.pc)
    else Calls (c.regs 17) (c.regs 10 ∷ c.regs 11 ∷ c.regs 12 ∷ c.regs 13 ∷ []) (line_at h c.pc) (λ v. moves_on c 10 v)

-- What each instruction does (RISC-V Instruction Set Manual, volume I, RV32I, RV64I and M).
abbrev pub act : Machine → Cpu → Inst → Effect Cpu
act h c (Lui rd imm) = writes c rd (signed_upper imm)
act h c (Auipc rd imm) = writes c rd (c.pc + signed_upper imm)
act h c (Jal rd offset) = jumps h c (not (rd == 0) || is_back c ((c.pc + signed_jump offset) % 2 ^ 64)) rd ((c.pc + signed_jump offset) % 2 ^ 64)
act h c (Jalr rd rs1 imm) = jumps h c true rd (2 * (address c rs1 imm / 2))
act h c (Beq rs1 rs2 offset) = branches h c (reg_at c.regs rs1 == reg_at c.regs rs2) offset
act h c (Bne rs1 rs2 offset) = branches h c (not (reg_at c.regs rs1 == reg_at c.regs rs2)) offset
act h c (Blt rs1 rs2 offset) = branches h c (less_signed (reg_at c.regs rs1) (reg_at c.regs rs2)) offset
act h c (Bge rs1 rs2 offset) = branches h c (not (less_signed (reg_at c.regs rs1) (reg_at c.regs rs2))) offset
act h c (Bltu rs1 rs2 offset) = branches h c (nat_lt (reg_at c.regs rs1) (reg_at c.regs rs2)) offset
act h c (Bgeu rs1 rs2 offset) = branches h c (not (nat_lt (reg_at c.regs rs1) (reg_at c.regs rs2))) offset
act h c (Lb rd rs1 imm) = loads h c 1 true rd (address c rs1 imm)
act h c (Lh rd rs1 imm) = loads h c 2 true rd (address c rs1 imm)
act h c (Lw rd rs1 imm) = loads h c 4 true rd (address c rs1 imm)
act h c (Ld rd rs1 imm) = loads h c 8 false rd (address c rs1 imm)
act h c (Lbu rd rs1 imm) = loads h c 1 false rd (address c rs1 imm)
act h c (Lhu rd rs1 imm) = loads h c 2 false rd (address c rs1 imm)
act h c (Lwu rd rs1 imm) = loads h c 4 false rd (address c rs1 imm)
act h c (Sb rs1 rs2 imm) = stores h c 1 (reg_at c.regs rs2) (address c rs1 imm)
act h c (Sh rs1 rs2 imm) = stores h c 2 (reg_at c.regs rs2) (address c rs1 imm)
act h c (Sw rs1 rs2 imm) = stores h c 4 (reg_at c.regs rs2) (address c rs1 imm)
act h c (Sd rs1 rs2 imm) = stores h c 8 (reg_at c.regs rs2) (address c rs1 imm)
act h c (Addi rd rs1 imm) = writes c rd (reg_at c.regs rs1 + signed_imm imm)
act h c (Slti rd rs1 imm) = writes c rd (truth (less_signed (reg_at c.regs rs1) (signed_imm imm)))
act h c (Sltiu rd rs1 imm) = writes c rd (truth (nat_lt (reg_at c.regs rs1) (signed_imm imm)))
act h c (Xori rd rs1 imm) = writes c rd (bit_xor (reg_at c.regs rs1) (signed_imm imm))
act h c (Ori rd rs1 imm) = writes c rd (bit_or (reg_at c.regs rs1) (signed_imm imm))
act h c (Andi rd rs1 imm) = writes c rd (bit_and (reg_at c.regs rs1) (signed_imm imm))
act h c (Slli rd rs1 amount) = writes c rd (reg_at c.regs rs1 * 2 ^ amount)
act h c (Srli rd rs1 amount) = writes c rd (reg_at c.regs rs1 / 2 ^ amount)
act h c (Srai rd rs1 amount) = writes c rd (shift_right_signed (reg_at c.regs rs1) amount)
act h c (Add rd rs1 rs2) = writes c rd (reg_at c.regs rs1 + reg_at c.regs rs2)
act h c (Sub rd rs1 rs2) = writes c rd (reg_at c.regs rs1 + (2 ^ 64 - reg_at c.regs rs2))
act h c (Sll rd rs1 rs2) = writes c rd (reg_at c.regs rs1 * 2 ^ (reg_at c.regs rs2 % 64))
act h c (Slt rd rs1 rs2) = writes c rd (truth (less_signed (reg_at c.regs rs1) (reg_at c.regs rs2)))
act h c (Sltu rd rs1 rs2) = writes c rd (truth (nat_lt (reg_at c.regs rs1) (reg_at c.regs rs2)))
act h c (Xor rd rs1 rs2) = writes c rd (bit_xor (reg_at c.regs rs1) (reg_at c.regs rs2))
act h c (Srl rd rs1 rs2) = writes c rd (reg_at c.regs rs1 / 2 ^ (reg_at c.regs rs2 % 64))
act h c (Sra rd rs1 rs2) = writes c rd (shift_right_signed (reg_at c.regs rs1) (reg_at c.regs rs2 % 64))
act h c (Or rd rs1 rs2) = writes c rd (bit_or (reg_at c.regs rs1) (reg_at c.regs rs2))
act h c (And rd rs1 rs2) = writes c rd (bit_and (reg_at c.regs rs1) (reg_at c.regs rs2))
act h c (Mul rd rs1 rs2) = writes c rd (reg_at c.regs rs1 * reg_at c.regs rs2)
act h c (Mulh rd rs1 rs2) = writes c rd (high_signed (reg_at c.regs rs1) (reg_at c.regs rs2))
act h c (Mulhsu rd rs1 rs2) = writes c rd (high_mixed (reg_at c.regs rs1) (reg_at c.regs rs2))
act h c (Mulhu rd rs1 rs2) = writes c rd (high_unsigned (reg_at c.regs rs1) (reg_at c.regs rs2))
act h c (Div rd rs1 rs2) = writes c rd (quotient_signed (reg_at c.regs rs1) (reg_at c.regs rs2))
act h c (Divu rd rs1 rs2) = writes c rd (quotient (reg_at c.regs rs1) (reg_at c.regs rs2))
act h c (Rem rd rs1 rs2) = writes c rd (remainder_signed (reg_at c.regs rs1) (reg_at c.regs rs2))
act h c (Remu rd rs1 rs2) = writes c rd (remainder (reg_at c.regs rs1) (reg_at c.regs rs2))
act h c (Addiw rd rs1 imm) = writes c rd (word (reg_at c.regs rs1 + signed_imm imm))
act h c (Slliw rd rs1 amount) = writes c rd (word (reg_at c.regs rs1 * 2 ^ amount))
act h c (Srliw rd rs1 amount) = writes c rd (word (low_word (reg_at c.regs rs1) / 2 ^ amount))
act h c (Sraiw rd rs1 amount) = writes c rd (word (shift_right_signed (word (reg_at c.regs rs1)) amount))
act h c (Addw rd rs1 rs2) = writes c rd (word (reg_at c.regs rs1 + reg_at c.regs rs2))
act h c (Subw rd rs1 rs2) = writes c rd (word (reg_at c.regs rs1 + (2 ^ 64 - reg_at c.regs rs2)))
act h c (Sllw rd rs1 rs2) = writes c rd (word (reg_at c.regs rs1 * 2 ^ (reg_at c.regs rs2 % 32)))
act h c (Srlw rd rs1 rs2) = writes c rd (word (low_word (reg_at c.regs rs1) / 2 ^ (reg_at c.regs rs2 % 32)))
act h c (Sraw rd rs1 rs2) = writes c rd (word (shift_right_signed (word (reg_at c.regs rs1)) (reg_at c.regs rs2 % 32)))
act h c (Mulw rd rs1 rs2) = writes c rd (word (reg_at c.regs rs1 * reg_at c.regs rs2))
act h c (Divw rd rs1 rs2) = writes c rd (word (quotient_signed (word (reg_at c.regs rs1)) (word (reg_at c.regs rs2))))
act h c (Divuw rd rs1 rs2) = writes c rd (word (quotient (low_word (reg_at c.regs rs1)) (low_word (reg_at c.regs rs2))))
act h c (Remw rd rs1 rs2) = writes c rd (word (remainder_signed (word (reg_at c.regs rs1)) (word (reg_at c.regs rs2))))
act h c (Remuw rd rs1 rs2) = writes c rd (word (remainder (low_word (reg_at c.regs rs1)) (low_word (reg_at c.regs rs2))))
act h c (Fence rd rs1 imm) = Silent (record { pc = c.pc + 4; regs = c.regs; bytes = c.bytes })
act h c Ecall = asks h c
act h c Ebreak = Traps bad_code (line_at h c.pc)

-- The instruction at an address, if there is one.
abbrev pub fetched : Machine → ℕ → Option Inst
fetched h pc = if pc % 4 == 0 then h.fetch (pc / 4) else None

abbrev pub acts : Machine → Cpu → Option Inst → Effect Cpu
acts h c None = Traps bad_code (line_at h c.pc)
acts h c (Some i) = act h c i

-- One step of the machine: the third kind of thread.
abbrev pub machine_step : Machine → Cpu → Effect Cpu
machine_step h c = acts h c (fetched h c.pc)
