use Rattle.std.specs.Prelude.{ℕ, ◌+◌, ◌*◌, ◌/◌, ◌%◌, ◌^◌, ◌<◌, Bool, ◌&&◌, ◌==◌, if◌then◌else◌, List, [], ◌∷◌, Option, Some, None}
use Rattle.rv_isa.specs.declared.inst.Inst.{Inst}
use Rattle.rv_isa.specs.declared.inst.Inst.TheVariants.{Lui, Auipc, Jal, Jalr, Beq, Bne, Blt, Bge, Bltu, Bgeu, Lb, Lh, Lw, Ld, Lbu, Lhu, Lwu, Sb, Sh, Sw, Sd, Addi, Slti, Sltiu, Xori, Ori, Andi, Slli, Srli, Srai, Add, Sub, Sll, Slt, Sltu, Xor, Srl, Sra, Or, And, Mul, Mulh, Mulhsu, Mulhu, Div, Divu, Rem, Remu, Addiw, Slliw, Srliw, Sraiw, Addw, Subw, Sllw, Srlw, Sraw, Mulw, Divw, Divuw, Remw, Remuw, Fence, Ecall, Ebreak}

-- The fields of an instruction's word, which all formats share: bits 6..0, 11..7, 14..12, 19..15, 24..20 and 31..25.
pub record Fields : Type 0 where
  pub opcode : ℕ
  pub rd : ℕ
  pub funct3 : ℕ
  pub rs1 : ℕ
  pub rs2 : ℕ
  pub funct7 : ℕ

-- so many bits of a word, from one of them on
abbrev pub bits_of : ℕ → ℕ → ℕ → ℕ
bits_of w low count = w / 2 ^ low % 2 ^ count

abbrev pub fields_of : ℕ → Fields
fields_of w = record { opcode = bits_of w 0 7; rd = bits_of w 7 5; funct3 = bits_of w 12 3; rs1 = bits_of w 15 5; rs2 = bits_of w 20 5; funct7 = bits_of w 25 7 }

-- the word of such fields
abbrev pub word_at : Fields → ℕ
word_at f = f.opcode + 2 ^ 7 * (f.rd + 2 ^ 5 * (f.funct3 + 2 ^ 3 * (f.rs1 + 2 ^ 5 * (f.rs2 + 2 ^ 5 * f.funct7))))

-- ---- from fields to instructions

-- The immediate of the I format: bits 31..20.
abbrev pub imm_at : Fields → ℕ
imm_at f = f.rs2 + 2 ^ 5 * f.funct7

-- That of the S format: bits 31..25 and 11..7.
abbrev pub store_imm_at : Fields → ℕ
store_imm_at f = f.rd + 2 ^ 5 * f.funct7

-- That of the B format, halved: bits 31, 7, 30..25 and 11..8.
abbrev pub branch_at : Fields → ℕ
branch_at f = f.rd / 2 + 2 ^ 4 * (f.funct7 % 2 ^ 6 + 2 ^ 6 * (f.rd % 2 + 2 * (f.funct7 / 2 ^ 6)))

-- That of the U format: bits 31..12.
abbrev pub upper_at : Fields → ℕ
upper_at f = f.funct3 + 2 ^ 3 * (f.rs1 + 2 ^ 5 * (f.rs2 + 2 ^ 5 * f.funct7))

-- That of the J format, halved, out of the same bits in their order there: 31, 19..12, 20 and 30..21.
abbrev pub jump_of : ℕ → ℕ
jump_of upper = upper / 2 ^ 9 % 2 ^ 10 + 2 ^ 10 * (upper / 2 ^ 8 % 2 + 2 * (upper % 2 ^ 8 + 2 ^ 8 * (upper / 2 ^ 19)))

-- The amount of a shift: bits 25..20.
abbrev pub amount_at : Fields → ℕ
amount_at f = f.rs2 + 2 ^ 5 * (f.funct7 % 2)

-- The first row whose test holds says what there is.
abbrev pub first_row : List (Bool × Option Inst) → Option Inst
first_row [] = None
first_row (row ∷ rows) = if row.0 then row.1 else first_row rows

abbrev pub branch_rows : Fields → List (Bool × Option Inst)
branch_rows f =
    (f.funct3 == 0, Some (Beq f.rs1 f.rs2 (branch_at f)))
    ∷ (f.funct3 == 1, Some (Bne f.rs1 f.rs2 (branch_at f)))
    ∷ (f.funct3 == 4, Some (Blt f.rs1 f.rs2 (branch_at f)))
    ∷ (f.funct3 == 5, Some (Bge f.rs1 f.rs2 (branch_at f)))
    ∷ (f.funct3 == 6, Some (Bltu f.rs1 f.rs2 (branch_at f)))
    ∷ (f.funct3 == 7, Some (Bgeu f.rs1 f.rs2 (branch_at f)))
    ∷ []

abbrev pub load_rows : Fields → List (Bool × Option Inst)
load_rows f =
    (f.funct3 == 0, Some (Lb f.rd f.rs1 (imm_at f)))
    ∷ (f.funct3 == 1, Some (Lh f.rd f.rs1 (imm_at f)))
    ∷ (f.funct3 == 2, Some (Lw f.rd f.rs1 (imm_at f)))
    ∷ (f.funct3 == 3, Some (Ld f.rd f.rs1 (imm_at f)))
    ∷ (f.funct3 == 4, Some (Lbu f.rd f.rs1 (imm_at f)))
    ∷ (f.funct3 == 5, Some (Lhu f.rd f.rs1 (imm_at f)))
    ∷ (f.funct3 == 6, Some (Lwu f.rd f.rs1 (imm_at f)))
    ∷ []

abbrev pub store_rows : Fields → List (Bool × Option Inst)
store_rows f =
    (f.funct3 == 0, Some (Sb f.rs1 f.rs2 (store_imm_at f)))
    ∷ (f.funct3 == 1, Some (Sh f.rs1 f.rs2 (store_imm_at f)))
    ∷ (f.funct3 == 2, Some (Sw f.rs1 f.rs2 (store_imm_at f)))
    ∷ (f.funct3 == 3, Some (Sd f.rs1 f.rs2 (store_imm_at f)))
    ∷ []

abbrev pub op_imm_rows : Fields → List (Bool × Option Inst)
op_imm_rows f =
    (f.funct3 == 0, Some (Addi f.rd f.rs1 (imm_at f)))
    ∷ (f.funct3 == 2, Some (Slti f.rd f.rs1 (imm_at f)))
    ∷ (f.funct3 == 3, Some (Sltiu f.rd f.rs1 (imm_at f)))
    ∷ (f.funct3 == 4, Some (Xori f.rd f.rs1 (imm_at f)))
    ∷ (f.funct3 == 6, Some (Ori f.rd f.rs1 (imm_at f)))
    ∷ (f.funct3 == 7, Some (Andi f.rd f.rs1 (imm_at f)))
    ∷ ((f.funct3 == 1) && (f.funct7 / 2 == 0), Some (Slli f.rd f.rs1 (amount_at f)))
    ∷ ((f.funct3 == 5) && (f.funct7 / 2 == 0), Some (Srli f.rd f.rs1 (amount_at f)))
    ∷ ((f.funct3 == 5) && (f.funct7 / 2 == 16), Some (Srai f.rd f.rs1 (amount_at f)))
    ∷ []

abbrev pub op_rows : Fields → List (Bool × Option Inst)
op_rows f =
    ((f.funct3 == 0) && (f.funct7 == 0), Some (Add f.rd f.rs1 f.rs2))
    ∷ ((f.funct3 == 0) && (f.funct7 == 32), Some (Sub f.rd f.rs1 f.rs2))
    ∷ ((f.funct3 == 1) && (f.funct7 == 0), Some (Sll f.rd f.rs1 f.rs2))
    ∷ ((f.funct3 == 2) && (f.funct7 == 0), Some (Slt f.rd f.rs1 f.rs2))
    ∷ ((f.funct3 == 3) && (f.funct7 == 0), Some (Sltu f.rd f.rs1 f.rs2))
    ∷ ((f.funct3 == 4) && (f.funct7 == 0), Some (Xor f.rd f.rs1 f.rs2))
    ∷ ((f.funct3 == 5) && (f.funct7 == 0), Some (Srl f.rd f.rs1 f.rs2))
    ∷ ((f.funct3 == 5) && (f.funct7 == 32), Some (Sra f.rd f.rs1 f.rs2))
    ∷ ((f.funct3 == 6) && (f.funct7 == 0), Some (Or f.rd f.rs1 f.rs2))
    ∷ ((f.funct3 == 7) && (f.funct7 == 0), Some (And f.rd f.rs1 f.rs2))
    ∷ ((f.funct3 == 0) && (f.funct7 == 1), Some (Mul f.rd f.rs1 f.rs2))
    ∷ ((f.funct3 == 1) && (f.funct7 == 1), Some (Mulh f.rd f.rs1 f.rs2))
    ∷ ((f.funct3 == 2) && (f.funct7 == 1), Some (Mulhsu f.rd f.rs1 f.rs2))
    ∷ ((f.funct3 == 3) && (f.funct7 == 1), Some (Mulhu f.rd f.rs1 f.rs2))
    ∷ ((f.funct3 == 4) && (f.funct7 == 1), Some (Div f.rd f.rs1 f.rs2))
    ∷ ((f.funct3 == 5) && (f.funct7 == 1), Some (Divu f.rd f.rs1 f.rs2))
    ∷ ((f.funct3 == 6) && (f.funct7 == 1), Some (Rem f.rd f.rs1 f.rs2))
    ∷ ((f.funct3 == 7) && (f.funct7 == 1), Some (Remu f.rd f.rs1 f.rs2))
    ∷ []

abbrev pub op_imm_word_rows : Fields → List (Bool × Option Inst)
op_imm_word_rows f =
    (f.funct3 == 0, Some (Addiw f.rd f.rs1 (imm_at f)))
    ∷ ((f.funct3 == 1) && (f.funct7 == 0), Some (Slliw f.rd f.rs1 f.rs2))
    ∷ ((f.funct3 == 5) && (f.funct7 == 0), Some (Srliw f.rd f.rs1 f.rs2))
    ∷ ((f.funct3 == 5) && (f.funct7 == 32), Some (Sraiw f.rd f.rs1 f.rs2))
    ∷ []

abbrev pub op_word_rows : Fields → List (Bool × Option Inst)
op_word_rows f =
    ((f.funct3 == 0) && (f.funct7 == 0), Some (Addw f.rd f.rs1 f.rs2))
    ∷ ((f.funct3 == 0) && (f.funct7 == 32), Some (Subw f.rd f.rs1 f.rs2))
    ∷ ((f.funct3 == 1) && (f.funct7 == 0), Some (Sllw f.rd f.rs1 f.rs2))
    ∷ ((f.funct3 == 5) && (f.funct7 == 0), Some (Srlw f.rd f.rs1 f.rs2))
    ∷ ((f.funct3 == 5) && (f.funct7 == 32), Some (Sraw f.rd f.rs1 f.rs2))
    ∷ ((f.funct3 == 0) && (f.funct7 == 1), Some (Mulw f.rd f.rs1 f.rs2))
    ∷ ((f.funct3 == 4) && (f.funct7 == 1), Some (Divw f.rd f.rs1 f.rs2))
    ∷ ((f.funct3 == 5) && (f.funct7 == 1), Some (Divuw f.rd f.rs1 f.rs2))
    ∷ ((f.funct3 == 6) && (f.funct7 == 1), Some (Remw f.rd f.rs1 f.rs2))
    ∷ ((f.funct3 == 7) && (f.funct7 == 1), Some (Remuw f.rd f.rs1 f.rs2))
    ∷ []

abbrev pub jalr_rows : Fields → List (Bool × Option Inst)
jalr_rows f = (f.funct3 == 0, Some (Jalr f.rd f.rs1 (imm_at f))) ∷ []

abbrev pub fence_rows : Fields → List (Bool × Option Inst)
fence_rows f = (f.funct3 == 0, Some (Fence f.rd f.rs1 (imm_at f))) ∷ []

abbrev pub system_rows : Fields → List (Bool × Option Inst)
system_rows f = ((f.rd == 0) && (upper_at f == 0), Some Ecall) ∷ ((f.rd == 0) && (upper_at f == 2 ^ 8), Some Ebreak) ∷ []

-- the table of the opcodes
abbrev pub opcode_rows : Fields → List (Bool × Option Inst)
opcode_rows f =
    (f.opcode == 0x37, Some (Lui f.rd (upper_at f)))
    ∷ (f.opcode == 0x17, Some (Auipc f.rd (upper_at f)))
    ∷ (f.opcode == 0x6f, Some (Jal f.rd (jump_of (upper_at f))))
    ∷ (f.opcode == 0x67, first_row (jalr_rows f))
    ∷ (f.opcode == 0x63, first_row (branch_rows f))
    ∷ (f.opcode == 0x03, first_row (load_rows f))
    ∷ (f.opcode == 0x23, first_row (store_rows f))
    ∷ (f.opcode == 0x13, first_row (op_imm_rows f))
    ∷ (f.opcode == 0x33, first_row (op_rows f))
    ∷ (f.opcode == 0x1b, first_row (op_imm_word_rows f))
    ∷ (f.opcode == 0x3b, first_row (op_word_rows f))
    ∷ (f.opcode == 0x0f, first_row (fence_rows f))
    ∷ (f.opcode == 0x73, first_row (system_rows f))
    ∷ []

-- The instruction of a word, if there is one.
unfoldable pub inst_of : ℕ → Option Inst
inst_of w = first_row (opcode_rows (fields_of w))

-- ---- from instructions to fields

abbrev pub r_fields : (opcode rd funct3 rs1 rs2 funct7 : ℕ) → Fields
r_fields opcode rd funct3 rs1 rs2 funct7 = record { opcode = opcode; rd = rd; funct3 = funct3; rs1 = rs1; rs2 = rs2; funct7 = funct7 }

abbrev pub i_fields : (opcode rd funct3 rs1 imm : ℕ) → Fields
i_fields opcode rd funct3 rs1 imm = r_fields opcode rd funct3 rs1 (imm % 2 ^ 5) (imm / 2 ^ 5)

-- that of a shift by an amount, with six bits above it
abbrev pub shift_fields : (opcode rd funct3 rs1 amount top : ℕ) → Fields
shift_fields opcode rd funct3 rs1 amount top = i_fields opcode rd funct3 rs1 (amount + 2 ^ 6 * top)

abbrev pub s_fields : (opcode funct3 rs1 rs2 imm : ℕ) → Fields
s_fields opcode funct3 rs1 rs2 imm = r_fields opcode (imm % 2 ^ 5) funct3 rs1 rs2 (imm / 2 ^ 5)

abbrev pub b_fields : (opcode funct3 rs1 rs2 offset : ℕ) → Fields
b_fields opcode funct3 rs1 rs2 offset = r_fields opcode (offset / 2 ^ 10 % 2 + 2 * (offset % 2 ^ 4)) funct3 rs1 rs2 (offset / 2 ^ 4 % 2 ^ 6 + 2 ^ 6 * (offset / 2 ^ 11))

abbrev pub u_fields : (opcode rd upper : ℕ) → Fields
u_fields opcode rd upper = r_fields opcode rd (upper % 2 ^ 3) (upper / 2 ^ 3 % 2 ^ 5) (upper / 2 ^ 8 % 2 ^ 5) (upper / 2 ^ 13)

-- the upper bits of an offset in the J format
abbrev pub jump_bits : ℕ → ℕ
jump_bits offset = offset / 2 ^ 11 % 2 ^ 8 + 2 ^ 8 * (offset / 2 ^ 10 % 2 + 2 * (offset % 2 ^ 10 + 2 ^ 10 * (offset / 2 ^ 19)))

abbrev pub fields : Inst → Fields
fields (Lui rd imm) = u_fields 0x37 rd imm
fields (Auipc rd imm) = u_fields 0x17 rd imm
fields (Jal rd offset) = u_fields 0x6f rd (jump_bits offset)
fields (Jalr rd rs1 imm) = i_fields 0x67 rd 0 rs1 imm
fields (Beq rs1 rs2 offset) = b_fields 0x63 0 rs1 rs2 offset
fields (Bne rs1 rs2 offset) = b_fields 0x63 1 rs1 rs2 offset
fields (Blt rs1 rs2 offset) = b_fields 0x63 4 rs1 rs2 offset
fields (Bge rs1 rs2 offset) = b_fields 0x63 5 rs1 rs2 offset
fields (Bltu rs1 rs2 offset) = b_fields 0x63 6 rs1 rs2 offset
fields (Bgeu rs1 rs2 offset) = b_fields 0x63 7 rs1 rs2 offset
fields (Lb rd rs1 imm) = i_fields 0x03 rd 0 rs1 imm
fields (Lh rd rs1 imm) = i_fields 0x03 rd 1 rs1 imm
fields (Lw rd rs1 imm) = i_fields 0x03 rd 2 rs1 imm
fields (Ld rd rs1 imm) = i_fields 0x03 rd 3 rs1 imm
fields (Lbu rd rs1 imm) = i_fields 0x03 rd 4 rs1 imm
fields (Lhu rd rs1 imm) = i_fields 0x03 rd 5 rs1 imm
fields (Lwu rd rs1 imm) = i_fields 0x03 rd 6 rs1 imm
fields (Sb rs1 rs2 imm) = s_fields 0x23 0 rs1 rs2 imm
fields (Sh rs1 rs2 imm) = s_fields 0x23 1 rs1 rs2 imm
fields (Sw rs1 rs2 imm) = s_fields 0x23 2 rs1 rs2 imm
fields (Sd rs1 rs2 imm) = s_fields 0x23 3 rs1 rs2 imm
fields (Addi rd rs1 imm) = i_fields 0x13 rd 0 rs1 imm
fields (Slti rd rs1 imm) = i_fields 0x13 rd 2 rs1 imm
fields (Sltiu rd rs1 imm) = i_fields 0x13 rd 3 rs1 imm
fields (Xori rd rs1 imm) = i_fields 0x13 rd 4 rs1 imm
fields (Ori rd rs1 imm) = i_fields 0x13 rd 6 rs1 imm
fields (Andi rd rs1 imm) = i_fields 0x13 rd 7 rs1 imm
fields (Slli rd rs1 amount) = shift_fields 0x13 rd 1 rs1 amount 0
fields (Srli rd rs1 amount) = shift_fields 0x13 rd 5 rs1 amount 0
fields (Srai rd rs1 amount) = shift_fields 0x13 rd 5 rs1 amount 16
fields (Add rd rs1 rs2) = r_fields 0x33 rd 0 rs1 rs2 0
fields (Sub rd rs1 rs2) = r_fields 0x33 rd 0 rs1 rs2 32
fields (Sll rd rs1 rs2) = r_fields 0x33 rd 1 rs1 rs2 0
fields (Slt rd rs1 rs2) = r_fields 0x33 rd 2 rs1 rs2 0
fields (Sltu rd rs1 rs2) = r_fields 0x33 rd 3 rs1 rs2 0
fields (Xor rd rs1 rs2) = r_fields 0x33 rd 4 rs1 rs2 0
fields (Srl rd rs1 rs2) = r_fields 0x33 rd 5 rs1 rs2 0
fields (Sra rd rs1 rs2) = r_fields 0x33 rd 5 rs1 rs2 32
fields (Or rd rs1 rs2) = r_fields 0x33 rd 6 rs1 rs2 0
fields (And rd rs1 rs2) = r_fields 0x33 rd 7 rs1 rs2 0
fields (Mul rd rs1 rs2) = r_fields 0x33 rd 0 rs1 rs2 1
fields (Mulh rd rs1 rs2) = r_fields 0x33 rd 1 rs1 rs2 1
fields (Mulhsu rd rs1 rs2) = r_fields 0x33 rd 2 rs1 rs2 1
fields (Mulhu rd rs1 rs2) = r_fields 0x33 rd 3 rs1 rs2 1
fields (Div rd rs1 rs2) = r_fields 0x33 rd 4 rs1 rs2 1
fields (Divu rd rs1 rs2) = r_fields 0x33 rd 5 rs1 rs2 1
fields (Rem rd rs1 rs2) = r_fields 0x33 rd 6 rs1 rs2 1
fields (Remu rd rs1 rs2) = r_fields 0x33 rd 7 rs1 rs2 1
fields (Addiw rd rs1 imm) = i_fields 0x1b rd 0 rs1 imm
fields (Slliw rd rs1 amount) = r_fields 0x1b rd 1 rs1 amount 0
fields (Srliw rd rs1 amount) = r_fields 0x1b rd 5 rs1 amount 0
fields (Sraiw rd rs1 amount) = r_fields 0x1b rd 5 rs1 amount 32
fields (Addw rd rs1 rs2) = r_fields 0x3b rd 0 rs1 rs2 0
fields (Subw rd rs1 rs2) = r_fields 0x3b rd 0 rs1 rs2 32
fields (Sllw rd rs1 rs2) = r_fields 0x3b rd 1 rs1 rs2 0
fields (Srlw rd rs1 rs2) = r_fields 0x3b rd 5 rs1 rs2 0
fields (Sraw rd rs1 rs2) = r_fields 0x3b rd 5 rs1 rs2 32
fields (Mulw rd rs1 rs2) = r_fields 0x3b rd 0 rs1 rs2 1
fields (Divw rd rs1 rs2) = r_fields 0x3b rd 4 rs1 rs2 1
fields (Divuw rd rs1 rs2) = r_fields 0x3b rd 5 rs1 rs2 1
fields (Remw rd rs1 rs2) = r_fields 0x3b rd 6 rs1 rs2 1
fields (Remuw rd rs1 rs2) = r_fields 0x3b rd 7 rs1 rs2 1
fields (Fence rd rs1 imm) = i_fields 0x0f rd 0 rs1 imm
fields Ecall = u_fields 0x73 0 0
fields Ebreak = u_fields 0x73 0 (2 ^ 8)

-- The word of an instruction.
unfoldable pub word_of : Inst → ℕ
word_of i = word_at (fields i)

-- ---- ranges

-- The registers of an instruction are below 32, and its immediate is within its bits.
abbrev pub IsInst : Inst → Type 0
IsInst (Lui rd imm) = (rd < 32) × (imm < 2 ^ 20)
IsInst (Auipc rd imm) = (rd < 32) × (imm < 2 ^ 20)
IsInst (Jal rd offset) = (rd < 32) × (offset < 2 ^ 20)
IsInst (Jalr rd rs1 imm) = (rd < 32) × (rs1 < 32) × (imm < 2 ^ 12)
IsInst (Beq rs1 rs2 offset) = (rs1 < 32) × (rs2 < 32) × (offset < 2 ^ 12)
IsInst (Bne rs1 rs2 offset) = (rs1 < 32) × (rs2 < 32) × (offset < 2 ^ 12)
IsInst (Blt rs1 rs2 offset) = (rs1 < 32) × (rs2 < 32) × (offset < 2 ^ 12)
IsInst (Bge rs1 rs2 offset) = (rs1 < 32) × (rs2 < 32) × (offset < 2 ^ 12)
IsInst (Bltu rs1 rs2 offset) = (rs1 < 32) × (rs2 < 32) × (offset < 2 ^ 12)
IsInst (Bgeu rs1 rs2 offset) = (rs1 < 32) × (rs2 < 32) × (offset < 2 ^ 12)
IsInst (Lb rd rs1 imm) = (rd < 32) × (rs1 < 32) × (imm < 2 ^ 12)
IsInst (Lh rd rs1 imm) = (rd < 32) × (rs1 < 32) × (imm < 2 ^ 12)
IsInst (Lw rd rs1 imm) = (rd < 32) × (rs1 < 32) × (imm < 2 ^ 12)
IsInst (Ld rd rs1 imm) = (rd < 32) × (rs1 < 32) × (imm < 2 ^ 12)
IsInst (Lbu rd rs1 imm) = (rd < 32) × (rs1 < 32) × (imm < 2 ^ 12)
IsInst (Lhu rd rs1 imm) = (rd < 32) × (rs1 < 32) × (imm < 2 ^ 12)
IsInst (Lwu rd rs1 imm) = (rd < 32) × (rs1 < 32) × (imm < 2 ^ 12)
IsInst (Sb rs1 rs2 imm) = (rs1 < 32) × (rs2 < 32) × (imm < 2 ^ 12)
IsInst (Sh rs1 rs2 imm) = (rs1 < 32) × (rs2 < 32) × (imm < 2 ^ 12)
IsInst (Sw rs1 rs2 imm) = (rs1 < 32) × (rs2 < 32) × (imm < 2 ^ 12)
IsInst (Sd rs1 rs2 imm) = (rs1 < 32) × (rs2 < 32) × (imm < 2 ^ 12)
IsInst (Addi rd rs1 imm) = (rd < 32) × (rs1 < 32) × (imm < 2 ^ 12)
IsInst (Slti rd rs1 imm) = (rd < 32) × (rs1 < 32) × (imm < 2 ^ 12)
IsInst (Sltiu rd rs1 imm) = (rd < 32) × (rs1 < 32) × (imm < 2 ^ 12)
IsInst (Xori rd rs1 imm) = (rd < 32) × (rs1 < 32) × (imm < 2 ^ 12)
IsInst (Ori rd rs1 imm) = (rd < 32) × (rs1 < 32) × (imm < 2 ^ 12)
IsInst (Andi rd rs1 imm) = (rd < 32) × (rs1 < 32) × (imm < 2 ^ 12)
IsInst (Slli rd rs1 amount) = (rd < 32) × (rs1 < 32) × (amount < 64)
IsInst (Srli rd rs1 amount) = (rd < 32) × (rs1 < 32) × (amount < 64)
IsInst (Srai rd rs1 amount) = (rd < 32) × (rs1 < 32) × (amount < 64)
IsInst (Add rd rs1 rs2) = (rd < 32) × (rs1 < 32) × (rs2 < 32)
IsInst (Sub rd rs1 rs2) = (rd < 32) × (rs1 < 32) × (rs2 < 32)
IsInst (Sll rd rs1 rs2) = (rd < 32) × (rs1 < 32) × (rs2 < 32)
IsInst (Slt rd rs1 rs2) = (rd < 32) × (rs1 < 32) × (rs2 < 32)
IsInst (Sltu rd rs1 rs2) = (rd < 32) × (rs1 < 32) × (rs2 < 32)
IsInst (Xor rd rs1 rs2) = (rd < 32) × (rs1 < 32) × (rs2 < 32)
IsInst (Srl rd rs1 rs2) = (rd < 32) × (rs1 < 32) × (rs2 < 32)
IsInst (Sra rd rs1 rs2) = (rd < 32) × (rs1 < 32) × (rs2 < 32)
IsInst (Or rd rs1 rs2) = (rd < 32) × (rs1 < 32) × (rs2 < 32)
IsInst (And rd rs1 rs2) = (rd < 32) × (rs1 < 32) × (rs2 < 32)
IsInst (Mul rd rs1 rs2) = (rd < 32) × (rs1 < 32) × (rs2 < 32)
IsInst (Mulh rd rs1 rs2) = (rd < 32) × (rs1 < 32) × (rs2 < 32)
IsInst (Mulhsu rd rs1 rs2) = (rd < 32) × (rs1 < 32) × (rs2 < 32)
IsInst (Mulhu rd rs1 rs2) = (rd < 32) × (rs1 < 32) × (rs2 < 32)
IsInst (Div rd rs1 rs2) = (rd < 32) × (rs1 < 32) × (rs2 < 32)
IsInst (Divu rd rs1 rs2) = (rd < 32) × (rs1 < 32) × (rs2 < 32)
IsInst (Rem rd rs1 rs2) = (rd < 32) × (rs1 < 32) × (rs2 < 32)
IsInst (Remu rd rs1 rs2) = (rd < 32) × (rs1 < 32) × (rs2 < 32)
IsInst (Addiw rd rs1 imm) = (rd < 32) × (rs1 < 32) × (imm < 2 ^ 12)
IsInst (Slliw rd rs1 amount) = (rd < 32) × (rs1 < 32) × (amount < 32)
IsInst (Srliw rd rs1 amount) = (rd < 32) × (rs1 < 32) × (amount < 32)
IsInst (Sraiw rd rs1 amount) = (rd < 32) × (rs1 < 32) × (amount < 32)
IsInst (Addw rd rs1 rs2) = (rd < 32) × (rs1 < 32) × (rs2 < 32)
IsInst (Subw rd rs1 rs2) = (rd < 32) × (rs1 < 32) × (rs2 < 32)
IsInst (Sllw rd rs1 rs2) = (rd < 32) × (rs1 < 32) × (rs2 < 32)
IsInst (Srlw rd rs1 rs2) = (rd < 32) × (rs1 < 32) × (rs2 < 32)
IsInst (Sraw rd rs1 rs2) = (rd < 32) × (rs1 < 32) × (rs2 < 32)
IsInst (Mulw rd rs1 rs2) = (rd < 32) × (rs1 < 32) × (rs2 < 32)
IsInst (Divw rd rs1 rs2) = (rd < 32) × (rs1 < 32) × (rs2 < 32)
IsInst (Divuw rd rs1 rs2) = (rd < 32) × (rs1 < 32) × (rs2 < 32)
IsInst (Remw rd rs1 rs2) = (rd < 32) × (rs1 < 32) × (rs2 < 32)
IsInst (Remuw rd rs1 rs2) = (rd < 32) × (rs1 < 32) × (rs2 < 32)
IsInst (Fence rd rs1 imm) = (rd < 32) × (rs1 < 32) × (imm < 2 ^ 12)
IsInst Ecall = Unit {0}
IsInst Ebreak = Unit {0}
