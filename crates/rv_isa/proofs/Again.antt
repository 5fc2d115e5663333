use Rattle.std.proofs.Common.{◌≡◌, ℕ, ◌+◌, ◌*◌, ◌/◌, ◌%◌, ◌^◌, ◌<◌, refl, ap, ◌∙◌, arith, Some}
use Rattle.rv_isa.specs.Encoding.{fields, word_of, inst_of, IsInst, first_row, opcode_rows, branch_at, b_fields, jump_of, jump_bits, upper_at, u_fields}
use Rattle.rv_isa.specs.declared.inst.Inst.{Inst}
use Rattle.rv_isa.specs.declared.inst.Inst.TheVariants.{Lui, Auipc, Jal, Jalr, Beq, Bne, Blt, Bge, Bltu, Bgeu, Lb, Lh, Lw, Ld, Lbu, Lhu, Lwu, Sb, Sh, Sw, Sd, Addi, Slti, Sltiu, Xori, Ori, Andi, Slli, Srli, Srai, Addiw, Fence, Ecall}
use Rattle.rv_isa.proofs.Fields.{AreFields, fields_again}

-- The word of an instruction reads as that instruction.

pub in_range : (i : Inst) → IsInst i → AreFields (fields i)
in_range Ecall r = record { opcode = omega arith; rd = omega arith; funct3 = omega arith; rs1 = omega arith; rs2 = omega arith; funct7 = omega arith }
in_range i r = record { opcode = omega arith; rd = omega arith; funct3 = omega arith; rs1 = omega arith; rs2 = omega arith; funct7 = omega arith }

imm_is : (imm : ℕ) → imm % 2 ^ 5 + 2 ^ 5 * (imm / 2 ^ 5) ≡ imm
imm_is imm = omega arith

branch_is : (op funct3 rs1 rs2 offset : ℕ) → offset < 2 ^ 12 → branch_at (b_fields op funct3 rs1 rs2 offset) ≡ offset
branch_is op funct3 rs1 rs2 offset h = omega arith

upper_is : (op rd upper : ℕ) → upper_at (u_fields op rd upper) ≡ upper
upper_is op rd upper = omega arith

jump_is : (offset : ℕ) → offset < 2 ^ 20 → jump_of (jump_bits offset) ≡ offset
jump_is offset h = omega arith

top_is : (amount top : ℕ) → amount < 64 → (amount + 2 ^ 6 * top) / 2 ^ 5 / 2 ≡ top
top_is amount top h = omega arith

amount_is : (amount top : ℕ) → amount < 64 → (amount + 2 ^ 6 * top) % 2 ^ 5 + 2 ^ 5 * ((amount + 2 ^ 6 * top) / 2 ^ 5 % 2) ≡ amount
amount_is amount top h = omega arith

inst_again : (i : Inst) → IsInst i → first_row (opcode_rows (fields i)) ≡ Some i
inst_again (Lui rd imm) r = ap (λ n. Some (Lui rd n)) (upper_is 0x37 rd imm)
inst_again (Auipc rd imm) r = ap (λ n. Some (Auipc rd n)) (upper_is 0x17 rd imm)
inst_again (Jal rd offset) r = ap (λ n. Some (Jal rd n)) (ap jump_of (upper_is 0x6f rd (jump_bits offset)) ∙ jump_is offset r.1)
inst_again (Jalr rd rs1 imm) r = ap (λ n. Some (Jalr rd rs1 n)) (imm_is imm)
inst_again (Beq rs1 rs2 offset) r = ap (λ n. Some (Beq rs1 rs2 n)) (branch_is 0x63 0 rs1 rs2 offset r.2)
inst_again (Bne rs1 rs2 offset) r = ap (λ n. Some (Bne rs1 rs2 n)) (branch_is 0x63 1 rs1 rs2 offset r.2)
inst_again (Blt rs1 rs2 offset) r = ap (λ n. Some (Blt rs1 rs2 n)) (branch_is 0x63 4 rs1 rs2 offset r.2)
inst_again (Bge rs1 rs2 offset) r = ap (λ n. Some (Bge rs1 rs2 n)) (branch_is 0x63 5 rs1 rs2 offset r.2)
inst_again (Bltu rs1 rs2 offset) r = ap (λ n. Some (Bltu rs1 rs2 n)) (branch_is 0x63 6 rs1 rs2 offset r.2)
inst_again (Bgeu rs1 rs2 offset) r = ap (λ n. Some (Bgeu rs1 rs2 n)) (branch_is 0x63 7 rs1 rs2 offset r.2)
inst_again (Lb rd rs1 imm) r = ap (λ n. Some (Lb rd rs1 n)) (imm_is imm)
inst_again (Lh rd rs1 imm) r = ap (λ n. Some (Lh rd rs1 n)) (imm_is imm)
inst_again (Lw rd rs1 imm) r = ap (λ n. Some (Lw rd rs1 n)) (imm_is imm)
inst_again (Ld rd rs1 imm) r = ap (λ n. Some (Ld rd rs1 n)) (imm_is imm)
inst_again (Lbu rd rs1 imm) r = ap (λ n. Some (Lbu rd rs1 n)) (imm_is imm)
inst_again (Lhu rd rs1 imm) r = ap (λ n. Some (Lhu rd rs1 n)) (imm_is imm)
inst_again (Lwu rd rs1 imm) r = ap (λ n. Some (Lwu rd rs1 n)) (imm_is imm)
inst_again (Sb rs1 rs2 imm) r = ap (λ n. Some (Sb rs1 rs2 n)) (imm_is imm)
inst_again (Sh rs1 rs2 imm) r = ap (λ n. Some (Sh rs1 rs2 n)) (imm_is imm)
inst_again (Sw rs1 rs2 imm) r = ap (λ n. Some (Sw rs1 rs2 n)) (imm_is imm)
inst_again (Sd rs1 rs2 imm) r = ap (λ n. Some (Sd rs1 rs2 n)) (imm_is imm)
inst_again (Addi rd rs1 imm) r = ap (λ n. Some (Addi rd rs1 n)) (imm_is imm)
inst_again (Slti rd rs1 imm) r = ap (λ n. Some (Slti rd rs1 n)) (imm_is imm)
inst_again (Sltiu rd rs1 imm) r = ap (λ n. Some (Sltiu rd rs1 n)) (imm_is imm)
inst_again (Xori rd rs1 imm) r = ap (λ n. Some (Xori rd rs1 n)) (imm_is imm)
inst_again (Ori rd rs1 imm) r = ap (λ n. Some (Ori rd rs1 n)) (imm_is imm)
inst_again (Andi rd rs1 imm) r = ap (λ n. Some (Andi rd rs1 n)) (imm_is imm)
inst_again (Slli rd rs1 amount) r = rw (top_is amount 0 r.2, amount_is amount 0 r.2) refl
inst_again (Srli rd rs1 amount) r = rw (top_is amount 0 r.2, amount_is amount 0 r.2) refl
inst_again (Srai rd rs1 amount) r = rw (top_is amount 16 r.2, amount_is amount 16 r.2) refl
inst_again (Addiw rd rs1 imm) r = ap (λ n. Some (Addiw rd rs1 n)) (imm_is imm)
inst_again (Fence rd rs1 imm) r = ap (λ n. Some (Fence rd rs1 n)) (imm_is imm)
inst_again i r = refl

pub read_again : (i : Inst) → IsInst i → inst_of (word_of i) ≡ Some i
unfolding inst_of word_of
read_again i r = ap (λ f. first_row (opcode_rows f)) (fields_again (fields i) (in_range i r)) ∙ inst_again i r
