use Rattle.std.proofs.Common.{◌≡◌, ℕ, ◌/◌, ◌^◌, ◌<◌, refl, ap, sym, subst, ◌∙◌, arith, Bool, true, false, ◌&&◌, ◌==◌, List, [], ◌∷◌, Option, Some, None, IfSome, IfNone}
use Rattle.std.proofs.lemmas.Bool.{eqb-true}
use Rattle.rv_isa.specs.Encoding.{Fields, fields, fields_of, word_at, word_of, inst_of, IsInst, first_row, opcode_rows, branch_rows, load_rows, store_rows, op_imm_rows, op_rows, op_imm_word_rows, op_word_rows, jalr_rows, fence_rows, system_rows, imm_at, store_imm_at, branch_at, upper_at, jump_of, jump_bits, amount_at, r_fields, i_fields, shift_fields, s_fields, b_fields, u_fields}
use Rattle.rv_isa.specs.declared.inst.Inst.{Inst}
use Rattle.rv_isa.specs.declared.inst.Inst.TheVariants.{Lui, Auipc, Jal, Jalr, Beq, Bne, Blt, Bge, Bltu, Bgeu, Lb, Lh, Lw, Ld, Lbu, Lhu, Lwu, Sb, Sh, Sw, Sd, Addi, Slti, Sltiu, Xori, Ori, Andi, Slli, Srli, Srai, Add, Sub, Sll, Slt, Sltu, Xor, Srl, Sra, Or, And, Mul, Mulh, Mulhsu, Mulhu, Div, Divu, Rem, Remu, Addiw, Slliw, Srliw, Sraiw, Addw, Subw, Sllw, Srlw, Sraw, Mulw, Divw, Divuw, Remw, Remuw, Fence, Ecall, Ebreak}
use Rattle.rv_isa.proofs.Again.{read_again}
use Rattle.rv_isa.proofs.Fields.{AreFields, same_fields, are_fields, word_again}

-- A word that reads as an instruction is that instruction's word.

pub record Spells (f : Fields) (i : Inst) : Type 0 where
  pub same : fields i ≡ f
  pub ranges : IsInst i

-- what a row promises, and each row of a list
abbrev GoodRow : Fields → Bool × Option Inst → Type 0
GoodRow f row = row.0 ≡ true → (i : Inst) → row.1 ≡ Some i → Spells f i

abbrev GoodRows : Fields → List (Bool × Option Inst) → Type 0
GoodRows f [] = Unit {0}
GoodRows f (row ∷ rows) = GoodRow f row × GoodRows f rows

first_good : (f : Fields) (rows : List (Bool × Option Inst)) → GoodRows f rows → (i : Inst) → first_row rows ≡ Some i → Spells f i
first_good f [] g i e = absurd cc
first_good f ((true, o) ∷ rows) g i e = g.0 refl i e
first_good f ((false, o) ∷ rows) g i e = first_good f rows g.1 i e

both_true : (x y : Bool) → (x && y) ≡ true → (x ≡ true) × (y ≡ true)
both_true true y e = (refl, e)
both_true false y e = absurd cc

-- a row with one instruction in it
one : (f : Fields) (j : Inst) → fields j ≡ f → IsInst j → (i : Inst) → Some j ≡ Some i → Spells f i
one f j s r i e = let k : j ≡ i = cc in subst (λ i. Spells f i) k (record { same = s; ranges = r })

module _ (f : Fields) (g : AreFields f) (op : ℕ) (is : f.opcode ≡ op) where
  r_good : (n m : ℕ) (make : ℕ → ℕ → ℕ → Inst) → ((a b c : ℕ) → fields (make a b c) ≡ r_fields op a n b c m) → ((a b c : ℕ) → a < 32 → b < 32 → c < 32 → IsInst (make a b c)) → GoodRow f ((f.funct3 == n) && (f.funct7 == m), Some (make f.rd f.rs1 f.rs2))
  r_good n m make e r t =
      let both = both_true (f.funct3 == n) (f.funct7 == m) t in
      one f (make f.rd f.rs1 f.rs2) (e f.rd f.rs1 f.rs2 ∙ same_fields (r_fields op f.rd n f.rs1 f.rs2 m) f (sym is) refl (sym (eqb-true _ _ both.0)) refl refl (sym (eqb-true _ _ both.1))) (r f.rd f.rs1 f.rs2 g.rd g.rs1 g.rs2)

  i_good : (n : ℕ) (make : ℕ → ℕ → ℕ → Inst) → ((a b c : ℕ) → fields (make a b c) ≡ i_fields op a n b c) → ((a b c : ℕ) → a < 32 → b < 32 → c < 2 ^ 12 → IsInst (make a b c)) → GoodRow f (f.funct3 == n, Some (make f.rd f.rs1 (imm_at f)))
  i_good n make e r t =
      one f (make f.rd f.rs1 (imm_at f)) (e f.rd f.rs1 (imm_at f) ∙ same_fields (i_fields op f.rd n f.rs1 (imm_at f)) f (sym is) refl (sym (eqb-true _ _ t)) refl (omega arith) (omega arith)) (r f.rd f.rs1 (imm_at f) g.rd g.rs1 (omega arith))

  s_good : (n : ℕ) (make : ℕ → ℕ → ℕ → Inst) → ((a b c : ℕ) → fields (make a b c) ≡ s_fields op n a b c) → ((a b c : ℕ) → a < 32 → b < 32 → c < 2 ^ 12 → IsInst (make a b c)) → GoodRow f (f.funct3 == n, Some (make f.rs1 f.rs2 (store_imm_at f)))
  s_good n make e r t =
      one f (make f.rs1 f.rs2 (store_imm_at f)) (e f.rs1 f.rs2 (store_imm_at f) ∙ same_fields (s_fields op n f.rs1 f.rs2 (store_imm_at f)) f (sym is) (omega arith) (sym (eqb-true _ _ t)) refl refl (omega arith)) (r f.rs1 f.rs2 (store_imm_at f) g.rs1 g.rs2 (omega arith))

  b_good : (n : ℕ) (make : ℕ → ℕ → ℕ → Inst) → ((a b c : ℕ) → fields (make a b c) ≡ b_fields op n a b c) → ((a b c : ℕ) → a < 32 → b < 32 → c < 2 ^ 12 → IsInst (make a b c)) → GoodRow f (f.funct3 == n, Some (make f.rs1 f.rs2 (branch_at f)))
  b_good n make e r t =
      one f (make f.rs1 f.rs2 (branch_at f)) (e f.rs1 f.rs2 (branch_at f) ∙ same_fields (b_fields op n f.rs1 f.rs2 (branch_at f)) f (sym is) (omega arith) (sym (eqb-true _ _ t)) refl refl (omega arith)) (r f.rs1 f.rs2 (branch_at f) g.rs1 g.rs2 (omega arith))

  shift_good : (n m : ℕ) (make : ℕ → ℕ → ℕ → Inst) → ((a b c : ℕ) → fields (make a b c) ≡ shift_fields op a n b c m) → ((a b c : ℕ) → a < 32 → b < 32 → c < 64 → IsInst (make a b c)) → GoodRow f ((f.funct3 == n) && (f.funct7 / 2 == m), Some (make f.rd f.rs1 (amount_at f)))
  shift_good n m make e r t =
      let both = both_true (f.funct3 == n) (f.funct7 / 2 == m) t in
      let top : f.funct7 / 2 ≡ m = eqb-true _ _ both.1 in
      one f (make f.rd f.rs1 (amount_at f)) (e f.rd f.rs1 (amount_at f) ∙ same_fields (shift_fields op f.rd n f.rs1 (amount_at f) m) f (sym is) refl (sym (eqb-true _ _ both.0)) refl (omega arith) (omega arith)) (r f.rd f.rs1 (amount_at f) g.rd g.rs1 (omega arith))

  upper_good : (make : ℕ → ℕ → Inst) → ((a b : ℕ) → fields (make a b) ≡ u_fields op a b) → ((a b : ℕ) → a < 32 → b < 2 ^ 20 → IsInst (make a b)) → (i : Inst) → Some (make f.rd (upper_at f)) ≡ Some i → Spells f i
  upper_good make e r =
      one f (make f.rd (upper_at f)) (e f.rd (upper_at f) ∙ same_fields (u_fields op f.rd (upper_at f)) f (sym is) refl (omega arith) (omega arith) (omega arith) (omega arith)) (r f.rd (upper_at f) g.rd (omega arith))

branch_good : (f : Fields) → AreFields f → f.opcode ≡ 0x63 → GoodRows f (branch_rows f)
branch_good f g is = (
  b_good f g 0x63 is 0 Beq (λ a b c. refl) (λ a b c p q r. (p, q, r)),
  (
    b_good f g 0x63 is 1 Bne (λ a b c. refl) (λ a b c p q r. (p, q, r)),
    (
      b_good f g 0x63 is 4 Blt (λ a b c. refl) (λ a b c p q r. (p, q, r)),
      (
        b_good f g 0x63 is 5 Bge (λ a b c. refl) (λ a b c p q r. (p, q, r)),
        (
          b_good f g 0x63 is 6 Bltu (λ a b c. refl) (λ a b c p q r. (p, q, r)),
          (
            b_good f g 0x63 is 7 Bgeu (λ a b c. refl) (λ a b c p q r. (p, q, r)),
            tt,
          ),
        ),
      ),
    ),
  ),
)

load_good : (f : Fields) → AreFields f → f.opcode ≡ 0x03 → GoodRows f (load_rows f)
load_good f g is = (
  i_good f g 0x03 is 0 Lb (λ a b c. refl) (λ a b c p q r. (p, q, r)),
  (
    i_good f g 0x03 is 1 Lh (λ a b c. refl) (λ a b c p q r. (p, q, r)),
    (
      i_good f g 0x03 is 2 Lw (λ a b c. refl) (λ a b c p q r. (p, q, r)),
      (
        i_good f g 0x03 is 3 Ld (λ a b c. refl) (λ a b c p q r. (p, q, r)),
        (
          i_good f g 0x03 is 4 Lbu (λ a b c. refl) (λ a b c p q r. (p, q, r)),
          (
            i_good f g 0x03 is 5 Lhu (λ a b c. refl) (λ a b c p q r. (p, q, r)),
            (
              i_good f g 0x03 is 6 Lwu (λ a b c. refl) (λ a b c p q r. (p, q, r)),
              tt,
            ),
          ),
        ),
      ),
    ),
  ),
)

store_good : (f : Fields) → AreFields f → f.opcode ≡ 0x23 → GoodRows f (store_rows f)
store_good f g is = (
  s_good f g 0x23 is 0 Sb (λ a b c. refl) (λ a b c p q r. (p, q, r)),
  (
    s_good f g 0x23 is 1 Sh (λ a b c. refl) (λ a b c p q r. (p, q, r)),
    (
      s_good f g 0x23 is 2 Sw (λ a b c. refl) (λ a b c p q r. (p, q, r)),
      (
        s_good f g 0x23 is 3 Sd (λ a b c. refl) (λ a b c p q r. (p, q, r)),
        tt,
      ),
    ),
  ),
)

op_imm_good : (f : Fields) → AreFields f → f.opcode ≡ 0x13 → GoodRows f (op_imm_rows f)
op_imm_good f g is = (
  i_good f g 0x13 is 0 Addi (λ a b c. refl) (λ a b c p q r. (p, q, r)),
  (
    i_good f g 0x13 is 2 Slti (λ a b c. refl) (λ a b c p q r. (p, q, r)),
    (
      i_good f g 0x13 is 3 Sltiu (λ a b c. refl) (λ a b c p q r. (p, q, r)),
      (
        i_good f g 0x13 is 4 Xori (λ a b c. refl) (λ a b c p q r. (p, q, r)),
        (
          i_good f g 0x13 is 6 Ori (λ a b c. refl) (λ a b c p q r. (p, q, r)),
          (
            i_good f g 0x13 is 7 Andi (λ a b c. refl) (λ a b c p q r. (p, q, r)),
            (
              shift_good f g 0x13 is 1 0 Slli (λ a b c. refl) (λ a b c p q r. (p, q, r)),
              (
                shift_good f g 0x13 is 5 0 Srli (λ a b c. refl) (λ a b c p q r. (p, q, r)),
                (
                  shift_good f g 0x13 is 5 16 Srai (λ a b c. refl) (λ a b c p q r. (p, q, r)),
                  tt,
                ),
              ),
            ),
          ),
        ),
      ),
    ),
  ),
)

op_good : (f : Fields) → AreFields f → f.opcode ≡ 0x33 → GoodRows f (op_rows f)
op_good f g is = (
  r_good f g 0x33 is 0 0 Add (λ a b c. refl) (λ a b c p q r. (p, q, r)),
  (
    r_good f g 0x33 is 0 32 Sub (λ a b c. refl) (λ a b c p q r. (p, q, r)),
    (
      r_good f g 0x33 is 1 0 Sll (λ a b c. refl) (λ a b c p q r. (p, q, r)),
      (
        r_good f g 0x33 is 2 0 Slt (λ a b c. refl) (λ a b c p q r. (p, q, r)),
        (
          r_good f g 0x33 is 3 0 Sltu (λ a b c. refl) (λ a b c p q r. (p, q, r)),
          (
            r_good f g 0x33 is 4 0 Xor (λ a b c. refl) (λ a b c p q r. (p, q, r)),
            (
              r_good f g 0x33 is 5 0 Srl (λ a b c. refl) (λ a b c p q r. (p, q, r)),
              (
                r_good f g 0x33 is 5 32 Sra (λ a b c. refl) (λ a b c p q r. (p, q, r)),
                (
                  r_good f g 0x33 is 6 0 Or (λ a b c. refl) (λ a b c p q r. (p, q, r)),
                  (
                    r_good f g 0x33 is 7 0 And (λ a b c. refl) (λ a b c p q r. (p, q, r)),
                    (
                      r_good f g 0x33 is 0 1 Mul (λ a b c. refl) (λ a b c p q r. (p, q, r)),
                      (
                        r_good f g 0x33 is 1 1 Mulh (λ a b c. refl) (λ a b c p q r. (p, q, r)),
                        (
                          r_good f g 0x33 is 2 1 Mulhsu (λ a b c. refl) (λ a b c p q r. (p, q, r)),
                          (
                            r_good f g 0x33 is 3 1 Mulhu (λ a b c. refl) (λ a b c p q r. (p, q, r)),
                            (
                              r_good f g 0x33 is 4 1 Div (λ a b c. refl) (λ a b c p q r. (p, q, r)),
                              (
                                r_good f g 0x33 is 5 1 Divu (λ a b c. refl) (λ a b c p q r. (p, q, r)),
                                (
                                  r_good f g 0x33 is 6 1 Rem (λ a b c. refl) (λ a b c p q r. (p, q, r)),
                                  (
                                    r_good f g 0x33 is 7 1 Remu (λ a b c. refl) (λ a b c p q r. (p, q, r)),
                                    tt,
                                  ),
                                ),
                              ),
                            ),
                          ),
                        ),
                      ),
                    ),
                  ),
                ),
              ),
            ),
          ),
        ),
      ),
    ),
  ),
)

op_imm_word_good : (f : Fields) → AreFields f → f.opcode ≡ 0x1b → GoodRows f (op_imm_word_rows f)
op_imm_word_good f g is = (
  i_good f g 0x1b is 0 Addiw (λ a b c. refl) (λ a b c p q r. (p, q, r)),
  (
    r_good f g 0x1b is 1 0 Slliw (λ a b c. refl) (λ a b c p q r. (p, q, r)),
    (
      r_good f g 0x1b is 5 0 Srliw (λ a b c. refl) (λ a b c p q r. (p, q, r)),
      (
        r_good f g 0x1b is 5 32 Sraiw (λ a b c. refl) (λ a b c p q r. (p, q, r)),
        tt,
      ),
    ),
  ),
)

op_word_good : (f : Fields) → AreFields f → f.opcode ≡ 0x3b → GoodRows f (op_word_rows f)
op_word_good f g is = (
  r_good f g 0x3b is 0 0 Addw (λ a b c. refl) (λ a b c p q r. (p, q, r)),
  (
    r_good f g 0x3b is 0 32 Subw (λ a b c. refl) (λ a b c p q r. (p, q, r)),
    (
      r_good f g 0x3b is 1 0 Sllw (λ a b c. refl) (λ a b c p q r. (p, q, r)),
      (
        r_good f g 0x3b is 5 0 Srlw (λ a b c. refl) (λ a b c p q r. (p, q, r)),
        (
          r_good f g 0x3b is 5 32 Sraw (λ a b c. refl) (λ a b c p q r. (p, q, r)),
          (
            r_good f g 0x3b is 0 1 Mulw (λ a b c. refl) (λ a b c p q r. (p, q, r)),
            (
              r_good f g 0x3b is 4 1 Divw (λ a b c. refl) (λ a b c p q r. (p, q, r)),
              (
                r_good f g 0x3b is 5 1 Divuw (λ a b c. refl) (λ a b c p q r. (p, q, r)),
                (
                  r_good f g 0x3b is 6 1 Remw (λ a b c. refl) (λ a b c p q r. (p, q, r)),
                  (
                    r_good f g 0x3b is 7 1 Remuw (λ a b c. refl) (λ a b c p q r. (p, q, r)),
                    tt,
                  ),
                ),
              ),
            ),
          ),
        ),
      ),
    ),
  ),
)

jalr_good : (f : Fields) → AreFields f → f.opcode ≡ 0x67 → GoodRows f (jalr_rows f)
jalr_good f g is = (i_good f g 0x67 is 0 Jalr (λ a b c. refl) (λ a b c p q r. (p, q, r)), tt)

fence_good : (f : Fields) → AreFields f → f.opcode ≡ 0x0f → GoodRows f (fence_rows f)
fence_good f g is = (i_good f g 0x0f is 0 Fence (λ a b c. refl) (λ a b c p q r. (p, q, r)), tt)

system_good : (f : Fields) → AreFields f → f.opcode ≡ 0x73 → GoodRows f (system_rows f)
system_good f g is = (
  (λ t. let both = both_true (f.rd == 0) (upper_at f == 0) t in
      let d : f.rd ≡ 0 = eqb-true _ _ both.0 in
      let u : upper_at f ≡ 0 = eqb-true _ _ both.1 in
      one f Ecall (same_fields (fields Ecall) f (sym is) (sym d) (omega arith) (omega arith) (omega arith) (omega arith)) tt),
  (
    (λ t. let both = both_true (f.rd == 0) (upper_at f == 2 ^ 8) t in
        let d : f.rd ≡ 0 = eqb-true _ _ both.0 in
        let u : upper_at f ≡ 2 ^ 8 = eqb-true _ _ both.1 in
        one f Ebreak (same_fields (fields Ebreak) f (sym is) (sym d) (omega arith) (omega arith) (omega arith) (omega arith)) tt),
    tt,
  ),
)

jump_bits_of : (u : ℕ) → u < 2 ^ 20 → jump_bits (jump_of u) ≡ u
jump_bits_of u h = omega arith

jump_below : (u : ℕ) → u < 2 ^ 20 → jump_of u < 2 ^ 20
jump_below u h = omega arith

jump_good : (f : Fields) → AreFields f → f.opcode ≡ 0x6f → (i : Inst) → Some (Jal f.rd (jump_of (upper_at f))) ≡ Some i → Spells f i
jump_good f g is =
    let u : upper_at f < 2 ^ 20 = omega arith in
    let e : jump_bits (jump_of (upper_at f)) ≡ upper_at f = jump_bits_of (upper_at f) u in
    one f (Jal f.rd (jump_of (upper_at f))) (ap (λ n. u_fields 0x6f f.rd n) e ∙ same_fields (u_fields 0x6f f.rd (upper_at f)) f (sym is) refl (omega arith) (omega arith) (omega arith) (omega arith)) (g.rd, jump_below (upper_at f) u)

opcode_good : (f : Fields) → AreFields f → GoodRows f (opcode_rows f)
opcode_good f g = (
  (λ t. upper_good f g 0x37 (eqb-true _ _ t) Lui (λ a b. refl) (λ a b p q. (p, q))),
  (
    (λ t. upper_good f g 0x17 (eqb-true _ _ t) Auipc (λ a b. refl) (λ a b p q. (p, q))),
    (
      (λ t. jump_good f g (eqb-true _ _ t)),
      (
        (λ t. first_good f (jalr_rows f) (jalr_good f g (eqb-true _ _ t))),
        (
          (λ t. first_good f (branch_rows f) (branch_good f g (eqb-true _ _ t))),
          (
            (λ t. first_good f (load_rows f) (load_good f g (eqb-true _ _ t))),
            (
              (λ t. first_good f (store_rows f) (store_good f g (eqb-true _ _ t))),
              (
                (λ t. first_good f (op_imm_rows f) (op_imm_good f g (eqb-true _ _ t))),
                (
                  (λ t. first_good f (op_rows f) (op_good f g (eqb-true _ _ t))),
                  (
                    (λ t. first_good f (op_imm_word_rows f) (op_imm_word_good f g (eqb-true _ _ t))),
                    (
                      (λ t. first_good f (op_word_rows f) (op_word_good f g (eqb-true _ _ t))),
                      (
                        (λ t. first_good f (fence_rows f) (fence_good f g (eqb-true _ _ t))),
                        (
                          (λ t. first_good f (system_rows f) (system_good f g (eqb-true _ _ t))),
                          tt,
                        ),
                      ),
                    ),
                  ),
                ),
              ),
            ),
          ),
        ),
      ),
    ),
  ),
)

pub spelt : (w : ℕ) (i : Inst) → w < 2 ^ 32 → inst_of w ≡ Some i → (word_of i ≡ w) × IsInst i
unfolding inst_of word_of
spelt w i h e =
    let s = first_good (fields_of w) (opcode_rows (fields_of w)) (opcode_good (fields_of w) (are_fields w)) i e in
    (ap word_at s.same ∙ word_again w h, s.ranges)

pub result_spelt : (w : ℕ) (r : Option Inst) → w < 2 ^ 32 → inst_of w ≡ r → IfSome r (λ i. (word_of i ≡ w) × IsInst i)
result_spelt w (Some i) h e = spelt w i h e
result_spelt w None h e = tt

pub nothing_read : (w : ℕ) (r : Option Inst) → inst_of w ≡ r → IfNone r ((i : Inst) → IsInst i → word_of i ≡ w → ⊥)
nothing_read w (Some i) e = tt
nothing_read w None e = λ i g s. let again = read_again i g in cc
