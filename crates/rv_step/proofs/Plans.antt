use Rattle.std.proofs.Common.{◌≡◌, ℕ, zero, suc, ◌+◌, ◌-◌, ◌*◌, ◌/◌, ◌%◌, ◌^◌, ◌<◌, Bool, true, false, not, nat_lt, ◌==◌, refl, ap, sym, ◌∙◌, arith, if◌then◌else◌, Result, Ok, Option, Some, List, subst}
use Rattle.thread_system.specs.Effect.{Effect, Silent}
use Rattle.word64.specs.Words.{less_signed, shift_right_signed, extend}
use Rattle.rv_isa.specs.Words.{signed_imm, signed_upper, word, low_word}
use Rattle.rv_isa.specs.Encoding.{IsInst}
use Rattle.rv_isa.specs.Machine.{Machine, Cpu, reg_at, act, acts, asks, is_trap_call, writes, branches}
use Rattle.rv_isa.specs.declared.inst.Inst.{Inst}
use Rattle.rv_isa.specs.declared.inst.Inst.TheVariants.{Lui, Auipc, Jal, Jalr, Beq, Bne, Blt, Bge, Bltu, Bgeu, Lb, Lh, Lw, Ld, Lbu, Lhu, Lwu, Sb, Sh, Sw, Sd, Addi, Slti, Sltiu, Xori, Ori, Andi, Slli, Srli, Srai, Add, Sub, Sll, Slt, Sltu, Xor, Srl, Sra, Or, And, Mul, Mulh, Mulhsu, Mulhu, Div, Divu, Rem, Remu, Addiw, Slliw, Srliw, Sraiw, Addw, Subw, Sllw, Srlw, Sraw, Mulw, Divw, Divuw, Remw, Remuw, Fence, Ecall, Ebreak}
use Rattle.rv_step.specs.declared.plan.Plan.{Plan}
use Rattle.rv_step.specs.Plan.{plan_of, carried, branch_plan}
use Rattle.rv_step.specs.Access.{Access}
use Rattle.rv_step.specs.Step.{passed, StepsTo, Accesses, NoCall, CallsFor, CallsAt}
use Rattle.thread_system.specs.Memory.{Memory}
use Rattle.fb_base.specs.declared.memory.NoMemory.{NoMemory}
use Rattle.rv_step.specs.declared.stop.Stop.{Stop}
use Rattle.rv_step.specs.declared.stop.Stop.TheVariants as stops
use Rattle.rv_step.specs.Calls.{CallsBy}
use Rattle.rv_step.proofs.State.{put_low}

-- What an instruction does is what its plan does.

writes_low : (c : Cpu) (rd v : ℕ) → writes c rd v ≡ writes c rd (v % 2 ^ 64)
writes_low c rd v = ap (λ regs. Silent (record { pc = c.pc + 4; regs = regs; bytes = c.bytes })) (sym (put_low c.regs rd v))

pub extend_low : (v : ℕ) → extend 4 true (v % 2 ^ 64) ≡ extend 4 true v
unfolding extend
extend_low v = let e : v % 2 ^ 64 % 2 ^ 32 ≡ v % 2 ^ 32 = omega arith in rw e refl

writes_word : (c : Cpu) (rd v : ℕ) → writes c rd (word v) ≡ writes c rd (word (v % 2 ^ 64))
writes_word c rd v = ap (writes c rd) (sym (extend_low v))

branch_is : (h : Machine) (c : Cpu) (taken : Bool) (offset : ℕ) → branches h c taken offset ≡ carried h c (branch_plan c taken offset)
branch_is h c true offset = refl
branch_is h c false offset = refl

low_amount : (n : ℕ) → n < 64 → n % 64 ≡ n
low_amount n h = omega arith

low_low : (n : ℕ) → n % 32 % 64 ≡ n % 32
low_low n = omega arith

pub act_is : (h : Machine) (c : Cpu) (i : Inst) → IsInst i → act h c i ≡ carried h c (plan_of c i)
unfolding plan_of
act_is h c (Auipc rd imm) r = writes_low c rd (c.pc + signed_upper imm)
act_is h c (Beq rs1 rs2 offset) r = branch_is h c (reg_at c.regs rs1 == reg_at c.regs rs2) offset
act_is h c (Bne rs1 rs2 offset) r = branch_is h c (not (reg_at c.regs rs1 == reg_at c.regs rs2)) offset
act_is h c (Blt rs1 rs2 offset) r = branch_is h c (less_signed (reg_at c.regs rs1) (reg_at c.regs rs2)) offset
act_is h c (Bge rs1 rs2 offset) r = branch_is h c (not (less_signed (reg_at c.regs rs1) (reg_at c.regs rs2))) offset
act_is h c (Bltu rs1 rs2 offset) r = branch_is h c (nat_lt (reg_at c.regs rs1) (reg_at c.regs rs2)) offset
act_is h c (Bgeu rs1 rs2 offset) r = branch_is h c (not (nat_lt (reg_at c.regs rs1) (reg_at c.regs rs2))) offset
act_is h c (Addi rd rs1 imm) r = writes_low c rd (reg_at c.regs rs1 + signed_imm imm)
act_is h c (Slli rd rs1 amount) r = rw (low_amount amount (omega arith)) (writes_low c rd (reg_at c.regs rs1 * 2 ^ (amount)))
act_is h c (Srli rd rs1 amount) r = rw (low_amount amount (omega arith)) (refl)
act_is h c (Srai rd rs1 amount) r = rw (low_amount amount (omega arith)) (refl)
act_is h c (Add rd rs1 rs2) r = writes_low c rd (reg_at c.regs rs1 + reg_at c.regs rs2)
act_is h c (Sub rd rs1 rs2) r = writes_low c rd (reg_at c.regs rs1 + (2 ^ 64 - reg_at c.regs rs2))
act_is h c (Sll rd rs1 rs2) r = writes_low c rd (reg_at c.regs rs1 * 2 ^ (reg_at c.regs rs2 % 64))
act_is h c (Mul rd rs1 rs2) r = writes_low c rd (reg_at c.regs rs1 * reg_at c.regs rs2)
act_is h c (Addiw rd rs1 imm) r = writes_word c rd (reg_at c.regs rs1 + signed_imm imm)
act_is h c (Slliw rd rs1 amount) r = rw (low_amount amount (omega arith)) (writes_word c rd (reg_at c.regs rs1 * 2 ^ (amount)))
act_is h c (Srliw rd rs1 amount) r = rw (low_amount amount (omega arith)) (refl)
act_is h c (Sraiw rd rs1 amount) r = rw (low_amount amount (omega arith)) (refl)
act_is h c (Addw rd rs1 rs2) r = writes_word c rd (reg_at c.regs rs1 + reg_at c.regs rs2)
act_is h c (Subw rd rs1 rs2) r = writes_word c rd (reg_at c.regs rs1 + (2 ^ 64 - reg_at c.regs rs2))
act_is h c (Sllw rd rs1 rs2) r = rw (low_low (reg_at c.regs rs2)) (writes_word c rd (reg_at c.regs rs1 * 2 ^ (reg_at c.regs rs2 % 32)))
act_is h c (Srlw rd rs1 rs2) r = rw (low_low (reg_at c.regs rs2)) (refl)
act_is h c (Sraw rd rs1 rs2) r = rw (low_low (reg_at c.regs rs2)) (refl)
act_is h c (Mulw rd rs1 rs2) r = writes_word c rd (reg_at c.regs rs1 * reg_at c.regs rs2)
act_is h c i r = refl

branch_calls : (c : Cpu) (taken : Bool) (offset : ℕ) (r : Result Stop NoMemory) → CallsBy (branch_plan c taken offset) r → NoCall r
branch_calls c true offset r given = given
branch_calls c false offset r given = given

pub calls_are : (c : Cpu) (i : Inst) (r : Result Stop NoMemory) → CallsBy (plan_of c i) r → CallsFor i r
unfolding plan_of
calls_are c Ecall r given = given
calls_are c (Beq rs1 rs2 offset) r given = branch_calls c (reg_at c.regs rs1 == reg_at c.regs rs2) offset r given
calls_are c (Bne rs1 rs2 offset) r given = branch_calls c (not (reg_at c.regs rs1 == reg_at c.regs rs2)) offset r given
calls_are c (Blt rs1 rs2 offset) r given = branch_calls c (less_signed (reg_at c.regs rs1) (reg_at c.regs rs2)) offset r given
calls_are c (Bge rs1 rs2 offset) r given = branch_calls c (not (less_signed (reg_at c.regs rs1) (reg_at c.regs rs2))) offset r given
calls_are c (Bltu rs1 rs2 offset) r given = branch_calls c (nat_lt (reg_at c.regs rs1) (reg_at c.regs rs2)) offset r given
calls_are c (Bgeu rs1 rs2 offset) r given = branch_calls c (not (nat_lt (reg_at c.regs rs1) (reg_at c.regs rs2))) offset r given
calls_are c i r given = given

asked_by : (h : Machine) (c : Cpu) (m : Memory) (t : Bool) → is_trap_call (c.regs 17) (c.regs 10) ≡ t → StepsTo (asks h c) c (passed c) m m (Ok stops.Call)
asked_by h c m true e = rw e (refl, record { asked = e; kind_is = refl }, refl)
asked_by h c m false e = rw e (refl, record { number_is = refl; args_are = refl; goes_on = λ v. refl }, refl)

pub asked : (h : Machine) (c : Cpu) (m : Memory) → StepsTo (asks h c) c (passed c) m m (Ok stops.Call)
asked h c m = asked_by h c m (is_trap_call (c.regs 17) (c.regs 10)) refl

-- a call makes no access
none_by : (h : Machine) (c : Cpu) (at : ℕ) (seen : Option (List Access)) (t : Bool) → is_trap_call (c.regs 17) (c.regs 10) ≡ t → Accesses (asks h c) at seen seen (Ok stops.Call)
none_by h c at seen true e = rw e refl
none_by h c at seen false e = rw e refl

pub asks_none : (h : Machine) (c : Cpu) (at : ℕ) (seen : Option (List Access)) → Accesses (asks h c) at seen seen (Ok stops.Call)
asks_none h c at seen = none_by h c at seen (is_trap_call (c.regs 17) (c.regs 10)) refl

pub step_is : (h : Machine) (old new : Cpu) (m after : Memory) (r : Result Stop NoMemory) (o : Option Inst) (i : Inst) (p : Plan) → o ≡ Some i → IsInst i → p ≡ plan_of old i → StepsTo (carried h old p) old new m after r → StepsTo (acts h old o) old new m after r
step_is h old new m after r o i p eo g ep s =
    let planned : carried h old p ≡ act h old i = ap (carried h old) ep ∙ sym (act_is h old i g) in
    subst (λ k. StepsTo (acts h old k) old new m after r) (sym eo) (subst (λ k. StepsTo k old new m after r) planned s)

pub calls_at : (old : Cpu) (r : Result Stop NoMemory) (o : Option Inst) (i : Inst) (p : Plan) → o ≡ Some i → p ≡ plan_of old i → CallsBy p r → CallsAt o r
calls_at old r o i p eo ep given =
    subst (λ k. CallsAt k r) (sym eo) (calls_are old i r (subst (λ k. CallsBy k r) ep given))

pub step_sees : (h : Machine) (old : Cpu) (at : ℕ) (before after : Option (List Access)) (r : Result Stop NoMemory) (o : Option Inst) (i : Inst) (p : Plan) → o ≡ Some i → IsInst i → p ≡ plan_of old i → Accesses (carried h old p) at before after r → Accesses (acts h old o) at before after r
step_sees h old at before after r o i p eo g ep s =
    let planned : carried h old p ≡ act h old i = ap (carried h old) ep ∙ sym (act_is h old i g) in
    subst (λ k. Accesses (acts h old k) at before after r) (sym eo) (subst (λ k. Accesses k at before after r) planned s)
