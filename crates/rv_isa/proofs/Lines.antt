use Rattle.std.proofs.Common.{◌≡◌, ℕ, ◌+◌, ◌*◌, ◌/◌, ◌%◌, ◌^◌, ◌<◌, Bool, true, false, not, ◌||◌, ◌==◌, nat_lt, if◌then◌else◌, get_or, Option, Some, None, IsTrue, refl, sym, subst, arith}
use Rattle.std.proofs.lemmas.Bool.{ltb-true, not-false, true≢false}
use Rattle.thread_system.specs.Effect.{Effect, Silent, Reads, Writes, Turn, Calls, Traps}
use Rattle.thread_system.specs.Segment.{bad_pointer}
use Rattle.word64.specs.Words.{less_signed, extend}
use Rattle.rv_isa.specs.Words.{signed_branch, signed_jump, loaded, stored}
use Rattle.rv_isa.specs.declared.inst.Inst.{Inst}
use Rattle.rv_isa.specs.declared.inst.Inst.TheVariants.{Jal, Jalr, Beq, Bne, Blt, Bge, Bltu, Bgeu, Lb, Lh, Lw, Ld, Lbu, Lhu, Lwu, Sb, Sh, Sw, Sd, Ecall, Ebreak}
use Rattle.rv_isa.specs.Machine.{Machine, Cpu, reg_at, address, line_at, moves_on, loads, stores, jumps, branches, is_back, is_trap_call, on_stack, in_stack, asks, act, acts, fetched, machine_step}

-- What each step does from an address: whatever others can see has the line of its instruction, and all but a turn
-- and a trap goes on at a higher address. A call is none that asks for a trap.
abbrev pub StepsFrom : (line pc : ℕ) → Effect Cpu → Type 0
StepsFrom line pc (Silent next) = pc < next.pc
StepsFrom line pc (Reads addr width at next) = (at ≡ line) × ((v : ℕ) → pc < (next v).pc)
StepsFrom line pc (Writes addr width value at next) = (at ≡ line) × (pc < next.pc)
StepsFrom line pc (Turn at next) = at ≡ line
StepsFrom line pc (Calls number args at next) = (at ≡ line) × ((v : ℕ) → pc < (next v).pc) × (is_trap_call number (get_or args 0 0) ≡ false)
StepsFrom line pc (Traps kind at) = at ≡ line

ahead : (pc : ℕ) → pc < pc + 4
ahead pc = omega arith

first_of : (line pc : ℕ) (t u : Bool) (a b d : Effect Cpu) → StepsFrom line pc a → StepsFrom line pc b → StepsFrom line pc d → StepsFrom line pc (if t then a else if u then b else d)
first_of line pc true u a b d x y z = x
first_of line pc false true a b d x y z = y
first_of line pc false false a b d x y z = z

loads_from : (h : Machine) (c : Cpu) (width : ℕ) (has_sign : Bool) (rd a : ℕ) → StepsFrom (line_at h c.pc) c.pc (loads h c width has_sign rd a)
loads_from h c width has_sign rd a =
    first_of (line_at h c.pc) c.pc (on_stack h a width) (in_stack h a) (Silent (moves_on c rd (extend width has_sign (loaded c.bytes a width)))) (Traps bad_pointer (line_at h c.pc)) (Reads a width (line_at h c.pc) (λ v. moves_on c rd (extend width has_sign v)))
    (ahead c.pc) refl (refl, λ v. ahead c.pc)

stores_from : (h : Machine) (c : Cpu) (width value a : ℕ) → StepsFrom (line_at h c.pc) c.pc (stores h c width value a)
stores_from h c width value a =
    first_of (line_at h c.pc) c.pc (on_stack h a width) (in_stack h a) (Silent (record { pc = c.pc + 4; regs = c.regs; bytes = stored c.bytes a width value })) (Traps bad_pointer (line_at h c.pc)) (Writes a width value (line_at h c.pc) (record { pc = c.pc + 4; regs = c.regs; bytes = c.bytes }))
    (ahead c.pc) refl (refl, ahead c.pc)

jumps_by : (line pc : ℕ) (bad is_turn : Bool) (trap turn silent : Effect Cpu) → StepsFrom line pc trap → StepsFrom line pc turn → (is_turn ≡ false → StepsFrom line pc silent) → StepsFrom line pc (if bad then trap else if is_turn then turn else silent)
jumps_by line pc true is_turn trap turn silent x y z = x
jumps_by line pc false true trap turn silent x y z = y
jumps_by line pc false false trap turn silent x y z = z refl

-- a jump that is no turn goes ahead
jumps_from : (h : Machine) (c : Cpu) (is_turn : Bool) (rd target : ℕ) → (is_turn ≡ false → c.pc < target) → StepsFrom (line_at h c.pc) c.pc (jumps h c is_turn rd target)
jumps_from h c is_turn rd target on = jumps_by (line_at h c.pc) c.pc (not (target % 4 == 0)) is_turn _ _ _ refl refl on

not_back : (pc target : ℕ) → not (nat_lt pc target) ≡ false → pc < target
not_back pc target e = ltb-true pc target (not-false (nat_lt pc target) e)

link_back : (t : Bool) (pc target : ℕ) → (t || not (nat_lt pc target)) ≡ false → pc < target
link_back false pc target e = not_back pc target e
link_back true pc target e = absurd (true≢false e)

branches_from : (h : Machine) (c : Cpu) (taken : Bool) (offset : ℕ) → StepsFrom (line_at h c.pc) c.pc (branches h c taken offset)
branches_from h c true offset = jumps_from h c (is_back c ((c.pc + signed_branch offset) % 2 ^ 64)) 0 ((c.pc + signed_branch offset) % 2 ^ 64) (not_back c.pc ((c.pc + signed_branch offset) % 2 ^ 64))
branches_from h c false offset = ahead c.pc

asks_by : (h : Machine) (c : Cpu) (t : Bool) → is_trap_call (c.regs 17) (c.regs 10) ≡ t → StepsFrom (line_at h c.pc) c.pc (asks h c)
asks_by h c true e = rw e refl
asks_by h c false e = rw e (refl, λ v. ahead c.pc, e)

act_from : (h : Machine) (c : Cpu) (i : Inst) → StepsFrom (line_at h c.pc) c.pc (act h c i)
act_from h c (Jal rd offset) = jumps_from h c (not (rd == 0) || is_back c ((c.pc + signed_jump offset) % 2 ^ 64)) rd ((c.pc + signed_jump offset) % 2 ^ 64) (link_back (not (rd == 0)) c.pc ((c.pc + signed_jump offset) % 2 ^ 64))
act_from h c (Jalr rd rs1 imm) = jumps_from h c true rd (2 * (address c rs1 imm / 2)) (λ e. link_back true c.pc (2 * (address c rs1 imm / 2)) e)
act_from h c (Beq rs1 rs2 offset) = branches_from h c (reg_at c.regs rs1 == reg_at c.regs rs2) offset
act_from h c (Bne rs1 rs2 offset) = branches_from h c (not (reg_at c.regs rs1 == reg_at c.regs rs2)) offset
act_from h c (Blt rs1 rs2 offset) = branches_from h c (less_signed (reg_at c.regs rs1) (reg_at c.regs rs2)) offset
act_from h c (Bge rs1 rs2 offset) = branches_from h c (not (less_signed (reg_at c.regs rs1) (reg_at c.regs rs2))) offset
act_from h c (Bltu rs1 rs2 offset) = branches_from h c (nat_lt (reg_at c.regs rs1) (reg_at c.regs rs2)) offset
act_from h c (Bgeu rs1 rs2 offset) = branches_from h c (not (nat_lt (reg_at c.regs rs1) (reg_at c.regs rs2))) offset
act_from h c (Lb rd rs1 imm) = loads_from h c 1 true rd (address c rs1 imm)
act_from h c (Lh rd rs1 imm) = loads_from h c 2 true rd (address c rs1 imm)
act_from h c (Lw rd rs1 imm) = loads_from h c 4 true rd (address c rs1 imm)
act_from h c (Ld rd rs1 imm) = loads_from h c 8 false rd (address c rs1 imm)
act_from h c (Lbu rd rs1 imm) = loads_from h c 1 false rd (address c rs1 imm)
act_from h c (Lhu rd rs1 imm) = loads_from h c 2 false rd (address c rs1 imm)
act_from h c (Lwu rd rs1 imm) = loads_from h c 4 false rd (address c rs1 imm)
act_from h c (Sb rs1 rs2 imm) = stores_from h c 1 (reg_at c.regs rs2) (address c rs1 imm)
act_from h c (Sh rs1 rs2 imm) = stores_from h c 2 (reg_at c.regs rs2) (address c rs1 imm)
act_from h c (Sw rs1 rs2 imm) = stores_from h c 4 (reg_at c.regs rs2) (address c rs1 imm)
act_from h c (Sd rs1 rs2 imm) = stores_from h c 8 (reg_at c.regs rs2) (address c rs1 imm)
act_from h c Ecall = asks_by h c (is_trap_call (c.regs 17) (c.regs 10)) refl
act_from h c Ebreak = refl
act_from h c i = ahead c.pc

acts_from : (h : Machine) (c : Cpu) (found : Option Inst) → StepsFrom (line_at h c.pc) c.pc (acts h c found)
acts_from h c None = refl
acts_from h c (Some i) = act_from h c i

-- Each step of the machine does so.
pub steps_from : (h : Machine) (c : Cpu) → StepsFrom (line_at h c.pc) c.pc (machine_step h c)
steps_from h c = acts_from h c (fetched h c.pc)
