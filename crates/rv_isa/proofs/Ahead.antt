use Rattle.std.proofs.Common.{◌≡◌, ℕ, zero, suc, ◌+◌, ◌-◌, ◌*◌, ◌/◌, ◌%◌, ◌^◌, ◌<◌, ◌≤◌, ◌==◌, Bool, true, false, not, ◌||◌, ◌&&◌, nat_lt, if◌then◌else◌, Option, Some, None, refl, ap, sym, ◌∙◌, arith, add-one}
use Rattle.std.proofs.lemmas.Bool.{eqb-true, ltb-true, ltb-false}
use Rattle.thread_system.specs.Effect.{Effect, Silent, Reads, Writes, Turn, Calls, Traps}
use Rattle.thread_system.specs.Memory.{Memory}
use Rattle.thread_system.specs.Segment.{End, Segment, goes_on, reads, reads_badly, writes, writes_badly, takes_turn, lacks_turn, calls, traps}
use Rattle.rv_isa.specs.declared.inst.Inst.{Inst}
use Rattle.rv_isa.specs.declared.inst.Inst.TheVariants.{Lui, Auipc, Jal, Jalr, Beq, Bne, Blt, Bge, Bltu, Bgeu, Lb, Lh, Lw, Ld, Lbu, Lhu, Lwu, Sb, Sh, Sw, Sd, Ecall, Ebreak}
use Rattle.rv_isa.specs.Words.{signed_jump, signed_branch}
use Rattle.rv_isa.specs.Machine as isa
use Rattle.rv_isa.specs.Machine.{Cpu, Machine, fetched, act, acts, machine_step}
use Rattle.rv_isa.specs.Progress.{GoesAhead, HasWords, StandsWithin, carried_out}

-- Without a turn or a call a thread goes ahead.

three_by : (t u : Bool) (c : Cpu) (kind line : ℕ) (a b : Effect Cpu) → GoesAhead c a → GoesAhead c b → GoesAhead c (if t then a else if u then Traps kind line else b)
three_by true u c kind line a b x y = x
three_by false true c kind line a b x y = tt
three_by false false c kind line a b x y = y

loads_ahead : (h : Machine) (c : Cpu) (width : ℕ) (has_sign : Bool) (rd a : ℕ) → GoesAhead c (isa.loads h c width has_sign rd a)
loads_ahead h c width has_sign rd a = three_by (isa.on_stack h a width) (isa.in_stack h a) c _ _ _ _ (omega arith) (λ v. omega arith)

stores_ahead : (h : Machine) (c : Cpu) (width value a : ℕ) → GoesAhead c (isa.stores h c width value a)
stores_ahead h c width value a = three_by (isa.on_stack h a width) (isa.in_stack h a) c _ _ _ _ (omega arith) (omega arith)

jump_by : (whole is_turn : Bool) (h : Machine) (c : Cpu) (rd target : ℕ) → (target % 4 == 0) ≡ whole → c.pc % 4 ≡ 0 → (is_turn ≡ false → c.pc < target)
    → GoesAhead c (if not whole then Traps isa.bad_code (isa.line_at h c.pc) else if is_turn then Turn (isa.line_at h c.pc) (record { pc = target; regs = isa.with_reg c.regs rd (c.pc + 4); bytes = c.bytes }) else Silent (record { pc = target; regs = isa.with_reg c.regs rd (c.pc + 4); bytes = c.bytes }))
jump_by false is_turn h c rd target e at on = tt
jump_by true true h c rd target e at on = tt
jump_by true false h c rd target e at on = let l : c.pc < target = on refl in let w : target % 4 ≡ 0 = eqb-true (target % 4) 0 e in omega arith

jumps_ahead : (h : Machine) (c : Cpu) (is_turn : Bool) (rd target : ℕ) → c.pc % 4 ≡ 0 → (is_turn ≡ false → c.pc < target) → GoesAhead c (isa.jumps h c is_turn rd target)
jumps_ahead h c is_turn rd target at on = jump_by (target % 4 == 0) is_turn h c rd target refl at on

back_no : (c : Cpu) (target : ℕ) → isa.is_back c target ≡ false → c.pc < target
back_no c target e = by_test (nat_lt c.pc target) refl e where
  by_test : (t : Bool) → nat_lt c.pc target ≡ t → not t ≡ false → c.pc < target
  by_test true is e = ltb-true c.pc target is
  by_test false is e = cc

right_no : (a b : Bool) → (a || b) ≡ false → b ≡ false
right_no true b e = cc
right_no false b e = e

branches_ahead : (taken : Bool) (h : Machine) (c : Cpu) (offset : ℕ) → c.pc % 4 ≡ 0 → GoesAhead c (isa.branches h c taken offset)
branches_ahead true h c offset at = jumps_ahead h c (isa.is_back c ((c.pc + signed_branch offset) % 2 ^ 64)) 0 ((c.pc + signed_branch offset) % 2 ^ 64) at (back_no c ((c.pc + signed_branch offset) % 2 ^ 64))
branches_ahead false h c offset at = omega arith

asks_by : (t : Bool) (c : Cpu) (a b : Effect Cpu) → GoesAhead c a → GoesAhead c b → GoesAhead c (if t then a else b)
asks_by true c a b x y = x
asks_by false c a b x y = y

act_ahead : (h : Machine) (c : Cpu) (i : Inst) → c.pc % 4 ≡ 0 → GoesAhead c (act h c i)
act_ahead h c (Jal rd offset) at = jumps_ahead h c _ rd ((c.pc + signed_jump offset) % 2 ^ 64) at (λ e. back_no c ((c.pc + signed_jump offset) % 2 ^ 64) (right_no (not (rd == 0)) (isa.is_back c ((c.pc + signed_jump offset) % 2 ^ 64)) e))
act_ahead h c (Jalr rd rs1 imm) at = jumps_ahead h c true rd (2 * (isa.address c rs1 imm / 2)) at (λ e. cc)
act_ahead h c (Beq rs1 rs2 offset) at = branches_ahead _ h c offset at
act_ahead h c (Bne rs1 rs2 offset) at = branches_ahead _ h c offset at
act_ahead h c (Blt rs1 rs2 offset) at = branches_ahead _ h c offset at
act_ahead h c (Bge rs1 rs2 offset) at = branches_ahead _ h c offset at
act_ahead h c (Bltu rs1 rs2 offset) at = branches_ahead _ h c offset at
act_ahead h c (Bgeu rs1 rs2 offset) at = branches_ahead _ h c offset at
act_ahead h c (Lb rd rs1 imm) at = loads_ahead h c 1 true rd (isa.address c rs1 imm)
act_ahead h c (Lh rd rs1 imm) at = loads_ahead h c 2 true rd (isa.address c rs1 imm)
act_ahead h c (Lw rd rs1 imm) at = loads_ahead h c 4 true rd (isa.address c rs1 imm)
act_ahead h c (Ld rd rs1 imm) at = loads_ahead h c 8 false rd (isa.address c rs1 imm)
act_ahead h c (Lbu rd rs1 imm) at = loads_ahead h c 1 false rd (isa.address c rs1 imm)
act_ahead h c (Lhu rd rs1 imm) at = loads_ahead h c 2 false rd (isa.address c rs1 imm)
act_ahead h c (Lwu rd rs1 imm) at = loads_ahead h c 4 false rd (isa.address c rs1 imm)
act_ahead h c (Sb rs1 rs2 imm) at = stores_ahead h c 1 (isa.reg_at c.regs rs2) (isa.address c rs1 imm)
act_ahead h c (Sh rs1 rs2 imm) at = stores_ahead h c 2 (isa.reg_at c.regs rs2) (isa.address c rs1 imm)
act_ahead h c (Sw rs1 rs2 imm) at = stores_ahead h c 4 (isa.reg_at c.regs rs2) (isa.address c rs1 imm)
act_ahead h c (Sd rs1 rs2 imm) at = stores_ahead h c 8 (isa.reg_at c.regs rs2) (isa.address c rs1 imm)
act_ahead h c Ecall at = asks_by (isa.is_trap_call (c.regs 17) (c.regs 10)) c _ _ tt tt
act_ahead h c Ebreak at = tt
act_ahead h c i at = omega arith

whole_by : (t : Bool) (h : Machine) (pc : ℕ) (i : Inst) → (pc % 4 == 0) ≡ t → (if t then h.fetch (pc / 4) else None) ≡ Some i → (pc % 4 ≡ 0) × (h.fetch (pc / 4) ≡ Some i)
whole_by true h pc i e is = (eqb-true (pc % 4) 0 e, is)
whole_by false h pc i e is = cc

-- an instruction that is fetched stands at a multiple of four
found_at : (h : Machine) (pc : ℕ) (i : Inst) → fetched h pc ≡ Some i → (pc % 4 ≡ 0) × (h.fetch (pc / 4) ≡ Some i)
found_at h pc i is = whole_by (pc % 4 == 0) h pc i refl is

ahead_by : (h : Machine) (c : Cpu) (o : Option Inst) → fetched h c.pc ≡ o → GoesAhead c (acts h c o)
ahead_by h c None is = tt
ahead_by h c (Some i) is = act_ahead h c i (found_at h c.pc i is).0

pub ahead : (h : Machine) (c : Cpu) → GoesAhead c (machine_step h c)
ahead h c = ahead_by h c (fetched h c.pc) refl

in_words : (h : Machine) (words k : ℕ) (i : Inst) → HasWords h words → h.fetch k ≡ Some i → k < words
in_words h words k i none is = by_test (nat_lt k words) refl where
  by_test : (t : Bool) → nat_lt k words ≡ t → k < words
  by_test true e = ltb-true k words e
  by_test false e = let z : h.fetch k ≡ None = none k (ltb-false k words e) in cc

stands_by : (words : ℕ) (c : Cpu) (e : Effect Cpu) → c.pc / 4 < words → StandsWithin words c e
stands_by words c (Traps kind line) lt = tt
stands_by words c (Silent next) lt = lt
stands_by words c (Reads a w l next) lt = lt
stands_by words c (Writes a w v l next) lt = lt
stands_by words c (Turn l next) lt = lt
stands_by words c (Calls n args l next) lt = lt

within_by : (h : Machine) (words : ℕ) (c : Cpu) (o : Option Inst) → HasWords h words → fetched h c.pc ≡ o → StandsWithin words c (acts h c o)
within_by h words c None none is = tt
within_by h words c (Some i) none is = stands_by words c (act h c i) (in_words h words (c.pc / 4) i none (found_at h c.pc i is).1)

pub within : (h : Machine) (words : ℕ) (c : Cpu) → HasWords h words → StandsWithin words c (machine_step h c)
within h words c none = within_by h words c (fetched h c.pc) none refl

one_turn : (turns words : ℕ) → suc turns * words ≡ turns * words + words
one_turn turns words = omega arith

-- What is carried out is bounded by the turns and the words that lie ahead.
carried_by : (h : Machine) (words turns : ℕ) (m after : Memory) (c : Cpu) (e : End Cpu) → HasWords h words → (segment : Segment (machine_step h) turns m c after e) → carried_out (machine_step h) turns m c after e segment ≤ turns * words + (words - c.pc / 4)
carried_by h words turns m after c e none (goes_on _ _ _ _ next _ is rest) =
    let l : c.pc + 4 ≤ next.pc = rw is at (ahead h c) in
    let w : c.pc / 4 < words = rw is at (within h words c none) in
    let r = carried_by h words turns m after next e none rest in
    omega arith
carried_by h words turns m after c e none (reads _ _ _ _ addr width line value next _ is found rest) =
    let all = rw is at (ahead h c) in
    let l : c.pc + 4 ≤ (next value).pc = all value in
    let w : c.pc / 4 < words = rw is at (within h words c none) in
    let r = carried_by h words turns m after (next value) e none rest in
    omega arith
carried_by h words turns m after c e none (reads_badly _ _ _ addr width line next is found) = omega arith
carried_by h words turns m after c e none (writes _ _ written _ _ addr width value line next _ is done rest) =
    let l : c.pc + 4 ≤ next.pc = rw is at (ahead h c) in
    let w : c.pc / 4 < words = rw is at (within h words c none) in
    let r = carried_by h words turns written after next e none rest in
    omega arith
carried_by h words turns m after c e none (writes_badly _ _ _ addr width value line next is done) = omega arith
carried_by h words _ m after c e none (takes_turn turns _ _ _ line next _ is rest) =
    let w : c.pc / 4 < words = rw is at (within h words c none) in
    let r = carried_by h words turns m after next e none rest in
    let more : suc turns * words ≡ turns * words + words = one_turn turns words in
    omega arith
carried_by h words _ m after c e none (lacks_turn _ _ line next is) = omega arith
carried_by h words turns m after c e none (calls _ _ _ number args line next is) =
    let w : c.pc / 4 < words = rw is at (within h words c none) in
    omega arith
carried_by h words turns m after c e none (traps _ _ _ kind line is) = omega arith

pub bounded : (h : Machine) (words turns : ℕ) (m after : Memory) (c : Cpu) (e : End Cpu) → HasWords h words → (segment : Segment (machine_step h) turns m c after e) → carried_out (machine_step h) turns m c after e segment ≤ (turns + 1) * words
bounded h words turns m after c e none segment =
    let r = carried_by h words turns m after c e none segment in
    let more : (turns + 1) * words ≡ turns * words + words = ap (λ n. n * words) (add-one turns) ∙ one_turn turns words in
    omega arith
