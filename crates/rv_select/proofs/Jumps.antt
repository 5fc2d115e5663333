use Rattle.std.proofs.Common.{◌≡◌, ◌≢◌, ℕ, suc, ◌+◌, ◌-◌, ◌*◌, ◌/◌, ◌%◌, ◌^◌, ◌<◌, ◌≤◌, ◌==◌, Bool, true, false, nat_lt, refl, ap, ◌∙◌, arith}
use Rattle.std.proofs.lemmas.Bool.{lt-ltb, le-ltb, ltb-true, ltb-false, eq-eqb, ne_eqb}
use Rattle.thread_system.specs.Effect.{Silent, Turn, Traps}
use Rattle.thread_system.specs.Simulation.{Quiets, stays, moves}
use Rattle.rv_isa.specs.declared.inst.Inst.TheVariants.{Jal, Bne, Addi, Ecall}
use Rattle.rv_isa.specs.Words.{signed_imm, signed_jump, signed_branch}
use Rattle.rv_isa.specs.Machine.{Cpu, Machine, moves_on, act, machine_step}
use Rattle.rv_select.specs.Emission.{jump_offset, trap_code}
use Rattle.rv_select.specs.Standing.{StandsAt}
use Rattle.rv_select.proofs.Straight.{step_at}

-- Jumps, branches and traps.

-- a state at another address
abbrev pub at_address : Cpu → ℕ → Cpu
at_address c pc = record { pc = pc; regs = c.regs; bytes = c.bytes }

ahead_is : (from to : ℕ) → from < to → to < from + 2 ^ 18 → to < 2 ^ 30 → (4 * from + signed_jump (jump_offset from to)) % 2 ^ 64 ≡ 4 * to
ahead_is from to low near small =
    let e : jump_offset from to ≡ 2 * (to - from) = omega arith in
    rw e (rw (lt-ltb (2 * (to - from)) (2 ^ 19) (omega arith)) (omega arith))

behind_far : (from to : ℕ) → to < from → from ≤ to + 2 ^ 18 → from < 2 ^ 30 → (4 * from + signed_jump (jump_offset from to)) % 2 ^ 64 ≡ 4 * to
behind_far from to low near small =
    let e : jump_offset from to ≡ 2 ^ 20 - 2 * (from - to) = omega arith in
    rw e (rw (le-ltb (2 ^ 20 - 2 * (from - to)) (2 ^ 19) (omega arith)) (omega arith))

behind_same : (from : ℕ) → from < 2 ^ 30 → (4 * from + signed_jump (jump_offset from from)) % 2 ^ 64 ≡ 4 * from
behind_same from small =
    let e : jump_offset from from ≡ 0 = omega arith in
    rw e (omega arith)

behind_is : (from to : ℕ) → to ≤ from → from ≤ to + 2 ^ 18 → from < 2 ^ 30 → (4 * from + signed_jump (jump_offset from to)) % 2 ^ 64 ≡ 4 * to
behind_is from to low near small = by_test (nat_lt to from) refl where
  by_test : (t : Bool) → nat_lt to from ≡ t → (4 * from + signed_jump (jump_offset from to)) % 2 ^ 64 ≡ 4 * to
  by_test true e = behind_far from to (ltb-true to from e) near small
  by_test false e = let l : from ≤ to = ltb-false to from e in let same : to ≡ from = omega arith in rw same (behind_same from small)

module _ (h : Machine) where
  whole : (to : ℕ) → (4 * to % 4 == 0) ≡ true
  whole to = eq-eqb (4 * to % 4) 0 (omega arith)

  -- a jump ahead is silent
  pub skip_acts : (c : Cpu) (from to : ℕ) → c.pc ≡ 4 * from → from < to → to < from + 2 ^ 18 → to < 2 ^ 30 → act h c (Jal 0 (jump_offset from to)) ≡ Silent (at_address c (4 * to))
  skip_acts c from to at low near small =
      let e : (c.pc + signed_jump (jump_offset from to)) % 2 ^ 64 ≡ 4 * to = ap (λ n. (n + signed_jump (jump_offset from to)) % 2 ^ 64) at ∙ ahead_is from to low near small in
      rw (e, whole to, lt-ltb c.pc (4 * to) (omega arith)) refl

  -- a jump back is a turn, also one to itself
  pub back_acts : (c : Cpu) (from to : ℕ) → c.pc ≡ 4 * from → to ≤ from → from ≤ to + 2 ^ 18 → from < 2 ^ 30 → act h c (Jal 0 (jump_offset from to)) ≡ Turn (h.line from) (at_address c (4 * to))
  back_acts c from to at low near small =
      let e : (c.pc + signed_jump (jump_offset from to)) % 2 ^ 64 ≡ 4 * to = ap (λ n. (n + signed_jump (jump_offset from to)) % 2 ^ 64) at ∙ behind_is from to low near small in
      let line : c.pc / 4 ≡ from = omega arith in
      rw (e, whole to, le-ltb c.pc (4 * to) (omega arith)) (ap (λ n. Turn (h.line n) (at_address c (4 * to))) line)

  -- a branch that isn't taken, and one that leads ahead
  pub stays_acts : (c : Cpu) (r offset : ℕ) → c.regs (suc r) ≡ 0 → act h c (Bne (suc r) 0 offset) ≡ Silent (at_address c (c.pc + 4))
  stays_acts c r offset is = rw is refl

  pub leads_acts : (c : Cpu) (r offset from to : ℕ) → c.regs (suc r) ≢ 0 → c.pc ≡ 4 * from → 2 * offset ≡ 4 * (to - from) → from < to → offset < 2 ^ 11 → from < 2 ^ 31 → act h c (Bne (suc r) 0 offset) ≡ Silent (at_address c (4 * to))
  leads_acts c r offset from to other at far low near small =
      let e : (c.pc + signed_branch offset) % 2 ^ 64 ≡ 4 * to = rw (lt-ltb offset (2 ^ 11) near) (omega arith) in
      rw (ne_eqb (c.regs (suc r)) 0 other, e, whole to, lt-ltb c.pc (4 * to) (omega arith)) refl

  pub small_imm : (n : ℕ) → n < 2048 → signed_imm n ≡ n
  small_imm n small = rw (lt-ltb n (2 ^ 11) small) refl

  -- the trap of a kind
  pub record TrapsAt (c : Cpu) (kind line : ℕ) : Type 0 where
    pub last : Cpu
    pub by : Quiets (machine_step h) c last
    pub traps : machine_step h last ≡ Traps kind line

  asks_trap : (c : Cpu) (k kind : ℕ) → c.pc ≡ 4 * k → c.regs 17 ≡ 70 → c.regs 10 ≡ kind → 0 < kind → kind < 12 → act h c Ecall ≡ Traps kind (h.line k)
  asks_trap c k kind at seventeen ten low high =
      let line : c.pc / 4 ≡ k = omega arith in
      rw (seventeen, ten, lt-ltb 0 kind low, lt-ltb kind 12 high) (ap (λ n. Traps kind (h.line n)) line)

  pub trap_goes : (l k kind : ℕ) (c : Cpu) → c.pc ≡ 4 * k → StandsAt h l k (trap_code kind) → 0 < kind → kind < 12 → TrapsAt c kind l
  trap_goes l k kind c at st low high =
      let c1 : Cpu = moves_on c 10 (0 + signed_imm kind) in
      let c2 : Cpu = moves_on c1 17 (0 + signed_imm 70) in
      let at1 : c1.pc ≡ 4 * suc k = omega arith in
      let at2 : c2.pc ≡ 4 * suc (suc k) = omega arith in
      let ten : c2.regs 10 ≡ kind = rw (small_imm kind (omega arith)) (omega arith) in
      let q1 = step_at h k c (Addi 10 0 kind) (Silent c1) at st.0 refl in
      let q2 = step_at h (suc k) c1 (Addi 17 0 70) (Silent c2) at1 st.2.0 refl in
      let q3 = step_at h (suc (suc k)) c2 Ecall (Traps kind (h.line (suc (suc k)))) at2 st.2.2.0 (asks_trap c2 (suc (suc k)) kind at2 refl ten low high) in
      record {
        last = c2;
        by = moves c c1 c2 q1 (moves c1 c2 c2 q2 (stays c2));
        traps = q3 ∙ ap (λ n. Traps kind n) st.2.2.1;
      }
