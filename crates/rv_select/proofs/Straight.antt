use Rattle.std.proofs.Common.{◌≡◌, ◌≢◌, ℕ, suc, ◌+◌, ◌*◌, ◌/◌, ◌%◌, ◌^◌, ◌==◌, true, List, [], ◌∷◌, ◌++◌, length, Some, refl, ◌∙◌, subst, arith}
use Rattle.std.proofs.lemmas.Bool.{eq-eqb, ne_eqb}
use Rattle.thread_system.specs.Effect.{Effect, Silent}
use Rattle.thread_system.specs.Simulation.{Quiets, stays, moves}
use Rattle.rv_isa.specs.declared.inst.Inst.{Inst}
use Rattle.rv_isa.specs.Machine.{Cpu, Machine, moves_on, act, machine_step}
use Rattle.rv_select.specs.Standing.{StandsAt}

-- Code without jumps, wherever it stands.

-- one register has a value, and all else but the place is as before
pub record Sets (r x : ℕ) (c next : Cpu) : Type 0 where
  pub value : next.regs r ≡ x
  pub others : (q : ℕ) → q ≢ r → next.regs q ≡ c.regs q
  pub bytes : next.bytes ≡ c.bytes

pub sets_reg : (c : Cpu) (r v x : ℕ) → v % 2 ^ 64 ≡ x → Sets (suc r) x c (moves_on c (suc r) v)
sets_reg c r v x is = record {
  value = rw (eq-eqb (suc r) (suc r) refl) is;
  others = λ q other. rw (ne_eqb q (suc r) other) refl;
  bytes = refl;
}

pub sets_twice : (r x y : ℕ) (c d e : Cpu) → Sets r x c d → Sets r y d e → Sets r y c e
sets_twice r x y c d e s t = record {
  value = t.value;
  others = λ q other. t.others q other ∙ s.others q other;
  bytes = t.bytes ∙ s.bytes;
}

module _ (h : Machine) where
  -- instructions that each go on to the next, carried out one after another
  pub data Straight : List Inst → Cpu → Cpu → Type 0 where
    halts : (c : Cpu) → Straight [] c c
    onward : (i : Inst) (is : List Inst) (c next last : Cpu) → act h c i ≡ Silent next → next.pc ≡ c.pc + 4 → Straight is next last → Straight (i ∷ is) c last

  pub appended : (a b : List Inst) (c d e : Cpu) → Straight a c d → Straight b d e → Straight (a ++ b) c e
  appended _ b _ _ e (halts c) more = more
  appended _ b _ d e (onward i is c next _ does at rest) more = onward i (is ++ b) c next e does at (appended is b next d e rest more)

  -- the step of an instruction that stands at a place
  pub step_at : (k : ℕ) (c : Cpu) (i : Inst) (e : Effect Cpu) → c.pc ≡ 4 * k → h.fetch k ≡ Some i → act h c i ≡ e → machine_step h c ≡ e
  step_at k c i e at is does =
      let whole : (c.pc % 4 == 0) ≡ true = eq-eqb (c.pc % 4) 0 (omega arith) in
      let place : c.pc / 4 ≡ k = omega arith in
      rw (whole, place, is) does

  -- silent steps to a place
  pub record Goes (c : Cpu) (k : ℕ) (last : Cpu) : Type 0 where
    pub by : Quiets (machine_step h) c last
    pub to : last.pc ≡ 4 * k

  pub straight_goes : (l k : ℕ) (is : List Inst) (c last : Cpu) → c.pc ≡ 4 * k → StandsAt h l k is → Straight is c last → Goes c (k + length is) last
  straight_goes l k _ c _ at st (halts _) = record { by = stays c; to = omega arith }
  straight_goes l k _ c last at st (onward i is _ next _ does on_to rest) =
      let at1 : next.pc ≡ 4 * suc k = omega arith in
      let g = straight_goes l (suc k) is next last at1 st.2 rest in
      let g_to : last.pc ≡ 4 * (suc k + length is) = g.to in
      record { by = moves c next last (step_at k c i (Silent next) at st.0 does) g.by; to = omega arith }

  pub stands_front : (l k : ℕ) (is js : List Inst) → StandsAt h l k (is ++ js) → StandsAt h l k is
  stands_front l k [] js s = tt
  stands_front l k (i ∷ is) js s = (s.0, s.1, stands_front l (suc k) is js s.2)

  pub stands_back : (l k : ℕ) (is js : List Inst) → StandsAt h l k (is ++ js) → StandsAt h l (k + length is) js
  stands_back l k [] js s = subst (λ n. StandsAt h l n js) (let e : k ≡ k + 0 = omega arith in e) s
  stands_back l k (i ∷ is) js s = subst (λ n. StandsAt h l n js) (let e : suc k + length is ≡ k + suc (length is) = omega arith in e) (stands_back l (suc k) is js s.2)
