use Rattle.std.proofs.Common.{◌≡◌, ◌≢◌, ℕ, suc, ◌+◌, ◌*◌, ◌%◌, ◌^◌, ◌<◌, ◌≤◌, ◌==◌, inl, inr, Bool, true, false, if◌then◌else◌, List, [], ◌∷◌, ◌++◌, length, Some, None, refl, ap, sym, ◌∙◌, subst, arith, length-append, append_assoc, ◌/◌}
use Rattle.std.proofs.lemmas.Bool.{eqb-true, eqb-false}
use Rattle.thread_system.specs.Effect.{Effect, Silent, Turn, Traps}
use Rattle.thread_system.specs.Simulation.{Quiets, stays, moves, Matches}
use Rattle.thread_system.proofs.Carrying.{quiets_append}
use Rattle.mid_code.specs.declared.reg.Reg.{Reg}
use Rattle.mid_code.specs.declared.op.WordOp.{WordOp}
use Rattle.mid_code.specs.declared.op.Division.{Division}
use Rattle.mid_code.specs.declared.op.MidOp.{MidOp}
use Rattle.mid_code.specs.declared.op.MidOp.TheVariants.{Const, Copy, Both, Divide, Skip, Back}
use Rattle.mid_code.specs.Operations.{MidCode, combined, divided}
use Rattle.mid_code.specs.Flow.{Among, writes_of, nexts_of}
use Rattle.mid_code.specs.Step as mid
use Rattle.mid_code.specs.Step.{Activation, MidState, sets, takes, argument, does, mid_step}
use Rattle.rv_isa.specs.declared.inst.Inst.{Inst}
use Rattle.rv_isa.specs.declared.inst.Inst.TheVariants.{Bne, Ebreak}
use Rattle.rv_isa.specs.Machine.{Cpu, Machine, machine_step}
use Rattle.rv_select.specs.Places.{frame_of, fetch_code, keep_code}
use Rattle.rv_select.specs.Emission.{const_code, two_code, word_op_code, division_inst, zero_test, op_code}
use Rattle.rv_select.specs.Standing.{StandsAt}
use Rattle.rv_select.specs.Relation.{Target, IsNear, Selected, Core, CarriesOut}
use Rattle.rv_select.proofs.Straight.{Straight, appended, step_at, Goes, straight_goes, stands_front, stands_back}
use Rattle.rv_select.proofs.Places.{Alike, alike_on, alike_none, scratch_low, sets_alike}
use Rattle.rv_select.proofs.Core.{core_moved, use_runs, HasTwo, two_runs, rest_gives}
use Rattle.rv_select.proofs.Jumps.{at_address, skip_acts, back_acts, stays_acts, leads_acts, trap_goes}
use Rattle.rv_select.proofs.Constants.{const_runs}
use Rattle.rv_select.proofs.Operators.{combined_small, divided_small, word_op_runs, division_runs}

-- One step of middle code, operation by operation.

module _ (h : Machine) (m : MidCode) (t : Target) (known : ℕ → ℕ → Reg → Type 0) (sel : Selected h m t known) where
  abbrev pub Goal : MidState → Cpu → Effect MidState → Type 0
  Goal s c e = Matches (CarriesOut h m t known) (machine_step h) e c

  abbrev pub code_of_op : MidState → MidOp → List Inst
  code_of_op s op = op_code (t.place s.here.proc) (t.start s.here.proc) s.here.pos op

  abbrev pub IsHere : MidState → MidOp → Type 0
  IsHere s op = m.op_at s.here.proc s.here.pos ≡ Some op

  -- An operation whose code leaves a value in register 5, and then keeps it.
  value_kept : (s : MidState) (c c1 : Cpu) (op : MidOp) (d : Reg) (x : ℕ) (pre : List Inst) → IsHere s op → code_of_op s op ≡ pre ++ keep_code (t.place s.here.proc d) 5 → writes_of op ≡ Some d → Among (suc s.here.pos) (nexts_of s.here.pos op)
      → Core h m t known s c → Straight h pre c c1 → Alike (frame_of h s.room) c c1 → c1.regs 5 ≡ x → x < 2 ^ 64 → Goal s c (Silent (sets s d x))
  value_kept s c c1 op d x pre is code writes nexts g run like five small =
      let p = s.here.proc in
      let i = s.here.pos in
      let l = m.line_of p i in
      let keep = keep_code (t.place p d) 5 in
      let st : StandsAt h l (t.start p i) (pre ++ keep) = subst (λ is. StandsAt h l (t.start p i) is) code (sel.stands p i op is) in
      let to = straight_goes h l (t.start p i) pre c c1 g.at (stands_front h l (t.start p i) pre keep st) run in
      let size : length (code_of_op s op) ≡ length pre + length keep = ap length code ∙ length-append pre keep in
      let end : t.start p (suc i) ≡ t.start p i + length pre + length keep = sel.next p i op is ∙ omega arith in
      let w = rest_gives h m t known sel s c c1 op d 4 x (t.start p i + length pre) is writes nexts g like (omega arith) five small to.to (stands_back h l (t.start p i) pre keep st) end in
      (c1, to.by, w)

  pub const_matches : (s : MidState) (c : Cpu) (d : Reg) (n : ℕ) → IsHere s (Const d n) → Core h m t known s c → Goal s c (Silent (sets s d (n % 2 ^ 64)))
  const_matches s c d n is g =
      let w = const_runs h 4 n c in
      value_kept s c w.0 (Const d n) d (n % 2 ^ 64) (const_code 5 n) is refl refl (inl refl) g w.1
      (sets_alike (frame_of h s.room) 5 (n % 2 ^ 64) c w.0 (scratch_low 5 (omega arith) (omega arith)) w.2) w.2.value (omega arith)

  pub copy_matches : (s : MidState) (c : Cpu) (d a : Reg) → IsHere s (Copy d a) → Core h m t known s c → Goal s c (Silent (sets s d (s.here.regs a)))
  copy_matches s c d a is g =
      let f = frame_of h s.room in
      let ka = (sel.flows s.here.proc s.here.pos (Copy d a) is).reads a (inl refl) in
      let w = use_runs h m t known sel s c c 4 a g (alike_none f c) (omega arith) ka in
      value_kept s c w.0 (Copy d a) d (s.here.regs a) (fetch_code 5 (t.place s.here.proc a)) is refl refl (inl refl) g w.1
      (sets_alike f 5 (s.here.regs a) c w.0 (scratch_low 5 (omega arith) (omega arith)) w.2) w.2.value (g.small a)

  pub both_matches : (s : MidState) (c : Cpu) (op : WordOp) (d a b : Reg) → IsHere s (Both op d a b) → Core h m t known s c → Goal s c (Silent (sets s d (combined op (s.here.regs a) (s.here.regs b))))
  both_matches s c op d a b is g =
      let f = frame_of h s.room in
      let x = s.here.regs a in
      let y = s.here.regs b in
      let fl = sel.flows s.here.proc s.here.pos (Both op d a b) is in
      let w = two_runs h m t known sel s c a b g (fl.reads a (inl refl)) (fl.reads b (inr (inl refl))) in
      let has : HasTwo h m t known sel f x y c w.0 = w.2 in
      let u = word_op_runs h op w.0 x y has.five has.six (g.small a) (g.small b) in
      let like : Alike f c u.0 = alike_on f c w.0 u.0 has.like (sets_alike f 5 (combined op x y) w.0 u.0 (scratch_low 5 (omega arith) (omega arith)) u.2) in
      value_kept s c u.0 (Both op d a b) d (combined op x y) (two_code (t.place s.here.proc a) (t.place s.here.proc b) ++ word_op_code op) is refl refl (inl refl) g
      (appended h _ _ c w.0 u.0 w.1 u.1) like u.2.value (combined_small op x y)

  -- a divisor that is 0
  divide_traps : (s : MidState) (c c1 : Cpu) (k : ℕ) (l : ℕ) → c1.pc ≡ 4 * k → Quiets (machine_step h) c c1 → c1.regs 6 ≡ 0 → StandsAt h l k zero_test → Goal s c (Traps mid.div_zero l)
  divide_traps s c c1 k l at by six st =
      let c2 : Cpu = at_address c1 (c1.pc + 4) in
      let q = step_at h k c1 (Bne 6 0 8) (Silent c2) at st.0 (stays_acts h c1 5 8 six) in
      let w = trap_goes h l (suc k) 3 c2 (omega arith) st.2 (omega arith) (omega arith) in
      (w.last, quiets_append (machine_step h) c c1 w.last by (moves c1 c2 w.last q w.by), w.traps)

  -- another one: the branch leads around the trap, to the division
  divide_goes : (s : MidState) (c c1 : Cpu) (op : Division) (d a b : Reg) (k : ℕ) → IsHere s (Divide op d a b) → Core h m t known s c → Goes h c k c1 → HasTwo h m t known sel (frame_of h s.room) (s.here.regs a) (s.here.regs b) c c1 → s.here.regs b ≢ 0
      → StandsAt h (m.line_of s.here.proc s.here.pos) k (zero_test ++ (division_inst op ∷ keep_code (t.place s.here.proc d) 5)) → k < 2 ^ 31
      → t.start s.here.proc (suc s.here.pos) ≡ k + 5 + length (keep_code (t.place s.here.proc d) 5) → Goal s c (Silent (sets s d (divided op (s.here.regs a) (s.here.regs b))))
  divide_goes s c c1 op d a b k is g to has other st small end =
      let l = m.line_of s.here.proc s.here.pos in
      let f = frame_of h s.room in
      let x = s.here.regs a in
      let y = s.here.regs b in
      let at1 : c1.pc ≡ 4 * k = to.to in
      let c2 : Cpu = at_address c1 (4 * (k + 4)) in
      let some : c1.regs 6 ≢ 0 = λ e. other (sym has.six ∙ e) in
      let q = step_at h k c1 (Bne 6 0 8) (Silent c2) at1 st.0 (leads_acts h c1 5 8 k (k + 4) some at1 (omega arith) (omega arith) (omega arith) small) in
      let rest = stands_back h l k zero_test (division_inst op ∷ keep_code (t.place s.here.proc d) 5) st in
      let u = division_runs h op c2 x y has.five has.six other in
      let run = straight_goes h l (k + 4) (division_inst op ∷ []) c2 u.0 refl (rest.0, rest.1, tt) u.1 in
      let place : k + 4 + 1 ≡ k + 5 = omega arith in
      let to5 : suc (k + 4) ≡ k + 5 = omega arith in
      let like2 : Alike f c1 c2 = record { frame = refl; real = λ q r. refl; words = λ a u. refl } in
      let like : Alike f c u.0 = alike_on f c c1 u.0 has.like (alike_on f c1 c2 u.0 like2 (sets_alike f 5 (divided op x y) c2 u.0 (scratch_low 5 (omega arith) (omega arith)) u.2)) in
      let at5 : u.0.pc ≡ 4 * (k + 5) = run.to ∙ ap (λ n. 4 * n) place in
      let keeps : StandsAt h l (k + 5) (keep_code (t.place s.here.proc d) 5) = subst (λ n. StandsAt h l n (keep_code (t.place s.here.proc d) 5)) to5 rest.2 in
      let w = rest_gives h m t known sel s c u.0 (Divide op d a b) d 4 (divided op x y) (k + 5) is refl (inl refl) g like (omega arith) u.2.value (divided_small op x y) at5 keeps end in
      (u.0, quiets_append (machine_step h) c c1 u.0 to.by (moves c1 c2 u.0 q run.by), w)

  divide_by : (test : Bool) (s : MidState) (c c1 : Cpu) (op : Division) (d a b : Reg) (k : ℕ) → (s.here.regs b == 0) ≡ test → IsHere s (Divide op d a b) → Core h m t known s c → Goes h c k c1 → HasTwo h m t known sel (frame_of h s.room) (s.here.regs a) (s.here.regs b) c c1
      → StandsAt h (m.line_of s.here.proc s.here.pos) k (zero_test ++ (division_inst op ∷ keep_code (t.place s.here.proc d) 5)) → k < 2 ^ 31
      → t.start s.here.proc (suc s.here.pos) ≡ k + 5 + length (keep_code (t.place s.here.proc d) 5)
      → Goal s c (if test then Traps mid.div_zero (m.line_of s.here.proc s.here.pos) else Silent (sets s d (divided op (s.here.regs a) (s.here.regs b))))
  divide_by true s c c1 op d a b k e is g to has st small end =
      divide_traps s c c1 k (m.line_of s.here.proc s.here.pos) to.to to.by (has.six ∙ eqb-true (s.here.regs b) 0 e) (stands_front h (m.line_of s.here.proc s.here.pos) k zero_test (division_inst op ∷ keep_code (t.place s.here.proc d) 5) st)
  divide_by false s c c1 op d a b k e is g to has st small end =
      divide_goes s c c1 op d a b k is g to has (eqb-false (s.here.regs b) 0 e) st small end

  pub divide_matches : (s : MidState) (c : Cpu) (op : Division) (d a b : Reg) → IsHere s (Divide op d a b) → Core h m t known s c → Goal s c (does s (m.line_of s.here.proc s.here.pos) (Some (Divide op d a b)))
  divide_matches s c op d a b is g =
      let p = s.here.proc in
      let i = s.here.pos in
      let l = m.line_of p i in
      let fl = sel.flows p i (Divide op d a b) is in
      let pre = two_code (t.place p a) (t.place p b) in
      let keep = keep_code (t.place p d) 5 in
      let k = t.start p i in
      let st : StandsAt h l k (pre ++ (zero_test ++ (division_inst op ∷ keep))) = subst (λ is. StandsAt h l k is) (append_assoc pre zero_test (division_inst op ∷ keep)) (sel.stands p i (Divide op d a b) is) in
      let w = two_runs h m t known sel s c a b g (fl.reads a (inl refl)) (fl.reads b (inr (inl refl))) in
      let to = straight_goes h l k pre c w.0 g.at (stands_front h l k pre (zero_test ++ (division_inst op ∷ keep)) st) w.1 in
      let size : length (code_of_op s (Divide op d a b)) ≡ length pre + 4 + suc (length keep) = length-append (pre ++ zero_test) (division_inst op ∷ keep) ∙ ap (λ n. n + suc (length keep)) (length-append pre zero_test) in
      let next = sel.next p i (Divide op d a b) is in
      let small : k + length pre < 2 ^ 31 = omega (arith, sel.within p (suc i)) in
      let end : t.start p (suc i) ≡ k + length pre + 5 + length keep = omega arith in
      divide_by (s.here.regs b == 0) s c w.0 op d a b (k + length pre) refl is g to w.2 (stands_back h l k pre (zero_test ++ (division_inst op ∷ keep)) st) small end

  pub skip_matches : (s : MidState) (c : Cpu) (j : ℕ) → IsHere s (Skip j) → Core h m t known s c → Goal s c (Silent (mid.moves s j))
  skip_matches s c j is g =
      let p = s.here.proc in
      let i = s.here.pos in
      let ahead : i < j = sel.lawful p i (Skip j) is in
      let near : IsNear (t.start p i) (t.start p j) = sel.near p i j (Skip j) is refl in
      let rises : t.start p (suc i) ≤ t.start p j = sel.rising p (suc i) j ahead in
      let size : t.start p (suc i) ≡ t.start p i + 1 = sel.next p i (Skip j) is in
      let low : t.start p i < t.start p j = omega arith in
      let c1 : Cpu = at_address c (4 * t.start p j) in
      let q = step_at h (t.start p i) c _ (Silent c1) g.at (sel.stands p i (Skip j) is).0 (skip_acts h c (t.start p i) (t.start p j) g.at low near.ahead (sel.within p j)) in
      let core = core_moved h m t known sel s c c1 (Skip j) j is (inl refl) refl g (record { frame = refl; real = λ q r. refl; words = λ a u. refl }) refl in
      (c1, moves c c1 c1 q (stays c1), (c1, stays c1, core))

  pub back_matches : (s : MidState) (c : Cpu) (j : ℕ) → IsHere s (Back j) → Core h m t known s c → Goal s c (Turn (m.line_of s.here.proc s.here.pos) (mid.moves s j))
  back_matches s c j is g =
      let p = s.here.proc in
      let i = s.here.pos in
      let behind : j ≤ i = sel.lawful p i (Back j) is in
      let near : IsNear (t.start p i) (t.start p j) = sel.near p i j (Back j) is refl in
      let low : t.start p j ≤ t.start p i = sel.rising p j i behind in
      let c1 : Cpu = at_address c (4 * t.start p j) in
      let st = sel.stands p i (Back j) is in
      let q = step_at h (t.start p i) c _ _ g.at st.0 (back_acts h c (t.start p i) (t.start p j) g.at low near.behind (sel.within p i)) in
      let turns : machine_step h c ≡ Turn (m.line_of p i) c1 = q ∙ ap (λ n. Turn n c1) st.1 in
      let core = core_moved h m t known sel s c c1 (Back j) j is (inl refl) refl g (record { frame = refl; real = λ q r. refl; words = λ a u. refl }) refl in
      (c, c1, stays c, turns, (c1, stays c1, core))

  pub none_matches : (s : MidState) (c : Cpu) → m.op_at s.here.proc s.here.pos ≡ None → Core h m t known s c → Goal s c (Traps mid.bad_code (m.line_of s.here.proc s.here.pos))
  none_matches s c is g =
      let p = s.here.proc in
      let i = s.here.pos in
      let st = sel.ends p i g.there is in
      let line : c.pc / 4 ≡ t.start p i = omega (arith, g.at) in
      (c, stays c, step_at h (t.start p i) c Ebreak _ g.at st.0 (ap (λ n. Traps mid.bad_code (h.line n)) line) ∙ ap (λ n. Traps mid.bad_code n) st.1)
