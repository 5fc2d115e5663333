use Rattle.std.proofs.Common.{◌≡◌, ◌≢◌, ℕ, suc, ◌+◌, ◌*◌, ◌/◌, ◌%◌, ◌^◌, ◌<◌, ◌≤◌, ◌==◌, inl, inr, Bool, true, false, if◌then◌else◌, List, [], ◌∷◌, ◌++◌, length, Option, Some, None, refl, ap, sym, ◌∙◌, subst, arith, length-append, append_assoc}
use Rattle.std.proofs.lemmas.Bool.{eqb-true, eqb-false, ne_eqb}
use Rattle.thread_system.specs.Effect.{Effect, Silent, Reads, Writes, Turn, Calls, Traps}
use Rattle.thread_system.specs.Simulation.{Quiets, stays, moves, Matches}
use Rattle.thread_system.proofs.Carrying.{quiets_append}
use Rattle.mid_code.specs.declared.reg.Reg.{Reg}
use Rattle.mid_code.specs.declared.op.MidOp.{MidOp}
use Rattle.mid_code.specs.declared.op.MidOp.TheVariants.{Const, Copy, Both, Divide, Runtime, Skip, Back, Unless}
use Rattle.mid_code.specs.Operations.{MidCode}
use Rattle.mid_code.specs.Flow.{Among, in_front}
use Rattle.mid_code.specs.Step as mid
use Rattle.mid_code.specs.Step.{MidState, sets, takes, argument, does, mid_step}
use Rattle.rv_isa.specs.declared.inst.Inst.TheVariants.{Jal, Bne, Addi, Ecall}
use Rattle.rv_isa.specs.Words.{signed_imm}
use Rattle.rv_isa.specs.Machine.{Cpu, Machine, moves_on, act, machine_step}
use Rattle.rv_select.specs.Places.{frame_of, fetch_code}
use Rattle.rv_select.specs.Emission.{argument_code, arguments_code, ask_code, answer_code, jump_offset}
use Rattle.rv_select.specs.Standing.{StandsAt}
use Rattle.rv_select.specs.Relation.{Target, IsNear, Selected, Core, CarriesOut}
use Rattle.rv_select.proofs.Straight.{Sets, sets_reg, Straight, halts, onward, appended, step_at, Goes, straight_goes, stands_front, stands_back}
use Rattle.rv_select.proofs.Frames.{Loads}
use Rattle.rv_select.proofs.Places.{Alike, alike_on, alike_none, scratch_low, scratch_argument, scratch_number, sets_alike}
use Rattle.rv_select.proofs.Core.{core_moved, use_runs, rest_gives}
use Rattle.rv_select.proofs.Jumps.{at_address, skip_acts, stays_acts, leads_acts, small_imm}
use Rattle.rv_select.proofs.Cases.{Goal, code_of_op, IsHere, const_matches, copy_matches, both_matches, divide_matches, skip_matches, back_matches, none_matches}

-- Branches and runtime calls, and one step of middle code whatever the operation is.

-- what is among the further ones of a list
among_front : (r : Reg) (a : Option Reg) (rs : List Reg) → Among r rs → Among r (in_front a rs)
among_front r None rs w = w
among_front r (Some q) rs w = inr w

among_first : (r : Reg) (rs : List Reg) → Among r (in_front (Some r) rs)
among_first r rs = inl refl

-- that an argument is among those that are read
abbrev Given : (Reg → Type 0) → Option Reg → Type 0
Given P None = Unit {0}
Given P (Some r) = P r

module _ (h : Machine) (m : MidCode) (t : Target) (known : ℕ → ℕ → Reg → Type 0) (sel : Selected h m t known) where
  argument_runs : (s : MidState) (c c1 : Cpu) (r : ℕ) (a : Option Reg) → Core h m t known s c → Alike (frame_of h s.room) c c1 → suc r ≢ 2 → Given (known s.here.proc s.here.pos) a → Loads h (suc r) (argument s.here.regs a) c1 (argument_code (t.place s.here.proc) (suc r) a)
  argument_runs s c c1 r None g like other given =
      let next : Cpu = moves_on c1 (suc r) (0 + signed_imm 0) in
      (next, onward _ _ c1 next next refl refl (halts next), sets_reg c1 r (0 + signed_imm 0) 0 refl)
  argument_runs s c c1 r (Some a) g like other given = use_runs h m t known sel s c c1 r a g like other given

  record Asked (s : MidState) (c c4 : Cpu) (a b d e : Option Reg) : Type 0 where
    like : Alike (frame_of h s.room) c c4
    ten : c4.regs 10 ≡ argument s.here.regs a
    eleven : c4.regs 11 ≡ argument s.here.regs b
    twelve : c4.regs 12 ≡ argument s.here.regs d
    thirteen : c4.regs 13 ≡ argument s.here.regs e

  -- all four arguments
  arguments_run : (s : MidState) (c : Cpu) (a b d e : Option Reg) → Core h m t known s c → Given (known s.here.proc s.here.pos) a → Given (known s.here.proc s.here.pos) b → Given (known s.here.proc s.here.pos) d → Given (known s.here.proc s.here.pos) e
      → (c4 : Cpu) × Straight h (arguments_code (t.place s.here.proc) a b d e) c c4 × Asked s c c4 a b d e
  arguments_run s c a b d e g ga gb gd ge =
      let f = frame_of h s.room in
      let w1 = argument_runs s c c 9 a g (alike_none f c) (omega arith) ga in
      let c1 : Cpu = w1.0 in
      let l1 : Alike f c c1 = sets_alike f 10 (argument s.here.regs a) c c1 (scratch_argument 10 (omega arith) (omega arith)) w1.2 in
      let w2 = argument_runs s c c1 10 b g l1 (omega arith) gb in
      let c2 : Cpu = w2.0 in
      let l2 : Alike f c c2 = alike_on f c c1 c2 l1 (sets_alike f 11 (argument s.here.regs b) c1 c2 (scratch_argument 11 (omega arith) (omega arith)) w2.2) in
      let w3 = argument_runs s c c2 11 d g l2 (omega arith) gd in
      let c3 : Cpu = w3.0 in
      let l3 : Alike f c c3 = alike_on f c c2 c3 l2 (sets_alike f 12 (argument s.here.regs d) c2 c3 (scratch_argument 12 (omega arith) (omega arith)) w3.2) in
      let w4 = argument_runs s c c3 12 e g l3 (omega arith) ge in
      let c4 : Cpu = w4.0 in
      let s1 : Sets 10 (argument s.here.regs a) c c1 = w1.2 in
      let l4 : Alike f c c4 = alike_on f c c3 c4 l3 (sets_alike f 13 (argument s.here.regs e) c3 c4 (scratch_argument 13 (omega arith) (omega arith)) w4.2) in
      let s2 : Sets 11 (argument s.here.regs b) c1 c2 = w2.2 in
      let s3 : Sets 12 (argument s.here.regs d) c2 c3 = w3.2 in
      let s4 : Sets 13 (argument s.here.regs e) c3 c4 = w4.2 in (
        c4,
        appended h _ _ c c1 c4 w1.1 (appended h _ _ c1 c2 c4 w2.1 (appended h _ _ c2 c3 c4 w3.1 w4.1)),
        record {
          like = l4;
          ten = s4.others 10 (omega arith) ∙ s3.others 10 (omega arith) ∙ s2.others 10 (omega arith) ∙ s1.value;
          eleven = s4.others 11 (omega arith) ∙ s3.others 11 (omega arith) ∙ s2.value;
          twelve = s4.others 12 (omega arith) ∙ s3.value;
          thirteen = s4.value;
        },
      )

  -- the call itself
  asks_are : (c : Cpu) (k n a b d e : ℕ) → c.pc ≡ 4 * k → c.regs 17 ≡ n → n < 70 → c.regs 10 ≡ a → c.regs 11 ≡ b → c.regs 12 ≡ d → c.regs 13 ≡ e
      → act h c Ecall ≡ Calls n (a ∷ (b ∷ (d ∷ (e ∷ [])))) (h.line k) (λ v. moves_on c 10 v)
  asks_are c k n a b d e at seventeen small ten eleven twelve thirteen =
      let line : c.pc / 4 ≡ k = omega arith in
      rw (seventeen, ne_eqb n 70 (λ same. absurd (omega arith)), ten, eleven, twelve, thirteen) (ap (λ i. Calls n (a ∷ (b ∷ (d ∷ (e ∷ [])))) (h.line i) (λ v. moves_on c 10 v)) line)

  -- what the answer does
  answer_kept : (s : MidState) (c c1 : Cpu) (number : ℕ) (a b d e to : Option Reg) (k v : ℕ) → IsHere h m t known sel s (Runtime number a b d e to) → Core h m t known s c → Alike (frame_of h s.room) c c1 → c1.regs 10 ≡ v % 2 ^ 64 → c1.pc ≡ 4 * k
      → StandsAt h (m.line_of s.here.proc s.here.pos) k (answer_code (t.place s.here.proc) to) → t.start s.here.proc (suc s.here.pos) ≡ k + length (answer_code (t.place s.here.proc) to) → CarriesOut h m t known (takes s to (v % 2 ^ 64)) c1
  answer_kept s c c1 number a b d e None k v is g like ten at st end =
      let same : k ≡ t.start s.here.proc (suc s.here.pos) = omega arith in
      (c1, stays c1, core_moved h m t known sel s c c1 (Runtime number a b d e None) (suc s.here.pos) is (inl refl) refl g like (at ∙ ap (λ n. 4 * n) same))
  answer_kept s c c1 number a b d e (Some to) k v is g like ten at st end =
      rest_gives h m t known sel s c c1 (Runtime number a b d e (Some to)) to 9 (v % 2 ^ 64) k is refl (inl refl) g like (omega arith) ten (omega arith) at st end

  runtime_by : (s : MidState) (c : Cpu) (number : ℕ) (a b d e to : Option Reg) → IsHere h m t known sel s (Runtime number a b d e to) → Core h m t known s c → Given (known s.here.proc s.here.pos) a → Given (known s.here.proc s.here.pos) b → Given (known s.here.proc s.here.pos) d → Given (known s.here.proc s.here.pos) e
      → Goal h m t known sel s c (does s (m.line_of s.here.proc s.here.pos) (Some (Runtime number a b d e to)))
  runtime_by s c number a b d e to is g ga gb gd ge =
      let p = s.here.proc in
      let i = s.here.pos in
      let l = m.line_of p i in
      let f = frame_of h s.room in
      let k = t.start p i in
      let args = arguments_code (t.place p) a b d e in
      let rest = answer_code (t.place p) to in
      let op = Runtime number a b d e to in
      let st : StandsAt h l k (args ++ (ask_code number ++ rest)) = subst (λ is. StandsAt h l k is) (append_assoc args (ask_code number) rest) (sel.stands p i op is) in
      let small : number < 70 = sel.lawful p i op is in
      let w = arguments_run s c a b d e g ga gb gd ge in
      let c4 : Cpu = w.0 in
      let asked : Asked s c c4 a b d e = w.2 in
      let to4 = straight_goes h l k args c c4 g.at (stands_front h l k args (ask_code number ++ rest) st) w.1 in
      let k4 = k + length args in
      let st4 = stands_back h l k args (ask_code number ++ rest) st in
      let c5 : Cpu = moves_on c4 17 (0 + signed_imm number) in
      let s5 : Sets 17 number c4 c5 = sets_reg c4 16 (0 + signed_imm number) number (rw (small_imm h number (omega arith)) (omega arith)) in
      let like5 : Alike f c c5 = alike_on f c c4 c5 asked.like (sets_alike f 17 number c4 c5 scratch_number s5) in
      let q5 = step_at h k4 c4 (Addi 17 0 number) (Silent c5) to4.to st4.0 refl in
      let at4 : c4.pc ≡ 4 * k4 = to4.to in
      let at5 : c5.pc ≡ 4 * suc k4 = omega arith in
      let next : ℕ → Cpu = λ v. moves_on c5 10 v in
      let asks = step_at h (suc k4) c5 Ecall _ at5 st4.2.0 (asks_are c5 (suc k4) number (argument s.here.regs a) (argument s.here.regs b) (argument s.here.regs d) (argument s.here.regs e) at5 s5.value small
      (s5.others 10 (omega arith) ∙ asked.ten) (s5.others 11 (omega arith) ∙ asked.eleven) (s5.others 12 (omega arith) ∙ asked.twelve) (s5.others 13 (omega arith) ∙ asked.thirteen)) in
      let calls = asks ∙ ap (λ n. Calls number (argument s.here.regs a ∷ (argument s.here.regs b ∷ (argument s.here.regs d ∷ (argument s.here.regs e ∷ [])))) n next) st4.2.1 in
      let at6 : c5.pc + 4 ≡ 4 * (k4 + 2) = omega arith in
      let place : suc (suc k4) ≡ k4 + 2 = omega arith in
      let st6 : StandsAt h l (k4 + 2) rest = subst (λ n. StandsAt h l n rest) place st4.2.2 in
      let size : length (code_of_op h m t known sel s op) ≡ length args + 2 + length rest = length-append (args ++ ask_code number) rest ∙ ap (λ n. n + length rest) (length-append args (ask_code number)) in
      let end : t.start p (suc i) ≡ k4 + 2 + length rest = sel.next p i op is ∙ omega arith in
      let by = quiets_append (machine_step h) c c4 c5 to4.by (moves c4 c5 c5 q5 (stays c5)) in
      (c5, next, by, calls, λ v. answer_kept s c (next v) number a b d e to (k4 + 2) v is g (alike_on f c c5 (next v) like5 (sets_alike f 10 (v % 2 ^ 64) c5 (next v) (scratch_argument 10 (omega arith) (omega arith)) (sets_reg c5 9 v _ refl))) refl at6 st6 end)

  given : (P : Reg → Type 0) (a : Option Reg) → ((r : Reg) → a ≡ Some r → P r) → Given P a
  given P None all = tt
  given P (Some r) all = all r refl

  in_list : (r : Reg) (a : Option Reg) (rs : List Reg) → a ≡ Some r → Among r (in_front a rs)
  in_list r a rs e = subst (λ q. Among r (in_front q rs)) (sym e) (among_first r rs)

  runtime_matches : (s : MidState) (c : Cpu) (number : ℕ) (a b d e to : Option Reg) → IsHere h m t known sel s (Runtime number a b d e to) → Core h m t known s c → Goal h m t known sel s c (does s (m.line_of s.here.proc s.here.pos) (Some (Runtime number a b d e to)))
  runtime_matches s c number a b d e to is g =
      let reads = (sel.flows s.here.proc s.here.pos (Runtime number a b d e to) is).reads in
      let P : Reg → Type 0 = known s.here.proc s.here.pos in
      runtime_by s c number a b d e to is g
      (given P a (λ r x. reads r (in_list r a (in_front b (in_front d (in_front e []))) x)))
      (given P b (λ r x. reads r (among_front r a (in_front b (in_front d (in_front e []))) (in_list r b (in_front d (in_front e [])) x))))
      (given P d (λ r x. reads r (among_front r a (in_front b (in_front d (in_front e []))) (among_front r b (in_front d (in_front e [])) (in_list r d (in_front e []) x)))))
      (given P e (λ r x. reads r (among_front r a (in_front b (in_front d (in_front e []))) (among_front r b (in_front d (in_front e [])) (among_front r d (in_front e []) (in_list r e [] x))))))

  -- a branch: past the jump where the register isn't 0, else by the jump
  unless_by : (test : Bool) (s : MidState) (c c1 : Cpu) (a : Reg) (j k : ℕ) → (s.here.regs a == 0) ≡ test → IsHere h m t known sel s (Unless a j) → Core h m t known s c → Goes h c k c1 → Alike (frame_of h s.room) c c1 → c1.regs 5 ≡ s.here.regs a
      → StandsAt h (m.line_of s.here.proc s.here.pos) k (Bne 5 0 4 ∷ (Jal 0 (jump_offset (k + 1) (t.start s.here.proc j)) ∷ [])) → t.start s.here.proc (suc s.here.pos) ≡ k + 2 → t.start s.here.proc s.here.pos ≤ k
      → Goal h m t known sel s c (Silent (mid.moves s (if test then j else suc s.here.pos)))
  unless_by true s c c1 a j k e is g to like five st end from =
      let p = s.here.proc in
      let i = s.here.pos in
      let ahead : i < j = sel.lawful p i (Unless a j) is in
      let near : IsNear (t.start p i) (t.start p j) = sel.near p i j (Unless a j) is refl in
      let rises : t.start p (suc i) ≤ t.start p j = sel.rising p (suc i) j ahead in
      let at1 : c1.pc ≡ 4 * k = to.to in
      let c2 : Cpu = at_address c1 (c1.pc + 4) in
      let zero_is : c1.regs 5 ≡ 0 = five ∙ eqb-true (s.here.regs a) 0 e in
      let q2 = step_at h k c1 (Bne 5 0 4) (Silent c2) at1 st.0 (stays_acts h c1 4 4 zero_is) in
      let at2 : c2.pc ≡ 4 * (k + 1) = omega arith in
      let c3 : Cpu = at_address c2 (4 * t.start p j) in
      let place : suc k ≡ k + 1 = omega arith in
      let st2 : h.fetch (k + 1) ≡ Some (Jal 0 (jump_offset (k + 1) (t.start p j))) = subst (λ n. h.fetch n ≡ Some (Jal 0 (jump_offset (k + 1) (t.start p j)))) place st.2.0 in
      let near_by : t.start p j < k + 1 + 2 ^ 18 = let n = near.ahead in omega arith in
      let low : k + 1 < t.start p j = omega arith in
      let q3 = step_at h (k + 1) c2 _ (Silent c3) at2 st2 (skip_acts h c2 (k + 1) (t.start p j) at2 low near_by (sel.within p j)) in
      let like3 : Alike (frame_of h s.room) c c3 = alike_on (frame_of h s.room) c c1 c3 like (record { frame = refl; real = λ q r. refl; words = λ a u. refl }) in
      let core = core_moved h m t known sel s c c3 (Unless a j) j is (inl refl) refl g like3 refl in
      (c3, quiets_append (machine_step h) c c1 c3 to.by (moves c1 c2 c3 q2 (moves c2 c3 c3 q3 (stays c3))), (c3, stays c3, core))
  unless_by false s c c1 a j k e is g to like five st end from =
      let p = s.here.proc in
      let i = s.here.pos in
      let at1 : c1.pc ≡ 4 * k = to.to in
      let some : c1.regs 5 ≢ 0 = λ z. eqb-false (s.here.regs a) 0 e (sym five ∙ z) in
      let c2 : Cpu = at_address c1 (4 * (k + 2)) in
      let within = sel.within p (suc i) in
      let q2 = step_at h k c1 (Bne 5 0 4) (Silent c2) at1 st.0 (leads_acts h c1 4 4 k (k + 2) some at1 (omega arith) (omega arith) (omega arith) (omega arith)) in
      let like2 : Alike (frame_of h s.room) c c2 = alike_on (frame_of h s.room) c c1 c2 like (record { frame = refl; real = λ q r. refl; words = λ a u. refl }) in
      let core = core_moved h m t known sel s c c2 (Unless a j) (suc i) is (inr (inl refl)) refl g like2 (ap (λ n. 4 * n) (sym end)) in
      (c2, quiets_append (machine_step h) c c1 c2 to.by (moves c1 c2 c2 q2 (stays c2)), (c2, stays c2, core))

  unless_matches : (s : MidState) (c : Cpu) (a : Reg) (j : ℕ) → IsHere h m t known sel s (Unless a j) → Core h m t known s c → Goal h m t known sel s c (does s (m.line_of s.here.proc s.here.pos) (Some (Unless a j)))
  unless_matches s c a j is g =
      let p = s.here.proc in
      let i = s.here.pos in
      let l = m.line_of p i in
      let f = frame_of h s.room in
      let k = t.start p i in
      let pre = fetch_code 5 (t.place p a) in
      let end_code = Bne 5 0 4 ∷ (Jal 0 (jump_offset (k + length pre + 1) (t.start p j)) ∷ []) in
      let st = sel.stands p i (Unless a j) is in
      let ka = (sel.flows p i (Unless a j) is).reads a (inl refl) in
      let w = use_runs h m t known sel s c c 4 a g (alike_none f c) (omega arith) ka in
      let to = straight_goes h l k pre c w.0 g.at (stands_front h l k pre end_code st) w.1 in
      let like : Alike f c w.0 = sets_alike f 5 (s.here.regs a) c w.0 (scratch_low 5 (omega arith) (omega arith)) w.2 in
      let size : length (code_of_op h m t known sel s (Unless a j)) ≡ length pre + 2 = length-append pre end_code in
      let end : t.start p (suc i) ≡ k + length pre + 2 = sel.next p i (Unless a j) is ∙ omega arith in
      unless_by (s.here.regs a == 0) s c w.0 a j (k + length pre) refl is g to like w.2.value (stands_back h l k pre end_code st) end (omega arith)

  -- whatever stands at the thread's position
  core_matches : (s : MidState) (c : Cpu) (o : Option MidOp) → m.op_at s.here.proc s.here.pos ≡ o → Core h m t known s c → Goal h m t known sel s c (does s (m.line_of s.here.proc s.here.pos) o)
  core_matches s c None is g = none_matches h m t known sel s c is g
  core_matches s c (Some (Const d n)) is g = const_matches h m t known sel s c d n is g
  core_matches s c (Some (Copy d a)) is g = copy_matches h m t known sel s c d a is g
  core_matches s c (Some (Both op d a b)) is g = both_matches h m t known sel s c op d a b is g
  core_matches s c (Some (Divide op d a b)) is g = divide_matches h m t known sel s c op d a b is g
  core_matches s c (Some (Runtime n a b d e to)) is g = runtime_matches s c n a b d e to is g
  core_matches s c (Some (Skip j)) is g = skip_matches h m t known sel s c j is g
  core_matches s c (Some (Back j)) is g = back_matches h m t known sel s c j is g
  core_matches s c (Some (Unless a j)) is g = unless_matches s c a j is g

  -- silent steps in front of what matches
  quiets_before : (e : Effect MidState) (c c1 : Cpu) → Quiets (machine_step h) c c1 → Matches (CarriesOut h m t known) (machine_step h) e c1 → Matches (CarriesOut h m t known) (machine_step h) e c
  quiets_before (Silent next) c c1 q w = (w.0, quiets_append (machine_step h) c c1 w.0 q w.1, w.2)
  quiets_before (Reads a n l next) c c1 q w = (w.0, w.1, quiets_append (machine_step h) c c1 w.0 q w.2, w.3, w.4)
  quiets_before (Writes a n v l next) c c1 q w = (w.0, w.1, quiets_append (machine_step h) c c1 w.0 q w.2, w.3, w.4)
  quiets_before (Turn l next) c c1 q w = (w.0, w.1, quiets_append (machine_step h) c c1 w.0 q w.2, w.3, w.4)
  quiets_before (Calls n args l next) c c1 q w = (w.0, w.1, quiets_append (machine_step h) c c1 w.0 q w.2, w.3, w.4)
  quiets_before (Traps kind l) c c1 q w = (w.0, quiets_append (machine_step h) c c1 w.0 q w.1, w.2)

  -- A step of middle code is matched by the machine.
  pub step_matches : (s : MidState) (c : Cpu) → CarriesOut h m t known s c → Matches (CarriesOut h m t known) (machine_step h) (mid_step m s) c
  step_matches s c r = quiets_before (mid_step m s) c r.0 r.1 (core_matches s r.0 (m.op_at s.here.proc s.here.pos) refl r.2)
