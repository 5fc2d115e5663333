use Rattle.std.proofs.Common.{◌≡◌, ◌≢◌, ℕ, suc, ◌+◌, ◌-◌, ◌*◌, ◌/◌, ◌%◌, ◌^◌, ◌<◌, ◌≤◌, Bool, true, false, nat_lt, if◌then◌else◌, List, [], ◌∷◌, refl, ap, sym, ◌∙◌, arith}
use Rattle.std.proofs.lemmas.Bool.{lt-ltb, le-ltb, ltb-true, ltb-false}
use Rattle.thread_system.specs.Effect.{Silent}
use Rattle.word64.specs.Words.{extend}
use Rattle.rv_isa.specs.declared.inst.Inst.{Inst}
use Rattle.rv_isa.specs.declared.inst.Inst.TheVariants.{Ld, Sd, Lui, Add}
use Rattle.rv_isa.specs.Words.{signed_imm, signed_upper, loaded, stored}
use Rattle.rv_isa.specs.Machine.{Cpu, Machine, reg_at, moves_on, address, on_stack, act}
use Rattle.rv_select.specs.Places.{load_code, store_code}
use Rattle.rv_select.proofs.Memory.{extend_word}
use Rattle.rv_select.proofs.Straight.{Sets, sets_reg, sets_twice, Straight, halts, onward}

-- Words of the own stack, near and far from register 2.

-- the state behind a store
abbrev pub put_word : Cpu → ℕ → ℕ → Cpu
put_word c a v = record { pc = c.pc + 4; regs = c.regs; bytes = stored c.bytes a 8 v }

-- the parts of a far offset
far_is : (off : ℕ) → off < 2 ^ 22 → (r2 : ℕ) → r2 < 2 ^ 63 → ((signed_upper ((off + 2048) / 4096) % 2 ^ 64 + r2) % 2 ^ 64 + signed_imm (off % 4096)) % 2 ^ 64 ≡ r2 + off
far_is off small r2 low = by_upper (nat_lt ((off + 2048) / 4096) (2 ^ 19)) refl where
  by_imm : (t : Bool) → nat_lt (off % 4096) (2 ^ 11) ≡ t → ((4096 * ((off + 2048) / 4096) % 2 ^ 64 + r2) % 2 ^ 64 + (if t then off % 4096 else off % 4096 + (2 ^ 64 - 2 ^ 12))) % 2 ^ 64 ≡ r2 + off
  by_imm true e = let l : off % 4096 < 2 ^ 11 = ltb-true _ _ e in omega arith
  by_imm false e = let l : 2 ^ 11 ≤ off % 4096 = ltb-false _ _ e in omega arith

  by_upper : (t : Bool) → nat_lt ((off + 2048) / 4096) (2 ^ 19) ≡ t → ((signed_upper ((off + 2048) / 4096) % 2 ^ 64 + r2) % 2 ^ 64 + signed_imm (off % 4096)) % 2 ^ 64 ≡ r2 + off
  by_upper true e = rw e (by_imm (nat_lt (off % 4096) (2 ^ 11)) refl)
  by_upper false e = let l : 2 ^ 19 ≤ (off + 2048) / 4096 = ltb-false _ _ e in absurd (omega arith)

module _ (h : Machine) where
  -- whether eight bytes lie in the own stack
  on_own : (a : ℕ) → h.low ≤ a → a + 8 ≤ h.low + 2 ^ 32 → on_stack h a 8 ≡ true
  on_own a above below = rw (le-ltb a h.low above, lt-ltb (a + 8) (h.low + (2 ^ 32 + 1)) (omega arith)) refl

  pub ld_acts : (c : Cpu) (rd rs1 imm a : ℕ) → address c rs1 imm ≡ a → h.low ≤ a → a + 8 ≤ h.low + 2 ^ 32 → act h c (Ld rd rs1 imm) ≡ Silent (moves_on c rd (extend 8 false (loaded c.bytes a 8)))
  ld_acts c rd rs1 imm a is above below = rw (is, on_own a above below) refl

  pub sd_acts : (c : Cpu) (rs1 rs2 imm a : ℕ) → address c rs1 imm ≡ a → h.low ≤ a → a + 8 ≤ h.low + 2 ^ 32 → act h c (Sd rs1 rs2 imm) ≡ Silent (put_word c a (reg_at c.regs rs2))
  sd_acts c rs1 rs2 imm a is above below = rw (is, on_own a above below) refl

  -- A word of a frame of this address can be reached.
  pub record Reaches (f off : ℕ) : Type 0 where
    pub above : h.low ≤ f
    pub below : f + off + 8 ≤ h.low + 2 ^ 32
    pub end : h.low + 2 ^ 32 ≤ 2 ^ 63
    pub near : off < 2 ^ 22

  -- register suc r comes to have a value by this code
  abbrev pub Loads : ℕ → ℕ → Cpu → List Inst → Type 0
  Loads r x c is = (last : Cpu) × Straight h is c last × Sets r x c last

  near_address : (c : Cpu) (f off : ℕ) → Reaches f off → c.regs 2 ≡ f → off < 2048 → address c 2 off ≡ f + off
  near_address c f off r sp low = rw (lt-ltb off (2 ^ 11) low, sp) (let rb = r.below in let re = r.end in let e : (f + off) % 2 ^ 64 ≡ f + off = omega arith in e)

  load_by : (t : Bool) (c : Cpu) (f off r x : ℕ) → nat_lt off 2048 ≡ t → Reaches f off → c.regs 2 ≡ f → suc r ≢ 2 → loaded c.bytes (f + off) 8 ≡ x → x < 2 ^ 64
      → Loads (suc r) x c (if t then Ld (suc r) 2 off ∷ [] else Lui (suc r) ((off + 2048) / 4096) ∷ (Add (suc r) (suc r) 2 ∷ (Ld (suc r) (suc r) (off % 4096) ∷ [])))
  load_by true c f off r x e reach sp other is small =
      let last : Cpu = moves_on c (suc r) (extend 8 false (loaded c.bytes (f + off) 8)) in
      let does = ld_acts c (suc r) 2 off (f + off) (near_address c f off reach sp (ltb-true off 2048 e)) (omega (arith, reach.above)) reach.below in
      let value : extend 8 false (loaded c.bytes (f + off) 8) % 2 ^ 64 ≡ x = rw (is, extend_word x small) (omega arith) in
      (last, onward (Ld (suc r) 2 off) [] c last last does refl (halts last), sets_reg c r _ x value)
  load_by false c f off r x e reach sp other is small =
      let u : ℕ = (off + 2048) / 4096 in
      let c1 : Cpu = moves_on c (suc r) (signed_upper u) in
      let s1 : Sets (suc r) (signed_upper u % 2 ^ 64) c c1 = sets_reg c r (signed_upper u) _ refl in
      let sp1 : c1.regs 2 ≡ f = s1.others 2 (λ q. other (sym q)) ∙ sp in
      let c2 : Cpu = moves_on c1 (suc r) (c1.regs (suc r) + c1.regs 2) in
      let s2 : Sets (suc r) ((signed_upper u % 2 ^ 64 + f) % 2 ^ 64) c1 c2 = sets_reg c1 r _ _ (rw (s1.value, sp1) refl) in
      let fb : f < 2 ^ 63 = omega (arith, reach.below, reach.end) in
      let place : address c2 (suc r) (off % 4096) ≡ f + off = rw s2.value (far_is off reach.near f fb) in
      let c3 : Cpu = moves_on c2 (suc r) (extend 8 false (loaded c2.bytes (f + off) 8)) in
      let does = ld_acts c2 (suc r) (suc r) (off % 4096) (f + off) place (omega (arith, reach.above)) reach.below in
      let value : extend 8 false (loaded c2.bytes (f + off) 8) % 2 ^ 64 ≡ x = rw (is, extend_word x small) (omega arith) in
      let s3 : Sets (suc r) x c2 c3 = sets_reg c2 r _ x value in
      (c3, onward _ _ c c1 c3 refl refl (onward _ _ c1 c2 c3 refl refl (onward _ _ c2 c3 c3 does refl (halts c3))), sets_twice (suc r) _ x c c2 c3 (sets_twice (suc r) _ _ c c1 c2 s1 s2) s3)

  -- a scratch register gets a word of the frame
  pub load_runs : (c : Cpu) (f off r x : ℕ) → Reaches f off → c.regs 2 ≡ f → suc r ≢ 2 → loaded c.bytes (f + off) 8 ≡ x → x < 2 ^ 64 → Loads (suc r) x c (load_code (suc r) off)
  load_runs c f off r x reach sp other is small = load_by (nat_lt off 2048) c f off r x refl reach sp other is small

  -- a word has a value; but for it and register 7 all is as before
  pub record Puts (a x : ℕ) (c last : Cpu) : Type 0 where
    pub bytes : last.bytes ≡ stored c.bytes a 8 x
    pub others : (q : ℕ) → q ≢ 7 → last.regs q ≡ c.regs q

  abbrev pub Stores : ℕ → ℕ → Cpu → List Inst → Type 0
  Stores a x c is = (last : Cpu) × Straight h is c last × Puts a x c last

  store_by : (t : Bool) (c : Cpu) (f off r x : ℕ) → nat_lt off 2048 ≡ t → Reaches f off → c.regs 2 ≡ f → suc r ≢ 7 → c.regs (suc r) ≡ x
      → Stores (f + off) x c (if t then Sd 2 (suc r) off ∷ [] else Lui 7 ((off + 2048) / 4096) ∷ (Add 7 7 2 ∷ (Sd 7 (suc r) (off % 4096) ∷ [])))
  store_by true c f off r x e reach sp other is =
      let last : Cpu = put_word c (f + off) (c.regs (suc r)) in
      let does = sd_acts c 2 (suc r) off (f + off) (near_address c f off reach sp (ltb-true off 2048 e)) (omega (arith, reach.above)) reach.below in
      (last, onward (Sd 2 (suc r) off) [] c last last does refl (halts last), record { bytes = ap (stored c.bytes (f + off) 8) is; others = λ q n. refl })
  store_by false c f off r x e reach sp other is =
      let u : ℕ = (off + 2048) / 4096 in
      let c1 : Cpu = moves_on c 7 (signed_upper u) in
      let c2 : Cpu = moves_on c1 7 (c1.regs 7 + c1.regs 2) in
      let s1 : Sets 7 (signed_upper u % 2 ^ 64) c c1 = sets_reg c 6 (signed_upper u) _ refl in
      let s2 : Sets 7 ((signed_upper u % 2 ^ 64 + f) % 2 ^ 64) c1 c2 = sets_reg c1 6 _ _ (rw sp refl) in
      let s : Sets 7 ((signed_upper u % 2 ^ 64 + f) % 2 ^ 64) c c2 = sets_twice 7 _ _ c c1 c2 s1 s2 in
      let fb : f < 2 ^ 63 = omega (arith, reach.below, reach.end) in
      let place : address c2 7 (off % 4096) ≡ f + off = rw sp (far_is off reach.near f fb) in
      let c3 : Cpu = put_word c2 (f + off) (c2.regs (suc r)) in
      let does = sd_acts c2 7 (suc r) (off % 4096) (f + off) place (omega (arith, reach.above)) reach.below in
      let same : c2.regs (suc r) ≡ x = s.others (suc r) other ∙ is in
      (c3, onward _ _ c c1 c3 refl refl (onward _ _ c1 c2 c3 refl refl (onward _ _ c2 c3 c3 does refl (halts c3))), record { bytes = ap (stored c.bytes (f + off) 8) same; others = λ q n. s.others q n })

  -- a word of the frame gets a scratch register
  pub store_runs : (c : Cpu) (f off r x : ℕ) → Reaches f off → c.regs 2 ≡ f → suc r ≢ 7 → c.regs (suc r) ≡ x → Stores (f + off) x c (store_code (suc r) off)
  store_runs c f off r x reach sp other is = store_by (nat_lt off 2048) c f off r x refl reach sp other is
