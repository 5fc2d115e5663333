use Rattle.std.proofs.Common.{◌≡◌, ◌≢◌, ℕ, suc, ◌+◌, ◌*◌, ◌^◌, ◌<◌, ◌≤◌, ◌⊎◌, inl, inr, List, [], ◌∷◌, length, Some, None, refl, ap, sym, ◌∙◌, arith}
use Rattle.mid_code.specs.declared.reg.Reg.{Reg}
use Rattle.mid_code.specs.declared.op.MidOp.{MidOp}
use Rattle.mid_code.specs.Registers.{Regs, with_reg}
use Rattle.mid_code.specs.Operations.{MidCode}
use Rattle.mid_code.specs.Flow.{Among, writes_of, nexts_of}
use Rattle.mid_code.specs.Step as mid
use Rattle.mid_code.specs.Step.{Activation, MidState, sets}
use Rattle.rv_isa.specs.Words.{loaded}
use Rattle.rv_isa.specs.Machine.{Cpu, Machine}
use Rattle.rv_select.specs.Places.{Place, Slot, Real, IsPlace, holds, slot_off, frame_of, fetch_code, keep_code}
use Rattle.rv_select.specs.Emission.{two_code}
use Rattle.rv_select.specs.Standing.{StandsAt}
use Rattle.rv_select.specs.Relation.{Target, Selected, home, Suspended, Callers, Core, CarriesOut}
use Rattle.rv_select.proofs.Straight.{Straight, appended, straight_goes}
use Rattle.rv_select.proofs.Frames.{Loads}
use Rattle.rv_select.proofs.Places.{Alike, alike_on, alike_none, scratch_low, sets_alike, holds_alike, Keeps, IsFrame, fetch_runs, keep_runs}
use Rattle.rv_select.proofs.Registers.{AreSame, one, two, same_cases, with_small}

-- What keeps the relation.

module _ (h : Machine) (m : MidCode) (t : Target) (known : ℕ → ℕ → Reg → Type 0) (sel : Selected h m t known) where
  pub is_frame : (s : MidState) (c : Cpu) → Core h m t known s c → IsFrame h (frame_of h s.room)
  is_frame s c g = record { above = omega arith; below = omega (arith, g.roomy); end = sel.end }

  -- each word of a frame that isn't in a slot, and each word above the frame, is as before
  abbrev pub Outside : ℕ → (ℕ → ℕ) → (ℕ → ℕ) → Type 0
  Outside f old new = (a : ℕ) → f ≤ a → (a + 8 ≤ f + 256) ⊎ (f + 2 ^ 21 ≤ a) → loaded new a 8 ≡ loaded old a 8

  home_same : (p : Place) (room : ℕ) (old new : ℕ → ℕ) → IsPlace p → Outside (frame_of h room) old new → home h m t known p room new ≡ home h m t known p room old
  home_same (Slot k) room old new place out = out (frame_of h (suc room) + slot_off k) (omega arith) (inr (omega arith))
  home_same (Real q) room old new place out = out (frame_of h room + 8 * q) (omega arith) (inl (let u : q < 32 = place.below in omega arith))

  suspended_same : (a : Activation) (room : ℕ) (old new : ℕ → ℕ) → Outside (frame_of h room) old new → Suspended h m t known a room old → Suspended h m t known a room new
  suspended_same a room old new out w = record {
    k = w.k;
    back = out (frame_of h room) (omega arith) (inl (omega arith)) ∙ w.back;
    there = w.there;
    stands = w.stands;
    end = w.end;
    vals = λ r kn. home_same (t.place a.proc r) room old new (sel.places a.proc a.pos r kn) out ∙ w.vals r kn;
    small = w.small;
    few = w.few;
    args = λ i l. out (frame_of h (suc room) + (2 ^ 21 + 8 * i)) (omega arith) (inr (omega arith)) ∙ w.args i l;
  }

  callers_same : (cs : List Activation) (room : ℕ) (old new : ℕ → ℕ) → Outside (frame_of h room) old new → Callers h m t known cs room old → Callers h m t known cs room new
  callers_same [] room old new out w = tt
  callers_same (a ∷ cs) room old new out w =
      (suspended_same a room old new out w.0, callers_same cs (suc room) old new (λ x above apart. out x (omega arith) (inr (omega arith))) w.1)

  -- the thread at a position, with these values in its registers
  abbrev pub stands_at : MidState → ℕ → Regs → MidState
  stands_at s pos regs = record { here = record { proc = s.here.proc; pos = pos; regs = regs; args = s.here.args }; callers = s.callers; room = s.room }

  -- the relation again, where only slots and what is below the frame have changed
  core_with : (s : MidState) (c last : Cpu) (pos : ℕ) (regs : Regs) → Core h m t known s c → last.pc ≡ 4 * t.start s.here.proc pos → last.regs 2 ≡ c.regs 2
      → ((r : Reg) → known s.here.proc pos r → holds (t.place s.here.proc r) (frame_of h s.room) last ≡ regs r)
      → ((r : Reg) → regs r < 2 ^ 64) → Outside (frame_of h s.room) c.bytes last.bytes → Core h m t known (stands_at s pos regs) last
  core_with s c last pos regs g at frame vals small out = record {
    at = at;
    there = g.there;
    frame = frame ∙ g.frame;
    vals = vals;
    small = small;
    few = g.few;
    args = λ i l. out (frame_of h s.room + (2 ^ 21 + 8 * i)) (omega arith) (inr (omega arith)) ∙ g.args i l;
    callers = callers_same s.callers s.room c.bytes last.bytes out g.callers;
    roomy = g.roomy;
  }

  alike_outside : (f : ℕ) (c c1 : Cpu) → Alike f c c1 → Outside f c.bytes c1.bytes
  alike_outside f c c1 s a above out = s.words a above

  -- at another position, where nothing was written
  pub core_moved : (s : MidState) (c c1 : Cpu) (op : MidOp) (j : ℕ) → m.op_at s.here.proc s.here.pos ≡ Some op → Among j (nexts_of s.here.pos op) → writes_of op ≡ None → Core h m t known s c
      → Alike (frame_of h s.room) c c1 → c1.pc ≡ 4 * t.start s.here.proc j → Core h m t known (mid.moves s j) c1
  core_moved s c c1 op j is goes_there none g like at =
      let p = s.here.proc in
      let before = λ (r : Reg) (kn : known p j r). (sel.flows p s.here.pos op is).keeps j goes_there r (λ w. cc (w, none)) kn in
      core_with s c c1 j s.here.regs g at like.frame
      (λ r kn. holds_alike (t.place p r) (frame_of h s.room) c c1 (sel.places p s.here.pos r (before r kn)) like ∙ g.vals r (before r kn))
      g.small (alike_outside (frame_of h s.room) c c1 like)

  -- a register's value comes into a scratch register
  pub use_runs : (s : MidState) (c c1 : Cpu) (r : ℕ) (a : Reg) → Core h m t known s c → Alike (frame_of h s.room) c c1 → suc r ≢ 2 → known s.here.proc s.here.pos a → Loads h (suc r) (s.here.regs a) c1 (fetch_code (suc r) (t.place s.here.proc a))
  use_runs s c c1 r a g like other kn =
      let p = t.place s.here.proc a in
      let place = sel.places s.here.proc s.here.pos a kn in
      fetch_runs h p c1 (frame_of h s.room) r (s.here.regs a) place (is_frame s c g) (like.frame ∙ g.frame) other (holds_alike p (frame_of h s.room) c c1 place like ∙ g.vals a kn) (g.small a)

  -- two of them into registers 5 and 6
  pub record HasTwo (f x y : ℕ) (c c2 : Cpu) : Type 0 where
    pub like : Alike f c c2
    pub five : c2.regs 5 ≡ x
    pub six : c2.regs 6 ≡ y

  pub two_runs : (s : MidState) (c : Cpu) (a b : Reg) → Core h m t known s c → known s.here.proc s.here.pos a → known s.here.proc s.here.pos b
      → (c2 : Cpu) × Straight h (two_code (t.place s.here.proc a) (t.place s.here.proc b)) c c2 × HasTwo (frame_of h s.room) (s.here.regs a) (s.here.regs b) c c2
  two_runs s c a b g ka kb =
      let f = frame_of h s.room in
      let w = use_runs s c c 4 a g (alike_none f c) (omega arith) ka in
      let c1 : Cpu = w.0 in
      let like1 : Alike f c c1 = sets_alike f 5 (s.here.regs a) c c1 (scratch_low 5 (omega arith) (omega arith)) w.2 in
      let u = use_runs s c c1 5 b g like1 (omega arith) kb in
      let c2 : Cpu = u.0 in (
        c2,
        appended h _ _ c c1 c2 w.1 u.1,
        record {
          like = alike_on f c c1 c2 like1 (sets_alike f 6 (s.here.regs b) c1 c2 (scratch_low 6 (omega arith) (omega arith)) u.2);
          five = u.2.others 5 (omega arith) ∙ w.2.value;
          six = u.2.value;
        },
      )

  kept_by : (s : MidState) (c c1 last : Cpu) (d : Reg) (x : ℕ) (op : MidOp) (r : Reg) → m.op_at s.here.proc s.here.pos ≡ Some op → writes_of op ≡ Some d → Among (suc s.here.pos) (nexts_of s.here.pos op)
      → Core h m t known s c → Alike (frame_of h s.room) c c1 → Keeps (t.place s.here.proc d) (frame_of h s.room) x c1 last → known s.here.proc (suc s.here.pos) r → AreSame r d
      → holds (t.place s.here.proc r) (frame_of h s.room) last ≡ with_reg s.here.regs d x r
  kept_by s c c1 last d x op r is writes nexts g like keeps kn (one same test) =
      ap (λ q. holds (t.place s.here.proc q) (frame_of h s.room) last) same ∙ keeps.value ∙ rw test refl
  kept_by s c c1 last d x op r is writes nexts g like keeps kn (two other test) =
      let p = s.here.proc in
      let i = s.here.pos in
      let fl = sel.flows p i op is in
      let before : known p i r = fl.keeps (suc i) nexts r (λ w. other (cc (w, writes))) kn in
      let place = sel.places p i r before in
      rw test (keeps.others (t.place p r) place (fl.apart d r writes kn other) ∙ holds_alike (t.place p r) (frame_of h s.room) c c1 place like ∙ g.vals r before)

  keeps_outside : (p : Place) (f x : ℕ) (c c1 last : Cpu) → Alike f c c1 → Keeps p f x c1 last → Outside f c.bytes last.bytes
  keeps_outside p f x c c1 last like keeps a above out = keeps.words a out ∙ like.words a above

  -- The end of an operation: a scratch register's value is kept, and the relation holds again.
  pub rest_gives : (s : MidState) (c c1 : Cpu) (op : MidOp) (d : Reg) (r x k : ℕ) → m.op_at s.here.proc s.here.pos ≡ Some op → writes_of op ≡ Some d → Among (suc s.here.pos) (nexts_of s.here.pos op)
      → Core h m t known s c → Alike (frame_of h s.room) c c1 → suc r ≢ 7 → c1.regs (suc r) ≡ x → x < 2 ^ 64 → c1.pc ≡ 4 * k
      → StandsAt h (m.line_of s.here.proc s.here.pos) k (keep_code (t.place s.here.proc d) (suc r))
      → t.start s.here.proc (suc s.here.pos) ≡ k + length (keep_code (t.place s.here.proc d) (suc r)) → CarriesOut h m t known (sets s d x) c1
  rest_gives s c c1 op d r x k is writes nexts g like other value small at st end =
      let p = s.here.proc in
      let f = frame_of h s.room in
      let w = keep_runs h (t.place p d) c1 f r x ((sel.flows p s.here.pos op is).written d writes) (is_frame s c g) (like.frame ∙ g.frame) other value small in
      let last : Cpu = w.0 in
      let run = straight_goes h (m.line_of p s.here.pos) k (keep_code (t.place p d) (suc r)) c1 last at st w.1 in
      let keeps : Keeps (t.place p d) f x c1 last = w.2 in
      let to : last.pc ≡ 4 * t.start p (suc s.here.pos) = run.to ∙ ap (λ n. 4 * n) (sym end) in (
        last,
        run.by,
        core_with s c last (suc s.here.pos) (with_reg s.here.regs d x) g to (keeps.frame ∙ like.frame)
            (λ q kn. kept_by s c c1 last d x op q is writes nexts g like keeps kn (same_cases q d))
            (λ q. with_small s.here.regs d x small g.small q)
            (keeps_outside (t.place p d) f x c c1 last like keeps),
      )
