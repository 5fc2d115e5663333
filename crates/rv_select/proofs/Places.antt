use Rattle.std.proofs.Common.{◌≡◌, ◌≢◌, ℕ, zero, suc, ◌+◌, ◌^◌, ◌<◌, ◌≤◌, ◌⊎◌, inl, inr, Bool, true, false, nat_lt, List, [], ◌∷◌, refl, ap, sym, ◌∙◌, arith}
use Rattle.std.proofs.lemmas.Bool.{ltb-true, ltb-false}
use Rattle.rv_isa.specs.declared.inst.Inst.{Inst}
use Rattle.rv_isa.specs.declared.inst.Inst.TheVariants.{Addi}
use Rattle.rv_isa.specs.Words.{signed_imm, loaded}
use Rattle.rv_isa.specs.Machine.{Cpu, Machine, moves_on}
use Rattle.rv_select.specs.Places.{Place, Slot, Real, IsReal, IsPlace, Apart, holds, slot_off, fetch_code, keep_code}
use Rattle.rv_select.proofs.Memory.{loaded_stored, loaded_apart}
use Rattle.rv_select.proofs.Straight.{Sets, sets_reg, Straight, halts, onward}
use Rattle.rv_select.proofs.Frames.{Reaches, Loads, load_runs, Puts, store_runs}

-- What a place has comes into a scratch register, and back.

-- Only scratch registers and words below the frame have changed.
pub record Alike (f : ℕ) (c next : Cpu) : Type 0 where
  pub frame : next.regs 2 ≡ c.regs 2
  pub real : (q : ℕ) → IsReal q → next.regs q ≡ c.regs q
  pub words : (a : ℕ) → f ≤ a → loaded next.bytes a 8 ≡ loaded c.bytes a 8

pub alike_on : (f : ℕ) (a b c : Cpu) → Alike f a b → Alike f b c → Alike f a c
alike_on f a b c s u = record { frame = u.frame ∙ s.frame; real = λ q r. u.real q r ∙ s.real q r; words = λ x l. u.words x l ∙ s.words x l }

pub alike_none : (f : ℕ) (c : Cpu) → Alike f c c
alike_none f c = record { frame = refl; real = λ q r. refl; words = λ a l. refl }

-- a register that isn't for values
pub record IsScratch (r : ℕ) : Type 0 where
  pub stack : r ≢ 2
  pub real : (q : ℕ) → IsReal q → q ≢ r

real_above : (q : ℕ) → IsReal q → 8 ≤ q
real_above q r = r.from

pub scratch_low : (r : ℕ) → 2 < r → r < 8 → IsScratch r
scratch_low r low high = record { stack = omega arith; real = λ q real. let l : 8 ≤ q = real.from in omega arith }

argument_by : (q r : ℕ) → 9 < r → r < 14 → (q < 10) ⊎ (13 < q) → q ≢ r
argument_by q r low high (inl h) = omega arith
argument_by q r low high (inr h) = omega arith

pub scratch_argument : (r : ℕ) → 9 < r → r < 14 → IsScratch r
scratch_argument r low high = record { stack = omega arith; real = λ q real. argument_by q r low high real.no_argument }

pub scratch_number : IsScratch 17
scratch_number = record { stack = omega arith; real = λ q real. real.no_number }

pub sets_alike : (f r x : ℕ) (c next : Cpu) → IsScratch r → Sets r x c next → Alike f c next
sets_alike f r x c next scratch s = record {
  frame = s.others 2 (λ e. scratch.stack (sym e));
  real = λ q real. s.others q (scratch.real q real);
  words = λ a l. ap (λ b. loaded b a 8) s.bytes;
}

-- what a place has is as before
pub holds_alike : (p : Place) (f : ℕ) (c next : Cpu) → IsPlace p → Alike f c next → holds p f next ≡ holds p f c
holds_alike (Slot k) f c next is s = s.words (f + slot_off k) (omega arith)
holds_alike (Real q) f c next is s = s.real q is

-- A place has a value; what stands apart from it, and each word outside of the slots, is as before.
pub record Keeps (p : Place) (f x : ℕ) (c last : Cpu) : Type 0 where
  pub value : holds p f last ≡ x
  pub others : (q : Place) → IsPlace q → Apart q p → holds q f last ≡ holds q f c
  pub words : (a : ℕ) → (a + 8 ≤ f + 256) ⊎ (f + 2 ^ 21 ≤ a) → loaded last.bytes a 8 ≡ loaded c.bytes a 8
  pub frame : last.regs 2 ≡ c.regs 2

-- a frame of this address lies in the own stack
pub record IsFrame (h : Machine) (f : ℕ) : Type 0 where
  pub above : h.low ≤ f
  pub below : f + 2 ^ 22 ≤ h.low + 2 ^ 32
  pub end : h.low + 2 ^ 32 ≤ 2 ^ 63

module _ (h : Machine) where
  pub slot_reaches : (f k : ℕ) → IsFrame h f → k + 33 ≤ 2 ^ 18 → Reaches h f (slot_off k)
  slot_reaches f k frame small = record { above = frame.above; below = omega (arith, frame.below); end = frame.end; near = omega arith }

  move_acts : (c : Cpu) (r q x : ℕ) → 0 < q → c.regs q ≡ x → x < 2 ^ 64 → Loads h (suc r) x c (Addi (suc r) q 0 ∷ [])
  move_acts c r zero x some is small = absurd (omega arith)
  move_acts c r (suc q) x some is small =
      let next : Cpu = moves_on c (suc r) (c.regs (suc q) + signed_imm 0) in
      (next, onward _ _ c next next refl refl (halts next), sets_reg c r (c.regs (suc q) + signed_imm 0) x (rw is (omega arith)))

  -- what a place has into a scratch register
  pub fetch_runs : (p : Place) (c : Cpu) (f r x : ℕ) → IsPlace p → IsFrame h f → c.regs 2 ≡ f → suc r ≢ 2 → holds p f c ≡ x → x < 2 ^ 64 → Loads h (suc r) x c (fetch_code (suc r) p)
  fetch_runs (Slot k) c f r x place frame sp other is small = load_runs h c f (slot_off k) r x (slot_reaches f k frame place) sp other is small
  fetch_runs (Real q) c f r x place frame sp other is small = move_acts c r q x (omega (arith, place.from)) is small

  abbrev pub KeepsBy : Place → ℕ → ℕ → Cpu → List Inst → Type 0
  KeepsBy p f x c is = (last : Cpu) × Straight h is c last × Keeps p f x c last

  slot_apart : (f k l : ℕ) → k ≢ l → (f + slot_off k + 8 ≤ f + slot_off l) ⊎ (f + slot_off l + 8 ≤ f + slot_off k)
  slot_apart f k l other = by_order (nat_lt k l) refl where
    by_order : (t : Bool) → nat_lt k l ≡ t → (f + slot_off k + 8 ≤ f + slot_off l) ⊎ (f + slot_off l + 8 ≤ f + slot_off k)
    by_order true e = let u : k < l = ltb-true k l e in inl (omega arith)
    by_order false e = let u : l ≤ k = ltb-false k l e in inr (omega arith)

  stored_others : (q : Place) (f k x : ℕ) (c last : Cpu) → Puts h (f + slot_off k) x c last → IsPlace q → Apart q (Slot k) → holds q f last ≡ holds q f c
  stored_others (Slot l) f k x c last puts place apart = ap (λ b. loaded b (f + slot_off l) 8) puts.bytes ∙ loaded_apart c.bytes (f + slot_off k) 8 x (f + slot_off l) (slot_apart f l k apart)
  stored_others (Real q) f k x c last puts place apart = puts.others q (let l : 8 ≤ q = place.from in omega arith)

  outside : (a f k : ℕ) → k + 33 ≤ 2 ^ 18 → (a + 8 ≤ f + 256) ⊎ (f + 2 ^ 21 ≤ a) → (a + 8 ≤ f + slot_off k) ⊎ (f + slot_off k + 8 ≤ a)
  outside a f k small (inl below) = inl (omega arith)
  outside a f k small (inr above) = inr (omega arith)

  moved_others : (q : Place) (f p x : ℕ) (c last : Cpu) → Sets p x c last → IsPlace q → Apart q (Real p) → holds q f last ≡ holds q f c
  moved_others (Slot l) f p x c last s place apart = ap (λ b. loaded b (f + slot_off l) 8) s.bytes
  moved_others (Real q) f p x c last s place apart = s.others q apart

  keep_real : (q : ℕ) (c : Cpu) (f r x : ℕ) → IsReal q → c.regs (suc r) ≡ x → x < 2 ^ 64 → KeepsBy (Real q) f x c (Addi q (suc r) 0 ∷ [])
  keep_real zero c f r x real is small = absurd (omega (arith, real.from))
  keep_real (suc q) c f r x real is small =
      let next : Cpu = moves_on c (suc q) (c.regs (suc r) + signed_imm 0) in
      let s : Sets (suc q) x c next = sets_reg c q (c.regs (suc r) + signed_imm 0) x (rw is (omega arith)) in (
        next,
        onward _ _ c next next refl refl (halts next),
        record {
          value = s.value;
          others = λ p place apart. moved_others p f (suc q) x c next s place apart;
          words = λ a out. ap (λ b. loaded b a 8) s.bytes;
          frame = s.others 2 (let l : 8 ≤ suc q = real.from in omega arith);
        },
      )

  -- a scratch register's value into a place
  pub keep_runs : (p : Place) (c : Cpu) (f r x : ℕ) → IsPlace p → IsFrame h f → c.regs 2 ≡ f → suc r ≢ 7 → c.regs (suc r) ≡ x → x < 2 ^ 64 → KeepsBy p f x c (keep_code p (suc r))
  keep_runs (Slot k) c f r x place frame sp other is small =
      let w = store_runs h c f (slot_off k) r x (slot_reaches f k frame place) sp other is in
      let last : Cpu = w.0 in
      let puts : Puts h (f + slot_off k) x c last = w.2 in (
        last,
        w.1,
        record {
          value = ap (λ b. loaded b (f + slot_off k) 8) puts.bytes ∙ loaded_stored c.bytes (f + slot_off k) x small;
          others = λ q is_place apart. stored_others q f k x c last puts is_place apart;
          words = λ a out. ap (λ b. loaded b a 8) puts.bytes ∙ loaded_apart c.bytes (f + slot_off k) 8 x a (outside a f k place out);
          frame = puts.others 2 (omega arith);
        },
      )
  keep_runs (Real q) c f r x place frame sp other is small = keep_real q c f r x place is small
