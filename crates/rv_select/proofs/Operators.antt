use Rattle.std.proofs.Common.{◌≡◌, ◌≢◌, ℕ, zero, suc, ◌+◌, ◌-◌, ◌*◌, ◌/◌, ◌%◌, ◌^◌, ◌<◌, ◌≤◌, ◌==◌, Bool, true, false, not, nat_lt, List, [], ◌∷◌, refl, ap, arith}
use Rattle.std.proofs.lemmas.Bool.{lt-ltb, le-ltb, eqb-true, eqb-false, ltb-true, ltb-false, ne_eqb}
use Rattle.std.proofs.Math.Nat.{div-le_self, mod-le}
use Rattle.std.specs.Prelude.{ℤ, pos, negsuc, neg_ℤ, nat_abs, int_div, int_rem}
use Rattle.thread_system.specs.Effect.{Silent}
use Rattle.word64.specs.Words.{signed, word_of_signed, div_signed, rem_signed, less_signed}
use Rattle.mid_code.specs.declared.op.WordOp.{WordOp}
use Rattle.mid_code.specs.declared.op.WordOp.TheVariants.{Plus, Minus, Times, LessS, AtMostS, Same, Other}
use Rattle.mid_code.specs.declared.op.Division.{Division}
use Rattle.mid_code.specs.declared.op.Division.TheVariants.{DivS, RemS}
use Rattle.mid_code.specs.Operations.{truth_word, combined, divided}
use Rattle.rv_isa.specs.declared.inst.Inst.{Inst}
use Rattle.rv_isa.specs.declared.inst.Inst.TheVariants.{Addi, Sltiu, Add, Sub, Slt, Sltu, Mul, Div, Rem}
use Rattle.rv_isa.specs.Words.{signed_imm, truth}
use Rattle.rv_isa.specs.Machine.{Cpu, Machine, moves_on, act}
use Rattle.rv_select.specs.Emission.{word_op_code, division_inst}
use Rattle.rv_select.proofs.Straight.{sets_reg, sets_twice, halts, onward, appended}
use Rattle.rv_select.proofs.Frames.{Loads}

-- Operators between registers 5 and 6.

truth_by : (t : Bool) → truth_word t < 2 ^ 64
truth_by true = omega arith
truth_by false = omega arith

times_small : (p : ℕ) → p % 2 ^ 64 < 2 ^ 64
times_small p = omega arith

pub combined_small : (op : WordOp) (a b : ℕ) → combined op a b < 2 ^ 64
combined_small Plus a b = omega arith
combined_small Minus a b = omega arith
combined_small Times a b = times_small (a * b)
combined_small LessS a b = truth_by (less_signed a b)
combined_small AtMostS a b = truth_by (not (less_signed b a))
combined_small Same a b = truth_by (a == b)
combined_small Other a b = truth_by (not (a == b))

-- The bits of signed numbers of 64 bits, of their quotients and of their remainders.
abbrev IsSize : ℤ → Type 0
IsSize (pos n) = n < 2 ^ 63
IsSize (negsuc n) = n < 2 ^ 63

signed_by : (t : Bool) (a : ℕ) → nat_lt a (2 ^ 63) ≡ t → IsSize (signed a)
signed_by true a e = rw e (ltb-true a (2 ^ 63) e)
signed_by false a e = rw e (let l : 2 ^ 63 ≤ a = ltb-false a (2 ^ 63) e in omega arith)

signed_size : (a : ℕ) → IsSize (signed a)
signed_size a = signed_by (nat_lt a (2 ^ 63)) a refl

minus_small : (n : ℕ) → word_of_signed (neg_ℤ (pos n)) < 2 ^ 64
minus_small zero = omega arith
minus_small (suc n) = omega arith

quotient_small : (x y : ℤ) → IsSize x → word_of_signed (int_div x y) < 2 ^ 64
quotient_small (pos a) (pos b) size = let l : a / b ≤ a = div-le_self a b in omega arith
quotient_small (pos a) (negsuc b) size = minus_small (a / suc b)
quotient_small (negsuc a) (pos b) size = minus_small (suc a / b)
quotient_small (negsuc a) (negsuc b) size = let l : suc a / suc b ≤ suc a = div-le_self (suc a) (suc b) in omega arith

remainder_small : (x y : ℤ) → IsSize x → word_of_signed (int_rem x y) < 2 ^ 64
remainder_small (pos a) y size = let l : a % nat_abs y ≤ a = mod-le a (nat_abs y) in omega arith
remainder_small (negsuc a) y size = minus_small (suc a % nat_abs y)

pub divided_small : (op : Division) (a b : ℕ) → divided op a b < 2 ^ 64
unfolding div_signed rem_signed
divided_small DivS a b = quotient_small (signed a) (signed b) (signed_size a)
divided_small RemS a b = remainder_small (signed a) (signed b) (signed_size a)

-- 1 and 0 as all ones and 0
minus_truth : (t : Bool) → (0 + (2 ^ 64 - truth t % 2 ^ 64)) % 2 ^ 64 ≡ truth_word t
minus_truth true = refl
minus_truth false = refl

less_truth : (t : Bool) → (truth t % 2 ^ 64 + signed_imm 4095) % 2 ^ 64 ≡ truth_word (not t)
less_truth true = refl
less_truth false = refl

-- Whether a difference is 0.
same_by : (t : Bool) (a b : ℕ) → (a == b) ≡ t → a < 2 ^ 64 → b < 2 ^ 64 → nat_lt ((a + (2 ^ 64 - b)) % 2 ^ 64) 1 ≡ t
same_by true a b e la lb = let s : a ≡ b = eqb-true a b e in lt-ltb _ 1 (omega arith)
same_by false a b e la lb = let s : a ≢ b = eqb-false a b e in le-ltb _ 1 (differs a b s la lb) where
  differs_by : (t : Bool) (a b : ℕ) → nat_lt a b ≡ t → a ≢ b → a < 2 ^ 64 → b < 2 ^ 64 → 1 ≤ (a + (2 ^ 64 - b)) % 2 ^ 64
  differs_by true a b e s la lb = let l : a < b = ltb-true a b e in omega arith
  differs_by false a b e s la lb = let l : b ≤ a = ltb-false a b e in omega arith

  differs : (a b : ℕ) → a ≢ b → a < 2 ^ 64 → b < 2 ^ 64 → 1 ≤ (a + (2 ^ 64 - b)) % 2 ^ 64
  differs a b s la lb = differs_by (nat_lt a b) a b refl s la lb

other_of : (t : Bool) (d : ℕ) → nat_lt d 1 ≡ t → nat_lt 0 d ≡ not t
other_of true d e = let l : d < 1 = ltb-true d 1 e in le-ltb 0 d (omega arith)
other_of false d e = let l : 1 ≤ d = ltb-false d 1 e in lt-ltb 0 d (omega arith)

is_same_diff : (a b : ℕ) → a < 2 ^ 64 → b < 2 ^ 64 → nat_lt ((a + (2 ^ 64 - b)) % 2 ^ 64) 1 ≡ (a == b)
is_same_diff a b la lb = same_by (a == b) a b refl la lb

is_other_diff : (a b : ℕ) → a < 2 ^ 64 → b < 2 ^ 64 → nat_lt 0 ((a + (2 ^ 64 - b)) % 2 ^ 64) ≡ not (a == b)
is_other_diff a b la lb = other_of (a == b) _ (is_same_diff a b la lb)

module _ (h : Machine) where
  one_runs : (c : Cpu) (v x : ℕ) (i : Inst) → act h c i ≡ Silent (moves_on c 5 v) → v % 2 ^ 64 ≡ x → Loads h 5 x c (i ∷ [])
  one_runs c v x i does is =
      let next : Cpu = moves_on c 5 v in
      (next, onward i [] c next next does refl (halts next), sets_reg c 4 v x is)

  -- another instruction behind code that leaves a value in register 5
  then_runs : (c : Cpu) (x y : ℕ) (is : List Inst) (i : Inst) → (w : Loads h 5 x c (i ∷ [])) → Loads h 5 y w.0 is → Loads h 5 y c (i ∷ is)
  then_runs c x y is i w u =
      (u.0, appended h (i ∷ []) is c w.0 u.0 w.1 u.1, sets_twice 5 x y c w.0 u.0 w.2 u.2)

  -- an operator's code gives what the operator gives
  pub word_op_runs : (op : WordOp) (c : Cpu) (a b : ℕ) → c.regs 5 ≡ a → c.regs 6 ≡ b → a < 2 ^ 64 → b < 2 ^ 64 → Loads h 5 (combined op a b) c (word_op_code op)
  word_op_runs Plus c a b five six la lb = one_runs c (c.regs 5 + c.regs 6) _ (Add 5 5 6) refl (rw (five, six) refl)
  word_op_runs Minus c a b five six la lb = one_runs c (c.regs 5 + (2 ^ 64 - c.regs 6)) _ (Sub 5 5 6) refl (rw (five, six) refl)
  word_op_runs Times c a b five six la lb = one_runs c (c.regs 5 * c.regs 6) _ (Mul 5 5 6) refl (rw (five, six) refl)
  word_op_runs LessS c a b five six la lb =
      let w : Loads h 5 (truth (less_signed a b) % 2 ^ 64) c (Slt 5 5 6 ∷ []) = one_runs c (truth (less_signed (c.regs 5) (c.regs 6))) _ (Slt 5 5 6) refl (rw (five, six) refl) in
      then_runs c _ _ (Sub 5 0 5 ∷ []) (Slt 5 5 6) w (one_runs w.0 (0 + (2 ^ 64 - w.0.regs 5)) _ (Sub 5 0 5) refl (rw w.2.value (minus_truth (less_signed a b))))
  word_op_runs AtMostS c a b five six la lb =
      let w : Loads h 5 (truth (less_signed b a) % 2 ^ 64) c (Slt 5 6 5 ∷ []) = one_runs c (truth (less_signed (c.regs 6) (c.regs 5))) _ (Slt 5 6 5) refl (rw (five, six) refl) in
      then_runs c _ _ (Addi 5 5 4095 ∷ []) (Slt 5 6 5) w (one_runs w.0 (w.0.regs 5 + signed_imm 4095) _ (Addi 5 5 4095) refl (rw w.2.value (less_truth (less_signed b a))))
  word_op_runs Same c a b five six la lb =
      let w : Loads h 5 ((a + (2 ^ 64 - b)) % 2 ^ 64) c (Sub 5 5 6 ∷ []) = one_runs c (c.regs 5 + (2 ^ 64 - c.regs 6)) _ (Sub 5 5 6) refl (rw (five, six) refl) in
      let u : Loads h 5 (truth (a == b) % 2 ^ 64) w.0 (Sltiu 5 5 1 ∷ []) = one_runs w.0 (truth (nat_lt (w.0.regs 5) (signed_imm 1))) _ (Sltiu 5 5 1) refl (rw w.2.value (ap (λ t. truth t % 2 ^ 64) (is_same_diff a b la lb))) in
      then_runs c _ _ (Sltiu 5 5 1 ∷ (Sub 5 0 5 ∷ [])) (Sub 5 5 6) w (then_runs w.0 _ _ (Sub 5 0 5 ∷ []) (Sltiu 5 5 1) u (one_runs u.0 (0 + (2 ^ 64 - u.0.regs 5)) _ (Sub 5 0 5) refl (rw u.2.value (minus_truth (a == b)))))
  word_op_runs Other c a b five six la lb =
      let w : Loads h 5 ((a + (2 ^ 64 - b)) % 2 ^ 64) c (Sub 5 5 6 ∷ []) = one_runs c (c.regs 5 + (2 ^ 64 - c.regs 6)) _ (Sub 5 5 6) refl (rw (five, six) refl) in
      let u : Loads h 5 (truth (not (a == b)) % 2 ^ 64) w.0 (Sltu 5 0 5 ∷ []) = one_runs w.0 (truth (nat_lt 0 (w.0.regs 5))) _ (Sltu 5 0 5) refl (rw w.2.value (ap (λ t. truth t % 2 ^ 64) (is_other_diff a b la lb))) in
      then_runs c _ _ (Sltu 5 0 5 ∷ (Sub 5 0 5 ∷ [])) (Sub 5 5 6) w (then_runs w.0 _ _ (Sub 5 0 5 ∷ []) (Sltu 5 0 5) u (one_runs u.0 (0 + (2 ^ 64 - u.0.regs 5)) _ (Sub 5 0 5) refl (rw u.2.value (minus_truth (not (a == b))))))

  -- a division's instruction, where the divisor isn't 0
  pub division_runs : (op : Division) (c : Cpu) (a b : ℕ) → c.regs 5 ≡ a → c.regs 6 ≡ b → b ≢ 0 → Loads h 5 (divided op a b) c (division_inst op ∷ [])
  division_runs DivS c a b five six other = one_runs c _ _ (Div 5 5 6) refl (rw (five, six, ne_eqb b 0 other) (let l : div_signed a b < 2 ^ 64 = divided_small DivS a b in omega arith))
  division_runs RemS c a b five six other = one_runs c _ _ (Rem 5 5 6) refl (rw (five, six, ne_eqb b 0 other) (let l : rem_signed a b < 2 ^ 64 = divided_small RemS a b in omega arith))
