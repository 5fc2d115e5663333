use Rattle.std.proofs.Common.{◌≡◌, ℕ, zero, suc, ◌+◌, ◌-◌, ◌*◌, ◌/◌, ◌%◌, ◌^◌, ◌<◌, ◌≤◌, Bool, true, false, nat_lt, if◌then◌else◌, List, [], ◌∷◌, ◌++◌, refl, ◌∙◌, arith}
use Rattle.std.proofs.lemmas.Bool.{lt-ltb, ltb-true, ltb-false}
use Rattle.std.proofs.lemmas.Nat.{mod-pow-add}
use Rattle.rv_isa.specs.declared.inst.Inst.{Inst}
use Rattle.rv_isa.specs.declared.inst.Inst.TheVariants.{Lui, Addi, Slli}
use Rattle.rv_isa.specs.Words.{signed_imm, signed_upper}
use Rattle.rv_isa.specs.Machine.{Cpu, Machine, moves_on}
use Rattle.rv_select.specs.Emission.{pieces_code, const_code}
use Rattle.rv_select.proofs.Straight.{Sets, sets_reg, sets_twice, halts, onward, appended}
use Rattle.rv_select.proofs.Frames.{Loads}

-- Numbers into registers.

-- how many bits so many pieces behind the first have
bits : ℕ → ℕ
bits zero = 11
bits (suc pieces) = bits pieces + 11

pieces_small : (pieces n : ℕ) → n < 2048 → n % 2 ^ bits pieces ≡ n
unfolding bits
pieces_small zero n small = omega arith
pieces_small (suc pieces) n small =
    let e : n / 2 ^ 11 ≡ 0 = omega arith in
    let z : 0 % 2 ^ bits pieces ≡ 0 = omega arith in
    mod-pow-add n (bits pieces) 11 ∙ rw (e, z) (omega arith)

six_is : (n : ℕ) → n % 2 ^ bits 5 % 2 ^ 64 ≡ n % 2 ^ 64
unfolding bits
six_is n = omega arith

two_parts : (n u : ℕ) → 2048 ≤ n → n < 2 ^ 31 - 2048 → u ≡ (n + 2048) / 4096 → (signed_upper u % 2 ^ 64 + signed_imm (n % 4096)) % 2 ^ 64 ≡ n
two_parts n u low small is = by_imm (nat_lt (n % 4096) (2 ^ 11)) refl where
  by_imm : (t : Bool) → nat_lt (n % 4096) (2 ^ 11) ≡ t → (signed_upper u % 2 ^ 64 + signed_imm (n % 4096)) % 2 ^ 64 ≡ n
  by_imm true e = let l : n % 4096 < 2 ^ 11 = ltb-true _ _ e in rw (lt-ltb u (2 ^ 19) (omega arith), e) (omega arith)
  by_imm false e = let l : 2 ^ 11 ≤ n % 4096 = ltb-false _ _ e in rw (lt-ltb u (2 ^ 19) (omega arith), e) (omega arith)

module _ (h : Machine) where
  small_runs : (c : Cpu) (r n x : ℕ) → n < 2048 → n ≡ x → Loads h (suc r) x c (Addi (suc r) 0 n ∷ [])
  small_runs c r n x small is =
      let next : Cpu = moves_on c (suc r) (0 + signed_imm n) in
      let e : signed_imm n ≡ n = rw (lt-ltb n (2 ^ 11) small) refl in
      (next, onward _ _ c next next refl refl (halts next), sets_reg c r (0 + signed_imm n) x (rw e (omega arith)))

  -- eleven bits more behind a number
  longer_runs : (c : Cpu) (r n x y : ℕ) (is : List Inst) → Loads h (suc r) x c is → (x * 2048 % 2 ^ 64 + n % 2048) % 2 ^ 64 ≡ y → Loads h (suc r) y c (is ++ (Slli (suc r) (suc r) 11 ∷ (Addi (suc r) (suc r) (n % 2048) ∷ [])))
  longer_runs c r n x y is w value =
      let c1 : Cpu = w.0 in
      let c2 : Cpu = moves_on c1 (suc r) (c1.regs (suc r) * 2 ^ 11) in
      let s2 : Sets (suc r) (x * 2048 % 2 ^ 64) c1 c2 = sets_reg c1 r (c1.regs (suc r) * 2 ^ 11) _ (rw w.2.value refl) in
      let c3 : Cpu = moves_on c2 (suc r) (c2.regs (suc r) + signed_imm (n % 2048)) in
      let e : signed_imm (n % 2048) ≡ n % 2048 = rw (lt-ltb (n % 2048) (2 ^ 11) (omega arith)) refl in
      let s3 : Sets (suc r) y c2 c3 = sets_reg c2 r (c2.regs (suc r) + signed_imm (n % 2048)) y (rw (s2.value, e) value) in (
        c3,
        appended h is _ c c1 c3 w.1 (onward _ _ c1 c2 c3 refl refl (onward _ _ c2 c3 c3 refl refl (halts c3))),
        sets_twice (suc r) _ y c c1 c3 w.2 (sets_twice (suc r) _ y c1 c2 c3 s2 s3),
      )

  last_step : (x low y : ℕ) → y ≡ x * 2048 + low → (x % 2 ^ 64 * 2048 % 2 ^ 64 + low) % 2 ^ 64 ≡ y % 2 ^ 64
  last_step x low y is = omega arith

  bits_split : (pieces n : ℕ) → n % 2 ^ bits (suc pieces) ≡ (n / 2048 % 2 ^ bits pieces) * 2048 + n % 2048
  unfolding bits
  bits_split pieces n = mod-pow-add n (bits pieces) 11

  pieces_by : (t : Bool) (pieces r n : ℕ) (c : Cpu) → nat_lt n 2048 ≡ t → Loads h (suc r) (n / 2048 % 2 ^ bits pieces % 2 ^ 64) c (pieces_code pieces (suc r) (n / 2048))
      → Loads h (suc r) (n % 2 ^ bits (suc pieces) % 2 ^ 64) c (if t then Addi (suc r) 0 n ∷ [] else pieces_code pieces (suc r) (n / 2048) ++ (Slli (suc r) (suc r) 11 ∷ (Addi (suc r) (suc r) (n % 2048) ∷ [])))
  pieces_by true pieces r n c e w =
      let small : n < 2048 = ltb-true n 2048 e in
      small_runs c r n _ small (rw (pieces_small (suc pieces) n small) (omega arith))
  pieces_by false pieces r n c e w =
      let x : ℕ = n / 2048 % 2 ^ bits pieces in
      longer_runs c r n (x % 2 ^ 64) _ (pieces_code pieces (suc r) (n / 2048)) w (last_step x (n % 2048) (n % 2 ^ bits (suc pieces)) (bits_split pieces n))

  pieces_runs : (pieces r n : ℕ) (c : Cpu) → Loads h (suc r) (n % 2 ^ bits pieces % 2 ^ 64) c (pieces_code pieces (suc r) n)
  unfolding bits
  pieces_runs zero r n c = small_runs c r (n % 2048) _ (omega arith) (omega arith)
  pieces_runs (suc pieces) r n c = pieces_by (nat_lt n 2048) pieces r n c refl (pieces_runs pieces r (n / 2048) c)

  two_by : (t : Bool) (r n : ℕ) (c : Cpu) → nat_lt n (2 ^ 31 - 2048) ≡ t → 2048 ≤ n
      → Loads h (suc r) (n % 2 ^ 64) c (if t then Lui (suc r) ((n + 2048) / 4096) ∷ (Addi (suc r) (suc r) (n % 4096) ∷ []) else pieces_code 5 (suc r) n)
  two_by true r n c e low =
      let u : ℕ = (n + 2048) / 4096 in
      let small : n < 2 ^ 31 - 2048 = ltb-true _ _ e in
      let c1 : Cpu = moves_on c (suc r) (signed_upper u) in
      let s1 : Sets (suc r) (signed_upper u % 2 ^ 64) c c1 = sets_reg c r (signed_upper u) _ refl in
      let c2 : Cpu = moves_on c1 (suc r) (c1.regs (suc r) + signed_imm (n % 4096)) in
      let value : (signed_upper u % 2 ^ 64 + signed_imm (n % 4096)) % 2 ^ 64 ≡ n % 2 ^ 64 = two_parts n u low small refl ∙ omega arith in
      let s2 : Sets (suc r) (n % 2 ^ 64) c1 c2 = sets_reg c1 r (c1.regs (suc r) + signed_imm (n % 4096)) _ (rw s1.value value) in
      (c2, onward _ _ c c1 c2 refl refl (onward _ _ c1 c2 c2 refl refl (halts c2)), sets_twice (suc r) _ _ c c1 c2 s1 s2)
  two_by false r n c e low =
      let w = pieces_runs 5 r n c in
      (w.0, w.1, record { value = w.2.value ∙ six_is n; others = w.2.others; bytes = w.2.bytes })

  const_by : (t : Bool) (r n : ℕ) (c : Cpu) → nat_lt n 2048 ≡ t
      → Loads h (suc r) (n % 2 ^ 64) c (if t then Addi (suc r) 0 n ∷ [] else if nat_lt n (2 ^ 31 - 2048) then Lui (suc r) ((n + 2048) / 4096) ∷ (Addi (suc r) (suc r) (n % 4096) ∷ []) else pieces_code 5 (suc r) n)
  const_by true r n c e = let small : n < 2048 = ltb-true n 2048 e in small_runs c r n _ small (omega arith)
  const_by false r n c e = two_by (nat_lt n (2 ^ 31 - 2048)) r n c refl (ltb-false n 2048 e)

  -- a number into a register
  pub const_runs : (r n : ℕ) (c : Cpu) → Loads h (suc r) (n % 2 ^ 64) c (const_code (suc r) n)
  const_runs r n c = const_by (nat_lt n 2048) r n c refl
