use Rattle.std.proofs.Common.{◌≡◌, ◌≢◌, ℕ, zero, suc, ◌+◌, ◌-◌, ◌*◌, ◌/◌, ◌%◌, ◌<◌, ◌≤◌, Bool, true, false, not, cond, ◌&&◌, ◌||◌, ◌⊎◌, List, [], ◌∷◌, length, get_or, eqb, ltb, leb, Option, Some, None, refl, ap, sym, ◌∙◌, arith, inl, inr, ne_eqb, eq-eqb}
use Rattle.std.specs.List.{list_any, position_or_len}
use Rattle.std.specs.Option.{option_map}
use Rattle.std.proofs.lemmas.Bool.{cases_lt, lt-ltb, le-ltb, le-leb, lt-leb, ltb-true}
use Rattle.std.proofs.lemmas.Option.{cond_some}
use Rattle.fb_base.specs.Shapes.{AllAlong, IsCell, after_cell, AreCells}
use Rattle.places.specs.Place.{cell_over}
use Rattle.places.specs.Table.{begins_at}

-- Which cell of an element has a byte, and whether it begins there.

pub over_step : (c : ℕ) (cs : List ℕ) (r : ℕ) → cell_over (c ∷ cs) r ≡ cond (leb c r && ltb (r - c) 24) (Some 0) (option_map suc (cell_over cs r))
over_step c cs r = by_test (leb c r && ltb (r - c) 24) (position_or_len (λ c. leb c r && ltb (r - c) 24) cs) (length cs) where
  by_length : (n len : ℕ) → (n < len) ⊎ (len ≤ n) → cond (ltb (1 + n) (suc len)) (Some (1 + n)) None ≡ option_map suc (cond (ltb n len) (Some n) None)
  by_length n len (inl h) =
      let e : 1 + n ≡ suc n = omega arith in
      ap (λ b. cond b (Some (1 + n)) None) (lt-ltb (1 + n) (suc len) (omega arith)) ∙ ap (λ k. Some k) e ∙ sym (ap (λ b. option_map suc (cond b (Some n) None)) (lt-ltb n len h))
  by_length n len (inr h) = ap (λ b. cond b (Some (1 + n)) None) (le-ltb (1 + n) (suc len) (omega arith)) ∙ sym (ap (λ b. option_map suc (cond b (Some n) None)) (le-ltb n len h))

  by_test : (b : Bool) (n len : ℕ) → cond (ltb (cond (not b) (1 + n) 0) (suc len)) (Some (cond (not b) (1 + n) 0)) None ≡ cond b (Some 0) (option_map suc (cond (ltb n len) (Some n) None))
  by_test true n len = ap (λ b. cond b (Some 0) None) (lt-ltb 0 (suc len) (omega arith))
  by_test false n len = by_length n len (cases_lt n len)

-- the byte is the cell's, or it isn't
pub cell_has : (c r : ℕ) → c ≤ r → r < c + 24 → (leb c r && ltb (r - c) 24) ≡ true
cell_has c r low high = ap (λ b. b && ltb (r - c) 24) (le-leb c r low) ∙ lt-ltb (r - c) 24 (omega arith)

pub cell_lacks_low : (c r : ℕ) → r < c → (leb c r && ltb (r - c) 24) ≡ false
cell_lacks_low c r low = ap (λ b. b && ltb (r - c) 24) (lt-leb c r low)

pub cell_lacks_high : (c r : ℕ) → c + 24 ≤ r → (leb c r && ltb (r - c) 24) ≡ false
cell_lacks_high c r high = ap (λ b. b && ltb (r - c) 24) (le-leb c r (omega arith)) ∙ le-ltb (r - c) 24 (omega arith)

-- below all cells
pub over_below : (size low r : ℕ) (cells : List ℕ) → AllAlong (IsCell size) after_cell low cells → r < low → cell_over cells r ≡ None
over_below size low r [] a h = refl
over_below size low r (c ∷ cs) a h =
    let cell : IsCell size low c = a.0 in
    let above : low ≤ c = cell.above in
    over_step c cs r
    ∙ ap (λ b. cond b (Some 0) (option_map suc (cell_over cs r))) (cell_lacks_low c r (omega arith))
    ∙ ap (option_map suc) (over_below size (c + 24) r cs a.1 (omega arith))

begins_below : (size low r : ℕ) (cells : List ℕ) → AllAlong (IsCell size) after_cell low cells → r < low → list_any (λ c. eqb c r) cells ≡ false
begins_below size low r [] a h = refl
begins_below size low r (c ∷ cs) a h =
    let cell : IsCell size low c = a.0 in
    let above : low ≤ c = cell.above in
    ap (λ b. b || list_any (λ c. eqb c r) cs) (ne_eqb c r (omega arith)) ∙ begins_below size (c + 24) r cs a.1 (omega arith)

-- a cell begins at a byte where the cell that has it does
begins_step : (size r c : ℕ) (cs : List ℕ) → AllAlong (IsCell size) after_cell (c + 24) cs → list_any (λ c. eqb c r) cs ≡ begins_at cs r (cell_over cs r) → list_any (λ c. eqb c r) (c ∷ cs) ≡ begins_at (c ∷ cs) r (cell_over (c ∷ cs) r)
begins_step size r c cs a rest = by_low (cases_lt r c) where
  or_false : (b : Bool) → (b || false) ≡ b
  or_false true = refl
  or_false false = refl

  later : (x : Option ℕ) → begins_at cs r x ≡ begins_at (c ∷ cs) r (option_map suc x)
  later None = refl
  later (Some k) = refl

  past : c ≢ r → (leb c r && ltb (r - c) 24) ≡ false → list_any (λ c. eqb c r) (c ∷ cs) ≡ begins_at (c ∷ cs) r (cell_over (c ∷ cs) r)
  past ne lacks =
      ap (λ b. b || list_any (λ c. eqb c r) cs) (ne_eqb c r ne)
      ∙ rest
      ∙ later (cell_over cs r)
      ∙ sym (ap (begins_at (c ∷ cs) r) (over_step c cs r ∙ ap (λ b. cond b (Some 0) (option_map suc (cell_over cs r))) lacks))

  by_high : c ≤ r → (r < c + 24) ⊎ (c + 24 ≤ r) → list_any (λ c. eqb c r) (c ∷ cs) ≡ begins_at (c ∷ cs) r (cell_over (c ∷ cs) r)
  by_high low (inl h) =
      ap (λ b. eqb c r || b) (begins_below size (c + 24) r cs a h)
      ∙ or_false (eqb c r)
      ∙ sym (ap (begins_at (c ∷ cs) r) (over_step c cs r ∙ ap (λ b. cond b (Some 0) (option_map suc (cell_over cs r))) (cell_has c r low h)))
  by_high low (inr h) = past (omega arith) (cell_lacks_high c r h)

  by_low : (r < c) ⊎ (c ≤ r) → list_any (λ c. eqb c r) (c ∷ cs) ≡ begins_at (c ∷ cs) r (cell_over (c ∷ cs) r)
  by_low (inl h) = past (omega arith) (cell_lacks_low c r h)
  by_low (inr h) = by_high h (cases_lt r (c + 24))

begins_along : (size low r : ℕ) (cells : List ℕ) → AllAlong (IsCell size) after_cell low cells → list_any (λ c. eqb c r) cells ≡ begins_at cells r (cell_over cells r)
begins_along size low r [] a = refl
begins_along size low r (c ∷ cs) a = begins_step size r c cs a.1 (begins_along size (c + 24) r cs a.1)

pub begins_is : (size r : ℕ) (cells : List ℕ) → AreCells size cells → list_any (λ c. eqb c r) cells ≡ begins_at cells r (cell_over cells r)
begins_is size r cells a = begins_along size 0 r cells a

-- the cell that has a byte is one of the shape's
pub over_below_length : (cells : List ℕ) (r k : ℕ) → cell_over cells r ≡ Some k → k < length cells
over_below_length cells r k e =
    let parts = cond_some (ltb (position_or_len (λ c. leb c r && ltb (r - c) 24) cells) (length cells)) (position_or_len (λ c. leb c r && ltb (r - c) 24) cells) k e in
    let h = ltb-true _ _ parts.0 in
    let same = parts.1 in
    omega arith
