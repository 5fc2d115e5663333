use Rattle.std.proofs.Common.{◌≡◌, ℕ, suc, ◌+◌, ◌-◌, ◌*◌, ◌/◌, ◌%◌, ◌^◌, ◌<◌, ◌≤◌, Bool, true, false, not, cond, ◌&&◌, ◌⊎◌, List, [], ◌∷◌, length, get_or, Option, Some, None, is_some, is_none, refl, ap, sym, ◌∙◌, arith, inl, inr, ltb, leb}
use Rattle.std.specs.List.{slice_get, position_or_len}
use Rattle.std.specs.Option.{option_map, option_and_then}
use Rattle.std.proofs.Math.Nat.{mul-le-mul_left, mul-le-mul_right, suc-mul, mul_comm, div-lt_iff_lt-mul}
use Rattle.std.proofs.lemmas.Bool.{false≢true, cases_lt, ltb-true, le-ltb, lt-ltb}
use Rattle.std.proofs.lemmas.Option.{cond_some, slice_get-get_or, slice_get_past}
use Rattle.fb_base.specs.Shapes.{AllAlong, IsCell, after_cell, AreCells}
use Rattle.places.specs.declared.kinds.Cell.{Cell}
use Rattle.places.specs.Place.{Place, size_of, cell_over, cell_number, cell_with, begins_cell, cell_in, is_alive, is_live_in, byte_in, may_close_in, number_in}
use Rattle.places.specs.Calls.{most_live}
use Rattle.places.specs.Standing.{IsPlace}
use Rattle.places.specs.Answers.{IsWidth}
use Rattle.thread_system.specs.Memory.{read}
use Rattle.places.proofs.Lists.{read_open}

-- How many cells a shape has.

cells_from : (size low : ℕ) (cells : List ℕ) → low ≤ size → AllAlong (IsCell size) after_cell low cells → low + length cells * 24 ≤ size
cells_from size low [] h a = omega arith
cells_from size low (c ∷ cs) h a =
    let cell : IsCell size low c = a.0 in
    let rest : (c + 24) + length cs * 24 ≤ size = cells_from size (c + 24) cs cell.within a.1 in
    let above : low ≤ c = cell.above in
    omega arith

pub cells_fit : (size : ℕ) (cells : List ℕ) → AreCells size cells → length cells * 24 ≤ size
cells_fit size cells a = omega (arith, cells_from size 0 cells (omega arith) a)

pub all_cells_fit : (size n count : ℕ) → n * 24 ≤ size → size * count ≤ 67108864 → count * n ≤ 67108864
all_cells_fit size n count few limit =
    let h : n ≤ size = omega arith in
    omega (arith, mul-le-mul_left count h)

-- a cell that has a byte is one of the shape's
over_within : (cells : List ℕ) (r k : ℕ) → cell_over cells r ≡ Some k → k < length cells
over_within cells r k e =
    let parts = cond_some (ltb (position_or_len (λ c. leb c r && ltb (r - c) 24) cells) (length cells)) (position_or_len (λ c. leb c r && ltb (r - c) 24) cells) k e in
    let h = ltb-true _ _ parts.0 in
    let same = parts.1 in
    omega arith

element_within : (o size count : ℕ) → 0 < size → o < size * count → o / size < count
element_within o size count some h = (div-lt_iff_lt-mul some).1 (rw (mul_comm count size) h)

number_below : (q count n k : ℕ) → q < count → k < n → q * n + k < count * n
number_below q count n k h l =
    let g : suc q * n ≤ count * n = mul-le-mul_right n h in
    let e : suc q * n ≡ q * n + n = suc-mul q n in
    omega arith

number_above : (q count n k : ℕ) → count ≤ q → count * n ≤ q * n + k
number_above q count n k h =
    let g : count * n ≤ q * n = mul-le-mul_right n h in
    omega arith

pub cell_within : (p : Place) (o j : ℕ) → IsPlace p → o < size_of p.head → cell_number p.head o ≡ Some j → j < length p.cells
cell_within p o j place h e = by_over (cell_over p.head.shape.cells (o % p.head.shape.size)) refl where
  by_over : (k : Option ℕ) → cell_over p.head.shape.cells (o % p.head.shape.size) ≡ k → j < length p.cells
  by_over None is = absurd (none_is (sym (ap (option_map (λ k. o / p.head.shape.size * length p.head.shape.cells + k)) is) ∙ e)) where
    none_is : ◌≡◌ {A = Option ℕ} None (Some j) → ⊥
    none_is x = cc
  by_over (Some k) is =
      let same : Some (o / p.head.shape.size * length p.head.shape.cells + k) ≡ Some j = sym (ap (option_map (λ i. o / p.head.shape.size * length p.head.shape.cells + i)) is) ∙ e in
      let number : o / p.head.shape.size * length p.head.shape.cells + k ≡ j = cc in
      let within = over_within p.head.shape.cells (o % p.head.shape.size) k is in
      let few = cells_fit p.head.shape.size p.head.shape.cells place.shape.cells in
      let some : 0 < p.head.shape.size = omega (arith, few, within) in
      let below = number_below (o / p.head.shape.size) p.head.count (length p.head.shape.cells) k (element_within o p.head.shape.size p.head.count some h) within in
      let all = place.cells in
      omega (arith, below, number, all)

-- past the end of a place no cell begins, and no byte passes a test
pub live_past : (p : Place) (o : ℕ) → size_of p.head ≤ o → is_live_in p o ≡ false
live_past p o h = ap (λ b. b && not (get_or p.closed o true)) (le-ltb o (size_of p.head) h)

pub close_past : (p : Place) (o : ℕ) → size_of p.head ≤ o → may_close_in p o ≡ false
close_past p o h = ap (λ b. b && not (is_alive (cell_with p o))) (le-ltb o (size_of p.head) h)

pub byte_past : (p : Place) (o : ℕ) → size_of p.head ≤ o → byte_in p o ≡ None
byte_past p o h = ap (λ b. cond (b && is_none (cell_number p.head o)) (slice_get p.bytes o) None) (live_past p o h)

pub access_past : (p : Place) (o : ℕ) → size_of p.head ≤ o → is_some (byte_in p o) ≡ false
access_past p o h = ap is_some (byte_past p o h)

-- a byte may be accessed where it is live and no cell's
pub access_is : (p : Place) (o : ℕ) → IsPlace p → o < size_of p.head → is_some (byte_in p o) ≡ (is_live_in p o && is_none (cell_number p.head o))
access_is p o place h = by_test (is_live_in p o && is_none (cell_number p.head o)) where
  there : slice_get p.bytes o ≡ Some (get_or p.bytes o 0)
  there = slice_get-get_or p.bytes o 0 (let e = place.bytes in omega arith)

  by_test : (b : Bool) → is_some (cond b (slice_get p.bytes o) None) ≡ b
  by_test true = ap is_some there
  by_test false = refl

-- what may be accessed is the byte
pub byte_same : (p : Place) → IsPlace p → (o : ℕ) → is_some (byte_in p o) ≡ true → byte_in p o ≡ Some (get_or p.bytes o 0)
byte_same p place o some = by_size (cases_lt o (size_of p.head)) where
  by_test : slice_get p.bytes o ≡ Some (get_or p.bytes o 0) → (b : Bool) → is_some (cond b (slice_get p.bytes o) None) ≡ true → cond b (slice_get p.bytes o) None ≡ Some (get_or p.bytes o 0)
  by_test there true s = there
  by_test there false s = cc

  by_size : (o < size_of p.head) ⊎ (size_of p.head ≤ o) → byte_in p o ≡ Some (get_or p.bytes o 0)
  by_size (inl h) = by_test (slice_get-get_or p.bytes o 0 (let e = place.bytes in omega arith)) (is_live_in p o && is_none (cell_number p.head o)) some
  by_size (inr h) = absurd (false≢true (sym (access_past p o h) ∙ some))

-- the cell that has a byte
pub cell_with_is : (p : Place) (o k : ℕ) (d : Cell) → cell_number p.head o ≡ Some k → k < length p.cells → cell_with p o ≡ Some (get_or p.cells k d)
cell_with_is p o k d e h = ap (option_and_then (λ i. slice_get p.cells i)) e ∙ slice_get-get_or p.cells k d h

pub cell_past : (p : Place) (o : ℕ) → IsPlace p → size_of p.head ≤ o → cell_with p o ≡ None
cell_past p o place h = by_over (cell_over p.head.shape.cells (o % p.head.shape.size)) refl where
  by_over : (k : Option ℕ) → cell_over p.head.shape.cells (o % p.head.shape.size) ≡ k → cell_with p o ≡ None
  by_over None is = ap (λ i. option_and_then (λ j. slice_get p.cells j) (option_map (λ k. o / p.head.shape.size * length p.head.shape.cells + k) i)) is
  by_over (Some k) is =
      let within = over_within p.head.shape.cells (o % p.head.shape.size) k is in
      let few = cells_fit p.head.shape.size p.head.shape.cells place.shape.cells in
      let some : 0 < p.head.shape.size = omega (arith, few, within) in
      let past : p.head.count ≤ o / p.head.shape.size = by_count (cases_lt (o / p.head.shape.size) p.head.count) some in
      let above = number_above (o / p.head.shape.size) p.head.count (length p.head.shape.cells) k past in
      let all = place.cells in
      ap (λ i. option_and_then (λ j. slice_get p.cells j) (option_map (λ j. o / p.head.shape.size * length p.head.shape.cells + j) i)) is
      ∙ slice_get_past p.cells (o / p.head.shape.size * length p.head.shape.cells + k) (omega (arith, above, all))
    where
      by_count : (o / p.head.shape.size < p.head.count) ⊎ (p.head.count ≤ o / p.head.shape.size) → 0 < p.head.shape.size → p.head.count ≤ o / p.head.shape.size
      by_count (inl l) some = let g : o < p.head.count * p.head.shape.size = (div-lt_iff_lt-mul some).0 l in let c = mul_comm p.head.count p.head.shape.size in absurd (omega arith)
      by_count (inr l) some = l

pub cell_in_past : (p : Place) (o : ℕ) → IsPlace p → size_of p.head ≤ o → cell_in p o ≡ None
cell_in_past p o place h = by_test (begins_cell p.head o) where
  by_test : (b : Bool) → cond b (cell_with p o) None ≡ None
  by_test true = cell_past p o place h
  by_test false = refl

-- what passes a test is below 2 ^ 31
low_of : (p : Place) (o : ℕ) (b : Bool) → IsPlace p → b ≡ true → (size_of p.head ≤ o → b ≡ false) → o < 2 ^ 31
low_of p o b place t past = by_size (cases_lt o (size_of p.head)) where
  by_size : (o < size_of p.head) ⊎ (size_of p.head ≤ o) → o < 2 ^ 31
  by_size (inl h) = let l = place.limit in omega arith
  by_size (inr h) = absurd (false≢true (sym (past h) ∙ t))

pub live_low : (p : Place) → IsPlace p → (o : ℕ) → is_live_in p o ≡ true → o < 2 ^ 31
live_low p place o t = low_of p o (is_live_in p o) place t (live_past p o)

pub close_low : (p : Place) → IsPlace p → (o : ℕ) → may_close_in p o ≡ true → o < 2 ^ 31
close_low p place o t = low_of p o (may_close_in p o) place t (close_past p o)

pub byte_low : (p : Place) → IsPlace p → (o b : ℕ) → byte_in p o ≡ Some b → o < 2 ^ 31
byte_low p place o b t = low_of p o (is_some (byte_in p o)) place (ap is_some t) (access_past p o)

-- a cell that begins at an offset has the byte there
pub begun_cell : (p : Place) (o : ℕ) → IsPlace p → o < size_of p.head → begins_cell p.head o ≡ true → is_some (cell_number p.head o) ≡ is_some (cell_in p o)
begun_cell p o place h begins = by_number (cell_number p.head o) refl ∙ sym (ap (λ b. is_some (cond b (cell_with p o) None)) begins) where
  by_number : (k : Option ℕ) → cell_number p.head o ≡ k → is_some (cell_number p.head o) ≡ is_some (cell_with p o)
  by_number None e = ap is_some e ∙ sym (ap (λ i. is_some (option_and_then (λ j. slice_get p.cells j) i)) e)
  by_number (Some k) e = ap is_some e ∙ sym (ap is_some (cell_with_is p o k (record { alive = false; desc = record { place = 0; length = 0; size = 0 } }) e (cell_within p o k place h e)))

pub may_close_cell : (p : Place) (o k : ℕ) (d : Cell) → o < size_of p.head → cell_number p.head o ≡ Some k → k < length p.cells → not (get_or p.cells k d).alive ≡ may_close_in p o
may_close_cell p o k d h e l = sym (ap (λ b. b && not (is_alive (cell_with p o))) (lt-ltb o (size_of p.head) h) ∙ ap (λ c. not (is_alive c)) (cell_with_is p o k d e l))

pub may_close_none : (p : Place) (o : ℕ) → o < size_of p.head → cell_number p.head o ≡ None → true ≡ may_close_in p o
may_close_none p o h e = sym (ap (λ b. b && not (is_alive (cell_with p o))) (lt-ltb o (size_of p.head) h) ∙ ap (λ i. not (is_alive (option_and_then (λ j. slice_get p.cells j) i))) e)

pub width_some : (w : ℕ) → IsWidth w → 0 < w
width_some w (inl e) = omega arith
width_some w (inr (inl e)) = omega arith
width_some w (inr (inr (inl e))) = omega arith
width_some w (inr (inr (inr e))) = omega arith

pub some_if : {A : Type 0} (b : Bool) (x : A) → is_some (cond b (Some x) None) ≡ b
some_if true x = refl
some_if false x = refl

-- the number that is read
pub read_value : (p : Place) (o w v : ℕ) → IsPlace p → o + w ≤ most_live → is_some (read (byte_in p) o w) ≡ true → v ≡ number_in p.bytes o w → Some v ≡ read (byte_in p) o w
read_value p o w v place low allowed e = ap (λ x. Some x) e ∙ sym (read_open (byte_in p) p.bytes (byte_same p place) w o (omega arith) allowed)

pub access_cell : (p : Place) (o k : ℕ) → IsPlace p → o < size_of p.head → cell_number p.head o ≡ Some k → false ≡ is_some (byte_in p o)
access_cell p o k place h e = sym (access_is p o place h ∙ ap (λ i. is_live_in p o && is_none i) e ∙ and_false (is_live_in p o)) where
  and_false : (b : Bool) → (b && false) ≡ false
  and_false true = refl
  and_false false = refl

pub access_none : (p : Place) (o : ℕ) → IsPlace p → o < size_of p.head → cell_number p.head o ≡ None → is_live_in p o ≡ is_some (byte_in p o)
access_none p o place h e = sym (access_is p o place h ∙ ap (λ i. is_live_in p o && is_none i) e ∙ and_true (is_live_in p o)) where
  and_true : (b : Bool) → (b && true) ≡ b
  and_true true = refl
  and_true false = refl
