use Rattle.std.proofs.Common.{◌≡◌, ◌≢◌, ℕ, zero, suc, ◌+◌, ◌-◌, ◌*◌, ◌/◌, ◌%◌, ◌<◌, ◌≤◌, Bool, true, false, cond, ◌&&◌, ◌⊎◌, List, [], ◌∷◌, length, get_or, set, eqb, ltb, leb, drop, replicate, Option, Some, None, Result, Ok, Err, IfSome, IfOk, subst, refl, ap, sym, ◌∙◌, arith, inl, inr, ne_eqb, length-set}
use Rattle.std.specs.Option.{option_map}
use Rattle.std.proofs.Math.ListN.{length-replicate, drop_of_length-le}
use Rattle.std.proofs.lemmas.Bool.{cases_eq, cases_lt}
use Rattle.std.proofs.lemmas.List.{get_or-set_other, get_or-replicate, get_or_past, drop_more}
use Rattle.std.proofs.lemmas.Grind.{get_or-set_at}
use Rattle.fb_base.specs.Shapes.{AllAlong, IsCell, after_cell, AreCells}
use Rattle.places.specs.Place.{cell_over}
use Rattle.places.specs.Table.{number_before, cell_by, with_words, with_cells, IsTable}
use Rattle.places.proofs.Over.{over_step, cell_has, cell_lacks_low, cell_lacks_high, begins_is, over_below_length}

-- The table of the cells of an element.

words_here : (table : List ℕ) (w k v : ℕ) → w + 3 ≤ length table → w ≤ v → v < w + 3 → get_or (with_words w k table) v 0 ≡ k
words_here table w k v within low high = by_last (cases_eq v (w + 2)) where
  one : length (set table w k) ≡ length table
  one = length-set table w k

  two : length (set (set table w k) (w + 1) k) ≡ length table
  two = length-set (set table w k) (w + 1) k ∙ one

  by_next : v ≢ w + 2 → (v ≡ w + 1) ⊎ (v ≢ w + 1) → get_or (set (set table w k) (w + 1) k) v 0 ≡ k
  by_next not_last (inl e) = get_or-set_at (set table w k) (w + 1) v k 0 e (omega (arith, one, within))
  by_next not_last (inr ne) =
      let e : v ≡ w = omega arith in
      get_or-set_other (set table w k) (w + 1) v k 0 ne ∙ get_or-set_at table w v k 0 e (omega arith)

  by_last : (v ≡ w + 2) ⊎ (v ≢ w + 2) → get_or (with_words w k table) v 0 ≡ k
  by_last (inl e) = get_or-set_at (set (set table w k) (w + 1) k) (w + 2) v k 0 e (omega (arith, two, within))
  by_last (inr ne) = get_or-set_other (set (set table w k) (w + 1) k) (w + 2) v k 0 ne ∙ by_next ne (cases_eq v (w + 1))

words_other : (table : List ℕ) (w k v : ℕ) → v ≢ w → v ≢ w + 1 → v ≢ w + 2 → get_or (with_words w k table) v 0 ≡ get_or table v 0
words_other table w k v a b c =
    get_or-set_other (set (set table w k) (w + 1) k) (w + 2) v k 0 c ∙ get_or-set_other (set table w k) (w + 1) v k 0 b ∙ get_or-set_other table w v k 0 a

pub length_words : (table : List ℕ) (w k : ℕ) → length (with_words w k table) ≡ length table
length_words table w k = length-set (set (set table w k) (w + 1) k) (w + 2) k ∙ length-set (set table w k) (w + 1) k ∙ length-set table w k

-- what stands before the words of all the cells
words_before : (size low k v : ℕ) (cells table : List ℕ) → AllAlong (IsCell size) after_cell low cells → 8 * v + 8 ≤ low → get_or (with_cells k cells table) v 0 ≡ get_or table v 0
words_before size low k v [] table a h = refl
words_before size low k v (c ∷ cs) table a h =
    let cell : IsCell size low c = a.0 in
    let above : low ≤ c = cell.above in
    words_before size (c + 24) (k + 1) v cs (with_words (c / 8) (k + 1) table) a.1 (omega arith)
    ∙ words_other table (c / 8) (k + 1) v (omega arith) (omega arith) (omega arith)

-- the cell that has a byte, counted from a number on, or what the table told before
abbrev shifted : ℕ → Option ℕ → Option ℕ → Option ℕ
shifted k None other = other
shifted k (Some x) other = Some (k + x)

before_next : (k : ℕ) → number_before (k + 1) ≡ Some (k + 0)
before_next k =
    let e : k + 1 - 1 ≡ k + 0 = omega arith in
    ap (λ b. cond b None (Some (k + 1 - 1))) (ne_eqb (k + 1) 0 (omega arith)) ∙ ap (λ n. Some n) e

shifted_next : (k : ℕ) (x other : Option ℕ) → shifted (k + 1) x other ≡ shifted k (option_map suc x) other
shifted_next k None other = refl
shifted_next k (Some x) other = let e : k + 1 + x ≡ k + suc x = omega arith in ap (λ n. Some n) e

told_step : (size low k r c : ℕ) (cs table : List ℕ) → IsCell size low c → AllAlong (IsCell size) after_cell (c + 24) cs → length table ≡ size / 8
    → cell_by (with_cells (k + 1) cs (with_words (c / 8) (k + 1) table)) r ≡ shifted (k + 1) (cell_over cs r) (cell_by (with_words (c / 8) (k + 1) table) r)
    → cell_by (with_cells k (c ∷ cs) table) r ≡ shifted k (cell_over (c ∷ cs) r) (cell_by table r)
told_step size low k r c cs table cell a long rest = by_low (cases_lt r c) where
  lacks : (leb c r && ltb (r - c) 24) ≡ false → get_or (with_words (c / 8) (k + 1) table) (r / 8) 0 ≡ get_or table (r / 8) 0 → cell_by (with_cells k (c ∷ cs) table) r ≡ shifted k (cell_over (c ∷ cs) r) (cell_by table r)
  lacks no_byte same =
      rest
      ∙ ap (λ n. shifted (k + 1) (cell_over cs r) (number_before n)) same
      ∙ shifted_next k (cell_over cs r) (cell_by table r)
      ∙ sym (ap (λ x. shifted k x (cell_by table r)) (over_step c cs r ∙ ap (λ b. cond b (Some 0) (option_map suc (cell_over cs r))) no_byte))

  has : c ≤ r → r < c + 24 → cell_by (with_cells k (c ∷ cs) table) r ≡ shifted k (cell_over (c ∷ cs) r) (cell_by table r)
  has from to =
      let aligned : c % 8 ≡ 0 = cell.aligned in
      let within : c + 24 ≤ size = cell.within in
      ap number_before (words_before size (c + 24) (k + 1) (r / 8) cs (with_words (c / 8) (k + 1) table) a (omega arith) ∙ words_here table (c / 8) (k + 1) (r / 8) (omega arith) (omega arith) (omega arith))
      ∙ before_next k
      ∙ sym (ap (λ x. shifted k x (cell_by table r)) (over_step c cs r ∙ ap (λ b. cond b (Some 0) (option_map suc (cell_over cs r))) (cell_has c r from to)))

  by_high : c ≤ r → (r < c + 24) ⊎ (c + 24 ≤ r) → cell_by (with_cells k (c ∷ cs) table) r ≡ shifted k (cell_over (c ∷ cs) r) (cell_by table r)
  by_high from (inl h) = has from h
  by_high from (inr h) = lacks (cell_lacks_high c r h) (words_other table (c / 8) (k + 1) (r / 8) (omega arith) (omega arith) (omega arith))

  by_low : (r < c) ⊎ (c ≤ r) → cell_by (with_cells k (c ∷ cs) table) r ≡ shifted k (cell_over (c ∷ cs) r) (cell_by table r)
  by_low (inl h) =
      let aligned : c % 8 ≡ 0 = cell.aligned in
      lacks (cell_lacks_low c r h) (words_other table (c / 8) (k + 1) (r / 8) (omega arith) (omega arith) (omega arith))
  by_low (inr h) = by_high h (cases_lt r (c + 24))

cells_told : (size low k r : ℕ) (cells table : List ℕ) → AllAlong (IsCell size) after_cell low cells → length table ≡ size / 8 → cell_by (with_cells k cells table) r ≡ shifted k (cell_over cells r) (cell_by table r)
cells_told size low k r [] table a long = refl
cells_told size low k r (c ∷ cs) table a long = told_step size low k r c cs table a.0 a.1 long (cells_told size (c + 24) (k + 1) r cs (with_words (c / 8) (k + 1) table) a.1 (length_words table (c / 8) (k + 1) ∙ long))

nothing_told : (n r : ℕ) → cell_by (replicate n 0) r ≡ None
nothing_told n r = ap number_before (by_length (cases_lt (r / 8) n)) where
  by_length : (r / 8 < n) ⊎ (n ≤ r / 8) → ◌≡◌ {A = ℕ} (get_or (replicate n 0) (r / 8) 0) 0
  by_length (inl h) = get_or-replicate {A = ℕ} n (r / 8) 0 0 h
  by_length (inr h) = let long = length-replicate {A = ℕ} n 0 in get_or_past {X = ℕ} (replicate n 0) (r / 8) 0 (omega (arith, long, h))

pub table_is : (size : ℕ) (cells : List ℕ) → AreCells size cells → IsTable cells (with_cells 0 cells (replicate (size / 8) 0))
table_is size cells a = record {
  over = λ r. cells_told size 0 0 r cells (replicate (size / 8) 0) a (length-replicate {A = ℕ} (size / 8) 0) ∙ ap (shifted 0 (cell_over cells r)) (nothing_told (size / 8) r) ∙ from_zero (cell_over cells r);
  begins = λ r. begins_is size r cells a;
} where
  from_zero : (x : Option ℕ) → shifted 0 x None ≡ x
  from_zero None = refl
  from_zero (Some x) = let e : 0 + x ≡ x = omega arith in ap (λ n. Some n) e

pub empty_is : IsTable [] []
empty_is = record { over = λ r. refl; begins = λ r. refl }

pub table_made : {E : Type 0} (size : ℕ) (cells : List ℕ) (r : Result (List ℕ) E) → AreCells size cells → IfOk r (λ t. t ≡ with_cells 0 cells (replicate (size / 8) 0)) → IfOk r (λ t. IsTable cells t)
table_made size cells (Err e) a made = tt
table_made size cells (Ok t) a made = subst (IsTable cells) (sym made) (table_is size cells a)

-- the loop that makes it
pub record CellFits (size c : ℕ) : Type 0 where
  pub aligned : c % 8 ≡ 0
  pub within : c + 24 ≤ size

pub cell_fits : (size low k d : ℕ) (cells : List ℕ) → AllAlong (IsCell size) after_cell low cells → k < length cells → CellFits size (get_or cells k d)
cell_fits size low k d [] a h = absurd (omega arith)
cell_fits size low zero d (c ∷ cs) a h = let cell : IsCell size low c = a.0 in record { aligned = cell.aligned; within = cell.within }
cell_fits size low (suc k) d (c ∷ cs) a h = cell_fits size (c + 24) k d cs a.1 (omega arith)

pub cells_next : (cells table all : List ℕ) (k d : ℕ) → k < length cells → with_cells k (drop k cells) table ≡ all → with_cells (k + 1) (drop (k + 1) cells) (with_words (get_or cells k d / 8) (k + 1) table) ≡ all
cells_next cells table all k d h e = sym (ap (λ cs. with_cells k cs table) (drop_more cells k d h)) ∙ e

-- the cell that the table tells is one of the cells
pub told_within : (cells : List ℕ) (r : ℕ) (x : Option ℕ) → x ≡ cell_over cells r → IfSome x (λ k. k < length cells)
told_within cells r None e = tt
told_within cells r (Some k) e = over_below_length cells r k (sym e)

pub cells_end : (cells table all : List ℕ) (k : ℕ) → length cells ≤ k → with_cells k (drop k cells) table ≡ all → table ≡ all
cells_end cells table all k h e = sym (ap (λ cs. with_cells k cs table) (drop_of_length-le cells h)) ∙ e

-- each cell's words are within the table
pub words_fit : (size k d : ℕ) (cells table : List ℕ) → AreCells size cells → length table ≡ size / 8 → k < length cells → get_or cells k d / 8 + 3 ≤ length table
words_fit size k d cells table a long h =
    let f = cell_fits size 0 k d cells a h in
    let aligned : get_or cells k d % 8 ≡ 0 = f.aligned in
    let within : get_or cells k d + 24 ≤ size = f.within in
    omega (arith, aligned, within, long)
