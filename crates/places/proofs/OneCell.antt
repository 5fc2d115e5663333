use Rattle.std.proofs.Common.{◌≡◌, ◌≢◌, ℕ, suc, ◌+◌, ◌-◌, ◌*◌, ◌/◌, ◌%◌, ◌<◌, ◌≤◌, Bool, true, false, cond, ◌&&◌, ◌⊎◌, List, length, get_or, set, eqb, Option, Some, None, is_some, refl, ap, sym, ◌∙◌, arith, inl, inr}
use Rattle.std.specs.List.{slice_get, list_any}
use Rattle.std.specs.Option.{option_map, option_and_then}
use Rattle.std.proofs.Math.Nat.{div-add-mod, mul-le-mul_right, suc-mul}
use Rattle.std.proofs.lemmas.Bool.{false≢true, cases_eq, cases_lt, eqb-true}
use Rattle.fb_base.specs.Shapes.{IsShape}
use Rattle.places.specs.declared.kinds.Cell.{Cell}
use Rattle.places.specs.Place.{Head, Place, cell_in, cell_with, cell_over, cell_number, begins_cell, with_cell_in}
use Rattle.places.specs.Memory.{Places, place_at, place_of, with_place, number_of, offset_of, cell_at}
use Rattle.places.specs.Calls.{with_cell}
use Rattle.places.specs.Standing.{IsPlace, Stands}
use Rattle.places.specs.Table.{begins_at}
use Rattle.places.proofs.Changed.{given, with_same, with_other}
use Rattle.places.proofs.Over.{begins_is, over_below_length}
use Rattle.places.proofs.Seen.{get_set_same, get_set_other}

-- What setting a cell makes of the cells.

-- two cells that begin at bytes of one place, with one number, are one
same_row : (q r n x y : ℕ) → x < n → y < n → q * n + x ≡ r * n + y → q ≡ r
same_row q r n x y low high e = by_order (cases_lt q r) (cases_lt r q) where
  below : (q r x y : ℕ) → x < n → q < r → q * n + x < r * n + y
  below q r x y l h =
      let g : suc q * n ≤ r * n = mul-le-mul_right n h in
      let s : suc q * n ≡ q * n + n = suc-mul q n in
      omega arith

  by_order : (q < r) ⊎ (r ≤ q) → (r < q) ⊎ (q ≤ r) → q ≡ r
  by_order (inl h) other = let g = below q r x y low h in absurd (omega (arith, g, e))
  by_order (inr h) (inl l) = let g = below r q y x high l in absurd (omega (arith, g, e))
  by_order (inr h) (inr l) = omega arith

pub record Begins (h : Head) (o j : ℕ) : Type 0 where
  pub k : ℕ
  pub number : o / h.shape.size * length h.shape.cells + k ≡ j
  pub within : k < length h.shape.cells
  pub start : get_or h.shape.cells k 0 ≡ o % h.shape.size

begins_as : (h : Head) (o j : ℕ) → IsShape 0 h.shape → begins_cell h o ≡ true → cell_number h o ≡ Some j → Begins h o j
begins_as h o j lawful begins number = by_over (cell_over h.shape.cells (o % h.shape.size)) refl where
  none_is : ◌≡◌ {A = Option ℕ} None (Some j) → ⊥
  none_is x = cc

  by_over : (x : Option ℕ) → cell_over h.shape.cells (o % h.shape.size) ≡ x → Begins h o j
  by_over None is = absurd (none_is (sym (ap (option_map (λ k. o / h.shape.size * length h.shape.cells + k)) is) ∙ number))
  by_over (Some k) is =
      let same : Some (o / h.shape.size * length h.shape.cells + k) ≡ Some j = sym (ap (option_map (λ k. o / h.shape.size * length h.shape.cells + k)) is) ∙ number in
      let begun : eqb (get_or h.shape.cells k 0) (o % h.shape.size) ≡ true = sym (begins_is h.shape.size (o % h.shape.size) h.shape.cells lawful.cells ∙ ap (begins_at h.shape.cells (o % h.shape.size)) is) ∙ begins in
      record {
        k = k;
        number = let e : o / h.shape.size * length h.shape.cells + k ≡ j = cc in e;
        within = over_below_length h.shape.cells (o % h.shape.size) k is;
        start = eqb-true (get_or h.shape.cells k 0) (o % h.shape.size) begun;
      }

one_beginning : (h : Head) (o i j : ℕ) → Begins h o j → Begins h i j → o ≡ i
one_beginning h o i j a b =
    let row : o / h.shape.size ≡ i / h.shape.size = same_row (o / h.shape.size) (i / h.shape.size) (length h.shape.cells) a.k b.k a.within b.within (a.number ∙ sym b.number) in
    let scaled : o / h.shape.size * length h.shape.cells ≡ i / h.shape.size * length h.shape.cells = ap (λ q. q * length h.shape.cells) row in
    let one : o / h.shape.size * length h.shape.cells + a.k ≡ j = a.number in
    let two : i / h.shape.size * length h.shape.cells + b.k ≡ j = b.number in
    let k : a.k ≡ b.k = omega (arith, scaled, one, two) in
    let rest : o % h.shape.size ≡ i % h.shape.size = sym a.start ∙ ap (λ k. get_or h.shape.cells k 0) k ∙ b.start in
    sym (div-add-mod o h.shape.size) ∙ ap (λ q. h.shape.size * q + o % h.shape.size) row ∙ ap (λ r. h.shape.size * (i / h.shape.size) + r) rest ∙ div-add-mod i h.shape.size

-- the cell of a place in which one was set
cell_set_here : (p : Place) (o j : ℕ) (cell : Cell) → is_some (cell_in p o) ≡ true → cell_number p.head o ≡ Some j → cell_in (record p { cells = set p.cells j cell }) o ≡ Some cell
cell_set_here p o j cell there number = by_begin (begins_cell p.head o) there where
  some_is : (x : Option Cell) → is_some x ≡ true → (c : Cell) × (x ≡ Some c)
  some_is None s = absurd (false≢true s)
  some_is (Some c) s = (c, refl)

  by_begin : (b : Bool) → is_some (cond b (cell_with p o) None) ≡ true → cond b (cell_with (record p { cells = set p.cells j cell }) o) None ≡ Some cell
  by_begin false s = absurd (false≢true s)
  by_begin true s =
      let old = some_is (cell_with p o) s in
      ap (option_and_then (λ k. slice_get (set p.cells j cell) k)) number
      ∙ get_set_same p.cells j old.0 cell (sym (ap (option_and_then (λ k. slice_get p.cells k)) number) ∙ old.1)

cell_set_elsewhere : (p : Place) (o k j : ℕ) (cell : Cell) → IsShape 0 p.head.shape → begins_cell p.head o ≡ true → cell_number p.head o ≡ Some j → k ≢ o → cell_in (record p { cells = set p.cells j cell }) k ≡ cell_in p k
cell_set_elsewhere p o k j cell lawful begins number ne = by_begin (begins_cell p.head k) refl where
  by_number : begins_cell p.head k ≡ true → (x : Option ℕ) → cell_number p.head k ≡ x → cell_with (record p { cells = set p.cells j cell }) k ≡ cell_with p k
  by_number at None is = ap (option_and_then (λ i. slice_get (set p.cells j cell) i)) is ∙ sym (ap (option_and_then (λ i. slice_get p.cells i)) is)
  by_number at (Some i) is =
      let other : i ≢ j = λ e. ne (one_beginning p.head k o j (begins_as p.head k j lawful at (is ∙ ap (λ n. Some n) e)) (begins_as p.head o j lawful begins number)) in
      ap (option_and_then (λ i. slice_get (set p.cells j cell) i)) is
      ∙ get_set_other p.cells j i cell other
      ∙ sym (ap (option_and_then (λ i. slice_get p.cells i)) is)

  by_begin : (b : Bool) → begins_cell p.head k ≡ b → cond b (cell_with (record p { cells = set p.cells j cell }) k) None ≡ cond b (cell_with p k) None
  by_begin false is = refl
  by_begin true is = by_number is (cell_number p.head k) refl

-- the memory in which a cell was set
pub record CellSet (m after : Places) (a : ℕ) (cell : Cell) : Type 0 where
  pub place : Place
  pub j : ℕ
  pub is : place_at m (number_of a) ≡ Some place
  pub there : is_some (cell_in place (offset_of a)) ≡ true
  pub number : cell_number place.head (offset_of a) ≡ Some j
  pub same : with_place (number_of a) (Some (record place { cells = set place.cells j cell })) m ≡ after

pub cell_set : (m after : Places) (a : ℕ) (cell : Cell) → with_cell a cell m ≡ Some after → CellSet m after a cell
cell_set m after a cell e = by_place (place_of m a) refl e where
  none_is : ◌≡◌ {A = Option Places} None (Some after) → ⊥
  none_is s = cc

  by_number : (p : Place) → place_of m a ≡ Some p → is_some (cell_in p (offset_of a)) ≡ true → (i : Option ℕ) → cell_number p.head (offset_of a) ≡ i → option_map (λ y. with_place (number_of a) (Some y) m) (option_map (λ j. record p { cells = set p.cells j cell }) i) ≡ Some after → CellSet m after a cell
  by_number p is there None number s = absurd (none_is s)
  by_number p is there (Some j) number s = record { place = p; j = j; is = is; there = there; number = number; same = let new : with_place (number_of a) (Some (record p { cells = set p.cells j cell })) m ≡ after = cc in new }

  by_test : (p : Place) → place_of m a ≡ Some p → (b : Bool) → is_some (cell_in p (offset_of a)) ≡ b → cond b (option_map (λ y. with_place (number_of a) (Some y) m) (with_cell_in (offset_of a) cell p)) None ≡ Some after → CellSet m after a cell
  by_test p is true there s = by_number p is there (cell_number p.head (offset_of a)) refl s
  by_test p is false there s = absurd (none_is s)

  by_place : (x : Option Place) → place_of m a ≡ x → option_and_then (λ p. cond (is_some (cell_in p (offset_of a))) (option_map (λ y. with_place (number_of a) (Some y) m) (with_cell_in (offset_of a) cell p)) None) x ≡ Some after → CellSet m after a cell
  by_place None is s = absurd (none_is s)
  by_place (Some p) is s = by_test p is (is_some (cell_in p (offset_of a))) refl s

pub set_cell_here : (m after : Places) (a : ℕ) (cell : Cell) → with_cell a cell m ≡ Some after → cell_at after a ≡ Some cell
set_cell_here m after a cell e =
    let c = cell_set m after a cell e in
    let g = given m (number_of a) c.place c.is in
    ap (λ x. cell_at x a) (sym c.same)
    ∙ ap (option_and_then (λ p. cell_in p (offset_of a))) (with_same m (number_of a) (Some (record c.place { cells = set c.place.cells c.j cell })) g.0 g.1)
    ∙ cell_set_here c.place (offset_of a) c.j cell c.there c.number

pub set_cell_elsewhere : (m after : Places) (a q : ℕ) (cell : Cell) → Stands m → with_cell a cell m ≡ Some after → q ≢ a → cell_at after q ≡ cell_at m q
set_cell_elsewhere m after a q cell stands e ne = ap (λ x. cell_at x q) (sym c.same) ∙ by_number (cases_eq (number_of q) (number_of a)) where
  c : CellSet m after a cell
  c = cell_set m after a cell e

  g : (0 < number_of a) × (number_of a ≤ length m)
  g = given m (number_of a) c.place c.is

  begins_there : (b : Bool) → is_some (cond b (cell_with c.place (offset_of a)) None) ≡ true → b ≡ true
  begins_there true s = refl
  begins_there false s = absurd (false≢true s)

  by_number : (number_of q ≡ number_of a) ⊎ (number_of q ≢ number_of a) → cell_at (with_place (number_of a) (Some (record c.place { cells = set c.place.cells c.j cell })) m) q ≡ cell_at m q
  by_number (inl n) =
      let lawful : IsPlace c.place = stands.each (number_of a) c.place c.is in
      let o : offset_of q ≢ offset_of a = λ k. ne (omega arith) in
      ap (λ k. option_and_then (λ p. cell_in p (offset_of q)) (place_at (with_place (number_of a) (Some (record c.place { cells = set c.place.cells c.j cell })) m) k)) n
      ∙ ap (option_and_then (λ p. cell_in p (offset_of q))) (with_same m (number_of a) (Some (record c.place { cells = set c.place.cells c.j cell })) g.0 g.1)
      ∙ cell_set_elsewhere c.place (offset_of a) (offset_of q) c.j cell lawful.shape (begins_there (begins_cell c.place.head (offset_of a)) c.there) c.number o
      ∙ ap (option_and_then (λ p. cell_in p (offset_of q))) (sym c.is)
      ∙ ap (λ k. option_and_then (λ p. cell_in p (offset_of q)) (place_at m k)) (sym n)
  by_number (inr n) = ap (option_and_then (λ p. cell_in p (offset_of q))) (with_other m (number_of a) (number_of q) (Some (record c.place { cells = set c.place.cells c.j cell })) g.0 n)
