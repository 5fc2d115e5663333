use Rattle.std.proofs.Common.{◌≡◌, ◌≢◌, ℕ, suc, ◌+◌, ◌-◌, ◌*◌, ◌/◌, ◌%◌, ◌<◌, ◌≤◌, Bool, true, false, not, cond, ◌&&◌, ◌⊎◌, List, [], ◌∷◌, ◌++◌, length, get_or, set, eqb, ltb, replicate, Option, Some, None, is_some, is_none, refl, ap, sym, ◌∙◌, subst, arith, inl, inr}
use Rattle.std.specs.List.{slice_get, list_any}
use Rattle.std.specs.Option.{option_map, option_and_then}
use Rattle.std.proofs.Math.Nat.{div-add-mod, mul-le-mul_right, suc-mul}
use Rattle.std.proofs.Math.ListN.{length-replicate}
use Rattle.std.proofs.lemmas.Bool.{false≢true, cases_eq, cases_lt, lt-ltb, le-ltb, ltb-false}
use Rattle.std.proofs.lemmas.List.{get_or-replicate}
use Rattle.std.proofs.lemmas.Option.{slice_get-get_or}
use Rattle.fb_base.specs.declared.shape.Shape.{Shape}
use Rattle.fb_base.specs.Shapes.{IsShape}
use Rattle.places.specs.declared.kinds.Form.{Form}
use Rattle.places.specs.declared.kinds.Cell.{Cell}
use Rattle.places.specs.Place.{Head, Place, size_of, byte_in, cell_in, cell_with, is_live_in, cell_over, cell_number, begins_cell, dead_cell, fresh}
use Rattle.places.specs.Memory.{Places, place_at, place_of, number_of, offset_of, address, byte_at, cell_at, is_live, tells, next_number, live_size}
use Rattle.places.specs.Calls.{made, most_live, new_head, new_byte, new_cell}
use Rattle.places.specs.Standing.{IsPlace}
use Rattle.places.specs.Table.{begins_at}
use Rattle.places.proofs.Cells.{cell_with_is, cell_within, cell_in_past}
use Rattle.places.proofs.Done.{fresh_place}
use Rattle.places.proofs.Over.{begins_is}
use Rattle.places.proofs.Seen.{made_place, made_others}
use Rattle.places.proofs.Here.{and_true, and_false}

-- What is seen of a new place, and of all others beside it.

fresh_live : (h : Head) (o : ℕ) → is_live_in (fresh h) o ≡ ltb o (size_of h)
fresh_live h o = by_size (cases_lt o (size_of h)) where
  by_size : (o < size_of h) ⊎ (size_of h ≤ o) → is_live_in (fresh h) o ≡ ltb o (size_of h)
  by_size (inl l) = ap (λ b. ltb o (size_of h) && not b) (get_or-replicate (size_of h) o false true l) ∙ and_true (ltb o (size_of h))
  by_size (inr l) = ap (λ b. b && not (get_or (replicate (size_of h) false) o true)) (le-ltb o (size_of h) l) ∙ sym (le-ltb o (size_of h) l)

fresh_byte : (h : Head) (o : ℕ) → byte_in (fresh h) o ≡ new_byte h o
fresh_byte h o = ap (λ b. cond (b && is_none (cell_number h o)) (slice_get (replicate (size_of h) 0) o) None) (fresh_live h o) ∙ by_size (cases_lt o (size_of h)) where
  by_size : (o < size_of h) ⊎ (size_of h ≤ o) → cond (ltb o (size_of h) && is_none (cell_number h o)) (slice_get (replicate (size_of h) 0) o) None ≡ new_byte h o
  by_size (inl l) =
      let long = length-replicate {A = ℕ} (size_of h) 0 in
      ap (λ x. cond (ltb o (size_of h) && is_none (cell_number h o)) x None) (slice_get-get_or {X = ℕ} (replicate (size_of h) 0) o 0 (omega (arith, long, l)) ∙ ap {B = Option ℕ} (λ b. Some b) (get_or-replicate {A = ℕ} (size_of h) o 0 0 l))
  by_size (inr l) =
      ap (λ b. cond (b && is_none (cell_number h o)) (slice_get (replicate (size_of h) 0) o) None) (le-ltb o (size_of h) l)
      ∙ sym (ap (λ b. cond (b && is_none (cell_number h o)) (Some 0) None) (le-ltb o (size_of h) l))

-- where a cell begins, one has the byte
begun_number : (h : Head) (o : ℕ) → IsShape 0 h.shape → begins_cell h o ≡ true → (j : ℕ) × (cell_number h o ≡ Some j)
begun_number h o lawful begins = by_over (cell_over h.shape.cells (o % h.shape.size)) refl where
  by_over : (x : Option ℕ) → cell_over h.shape.cells (o % h.shape.size) ≡ x → (j : ℕ) × (cell_number h o ≡ Some j)
  by_over None is = absurd (false≢true (sym (begins_is h.shape.size (o % h.shape.size) h.shape.cells lawful.cells ∙ ap (begins_at h.shape.cells (o % h.shape.size)) is) ∙ begins))
  by_over (Some k) is = (o / h.shape.size * length h.shape.cells + k, ap (option_map (λ k. o / h.shape.size * length h.shape.cells + k)) is)

fresh_cell : (h : Head) (o : ℕ) → IsPlace (fresh h) → cell_in (fresh h) o ≡ new_cell h o
fresh_cell h o place = by_size (cases_lt o (size_of h)) where
  by_begin : o < size_of h → (b : Bool) → begins_cell h o ≡ b → cond b (cell_with (fresh h) o) None ≡ cond b (Some dead_cell) None
  by_begin l false is = refl
  by_begin l true is =
      let number = begun_number h o place.shape is in
      let within = cell_within (fresh h) o number.0 place l number.1 in
      let long = place.cells in
      cell_with_is (fresh h) o number.0 dead_cell number.1 within ∙ ap (λ c. Some c) (get_or-replicate (h.count * length h.shape.cells) number.0 dead_cell dead_cell (omega (arith, within, long)))

  by_size : (o < size_of h) ⊎ (size_of h ≤ o) → cell_in (fresh h) o ≡ new_cell h o
  by_size (inl l) = by_begin l (begins_cell h o) refl ∙ sym (ap (λ b. cond (b && begins_cell h o) (Some dead_cell) None) (lt-ltb o (size_of h) l))
  by_size (inr l) = cell_in_past (fresh h) o place l ∙ sym (ap (λ b. cond (b && begins_cell h o) (Some dead_cell) None) (le-ltb o (size_of h) l))

new_view : {A : Type 0} (view : Option Place → A) (shape : Shape) (count addr q : ℕ) (form : Form) (m after : Places) → made shape count form m ≡ Some (addr, after) → number_of q ≡ next_number m → view (place_of after q) ≡ view (Some (fresh (new_head shape count form)))
new_view view shape count addr q form m after e n = ap (λ k. view (place_at after k)) n ∙ ap view (made_place shape count addr form m after e)

old_view : {A : Type 0} (view : Option Place → A) (shape : Shape) (count addr q : ℕ) (form : Form) (m after : Places) → made shape count form m ≡ Some (addr, after) → number_of q ≢ next_number m → view (place_of after q) ≡ view (place_of m q)
old_view view shape count addr q form m after e ne = ap view (made_others shape count addr (number_of q) form m after e ne)

pub made_bytes_here : (shape : Shape) (count addr q : ℕ) (form : Form) (m after : Places) → made shape count form m ≡ Some (addr, after) → number_of q ≡ next_number m → byte_at after q ≡ new_byte (new_head shape count form) (offset_of q)
made_bytes_here shape count addr q form m after e n = new_view (option_and_then (λ p. byte_in p (offset_of q))) shape count addr q form m after e n ∙ fresh_byte (new_head shape count form) (offset_of q)

pub made_live_here : (shape : Shape) (count addr q : ℕ) (form : Form) (m after : Places) → made shape count form m ≡ Some (addr, after) → number_of q ≡ next_number m → is_live after q ≡ ltb (offset_of q) (shape.size * count)
made_live_here shape count addr q form m after e n = new_view (tells is_live_in (offset_of q)) shape count addr q form m after e n ∙ fresh_live (new_head shape count form) (offset_of q)

made_limit : (shape : Shape) (count addr : ℕ) (form : Form) (m after : Places) → made shape count form m ≡ Some (addr, after) → shape.size * count ≤ most_live
made_limit shape count addr form m after e = by_test (ltb most_live (live_size m + shape.size * count)) refl e where
  by_test : (b : Bool) → ltb most_live (live_size m + shape.size * count) ≡ b → cond {A = Option (ℕ × Places)} b None (Some (address (next_number m) 0, m ++ Some (fresh (new_head shape count form)) ∷ [])) ≡ Some (addr, after) → shape.size * count ≤ most_live
  by_test true is s = absurd (none_is s) where
    none_is : ◌≡◌ {A = Option (ℕ × Places)} None (Some (addr, after)) → ⊥
    none_is x = cc
  by_test false is s = let h = ltb-false most_live (live_size m + shape.size * count) is in omega (arith, h)

pub made_cells_here : (shape : Shape) (count addr q : ℕ) (form : Form) (m after : Places) → IsShape 0 shape → 1 ≤ count → made shape count form m ≡ Some (addr, after) → number_of q ≡ next_number m → cell_at after q ≡ new_cell (new_head shape count form) (offset_of q)
made_cells_here shape count addr q form m after lawful some e n = new_view (option_and_then (λ p. cell_in p (offset_of q))) shape count addr q form m after e n ∙ fresh_cell (new_head shape count form) (offset_of q) (fresh_place shape count form lawful some (made_limit shape count addr form m after e))

pub made_bytes : (shape : Shape) (count addr q : ℕ) (form : Form) (m after : Places) → made shape count form m ≡ Some (addr, after) → number_of q ≢ next_number m → byte_at after q ≡ byte_at m q
made_bytes shape count addr q form m after e n = old_view (option_and_then (λ p. byte_in p (offset_of q))) shape count addr q form m after e n

pub made_live : (shape : Shape) (count addr q : ℕ) (form : Form) (m after : Places) → made shape count form m ≡ Some (addr, after) → number_of q ≢ next_number m → is_live after q ≡ is_live m q
made_live shape count addr q form m after e n = old_view (tells is_live_in (offset_of q)) shape count addr q form m after e n

pub made_cells : (shape : Shape) (count addr q : ℕ) (form : Form) (m after : Places) → made shape count form m ≡ Some (addr, after) → number_of q ≢ next_number m → cell_at after q ≡ cell_at m q
made_cells shape count addr q form m after e n = old_view (option_and_then (λ p. cell_in p (offset_of q))) shape count addr q form m after e n
