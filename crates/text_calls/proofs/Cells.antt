-- Cells that are set.
use Rattle.std.proofs.Common.{◌≡◌, ℕ, ◌+◌, ◌-◌, Bool, true, false, cond, set, Option, Some, None, is_some, refl, ap, sym, ◌∙◌, length-set}
use Rattle.std.specs.List.{slice_get}
use Rattle.std.specs.Option.{option_map, option_and_then}
use Rattle.places.specs.declared.kinds.Cell.{Cell}
use Rattle.places.specs.Place.{Place, cell_in, cell_with, cell_number, begins_cell, with_cell_in}
use Rattle.places.specs.Memory.{Places, place_of, with_place, number_of, offset_of, cell_at, next_number}
use Rattle.places.specs.Calls.{with_cell}
use Rattle.places.specs.Standing.{Stands}
use Rattle.places.proofs.Seen.{set_cell_keeps_bytes, set_cell_keeps_live, set_cell_keeps_heads}
use Rattle.places.proofs.OneCell.{set_cell_here, set_cell_elsewhere, cell_set}
use Rattle.text_calls.specs.Carrying.{SetsOne}

-- where a cell begins, one may be set
cannot_fail : (m : Places) (a : ℕ) (cell : Cell) → is_some (cell_at m a) ≡ true → with_cell a cell m ≡ None → ⊥
cannot_fail m a cell is none = by_place (place_of m a) is none where
  not_none : (q : Places) → ◌≡◌ {A = Option Places} (Some q) None → ⊥
  not_none q e = cc

  nothing : ◌≡◌ {A = Bool} false true → ⊥
  nothing e = cc

  by_number : (p : Place) (k : Option ℕ) → is_some (option_and_then (λ i. slice_get p.cells i) k) ≡ true → option_map (λ q. with_place (number_of a) (Some q) m) (option_map (λ i. record p { cells = set p.cells i cell }) k) ≡ None → ⊥
  by_number p None there gone = nothing there
  by_number p (Some k) there gone = not_none _ gone

  by_begin : (p : Place) (b : Bool) → is_some (cond b (cell_with p (offset_of a)) None) ≡ true → cond (is_some (cond b (cell_with p (offset_of a)) None)) (option_map (λ q. with_place (number_of a) (Some q) m) (with_cell_in (offset_of a) cell p)) None ≡ None → ⊥
  by_begin p false there gone = nothing there
  by_begin p true there gone =
      by_number p (cell_number p.head (offset_of a)) there (sym (ap (λ b. cond b (option_map (λ q. with_place (number_of a) (Some q) m) (with_cell_in (offset_of a) cell p)) None) there) ∙ gone)

  by_place : (q : Option Place) → is_some (option_and_then (λ p. cell_in p (offset_of a)) q) ≡ true → option_and_then (λ p. cond (is_some (cell_in p (offset_of a))) (option_map (λ r. with_place (number_of a) (Some r) m) (with_cell_in (offset_of a) cell p)) None) q ≡ None → ⊥
  by_place None there gone = nothing there
  by_place (Some p) there gone = by_begin p (begins_cell p.head (offset_of a)) there gone

pub can_set : (m : Places) (a : ℕ) (cell : Cell) → is_some (cell_at m a) ≡ true → is_some (with_cell a cell m) ≡ true
can_set m a cell is = by_result (with_cell a cell m) refl where
  by_result : (r : Option Places) → with_cell a cell m ≡ r → is_some r ≡ true
  by_result None e = absurd (cannot_fail m a cell is e)
  by_result (Some q) e = refl

pub sets_one : (m after : Places) (a : ℕ) (cell : Cell) → Stands m → with_cell a cell m ≡ Some after → SetsOne m after a cell
sets_one m after a cell stands e = record {
  here = set_cell_here m after a cell e;
  others = λ q ne. set_cell_elsewhere m after a q cell stands e ne;
  rest = record {
    bytes = λ q. set_cell_keeps_bytes m after a q cell e;
    live = λ q. set_cell_keeps_live m after a q cell e;
    heads = λ n. set_cell_keeps_heads m after a n cell e;
    next = let c = cell_set m after a cell e in
        let new : Option Place = Some (record c.place { cells = set c.place.cells c.j cell }) in
        ap next_number (sym c.same) ∙ ap (λ n. n + 1) (length-set m (number_of a - 1) new);
  };
}
