use Rattle.std.proofs.Common.{◌≡◌, ℕ, ◌+◌, ◌*◌, ◌==◌, ◌≤◌, nat_lt, Bool, true, false, ◌&&◌, if◌then◌else◌, List, [], ◌∷◌, ◌++◌, is_none, Option, Some, None, refl, sym, ap, ◌∙◌, arith}
use Rattle.std.specs.Option.{option_map, option_and_then}
use Rattle.std.proofs.lemmas.Bool.{eqb-true}
use Rattle.std.proofs.lemmas.List.Sums.{sum_by_push}
use Rattle.fb_base.specs.Shapes.{IsShape}
use Rattle.fb_base.specs.declared.shape.Shape.{Shape}
use Rattle.places.specs.declared.kinds.Form.{Form}
use Rattle.places.specs.Place.{Head, Place, size_of, cell_number, begins_cell, dead_cell, is_live_in, byte_in, cell_in, fresh}
use Rattle.places.specs.Memory.{Places, place_at, size_at, live_size, next_number, head_at, is_live, byte_at, cell_at, number_of, offset_of, address, tells}
use Rattle.places.specs.Calls.{most_live, made, new_head, new_byte, new_cell}
use Rattle.places.proofs.Seen.{made_is, made_address, made_place, made_others, made_next, unused}
use Rattle.places.proofs.New.{made_bytes_here, made_live_here, made_cells_here, made_bytes, made_live, made_cells}
use Rattle.text_calls.specs.Strings.{cell_state_of, strings_of}
use Rattle.entry_replay.proofs.Pairs.{nothing_there}
use Rattle.run_calls.specs.Seen.{seen_of, placed}
use Rattle.run_calls.specs.Ties.{SeesMade}
use Rattle.run_calls.proofs.Tied.{same_seen, by_test, by_tests, other_number}

-- Places that are made, freed, or begin to die, as they are seen.

-- ---- a new place

past_new : (h : Head) (o : ℕ) → nat_lt o (size_of h) ≡ false → new_byte h o ≡ None
past_new h o e = ap (λ b. if b && is_none (cell_number h o) then Some 0 else None) e

new_cell_dead : (heap : List (List ℕ)) (h : Head) (o : ℕ) → cell_state_of heap (new_cell h o) ≡ cell_state_of [] (new_cell h o)
new_cell_dead heap h o = either (nat_lt o (size_of h) && begins_cell h o) where
  either : (b : Bool) → cell_state_of heap (if b then Some dead_cell else None) ≡ cell_state_of [] (if b then Some dead_cell else None)
  either true = refl
  either false = refl

-- nothing is seen where there is no place
nowhere : {A : Type 0} (view : Option Place → A) (m : Places) (q : ℕ) → number_of q ≡ next_number m → view (place_at m (number_of q)) ≡ view None
nowhere view m q e = ap view (ap (λ n. place_at m n) e ∙ unused m (next_number m) (omega arith))

pub made_as_seen : (shape : Shape) (count addr : ℕ) (form : Form) (m after : Places) (heap : List (List ℕ)) → IsShape 0 shape → 1 ≤ count → made shape count form m ≡ Some (addr, after) → SeesMade (new_head shape count form) addr (seen_of m heap) (seen_of after heap)
unfolding strings_of
made_as_seen shape count addr form m after heap lawful some e = record {
  room = has_room (nat_lt most_live (live_size m + shape.size * count)) refl e;
  addr_is = made_address shape count addr form m after e;
  new_is = same_seen (seen_of after heap) (placed h (seen_of m heap))
      (made_next shape count addr form m after e)
      (ap live_size (sym (made_is shape count addr form m after e).1) ∙ sum_by_push size_at m (Some (fresh h)))
      (λ n. by_test (n == next_number m) (head_at after n) (Some h) (head_at m n)
      (λ is. ap (λ k. head_at after k) (eqb-true n (next_number m) is) ∙ ap (option_map (λ (p : Place). p.head)) (made_place shape count addr form m after e))
      (λ isn. ap (option_map (λ (p : Place). p.head)) (made_others shape count addr n form m after e (other_number n (next_number m) isn))))
      (λ q. by_tests (number_of q == next_number m) (nat_lt (offset_of q) (size_of h)) (is_live after q) true (is_live m q)
      (λ is within. made_live_here shape count addr q form m after e (eqb-true (number_of q) (next_number m) is) ∙ within)
      (λ is past. made_live_here shape count addr q form m after e (eqb-true (number_of q) (next_number m) is) ∙ past ∙ sym (nowhere (tells is_live_in (offset_of q)) m q (eqb-true (number_of q) (next_number m) is)))
      (λ isn. made_live shape count addr q form m after e (other_number (number_of q) (next_number m) isn)))
      (λ q. by_tests (number_of q == next_number m) (nat_lt (offset_of q) (size_of h)) (byte_at after q) (new_byte h (offset_of q)) (byte_at m q)
      (λ is within. made_bytes_here shape count addr q form m after e (eqb-true (number_of q) (next_number m) is))
      (λ is past. made_bytes_here shape count addr q form m after e (eqb-true (number_of q) (next_number m) is) ∙ past_new h (offset_of q) past ∙ sym (nowhere (option_and_then (λ (p : Place). byte_in p (offset_of q))) m q (eqb-true (number_of q) (next_number m) is)))
      (λ isn. made_bytes shape count addr q form m after e (other_number (number_of q) (next_number m) isn)))
      (λ q. by_tests (number_of q == next_number m) (nat_lt (offset_of q) (size_of h)) (cell_state_of heap (cell_at after q)) (cell_state_of [] (new_cell h (offset_of q))) (cell_state_of heap (cell_at m q))
      (λ is within. here q (eqb-true (number_of q) (next_number m) is) ∙ new_cell_dead heap h (offset_of q))
      (λ is past. here q (eqb-true (number_of q) (next_number m) is) ∙ ap (cell_state_of heap) (past_cell (offset_of q) past) ∙ sym (ap (cell_state_of heap) (nowhere (option_and_then (λ (p : Place). cell_in p (offset_of q))) m q (eqb-true (number_of q) (next_number m) is))))
      (λ isn. ap (cell_state_of heap) (made_cells shape count addr q form m after e (other_number (number_of q) (next_number m) isn))));
} where
  h : Head
  h = new_head shape count form

  has_room : (b : Bool) → nat_lt most_live (live_size m + shape.size * count) ≡ b → if◌then◌else◌ {A = Option (ℕ × Places)} b None (Some (address (next_number m) 0, m ++ Some (fresh (new_head shape count form)) ∷ [])) ≡ Some (addr, after) → nat_lt most_live (live_size m + shape.size * count) ≡ false
  has_room true is s = absurd (nothing_there (addr, after) s)
  has_room false is s = is

  here : (q : ℕ) → number_of q ≡ next_number m → cell_state_of heap (cell_at after q) ≡ cell_state_of heap (new_cell (new_head shape count form) (offset_of q))
  here q is = ap (cell_state_of heap) (made_cells_here shape count addr q form m after lawful some e is)

  past_cell : (o : ℕ) → nat_lt o (shape.size * count) ≡ false → new_cell (new_head shape count form) o ≡ None
  past_cell o past = ap (λ b. if b && begins_cell (new_head shape count form) o then Some dead_cell else None) past

pub made_none_as_seen : (shape : Shape) (count : ℕ) (form : Form) (m : Places) (heap : List (List ℕ)) → made shape count form m ≡ None → nat_lt most_live (live_size m + shape.size * count) ≡ true
made_none_as_seen shape count form m heap e = no_room (nat_lt most_live (live_size m + shape.size * count)) e where
  no_room : (b : Bool) → if◌then◌else◌ {A = Option (ℕ × Places)} b None (Some (address (next_number m) 0, m ++ Some (fresh (new_head shape count form)) ∷ [])) ≡ None → b ≡ true
  no_room true s = refl
  no_room false s = absurd (nothing_there (address (next_number m) 0, m ++ Some (fresh (new_head shape count form)) ∷ []) (sym s))
