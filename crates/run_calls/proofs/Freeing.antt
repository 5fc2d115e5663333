use Rattle.std.proofs.Common.{◌≡◌, ℕ, ◌==◌, nat_lt, Bool, true, false, if◌then◌else◌, List, Option, Some, None, refl, sym, ap, ◌∙◌}
use Rattle.std.specs.Option.{option_map, option_and_then}
use Rattle.std.proofs.lemmas.Bool.{eqb-true, ltb-false}
use Rattle.std.proofs.lemmas.Option.{cond_some}
use Rattle.fb_base.specs.declared.shape.Shape.{Shape}
use Rattle.places.specs.declared.kinds.Form.{Form}
use Rattle.places.specs.Place.{Head, Place, size_of, is_live_in, byte_in, cell_in}
use Rattle.places.specs.Memory.{Places, place_at, with_place, live_size, head_at, is_live, byte_at, cell_at, number_of, offset_of, starts_at, tells}
use Rattle.places.specs.Calls.{freed_if, begun, may_die, marked_dying}
use Rattle.places.specs.Standing.{Stands}
use Rattle.places.proofs.Seen.{freed_gone, freed_others, freed_next}
use Rattle.places.proofs.Here.{freed_bytes_gone, freed_live_gone, freed_cells_gone, freed_bytes, freed_live, freed_cells, begun_keeps_bytes, begun_keeps_live, begun_keeps_cells, begun_head, begun_heads, begun_next}
use Rattle.places.proofs.Cells.{live_past, byte_past, cell_in_past}
use Rattle.places.proofs.Changed.{kept_without}
use Rattle.places.proofs.Done.{started}
use Rattle.text_calls.specs.Strings.{no_cell, cell_state_of, strings_of}
use Rattle.entry_replay.proofs.Pairs.{nothing_there}
use Rattle.entry_replay.proofs.Touched.{same_some}
use Rattle.run_calls.specs.Seen.{seen_of, starting, unplaced, with_dying}
use Rattle.run_calls.specs.Ties.{SeesFreed, SeesBegun}
use Rattle.run_calls.proofs.Tied.{same_seen, by_test, by_tests, other_number, size_by_head, same_used, starting_is}

-- Places that are freed, or begin to die, as they are seen.

module _ (test : Head → Bool) (a : ℕ) (m after : Places) (heap : List (List ℕ)) (stands : Stands m) (e : freed_if test a m ≡ Some after) (p : Place) (at : place_at m (number_of a) ≡ Some p) (same : with_place (number_of a) None m ≡ after) where
  is_place_at : (q : ℕ) → number_of q ≡ number_of a → place_at m (number_of q) ≡ Some p
  is_place_at q is = ap (λ k. place_at m k) is ∙ at

  freed_seen : seen_of after heap ≡ unplaced (number_of a) p.head (seen_of m heap)
  unfolding strings_of
  freed_seen = same_seen (seen_of after heap) (unplaced (number_of a) p.head (seen_of m heap))
      (freed_next test m after a e)
      (ap live_size (sym same) ∙ sym (kept_without m (live_size m) (number_of a) p (record { stands = stands; counted = refl }) at).counted)
      (λ k. by_test (k == number_of a) (head_at after k) None (head_at m k)
      (λ is. ap (λ j. head_at after j) (eqb-true k (number_of a) is) ∙ ap (option_map (λ (p : Place). p.head)) (freed_gone test m after a e))
      (λ isn. ap (option_map (λ (p : Place). p.head)) (freed_others test m after a k e (other_number k (number_of a) isn))))
      (λ q. by_tests (number_of q == number_of a) (nat_lt (offset_of q) (size_of p.head)) (is_live after q) false (is_live m q)
      (λ is within. freed_live_gone test m after a q e (eqb-true (number_of q) (number_of a) is))
      (λ is past. freed_live_gone test m after a q e (eqb-true (number_of q) (number_of a) is)
      ∙ sym (ap (tells is_live_in (offset_of q)) (is_place_at q (eqb-true (number_of q) (number_of a) is)) ∙ live_past p (offset_of q) (ltb-false (offset_of q) (size_of p.head) past)))
      (λ isn. freed_live test m after a q e (other_number (number_of q) (number_of a) isn)))
      (λ q. by_tests (number_of q == number_of a) (nat_lt (offset_of q) (size_of p.head)) (byte_at after q) None (byte_at m q)
      (λ is within. freed_bytes_gone test m after a q e (eqb-true (number_of q) (number_of a) is))
      (λ is past. freed_bytes_gone test m after a q e (eqb-true (number_of q) (number_of a) is)
      ∙ sym (ap (option_and_then (λ (p : Place). byte_in p (offset_of q))) (is_place_at q (eqb-true (number_of q) (number_of a) is)) ∙ byte_past p (offset_of q) (ltb-false (offset_of q) (size_of p.head) past)))
      (λ isn. freed_bytes test m after a q e (other_number (number_of q) (number_of a) isn)))
      (λ q. by_tests (number_of q == number_of a) (nat_lt (offset_of q) (size_of p.head)) (cell_state_of heap (cell_at after q)) no_cell (cell_state_of heap (cell_at m q))
      (λ is within. ap (cell_state_of heap) (freed_cells_gone test m after a q e (eqb-true (number_of q) (number_of a) is)))
      (λ is past. ap (cell_state_of heap) (freed_cells_gone test m after a q e (eqb-true (number_of q) (number_of a) is)
      ∙ sym (ap (option_and_then (λ (p : Place). cell_in p (offset_of q))) (is_place_at q (eqb-true (number_of q) (number_of a) is)) ∙ cell_in_past p (offset_of q) (stands.each (number_of a) p at) (ltb-false (offset_of q) (size_of p.head) past))))
      (λ isn. ap (cell_state_of heap) (freed_cells test m after a q e (other_number (number_of q) (number_of a) isn))))

pub freed_as_seen : (test : Head → Bool) (a : ℕ) (m after : Places) (heap : List (List ℕ)) → Stands m → freed_if test a m ≡ Some after → SeesFreed test a (seen_of m heap) (seen_of after heap)
freed_as_seen test a m after heap stands e = by_place (starts_at m a) refl e where
  by_place : (x : Option Place) → starts_at m a ≡ x → option_and_then (λ p. if test p.head then Some (with_place (number_of a) None m) else None) x ≡ Some after → SeesFreed test a (seen_of m heap) (seen_of after heap)
  by_place None is s = absurd (nothing_there after s)
  by_place (Some p) is s =
      let parts = cond_some (test p.head) (with_place (number_of a) None m) after s in
      record {
        head = p.head;
        starts = starting_is m heap a ∙ ap (option_map (λ (p : Place). p.head)) is;
        passes = parts.0;
        new_is = freed_seen test a m after heap stands e p (started m a p is) parts.1;
      }

pub freed_none_as_seen : (test : Head → Bool) (a : ℕ) (m : Places) (heap : List (List ℕ)) (head : Head) → freed_if test a m ≡ None → starting (seen_of m heap) a ≡ Some head → test head ≡ false
freed_none_as_seen test a m heap head e s = by_place (starts_at m a) e (sym (starting_is m heap a) ∙ s) where
  by_result : (b : Bool) → (if b then Some (with_place (number_of a) None m) else None) ≡ None → b ≡ false
  by_result true r = absurd (nothing_there (with_place (number_of a) None m) (sym r))
  by_result false r = refl

  by_place : (x : Option Place) → option_and_then (λ p. if test p.head then Some (with_place (number_of a) None m) else None) x ≡ None → option_map (λ (p : Place). p.head) x ≡ Some head → test head ≡ false
  by_place None r h = absurd (nothing_there head h)
  by_place (Some p) r h = ap test (sym (same_some p.head head h)) ∙ by_result (test p.head) r

pub begun_as_seen : (shape : Shape) (form : Form) (a count : ℕ) (m after : Places) (heap : List (List ℕ)) → begun a shape form m ≡ Some (count, after) → SeesBegun shape form a count (seen_of m heap) (seen_of after heap)
unfolding strings_of
begun_as_seen shape form a count m after heap e = by_place (starts_at m a) refl e where
  heads : (p : Place) → place_at m (number_of a) ≡ Some p → (k : ℕ) → head_at after k ≡ (if k == number_of a then Some (marked_dying p.head) else head_at m k)
  heads p at k = by_test (k == number_of a) (head_at after k) (Some (marked_dying p.head)) (head_at m k)
      (λ is. ap (λ j. head_at after j) (eqb-true k (number_of a) is) ∙ begun_head m after a count shape form e ∙ ap (λ x. option_map marked_dying (option_map (λ (p : Place). p.head) x)) at)
      (λ isn. begun_heads m after a count k shape form e (other_number k (number_of a) isn))

  -- a mark takes no bytes
  same_size : (p : Place) → place_at m (number_of a) ≡ Some p → live_size after ≡ live_size m
  same_size p at = same_used m after (begun_next m after a count shape form e) (λ k. by_key k (k == number_of a) refl (heads p at k)) where
    by_key : (k : ℕ) (b : Bool) → (k == number_of a) ≡ b → head_at after k ≡ (if b then Some (marked_dying p.head) else head_at m k) → size_by_head (head_at after k) ≡ size_by_head (head_at m k)
    by_key k true is h = ap size_by_head h ∙ sym (ap size_by_head (ap (λ j. head_at m j) (eqb-true k (number_of a) is) ∙ ap (option_map (λ (p : Place). p.head)) at))
    by_key k false is h = ap size_by_head h

  by_place : (x : Option Place) → starts_at m a ≡ x → option_and_then {U = ℕ × Places} (λ p. if may_die shape form p.head then Some (p.head.count, with_place (number_of a) (Some (record p { head = marked_dying p.head })) m) else None) x ≡ Some (count, after) → SeesBegun shape form a count (seen_of m heap) (seen_of after heap)
  by_place None is s = absurd (nothing_there (count, after) s)
  by_place (Some p) is s =
      let at = started m a p is in
      let parts = cond_some (may_die shape form p.head) (p.head.count, with_place (number_of a) (Some (record p { head = marked_dying p.head })) m) (count, after) s in
      record {
        head = p.head;
        starts = starting_is m heap a ∙ ap (option_map (λ (p : Place). p.head)) is;
        passes = parts.0;
        count_is = sym (ap (λ (w : ℕ × Places). w.0) parts.1);
        new_is = same_seen (seen_of after heap) (with_dying (number_of a) p.head (seen_of m heap))
            (begun_next m after a count shape form e)
            (same_size p at)
            (heads p at)
            (λ q. begun_keeps_live m after a count q shape form e)
            (λ q. begun_keeps_bytes m after a count q shape form e)
            (λ q. ap (cell_state_of heap) (begun_keeps_cells m after a count q shape form e));
      }

pub begun_none_as_seen : (shape : Shape) (form : Form) (a : ℕ) (m : Places) (heap : List (List ℕ)) (head : Head) → begun a shape form m ≡ None → starting (seen_of m heap) a ≡ Some head → may_die shape form head ≡ false
begun_none_as_seen shape form a m heap head e s = by_place (starts_at m a) e (sym (starting_is m heap a) ∙ s) where
  by_result : (b : Bool) (w : ℕ × Places) → (if b then Some w else None) ≡ None → b ≡ false
  by_result true w r = absurd (nothing_there w (sym r))
  by_result false w r = refl

  by_place : (x : Option Place) → option_and_then {U = ℕ × Places} (λ p. if may_die shape form p.head then Some (p.head.count, with_place (number_of a) (Some (record p { head = marked_dying p.head })) m) else None) x ≡ None → option_map (λ (p : Place). p.head) x ≡ Some head → may_die shape form head ≡ false
  by_place None r h = absurd (nothing_there head h)
  by_place (Some p) r h = ap (may_die shape form) (sym (same_some p.head head h)) ∙ by_result (may_die shape form p.head) _ r
