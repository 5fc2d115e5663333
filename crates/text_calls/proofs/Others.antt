-- Other calls on memory leave alive cells and their descriptors.
use Rattle.std.proofs.Common.{◌≡◌, ◌≢◌, ℕ, ◌-◌, ◌≤◌, Bool, true, false, cond, ◌&&◌, ◌⊎◌, inl, inr, eqb, ltb, List, [], get_or, Option, Some, None, refl, ap, sym, ◌∙◌, arith}
use Rattle.std.specs.Option.{option_and_then}
use Rattle.std.proofs.lemmas.Bool.{false≢true, cases_eq}
use Rattle.fb_base.specs.Shapes.{IsShape}
use Rattle.fb_base.specs.declared.shape.Shape.{Shape}
use Rattle.places.specs.declared.kinds.Form.{Form}
use Rattle.places.specs.declared.kinds.Cell.{Cell}
use Rattle.places.specs.Place.{Head, size_of, cell_in, begins_cell, dead_cell}
use Rattle.places.specs.Memory.{Places, no_places, place_at, number_of, offset_of, cell_at, next_number}
use Rattle.places.specs.Calls.{made, new_head, freed_if}
use Rattle.places.proofs.Seen.{freed_gone, freed_others, unused}
use Rattle.places.proofs.New.{made_cells_here, made_cells}
use Rattle.text_calls.specs.Strings.{AreKept, AllUsed}

none_some : (x : Cell) → ◌≡◌ {A = Option Cell} None (Some x) → ⊥
none_some x e = cc

-- each alive cell was one
pub fewer_kept : (m after : Places) (heap : List (List ℕ)) → ((q : ℕ) (x : Cell) → cell_at after q ≡ Some x → x.alive ≡ true → cell_at m q ≡ Some x) → AreKept m heap → AreKept after heap
fewer_kept m after heap was kept = record {
  live = λ a cell is alive. kept.live a cell (was a cell is alive) alive;
  apart = λ a b x y ne is is' alive alive'. kept.apart a b x y ne (was a x is alive) (was b y is' alive') alive alive';
}

pub same_kept : (m after : Places) (heap : List (List ℕ)) → ((q : ℕ) → cell_at after q ≡ cell_at m q) → AreKept m heap → AreKept after heap
same_kept m after heap same kept = fewer_kept m after heap (λ q x is alive. sym (same q) ∙ is) kept

pub none_kept : (heap : List (List ℕ)) → AreKept no_places heap
none_kept heap = record {
  live = λ a cell is alive. absurd (none_some cell (sym (no_cell_at a) ∙ is));
  apart = λ a b x y ne is is' alive alive'. absurd (none_some x (sym (no_cell_at a) ∙ is));
} where
  no_cell_at : (a : ℕ) → cell_at no_places a ≡ None
  no_cell_at a = by_zero (eqb (number_of a) 0) where
    by_zero : (b : Bool) → option_and_then (λ p. cell_in p (offset_of a)) (cond b None (get_or no_places (number_of a - 1) None)) ≡ None
    by_zero true = refl
    by_zero false = refl

pub made_kept : (shape : Shape) (count a : ℕ) (form : Form) (m after : Places) (heap : List (List ℕ)) → IsShape 0 shape → 1 ≤ count → made shape count form m ≡ Some (a, after) → AreKept m heap → AreKept after heap
made_kept shape count a form m after heap lawful some e kept = fewer_kept m after heap (λ q x is alive. by_number q x is alive (cases_eq (number_of q) (next_number m))) kept where
  by_test : (x : Cell) (b : Bool) → cond b (Some dead_cell) None ≡ Some x → x.alive ≡ true → ⊥
  by_test x true is alive = let same : dead_cell ≡ x = cc in false≢true (ap (λ (c : Cell). c.alive) same ∙ alive)
  by_test x false is alive = none_some x is

  by_number : (q : ℕ) (x : Cell) → cell_at after q ≡ Some x → x.alive ≡ true → (number_of q ≡ next_number m) ⊎ (number_of q ≢ next_number m) → cell_at m q ≡ Some x
  by_number q x is alive (inl here) =
      absurd (by_test x (ltb (offset_of q) (size_of (new_head shape count form)) && begins_cell (new_head shape count form) (offset_of q)) (sym (made_cells_here shape count a q form m after lawful some e here) ∙ is) alive)
  by_number q x is alive (inr there) = sym (made_cells shape count a q form m after e there) ∙ is

pub freed_kept : (test : Head → Bool) (m after : Places) (a : ℕ) (heap : List (List ℕ)) → freed_if test a m ≡ Some after → AreKept m heap → AreKept after heap
freed_kept test m after a heap e kept = fewer_kept m after heap (λ q x is alive. by_number q x is (cases_eq (number_of q) (number_of a))) kept where
  by_number : (q : ℕ) (x : Cell) → cell_at after q ≡ Some x → (number_of q ≡ number_of a) ⊎ (number_of q ≢ number_of a) → cell_at m q ≡ Some x
  by_number q x is (inl here) =
      absurd (none_some x (sym (ap (λ n. option_and_then (λ p. cell_in p (offset_of q)) (place_at after n)) here ∙ ap (option_and_then (λ p. cell_in p (offset_of q))) (freed_gone test m after a e)) ∙ is))
  by_number q x is (inr there) = sym (ap (option_and_then (λ p. cell_in p (offset_of q))) (freed_others test m after a (number_of q) e there)) ∙ is

-- no string of the heap is lost where each cell stays
more_used : (m after : Places) (heap : List (List ℕ)) → ((q : ℕ) (x : Cell) → cell_at m q ≡ Some x → cell_at after q ≡ Some x) → AllUsed m heap → AllUsed after heap
more_used m after heap stays all place some =
    let u = all place some in
    record { at = u.at; cell = u.cell; is = stays u.at u.cell u.is; alive = u.alive; some = u.some; here = u.here }

pub same_used : (m after : Places) (heap : List (List ℕ)) → ((q : ℕ) → cell_at after q ≡ cell_at m q) → AllUsed m heap → AllUsed after heap
same_used m after heap same all = more_used m after heap (λ q x is. same q ∙ is) all

pub none_used : AllUsed no_places []
none_used place some = absurd (omega arith)

pub made_used : (shape : Shape) (count a : ℕ) (form : Form) (m after : Places) (heap : List (List ℕ)) → made shape count form m ≡ Some (a, after) → AllUsed m heap → AllUsed after heap
made_used shape count a form m after heap e all = more_used m after heap (λ q x is. by_number q x is (cases_eq (number_of q) (next_number m))) all where
  by_number : (q : ℕ) (x : Cell) → cell_at m q ≡ Some x → (number_of q ≡ next_number m) ⊎ (number_of q ≢ next_number m) → cell_at after q ≡ Some x
  by_number q x is (inl here) =
      absurd (none_some x (sym (ap (option_and_then (λ p. cell_in p (offset_of q))) (unused m (number_of q) (omega arith))) ∙ is))
  by_number q x is (inr there) = made_cells shape count a q form m after e there ∙ is
