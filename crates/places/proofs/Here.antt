use Rattle.std.proofs.Common.{◌≡◌, ◌≢◌, ℕ, zero, suc, ◌+◌, ◌-◌, ◌*◌, ◌/◌, ◌%◌, ◌<◌, ◌≤◌, Bool, true, false, not, cond, ◌&&◌, ◌||◌, ◌⊎◌, List, [], ◌∷◌, ◌++◌, length, get_or, set, eqb, ltb, leb, replicate, length-set, Option, Some, None, is_some, is_none, refl, ap, sym, ◌∙◌, subst, arith, inl, inr, ne_eqb, eq-eqb}
use Rattle.std.specs.List.{slice_get, list_any, position_or_len}
use Rattle.std.specs.Option.{option_map, option_and_then}
use Rattle.std.proofs.lemmas.Bool.{false≢true, cases_eq, cases_lt}
use Rattle.std.proofs.lemmas.List.{get_or-set_other}
use Rattle.thread_system.specs.Memory.{next_address}
use Rattle.fb_base.specs.declared.shape.Shape.{Shape}
use Rattle.places.specs.declared.kinds.Form.{Form}
use Rattle.places.specs.declared.kinds.Cell.{Cell}
use Rattle.places.specs.Place.{Head, Place, size_of, byte_in, cell_in, is_live_in, cell_number, begins_cell, with_closed_in, fresh}
use Rattle.places.specs.Memory.{Places, place_at, place_of, with_place, number_of, offset_of, byte_at, cell_at, is_live, head_at, tells, starts_at, next_number, is_among}
use Rattle.places.specs.Calls.{replaced, with_change, closes, closed, freed_if, made, new_head, new_byte, new_cell, begun, may_die, marked_dying}
use Rattle.places.proofs.Changed.{given, with_same, with_other}
use Rattle.places.proofs.Done.{started}
use Rattle.places.proofs.Seen.{is_closed_as, same_with, freed_gone, freed_others}
use Rattle.std.proofs.lemmas.Option.{some_pair_parts}

-- What a change of one byte makes of what is seen there and at all other addresses.

pub and_false : (b : Bool) → (b && false) ≡ false
and_false true = refl
and_false false = refl

pub and_true : (b : Bool) → (b && true) ≡ b
and_true true = refl
and_true false = refl

change_elsewhere : {A : Type 0} (view : ℕ → Option Place → A) (change : ℕ → Place → Place) → ((o k : ℕ) (p : Place) → k ≢ o → view k (Some (change o p)) ≡ view k (Some p)) → (a q : ℕ) (m : Places) → q ≢ a → view (offset_of q) (place_of (with_change change a m) q) ≡ view (offset_of q) (place_of m q)
change_elsewhere view change same a q m ne = by_place (place_of m a) refl where
  by_number : (p : Place) → place_of m a ≡ Some p → (number_of q ≡ number_of a) ⊎ (number_of q ≢ number_of a) → view (offset_of q) (place_of (with_place (number_of a) (Some (change (offset_of a) p)) m) q) ≡ view (offset_of q) (place_of m q)
  by_number p is (inl n) =
      let g = given m (number_of a) p is in
      let o : offset_of q ≢ offset_of a = λ k. ne (omega arith) in
      ap (λ k. view (offset_of q) (place_at (with_place (number_of a) (Some (change (offset_of a) p)) m) k)) n
      ∙ ap (view (offset_of q)) (with_same m (number_of a) (Some (change (offset_of a) p)) g.0 g.1)
      ∙ same (offset_of a) (offset_of q) p o
      ∙ ap (view (offset_of q)) (sym is)
      ∙ ap (λ k. view (offset_of q) (place_at m k)) (sym n)
  by_number p is (inr n) = ap (view (offset_of q)) (with_other m (number_of a) (number_of q) (Some (change (offset_of a) p)) (given m (number_of a) p is).0 n)

  by_place : (x : Option Place) → place_of m a ≡ x → view (offset_of q) (place_of (with_change change a m) q) ≡ view (offset_of q) (place_of m q)
  by_place None is = ap (λ x. view (offset_of q) (place_at (replaced (number_of a) (option_map (change (offset_of a)) x) m) (number_of q))) is
  by_place (Some p) is = ap (λ x. view (offset_of q) (place_at (replaced (number_of a) (option_map (change (offset_of a)) x) m) (number_of q))) is ∙ by_number p is (cases_eq (number_of q) (number_of a))

change_here : {A : Type 0} (view : ℕ → Option Place → A) (change : ℕ → Place → Place) (v : A) → ((o : ℕ) (p : Place) → view o (Some (change o p)) ≡ v) → ((o : ℕ) → view o None ≡ v) → (a : ℕ) (m : Places) → view (offset_of a) (place_of (with_change change a m) a) ≡ v
change_here view change v here nowhere a m = by_place (place_of m a) refl where
  by_place : (x : Option Place) → place_of m a ≡ x → view (offset_of a) (place_of (with_change change a m) a) ≡ v
  by_place None is = ap (λ x. view (offset_of a) (place_at (replaced (number_of a) (option_map (change (offset_of a)) x) m) (number_of a))) is ∙ ap (view (offset_of a)) is ∙ nowhere (offset_of a)
  by_place (Some p) is =
      let g = given m (number_of a) p is in
      ap (λ x. view (offset_of a) (place_at (replaced (number_of a) (option_map (change (offset_of a)) x) m) (number_of a))) is
      ∙ ap (view (offset_of a)) (with_same m (number_of a) (Some (change (offset_of a) p)) g.0 g.1)
      ∙ here (offset_of a) p

-- A byte is closed.
get_set_default : (xs : List Bool) (i : ℕ) (b : Bool) → get_or (set xs i b) i b ≡ b
get_set_default [] i b = refl
get_set_default (x ∷ xs) zero b = refl
get_set_default (x ∷ xs) (suc i) b = get_set_default xs i b

closed_here : (o : ℕ) (p : Place) → is_live_in (with_closed_in o p) o ≡ false
closed_here o p = ap (λ b. ltb o (size_of p.head) && not b) (get_set_default p.closed o true) ∙ and_false (ltb o (size_of p.head))

closed_elsewhere : (o k : ℕ) (p : Place) → k ≢ o → is_live_in (with_closed_in o p) k ≡ is_live_in p k
closed_elsewhere o k p ne = ap (λ b. ltb k (size_of p.head) && not b) (get_or-set_other p.closed o k true true ne)

live_one : (a q : ℕ) (m : Places) → is_live (with_change with_closed_in a m) q ≡ (is_live m q && not (eqb q a))
live_one a q m = by_address (cases_eq q a) where
  by_address : (q ≡ a) ⊎ (q ≢ a) → is_live (with_change with_closed_in a m) q ≡ (is_live m q && not (eqb q a))
  by_address (inl e) =
      ap (is_live (with_change with_closed_in a m)) e
      ∙ change_here (tells is_live_in) with_closed_in false closed_here (λ o. refl) a m
      ∙ sym (ap (λ b. is_live m q && not b) (eq-eqb q a e) ∙ and_false (is_live m q))
  by_address (inr ne) =
      change_elsewhere (tells is_live_in) with_closed_in closed_elsewhere a q m ne
      ∙ sym (ap (λ b. is_live m q && not b) (ne_eqb q a ne) ∙ and_true (is_live m q))

byte_one : (a q : ℕ) (m : Places) → byte_at (with_change with_closed_in a m) q ≡ cond (eqb q a) None (byte_at m q)
byte_one a q m = by_address (cases_eq q a) where
  by_address : (q ≡ a) ⊎ (q ≢ a) → byte_at (with_change with_closed_in a m) q ≡ cond (eqb q a) None (byte_at m q)
  by_address (inl e) =
      ap (byte_at (with_change with_closed_in a m)) e
      ∙ change_here (λ o x. option_and_then (λ p. byte_in p o) x) with_closed_in None (λ o p. ap (λ b. cond (b && is_none (cell_number p.head o)) (slice_get p.bytes o) None) (closed_here o p)) (λ o. refl) a m
      ∙ sym (ap (λ b. cond b None (byte_at m q)) (eq-eqb q a e))
  by_address (inr ne) =
      change_elsewhere (λ o x. option_and_then (λ p. byte_in p o) x) with_closed_in (λ o k p n. ap (λ b. cond (b && is_none (cell_number p.head k)) (slice_get p.bytes k) None) (closed_elsewhere o k p n)) a q m ne
      ∙ sym (ap (λ b. cond b None (byte_at m q)) (ne_eqb q a ne))

-- Bytes in a row are closed.
live_closes : (len a q : ℕ) (m : Places) → is_live (closes a len m) q ≡ (is_live m q && not (is_among a len q))
live_closes zero a q m = sym (and_true (is_live m q))
live_closes (suc len) a q m =
    live_closes len (next_address a) q (with_change with_closed_in a m)
    ∙ ap (λ b. b && not (is_among (next_address a) len q)) (live_one a q m)
    ∙ both (is_live m q) (eqb q a) (is_among (next_address a) len q) where
      both : (x y z : Bool) → ((x && not y) && not z) ≡ (x && not (y || z))
      both true true z = refl
      both true false z = refl
      both false y z = refl

byte_closes : (len a q : ℕ) (m : Places) → byte_at (closes a len m) q ≡ cond (is_among a len q) None (byte_at m q)
byte_closes zero a q m = refl
byte_closes (suc len) a q m =
    byte_closes len (next_address a) q (with_change with_closed_in a m)
    ∙ ap (λ x. cond (is_among (next_address a) len q) None x) (byte_one a q m)
    ∙ both (eqb q a) (is_among (next_address a) len q) (byte_at m q) where
      both : (y z : Bool) (x : Option ℕ) → cond z None (cond y None x) ≡ cond (y || z) None x
      both true true x = refl
      both true false x = refl
      both false z x = refl

pub close_live : (m after : Places) (a len q : ℕ) → closed a len m ≡ Some after → is_live after q ≡ (is_live m q && not (is_among a len q))
close_live m after a len q e = ap (λ x. is_live x q) (sym (is_closed_as m after a len e)) ∙ live_closes len a q m

pub close_bytes : (m after : Places) (a len q : ℕ) → closed a len m ≡ Some after → byte_at after q ≡ cond (is_among a len q) None (byte_at m q)
close_bytes m after a len q e = ap (λ x. byte_at x q) (sym (is_closed_as m after a len e)) ∙ byte_closes len a q m

-- A place begins to die.
pub record Begun (m after : Places) (a n : ℕ) : Type 0 where
  pub place : Place
  pub is : place_at m (number_of a) ≡ Some place
  pub count : place.head.count ≡ n
  pub same : with_place (number_of a) (Some (record place { head = marked_dying place.head })) m ≡ after

begun_is : (m after : Places) (a n : ℕ) (shape : Shape) (form : Form) → begun a shape form m ≡ Some (n, after) → Begun m after a n
begun_is m after a n shape form e = by_place (starts_at m a) refl e where
  none_is : ◌≡◌ {A = Option (ℕ × Places)} None (Some (n, after)) → ⊥
  none_is s = cc

  by_test : (p : Place) → starts_at m a ≡ Some p → (b : Bool) → cond {A = Option (ℕ × Places)} b (Some (p.head.count, with_place (number_of a) (Some (record p { head = marked_dying p.head })) m)) None ≡ Some (n, after) → Begun m after a n
  by_test p is true s =
      let parts = some_pair_parts p.head.count n (with_place (number_of a) (Some (record p { head = marked_dying p.head })) m) after s in
      record { place = p; is = started m a p is; count = parts.0; same = parts.1 }
  by_test p is false s = absurd (none_is s)

  by_place : (x : Option Place) → starts_at m a ≡ x → option_and_then {U = ℕ × Places} (λ p. cond (may_die shape form p.head) (Some (p.head.count, with_place (number_of a) (Some (record p { head = marked_dying p.head })) m)) None) x ≡ Some (n, after) → Begun m after a n
  by_place None is s = absurd (none_is s)
  by_place (Some p) is s = by_test p is (may_die shape form p.head) s

begun_keeps : {A : Type 0} (view : Option Place → A) → ((p : Place) → view (Some (record p { head = marked_dying p.head })) ≡ view (Some p)) → (m after : Places) (a n : ℕ) (shape : Shape) (form : Form) → begun a shape form m ≡ Some (n, after) → (k : ℕ) → view (place_at after k) ≡ view (place_at m k)
begun_keeps view same m after a n shape form e k =
    let b = begun_is m after a n shape form e in
    ap (λ x. view (place_at x k)) (sym b.same) ∙ same_with view m (number_of a) b.place (record b.place { head = marked_dying b.place.head }) b.is (same b.place) k

pub begun_keeps_bytes : (m after : Places) (a n q : ℕ) (shape : Shape) (form : Form) → begun a shape form m ≡ Some (n, after) → byte_at after q ≡ byte_at m q
begun_keeps_bytes m after a n q shape form e = begun_keeps (option_and_then (λ p. byte_in p (offset_of q))) (λ p. refl) m after a n shape form e (number_of q)

pub begun_keeps_live : (m after : Places) (a n q : ℕ) (shape : Shape) (form : Form) → begun a shape form m ≡ Some (n, after) → is_live after q ≡ is_live m q
begun_keeps_live m after a n q shape form e = begun_keeps (tells is_live_in (offset_of q)) (λ p. refl) m after a n shape form e (number_of q)

pub begun_keeps_cells : (m after : Places) (a n q : ℕ) (shape : Shape) (form : Form) → begun a shape form m ≡ Some (n, after) → cell_at after q ≡ cell_at m q
begun_keeps_cells m after a n q shape form e = begun_keeps (option_and_then (λ p. cell_in p (offset_of q))) (λ p. refl) m after a n shape form e (number_of q)

pub begun_count : (m after : Places) (a n : ℕ) (shape : Shape) (form : Form) → begun a shape form m ≡ Some (n, after) → option_map (λ h. h.count) (head_at m (number_of a)) ≡ Some n
begun_count m after a n shape form e =
    let b = begun_is m after a n shape form e in
    ap (λ x. option_map (λ (h : Head). h.count) (option_map (λ (p : Place). p.head) x)) b.is ∙ ap (λ c. Some c) b.count

pub begun_head : (m after : Places) (a n : ℕ) (shape : Shape) (form : Form) → begun a shape form m ≡ Some (n, after) → head_at after (number_of a) ≡ option_map marked_dying (head_at m (number_of a))
begun_head m after a n shape form e =
    let b = begun_is m after a n shape form e in
    let g = given m (number_of a) b.place b.is in
    ap (λ x. head_at x (number_of a)) (sym b.same)
    ∙ ap (option_map (λ (p : Place). p.head)) (with_same m (number_of a) (Some (record b.place { head = marked_dying b.place.head })) g.0 g.1)
    ∙ sym (ap (λ x. option_map marked_dying (option_map (λ (p : Place). p.head) x)) b.is)

pub begun_heads : (m after : Places) (a n k : ℕ) (shape : Shape) (form : Form) → begun a shape form m ≡ Some (n, after) → k ≢ number_of a → head_at after k ≡ head_at m k
begun_heads m after a n k shape form e ne =
    let b = begun_is m after a n shape form e in
    let g = given m (number_of a) b.place b.is in
    ap (λ x. head_at x k) (sym b.same) ∙ ap (option_map (λ (p : Place). p.head)) (with_other m (number_of a) k (Some (record b.place { head = marked_dying b.place.head })) g.0 ne)

pub begun_next : (m after : Places) (a n : ℕ) (shape : Shape) (form : Form) → begun a shape form m ≡ Some (n, after) → next_number after ≡ next_number m
begun_next m after a n shape form e =
    let b = begun_is m after a n shape form e in
    ap (λ x. next_number x) (sym b.same) ∙ ap (λ n. n + 1) (length-set m (number_of a - 1) (Some (record b.place { head = marked_dying b.place.head })))

-- A place is freed: what was seen in it is gone, all else is as before.
gone_view : {A : Type 0} (view : Option Place → A) (test : Head → Bool) (m after : Places) (a q : ℕ) → freed_if test a m ≡ Some after → number_of q ≡ number_of a → view (place_of after q) ≡ view None
gone_view view test m after a q e n = ap (λ k. view (place_at after k)) n ∙ ap view (freed_gone test m after a e)

kept_view : {A : Type 0} (view : Option Place → A) (test : Head → Bool) (m after : Places) (a q : ℕ) → freed_if test a m ≡ Some after → number_of q ≢ number_of a → view (place_of after q) ≡ view (place_of m q)
kept_view view test m after a q e ne = ap view (freed_others test m after a (number_of q) e ne)

pub freed_bytes_gone : (test : Head → Bool) (m after : Places) (a q : ℕ) → freed_if test a m ≡ Some after → number_of q ≡ number_of a → byte_at after q ≡ None
freed_bytes_gone test m after a q e n = gone_view (option_and_then (λ p. byte_in p (offset_of q))) test m after a q e n

pub freed_live_gone : (test : Head → Bool) (m after : Places) (a q : ℕ) → freed_if test a m ≡ Some after → number_of q ≡ number_of a → is_live after q ≡ false
freed_live_gone test m after a q e n = gone_view (tells is_live_in (offset_of q)) test m after a q e n

pub freed_cells_gone : (test : Head → Bool) (m after : Places) (a q : ℕ) → freed_if test a m ≡ Some after → number_of q ≡ number_of a → cell_at after q ≡ None
freed_cells_gone test m after a q e n = gone_view (option_and_then (λ p. cell_in p (offset_of q))) test m after a q e n

pub freed_bytes : (test : Head → Bool) (m after : Places) (a q : ℕ) → freed_if test a m ≡ Some after → number_of q ≢ number_of a → byte_at after q ≡ byte_at m q
freed_bytes test m after a q e n = kept_view (option_and_then (λ p. byte_in p (offset_of q))) test m after a q e n

pub freed_live : (test : Head → Bool) (m after : Places) (a q : ℕ) → freed_if test a m ≡ Some after → number_of q ≢ number_of a → is_live after q ≡ is_live m q
freed_live test m after a q e n = kept_view (tells is_live_in (offset_of q)) test m after a q e n

pub freed_cells : (test : Head → Bool) (m after : Places) (a q : ℕ) → freed_if test a m ≡ Some after → number_of q ≢ number_of a → cell_at after q ≡ cell_at m q
freed_cells test m after a q e n = kept_view (option_and_then (λ p. cell_in p (offset_of q))) test m after a q e n
