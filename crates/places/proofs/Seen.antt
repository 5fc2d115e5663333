use Rattle.std.proofs.Common.{◌≡◌, ◌≢◌, ℕ, zero, suc, ◌+◌, ◌-◌, ◌*◌, ◌/◌, ◌%◌, ◌<◌, ◌≤◌, Bool, true, false, cond, ◌&&◌, ◌⊎◌, List, [], ◌∷◌, ◌++◌, length, get_or, set, nat_lt, length-set, length-append, Option, Some, None, is_some, is_none, refl, ap, sym, ◌∙◌, arith, inl, inr, ne_eqb, eq-eqb}
use Rattle.std.specs.List.{slice_get}
use Rattle.std.specs.Option.{option_map, option_and_then}
use Rattle.std.proofs.lemmas.Bool.{false≢true, cases_eq, cases_lt}
use Rattle.std.proofs.lemmas.Option.{cond_some, some_pair_parts}
use Rattle.std.proofs.lemmas.List.{get_or_past}
use Rattle.std.proofs.Math.ListN.{get_or-append}
use Rattle.std.proofs.Math.Seq.{get_or-append_seam}
use Rattle.fb_base.specs.declared.shape.Shape.{Shape}
use Rattle.places.specs.declared.kinds.Form.{Form}
use Rattle.places.proofs.Done.{started}
use Rattle.thread_system.specs.Memory.{Memory, next_address, read, write, with_byte}
use Rattle.places.specs.declared.kinds.Cell.{Cell}
use Rattle.places.specs.Place.{Place, Head, byte_in, cell_in, is_live_in, cell_number, with_byte_in, with_closed_in, with_cell_in, fresh}
use Rattle.places.specs.Memory.{Places, place_at, place_of, with_place, number_of, offset_of, byte_at, cell_at, is_live, head_at, tells, each_byte, starts_at, next_number, address, live_size}
use Rattle.places.specs.Calls.{replaced, with_change, puts, written, closes, closed, may_close, with_cell, freed_if, made, new_head, most_live}
use Rattle.places.proofs.Bytes.{is_some_read}
use Rattle.places.proofs.Changed.{given, with_same, with_other, at_some, at_zero}

-- What calls make of the bytes and cells at addresses.

-- What a change of a place leaves as it is.
same_change : {A : Type 0} (view : Option Place → A) (change : ℕ → Place → Place) → ((o : ℕ) (p : Place) → view (Some (change o p)) ≡ view (Some p)) → (a : ℕ) (m : Places) (k : ℕ) → view (place_at (with_change change a m) k) ≡ view (place_at m k)
same_change view change same a m k = by_place (place_of m a) refl where
  by_number : (p : Place) → place_of m a ≡ Some p → (k ≡ number_of a) ⊎ (k ≢ number_of a) → view (place_at (with_place (number_of a) (Some (change (offset_of a) p)) m) k) ≡ view (place_at m k)
  by_number p is (inl e) =
      let g = given m (number_of a) p is in
      ap (λ n. view (place_at (with_place (number_of a) (Some (change (offset_of a) p)) m) n)) e
      ∙ ap view (with_same m (number_of a) (Some (change (offset_of a) p)) g.0 g.1)
      ∙ same (offset_of a) p
      ∙ ap view (sym is)
      ∙ ap (λ n. view (place_at m n)) (sym e)
  by_number p is (inr e) = ap view (with_other m (number_of a) k (Some (change (offset_of a) p)) (given m (number_of a) p is).0 e)

  by_place : (x : Option Place) → place_of m a ≡ x → view (place_at (with_change change a m) k) ≡ view (place_at m k)
  by_place None is = ap (λ x. view (place_at (replaced (number_of a) (option_map (change (offset_of a)) x) m) k)) is
  by_place (Some p) is = ap (λ x. view (place_at (replaced (number_of a) (option_map (change (offset_of a)) x) m) k)) is ∙ by_number p is (cases_eq k (number_of a))

same_puts : {A : Type 0} (view : Option Place → A) → ((byte o : ℕ) (p : Place) → view (Some (with_byte_in o byte p)) ≡ view (Some p)) → (w a v : ℕ) (m : Places) (k : ℕ) → view (place_at (puts a w v m) k) ≡ view (place_at m k)
same_puts view same zero a v m k = refl
same_puts view same (suc w) a v m k =
    same_change view (λ o. with_byte_in o (v % 256)) (same (v % 256)) a (puts (next_address a) w (v / 256) m) k ∙ same_puts view same w (next_address a) (v / 256) m k

same_closes : {A : Type 0} (view : Option Place → A) → ((o : ℕ) (p : Place) → view (Some (with_closed_in o p)) ≡ view (Some p)) → (len a : ℕ) (m : Places) (k : ℕ) → view (place_at (closes a len m) k) ≡ view (place_at m k)
same_closes view same zero a m k = refl
same_closes view same (suc len) a m k =
    same_closes view same len (next_address a) (with_change with_closed_in a m) k ∙ same_change view with_closed_in same a m k

is_put : (m after : Places) (a w v : ℕ) → written a w v m ≡ Some after → puts a w v m ≡ after
is_put m after a w v e = (cond_some (is_some (read (byte_at m) a w)) (puts a w v m) after e).1

-- A write leaves what is live, the cells and the heads.
pub write_keeps_live : (m after : Places) (a w v q : ℕ) → written a w v m ≡ Some after → is_live after q ≡ is_live m q
write_keeps_live m after a w v q e = ap (λ x. is_live x q) (sym (is_put m after a w v e)) ∙ same_puts (tells is_live_in (offset_of q)) (λ byte o p. refl) w a v m (number_of q)

pub write_keeps_cells : (m after : Places) (a w v q : ℕ) → written a w v m ≡ Some after → cell_at after q ≡ cell_at m q
write_keeps_cells m after a w v q e = ap (λ x. cell_at x q) (sym (is_put m after a w v e)) ∙ same_puts (option_and_then (λ p. cell_in p (offset_of q))) (λ byte o p. refl) w a v m (number_of q)

pub write_keeps_heads : (m after : Places) (a w v n : ℕ) → written a w v m ≡ Some after → head_at after n ≡ head_at m n
write_keeps_heads m after a w v n e = ap (λ x. head_at x n) (sym (is_put m after a w v e)) ∙ same_puts (option_map (λ p. p.head)) (λ byte o p. refl) w a v m n

-- Closing leaves the cells and the heads.
pub is_closed_as : (m after : Places) (a len : ℕ) → closed a len m ≡ Some after → closes a len m ≡ after
is_closed_as m after a len e = (cond_some (each_byte (may_close m) a len) (closes a len m) after e).1

pub close_keeps_cells : (m after : Places) (a len q : ℕ) → closed a len m ≡ Some after → cell_at after q ≡ cell_at m q
close_keeps_cells m after a len q e = ap (λ x. cell_at x q) (sym (is_closed_as m after a len e)) ∙ same_closes (option_and_then (λ p. cell_in p (offset_of q))) (λ o p. refl) len a m (number_of q)

pub close_keeps_heads : (m after : Places) (a len n : ℕ) → closed a len m ≡ Some after → head_at after n ≡ head_at m n
close_keeps_heads m after a len n e = ap (λ x. head_at x n) (sym (is_closed_as m after a len e)) ∙ same_closes (option_map (λ p. p.head)) (λ o p. refl) len a m n

-- One byte is another.
pub get_set_same : {A : Type 0} (xs : List A) (i : ℕ) (x y : A) → slice_get xs i ≡ Some x → slice_get (set xs i y) i ≡ Some y
get_set_same [] i x y e = cc
get_set_same (z ∷ zs) zero x y e = refl
get_set_same (z ∷ zs) (suc i) x y e = get_set_same zs i x y e

pub get_set_other : {A : Type 0} (xs : List A) (i j : ℕ) (y : A) → j ≢ i → slice_get (set xs i y) j ≡ slice_get xs j
get_set_other [] i j y ne = refl
get_set_other (z ∷ zs) zero zero y ne = absurd (ne refl)
get_set_other (z ∷ zs) zero (suc j) y ne = refl
get_set_other (z ∷ zs) (suc i) zero y ne = refl
get_set_other (z ∷ zs) (suc i) (suc j) y ne = get_set_other zs i j y (λ e. ne (ap suc e))

get_set_some : (xs : List ℕ) (i j y : ℕ) → is_some (slice_get (set xs i y) j) ≡ is_some (slice_get xs j)
get_set_some [] i j y = refl
get_set_some (z ∷ zs) zero zero y = refl
get_set_some (z ∷ zs) zero (suc j) y = refl
get_set_some (z ∷ zs) (suc i) zero y = refl
get_set_some (z ∷ zs) (suc i) (suc j) y = get_set_some zs i j y

access_same : (k byte o : ℕ) (p : Place) → is_some (byte_in (with_byte_in o byte p) k) ≡ is_some (byte_in p k)
access_same k byte o p = by_test (is_live_in p k && is_none (cell_number p.head k)) where
  by_test : (b : Bool) → is_some (cond b (slice_get (set p.bytes o byte) k) None) ≡ is_some (cond b (slice_get p.bytes k) None)
  by_test true = get_set_some p.bytes o k byte
  by_test false = refl

byte_same_offset : (p : Place) (o x byte : ℕ) → byte_in p o ≡ Some x → byte_in (with_byte_in o byte p) o ≡ Some byte
byte_same_offset p o x byte e =
    by_test (is_live_in p o && is_none (cell_number p.head o)) e where
      by_test : (b : Bool) → cond b (slice_get p.bytes o) None ≡ Some x → cond b (slice_get (set p.bytes o byte) o) None ≡ Some byte
      by_test true s = get_set_same p.bytes o x byte s
      by_test false s = cc

byte_other_offset : (p : Place) (o k byte : ℕ) → k ≢ o → byte_in (with_byte_in o byte p) k ≡ byte_in p k
byte_other_offset p o k byte ne = ap (λ x. cond (is_live_in p k && is_none (cell_number p.head k)) x None) (get_set_other p.bytes o k byte ne)

change_byte : (m : Places) (a x byte q : ℕ) → byte_at m a ≡ Some x → byte_at (with_change (λ o. with_byte_in o byte) a m) q ≡ with_byte (byte_at m) a byte q
change_byte m a x byte q e = by_place (place_of m a) refl where
  none_is : ◌≡◌ {A = Option ℕ} None (Some x) → ⊥
  none_is s = cc

  here : (p : Place) → place_of m a ≡ Some p → q ≡ a → byte_at (with_place (number_of a) (Some (with_byte_in (offset_of a) byte p)) m) q ≡ with_byte (byte_at m) a byte q
  here p is same =
      let g = given m (number_of a) p is in
      let b : byte_in p (offset_of a) ≡ Some x = sym (ap (option_and_then (λ r. byte_in r (offset_of a))) is) ∙ e in
      ap (byte_at (with_place (number_of a) (Some (with_byte_in (offset_of a) byte p)) m)) same
      ∙ ap (option_and_then (λ r. byte_in r (offset_of a))) (with_same m (number_of a) (Some (with_byte_in (offset_of a) byte p)) g.0 g.1)
      ∙ byte_same_offset p (offset_of a) x byte b
      ∙ sym (ap (λ t. cond t (Some byte) (byte_at m q)) (eq-eqb q a same))

  there : (p : Place) → place_of m a ≡ Some p → q ≢ a → (number_of q ≡ number_of a) ⊎ (number_of q ≢ number_of a) → byte_at (with_place (number_of a) (Some (with_byte_in (offset_of a) byte p)) m) q ≡ with_byte (byte_at m) a byte q
  there p is ne (inl n) =
      let g = given m (number_of a) p is in
      let o : offset_of q ≢ offset_of a = λ k. ne (omega arith) in
      ap (λ k. option_and_then (λ r. byte_in r (offset_of q)) (place_at (with_place (number_of a) (Some (with_byte_in (offset_of a) byte p)) m) k)) n
      ∙ ap (option_and_then (λ r. byte_in r (offset_of q))) (with_same m (number_of a) (Some (with_byte_in (offset_of a) byte p)) g.0 g.1)
      ∙ byte_other_offset p (offset_of a) (offset_of q) byte o
      ∙ ap (option_and_then (λ r. byte_in r (offset_of q))) (sym is)
      ∙ ap (λ k. option_and_then (λ r. byte_in r (offset_of q)) (place_at m k)) (sym n)
      ∙ sym (ap (λ t. cond t (Some byte) (byte_at m q)) (ne_eqb q a ne))
  there p is ne (inr n) =
      ap (option_and_then (λ r. byte_in r (offset_of q))) (with_other m (number_of a) (number_of q) (Some (with_byte_in (offset_of a) byte p)) (given m (number_of a) p is).0 n)
      ∙ sym (ap (λ t. cond t (Some byte) (byte_at m q)) (ne_eqb q a ne))

  by_address : (p : Place) → place_of m a ≡ Some p → (q ≡ a) ⊎ (q ≢ a) → byte_at (with_place (number_of a) (Some (with_byte_in (offset_of a) byte p)) m) q ≡ with_byte (byte_at m) a byte q
  by_address p is (inl s) = here p is s
  by_address p is (inr s) = there p is s (cases_eq (number_of q) (number_of a))

  by_place : (y : Option Place) → place_of m a ≡ y → byte_at (with_change (λ o. with_byte_in o byte) a m) q ≡ with_byte (byte_at m) a byte q
  by_place None is = absurd (none_is (sym (ap (option_and_then (λ r. byte_in r (offset_of a))) is) ∙ e))
  by_place (Some p) is = ap (λ y. byte_at (replaced (number_of a) (option_map (with_byte_in (offset_of a) byte) y) m) q) is ∙ by_address p is (cases_eq q a)

both_true : (a b : Bool) → (a && b) ≡ true → (a ≡ true) × (b ≡ true)
both_true true b e = (refl, e)
both_true false b e = absurd (false≢true e)

some_byte : (x : Option ℕ) → is_some x ≡ true → (b : ℕ) × (x ≡ Some b)
some_byte None e = absurd (false≢true e)
some_byte (Some b) e = (b, refl)

-- The bytes after a write are those that it writes, and else those before.
pub write_bytes : (w a v : ℕ) (m : Places) → is_some (read (byte_at m) a w) ≡ true → write (byte_at m) a w v ≡ Some (byte_at (puts a w v m))
write_bytes zero a v m allowed = refl
write_bytes (suc w) a v m allowed =
    let parts = both_true (is_some (byte_at m a)) (each_byte (λ q. is_some (byte_at m q)) (next_address a) w) (sym (is_some_read (byte_at m) a (suc w)) ∙ allowed) in
    let rest : is_some (read (byte_at m) (next_address a) w) ≡ true = is_some_read (byte_at m) (next_address a) w ∙ parts.1 in
    let first = some_byte (byte_at m a) parts.0 in
    let after : Places = puts (next_address a) w (v / 256) m in
    let still : is_some (byte_at after a) ≡ true = same_puts (λ x. is_some (option_and_then (λ p. byte_in p (offset_of a)) x)) (access_same (offset_of a)) w (next_address a) (v / 256) m (number_of a) ∙ parts.0 in
    let there = some_byte (byte_at after a) still in
    let each : (q : ℕ) → byte_at (puts a (suc w) v m) q ≡ with_byte (byte_at after) a (v % 256) q = λ q. change_byte after a there.0 (v % 256) q there.1 in
    ap (option_and_then (λ b. option_map (λ r. with_byte r a (v % 256)) (write (byte_at m) (next_address a) w (v / 256)))) first.1
    ∙ ap (option_map (λ r. with_byte r a (v % 256))) (write_bytes w (next_address a) (v / 256) m rest)
    ∙ ap {B = Option Memory} (λ f. Some f) (sym (λ i q. each q i))

-- A place in place of another one leaves what can't tell them apart.
pub same_with : {A : Type 0} (view : Option Place → A) (m : Places) (n : ℕ) (p y : Place) → place_at m n ≡ Some p → view (Some y) ≡ view (Some p) → (k : ℕ) → view (place_at (with_place n (Some y) m) k) ≡ view (place_at m k)
same_with view m n p y is same k = by_number (cases_eq k n) where
  by_number : (k ≡ n) ⊎ (k ≢ n) → view (place_at (with_place n (Some y) m) k) ≡ view (place_at m k)
  by_number (inl e) =
      let g = given m n p is in
      ap (λ i. view (place_at (with_place n (Some y) m) i)) e ∙ ap view (with_same m n (Some y) g.0 g.1) ∙ same ∙ ap view (sym is) ∙ ap (λ i. view (place_at m i)) (sym e)
  by_number (inr e) = ap view (with_other m n k (Some y) (given m n p is).0 e)

set_cell_keeps : {A : Type 0} (view : Option Place → A) → ((p : Place) (cells : List Cell) → view (Some (record p { cells = cells })) ≡ view (Some p)) → (m after : Places) (a : ℕ) (cell : Cell) → with_cell a cell m ≡ Some after → (k : ℕ) → view (place_at after k) ≡ view (place_at m k)
set_cell_keeps view same m after a cell e k = by_place (place_of m a) refl e where
  none_is : ◌≡◌ {A = Option Places} None (Some after) → ⊥
  none_is s = cc

  by_number : (p : Place) → place_of m a ≡ Some p → (i : Option ℕ) → option_map (λ y. with_place (number_of a) (Some y) m) (option_map (λ j. record p { cells = set p.cells j cell }) i) ≡ Some after → view (place_at after k) ≡ view (place_at m k)
  by_number p is None s = absurd (none_is s)
  by_number p is (Some j) s =
      let new : with_place (number_of a) (Some (record p { cells = set p.cells j cell })) m ≡ after = cc in
      ap (λ x. view (place_at x k)) (sym new) ∙ same_with view m (number_of a) p (record p { cells = set p.cells j cell }) is (same p (set p.cells j cell)) k

  by_test : (p : Place) → place_of m a ≡ Some p → (b : Bool) → cond b (option_map (λ y. with_place (number_of a) (Some y) m) (with_cell_in (offset_of a) cell p)) None ≡ Some after → view (place_at after k) ≡ view (place_at m k)
  by_test p is true s = by_number p is (cell_number p.head (offset_of a)) s
  by_test p is false s = absurd (none_is s)

  by_place : (x : Option Place) → place_of m a ≡ x → option_and_then (λ p. cond (is_some (cell_in p (offset_of a))) (option_map (λ y. with_place (number_of a) (Some y) m) (with_cell_in (offset_of a) cell p)) None) x ≡ Some after → view (place_at after k) ≡ view (place_at m k)
  by_place None is s = absurd (none_is s)
  by_place (Some p) is s = by_test p is (is_some (cell_in p (offset_of a))) s

pub set_cell_keeps_bytes : (m after : Places) (a q : ℕ) (cell : Cell) → with_cell a cell m ≡ Some after → byte_at after q ≡ byte_at m q
set_cell_keeps_bytes m after a q cell e = set_cell_keeps (option_and_then (λ p. byte_in p (offset_of q))) (λ p cells. refl) m after a cell e (number_of q)

pub set_cell_keeps_live : (m after : Places) (a q : ℕ) (cell : Cell) → with_cell a cell m ≡ Some after → is_live after q ≡ is_live m q
set_cell_keeps_live m after a q cell e = set_cell_keeps (tells is_live_in (offset_of q)) (λ p cells. refl) m after a cell e (number_of q)

pub set_cell_keeps_heads : (m after : Places) (a n : ℕ) (cell : Cell) → with_cell a cell m ≡ Some after → head_at after n ≡ head_at m n
set_cell_keeps_heads m after a n cell e = set_cell_keeps (option_map (λ p. p.head)) (λ p cells. refl) m after a cell e n

-- A place that is freed is gone, and all others stay.
freed_is : (test : Head → Bool) (m after : Places) (a : ℕ) → freed_if test a m ≡ Some after → (0 < number_of a) × (number_of a ≤ length m) × (with_place (number_of a) None m ≡ after)
freed_is test m after a e = by_place (starts_at m a) refl e where
  none_is : ◌≡◌ {A = Option Places} None (Some after) → ⊥
  none_is s = cc

  by_test : (p : Place) → starts_at m a ≡ Some p → (b : Bool) → cond b (Some (with_place (number_of a) None m)) None ≡ Some after → (0 < number_of a) × (number_of a ≤ length m) × (with_place (number_of a) None m ≡ after)
  by_test p is true s =
      let g = given m (number_of a) p (started m a p is) in
      let same : with_place (number_of a) None m ≡ after = cc in
      (g.0, g.1, same)
  by_test p is false s = absurd (none_is s)

  by_place : (x : Option Place) → starts_at m a ≡ x → option_and_then (λ p. cond (test p.head) (Some (with_place (number_of a) None m)) None) x ≡ Some after → (0 < number_of a) × (number_of a ≤ length m) × (with_place (number_of a) None m ≡ after)
  by_place None is s = absurd (none_is s)
  by_place (Some p) is s = by_test p is (test p.head) s

pub freed_gone : (test : Head → Bool) (m after : Places) (a : ℕ) → freed_if test a m ≡ Some after → place_at after (number_of a) ≡ None
freed_gone test m after a e =
    let f = freed_is test m after a e in
    ap (λ x. place_at x (number_of a)) (sym f.2) ∙ with_same m (number_of a) None f.0 f.1

pub freed_others : (test : Head → Bool) (m after : Places) (a k : ℕ) → freed_if test a m ≡ Some after → k ≢ number_of a → place_at after k ≡ place_at m k
freed_others test m after a k e other =
    let f = freed_is test m after a e in
    ap (λ x. place_at x k) (sym f.2) ∙ with_other m (number_of a) k None f.0 other

pub freed_next : (test : Head → Bool) (m after : Places) (a : ℕ) → freed_if test a m ≡ Some after → next_number after ≡ next_number m
freed_next test m after a e =
    let f = freed_is test m after a e in
    ap (λ x. next_number x) (sym f.2) ∙ ap (λ n. n + 1) (length-set m (number_of a - 1) None)

-- A new place stands under a number that nothing had, and all others stay.
pub made_is : (shape : Shape) (count addr : ℕ) (form : Form) (m after : Places) → made shape count form m ≡ Some (addr, after) → (address (next_number m) 0 ≡ addr) × (m ++ Some (fresh (new_head shape count form)) ∷ [] ≡ after)
made_is shape count addr form m after e = by_test (nat_lt most_live (live_size m + shape.size * count)) e where
  by_test : (b : Bool) → cond {A = Option (ℕ × Places)} b None (Some (address (next_number m) 0, m ++ Some (fresh (new_head shape count form)) ∷ [])) ≡ Some (addr, after) → (address (next_number m) 0 ≡ addr) × (m ++ Some (fresh (new_head shape count form)) ∷ [] ≡ after)
  by_test true s = cc
  by_test false s = some_pair_parts (address (next_number m) 0) addr (m ++ Some (fresh (new_head shape count form)) ∷ []) after s

pub made_address : (shape : Shape) (count addr : ℕ) (form : Form) (m after : Places) → made shape count form m ≡ Some (addr, after) → addr ≡ address (next_number m) 0
made_address shape count addr form m after e = sym (made_is shape count addr form m after e).0

pub made_place : (shape : Shape) (count addr : ℕ) (form : Form) (m after : Places) → made shape count form m ≡ Some (addr, after) → place_at after (next_number m) ≡ Some (fresh (new_head shape count form))
made_place shape count addr form m after e =
    let f = made_is shape count addr form m after e in
    let n : next_number m - 1 ≡ length m = omega arith in
    ap (λ x. place_at x (next_number m)) (sym f.1)
    ∙ at_some (m ++ Some (fresh (new_head shape count form)) ∷ []) (next_number m) (omega arith)
    ∙ ap (λ i. get_or (m ++ Some (fresh (new_head shape count form)) ∷ []) i None) n
    ∙ get_or-append_seam m (Some (fresh (new_head shape count form))) [] None

push_others : (m : Places) (x : Option Place) (k : ℕ) → k ≢ next_number m → place_at (m ++ x ∷ []) k ≡ place_at m k
push_others m x k other = by_zero (cases_lt 0 k) where
  long : length (m ++ x ∷ []) ≡ length m + 1
  long = length-append m (x ∷ [])

  by_length : 0 < k → (k - 1 < length m) ⊎ (length m ≤ k - 1) → place_at (m ++ x ∷ []) k ≡ place_at m k
  by_length some (inl h) = at_some (m ++ x ∷ []) k some ∙ get_or-append m (x ∷ []) None (k - 1) h ∙ sym (at_some m k some)
  by_length some (inr h) =
      let ne : k ≢ length m + 1 = other in
      at_some (m ++ x ∷ []) k some ∙ get_or_past (m ++ x ∷ []) (k - 1) None (omega (arith, long)) ∙ sym (at_some m k some ∙ get_or_past m (k - 1) None h)

  by_zero : (0 < k) ⊎ (k ≤ 0) → place_at (m ++ x ∷ []) k ≡ place_at m k
  by_zero (inl h) = by_length h (cases_lt (k - 1) (length m))
  by_zero (inr h) = at_zero (m ++ x ∷ []) k (omega arith) ∙ sym (at_zero m k (omega arith))

pub made_others : (shape : Shape) (count addr k : ℕ) (form : Form) (m after : Places) → made shape count form m ≡ Some (addr, after) → k ≢ next_number m → place_at after k ≡ place_at m k
made_others shape count addr k form m after e other = ap (λ x. place_at x k) (sym (made_is shape count addr form m after e).1) ∙ push_others m (Some (fresh (new_head shape count form))) k other

pub made_next : (shape : Shape) (count addr : ℕ) (form : Form) (m after : Places) → made shape count form m ≡ Some (addr, after) → next_number after ≡ next_number m + 1
made_next shape count addr form m after e = ap (λ x. next_number x) (sym (made_is shape count addr form m after e).1) ∙ ap (λ n. n + 1) (length-append m (Some (fresh (new_head shape count form)) ∷ []))

pub unused : (m : Places) (n : ℕ) → next_number m ≤ n → place_at m n ≡ None
unused m n h = at_some m n (omega arith) ∙ get_or_past m (n - 1) None (omega arith)
