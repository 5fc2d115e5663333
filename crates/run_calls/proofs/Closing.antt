use Rattle.std.proofs.Common.{◌≡◌, ℕ, zero, suc, ◌+◌, ◌-◌, ◌*◌, ◌/◌, ◌%◌, ◌^◌, ◌==◌, ◌<◌, ◌≤◌, nat_lt, Bool, true, false, not, ◌&&◌, if◌then◌else◌, List, [], ◌∷◌, length, length-set, get_or, leb, ltb, cond, Option, Some, None, refl, sym, ap, ◌∙◌, subst, arith, inl, inr, ◌⊎◌}
use Rattle.std.specs.Option.{option_map, option_and_then}
use Rattle.std.proofs.lemmas.Bool.{ltb-true, eq-eqb, cases_lt}
use Rattle.std.proofs.lemmas.Option.{cond_some}
use Rattle.thread_system.specs.Memory.{next_address}
use Rattle.places.specs.declared.kinds.Cell.{Cell}
use Rattle.places.specs.Place.{Place, size_of, cell_over, cell_number, begins_cell, cell_in, cell_with, is_alive, may_close_in, with_closed_in}
use Rattle.places.specs.Memory.{Places, place_at, place_of, with_place, next_number, is_live, cell_at, number_of, offset_of, address, tells, each_byte, is_among}
use Rattle.places.specs.Calls.{closed, closes, may_close, with_change, replaced}
use Rattle.places.specs.Standing.{Stands, IsPlace}
use Rattle.places.proofs.Seen.{close_keeps_cells, close_keeps_heads, is_closed_as}
use Rattle.places.proofs.Here.{close_live, close_bytes}
use Rattle.str_heap.specs.Payloads.{bytes_of}
use Rattle.text_calls.specs.Strings.{CellState, cell_state_of, strings_of}
use Rattle.fb_base.specs.Shapes.{AllAlong, IsCell, after_cell}
use Rattle.std.proofs.Math.Nat.{div-add-mod, mul_comm}
use Rattle.std.proofs.lemmas.Nat.{div-mul-add, mod-mul-add}
use Rattle.std.specs.List.{slice_get, list_any}
use Rattle.places.proofs.Tables.{CellFits, cell_fits}
use Rattle.places.proofs.Over.{over_below_length, over_step, cell_has, cell_lacks_low, cell_lacks_high, begins_is}
use Rattle.places.specs.Table.{begins_at}
use Rattle.entry_replay.proofs.Pairs.{nothing_there}
use Rattle.entry_replay.proofs.Touched.{same_some}
use Rattle.run_calls.specs.Seen as seen
use Rattle.run_calls.specs.Seen.{Seen, seen_of, with_closed}
use Rattle.run_calls.specs.Ties.{SeesClosed}
use Rattle.run_calls.proofs.Tied.{same_seen, size_by_head, same_used}

-- Bytes that are closed, as they are seen.

-- ---- the next number stays

next_with : (n : ℕ) (q : Option Place) (m : Places) → next_number (with_place n q m) ≡ next_number m
next_with n q m = ap (λ k. k + 1) (length-set m (n - 1) q)

pub next_changed : (change : ℕ → Place → Place) (a : ℕ) (m : Places) → next_number (with_change change a m) ≡ next_number m
next_changed change a m = by_place (option_map (change (offset_of a)) (place_of m a)) where
  by_place : (x : Option Place) → next_number (replaced (number_of a) x m) ≡ next_number m
  by_place None = refl
  by_place (Some p) = next_with (number_of a) (Some p) m

next_closes : (len a : ℕ) (m : Places) → next_number (closes a len m) ≡ next_number m
next_closes zero a m = refl
next_closes (suc len) a m = next_closes len (next_address a) (with_change with_closed_in a m) ∙ next_changed with_closed_in a m

-- ---- which bytes may be closed

each_alike : (f g : ℕ → Bool) → ((q : ℕ) → f q ≡ g q) → (a len : ℕ) → each_byte f a len ≡ each_byte g a len
each_alike f g same a zero = refl
each_alike f g same a (suc len) = λ i. same a i && each_alike f g same (next_address a) len i

-- the cell that has a byte begins at or before it, and has the byte where it begins
record Starts (low r k : ℕ) (cells : List ℕ) : Type 0 where
  before : get_or cells k 0 ≤ r
  above : low ≤ get_or cells k 0
  over : cell_over cells (get_or cells k 0) ≡ Some k

starts_as : (size low r k : ℕ) (cells : List ℕ) → AllAlong (IsCell size) after_cell low cells → cell_over cells r ≡ Some k → Starts low r k cells
starts_as size low r k [] a e = absurd (nothing_there k e)
starts_as size low r k (c ∷ cs) a e = by_first (λ j is. starts_as size (c + 24) r j cs a.1 is) (cases_lt r c) (cases_lt r (c + 24)) where
  cell : IsCell size low c
  cell = a.0

  above : low ≤ c
  above = cell.above

  here : c ≤ r → r < c + 24 → Starts low r k (c ∷ cs)
  here below within =
      let zero_is : Some 0 ≡ Some k = sym (over_step c cs r ∙ ap (λ b. cond b (Some 0) (option_map suc (cell_over cs r))) (cell_has c r below within)) ∙ e in
      subst (λ i. Starts low r i (c ∷ cs)) (same_some 0 k zero_is) (record {
        before = below;
        above = above;
        over = over_step c cs c ∙ ap (λ b. cond b (Some 0) (option_map suc (cell_over cs c))) (cell_has c c (omega arith) (omega arith));
      })

  further : ((j : ℕ) → cell_over cs r ≡ Some j → Starts (c + 24) r j cs) → (x : Option ℕ) → cell_over cs r ≡ x → option_map suc x ≡ Some k → Starts low r k (c ∷ cs)
  further rest None is s = absurd (nothing_there k s)
  further more (Some j) is s =
      let rest = more j is in
      let high = rest.above in
      subst (λ i. Starts low r i (c ∷ cs)) (same_some (suc j) k s) (record {
        before = rest.before;
        above = omega (arith, above, high);
        over = over_step c cs (get_or cs j 0) ∙ ap (λ b. cond b (Some 0) (option_map suc (cell_over cs (get_or cs j 0)))) (cell_lacks_high c (get_or cs j 0) high) ∙ ap (option_map suc) rest.over;
      })

  lacks : ((j : ℕ) → cell_over cs r ≡ Some j → Starts (c + 24) r j cs) → (leb c r && ltb (r - c) 24) ≡ false → Starts low r k (c ∷ cs)
  lacks rest none = further rest (cell_over cs r) refl (sym (over_step c cs r ∙ ap (λ b. cond b (Some 0) (option_map suc (cell_over cs r))) none) ∙ e)

  by_first : ((j : ℕ) → cell_over cs r ≡ Some j → Starts (c + 24) r j cs) → (r < c) ⊎ (c ≤ r) → (r < c + 24) ⊎ (c + 24 ≤ r) → Starts low r k (c ∷ cs)
  by_first rest (inl h) other = lacks rest (cell_lacks_low c r h)
  by_first rest (inr h) (inl l) = here h l
  by_first rest (inr h) (inr l) = lacks rest (cell_lacks_high c r l)

-- a cell is alive where its string is held
held_is : (heap : List (List ℕ)) (x : Option Cell) → seen.is_held (Some (cell_state_of heap x)) ≡ is_alive x
held_is heap None = refl
held_is heap (Some cell) = by_alive cell.alive where
  by_alive : (b : Bool) → seen.is_held (Some (if b then CellState.holds (bytes_of heap cell.desc) else CellState.dead)) ≡ b
  by_alive true = refl
  by_alive false = refl

module _ (m : Places) (heap : List (List ℕ)) (n o : ℕ) (p : Place) (at : place_at m n ≡ Some p) (kept : IsPlace p) (within : o < size_of p.head) where
  -- what the cell that has the byte holds, where it is number k of its element
  by_cell : (k : ℕ) → cell_over p.head.shape.cells (o % p.head.shape.size) ≡ Some k → seen.is_held (Some (strings_of m heap (address n (o - o % p.head.shape.size + get_or p.head.shape.cells k 0)))) ≡ is_alive (cell_with p o)
  unfolding strings_of
  by_cell k is =
      let size = p.head.shape.size in
      let cells = p.head.shape.cells in
      let c = get_or cells k 0 in
      let start = o - o % size + c in
      let starts : Starts 0 (o % size) k cells = starts_as size 0 (o % size) k cells kept.shape.cells is in
      let before : c ≤ o % size = starts.before in
      let fits : CellFits size c = cell_fits size 0 k 0 cells kept.shape.cells (over_below_length cells (o % size) k is) in
      let room : c + 24 ≤ size = fits.within in
      let parts : size * (o / size) + o % size ≡ o = div-add-mod o size in
      let turned : size * (o / size) ≡ o / size * size = mul_comm size (o / size) in
      let limit : size_of p.head ≤ 67108864 = kept.limit in
      let low : start < 2 ^ 32 = omega (arith, before, parts, within, limit) in
      let sum : start ≡ o / size * size + c = omega (arith, parts, turned) in
      let left : start % size ≡ c = ap (λ x. x % size) sum ∙ mod-mul-add (o / size) size c (omega (arith, room)) in
      let div : start / size ≡ o / size = ap (λ x. x / size) sum ∙ div-mul-add (o / size) size c (omega (arith, room)) in
      let number : number_of (address n start) ≡ n = div-mul-add n (2 ^ 32) start low in
      let offset : offset_of (address n start) ≡ start = mod-mul-add n (2 ^ 32) start low in
      let begins : begins_cell p.head start ≡ true =
      ap (λ r. list_any (λ d. d == r) cells) left
      ∙ begins_is size c cells kept.shape.cells
      ∙ ap (begins_at cells c) starts.over
      ∙ eq-eqb c c refl in
      let same_cell : cell_number p.head start ≡ cell_number p.head o =
      (λ i. option_map (λ j. div i * length cells + j) (cell_over cells (left i)))
      ∙ ap (option_map (λ j. o / size * length cells + j)) (starts.over ∙ sym is) in
      let found : cell_at m (address n start) ≡ cell_with p o =
      (λ i. option_and_then (λ (x : Place). cell_in x (offset i)) (place_at m (number i)))
      ∙ ap (option_and_then (λ (x : Place). cell_in x start)) at
      ∙ ap (λ b. if b then cell_with p start else None) begins
      ∙ ap (option_and_then (λ j. slice_get p.cells j)) same_cell in
      ap (λ x. seen.is_held (Some (cell_state_of heap x))) found ∙ held_is heap (cell_with p o)

  by_over : (x : Option ℕ) → cell_over p.head.shape.cells (o % p.head.shape.size) ≡ x → seen.is_held (option_map (λ r. strings_of m heap (address n r)) (option_map (λ k. o - o % p.head.shape.size + get_or p.head.shape.cells k 0) x)) ≡ is_alive (cell_with p o)
  by_over None is = sym (ap (λ x. is_alive (option_and_then (λ j. slice_get p.cells j) (option_map (λ k. o / p.head.shape.size * length p.head.shape.cells + k) x))) is)
  by_over (Some k) is = by_cell k is

  held_here : seen.is_held (option_map (λ r. strings_of m heap (address n r)) (seen.cell_start p.head o)) ≡ is_alive (cell_with p o)
  held_here = by_over (cell_over p.head.shape.cells (o % p.head.shape.size)) refl

may_close_seen : (m : Places) (heap : List (List ℕ)) (a : ℕ) → Stands m → seen.may_close (seen_of m heap) a ≡ may_close m a
may_close_seen m heap a stands = by_place (place_of m a) refl where
  by_size : (p : Place) → place_of m a ≡ Some p → (b : Bool) → nat_lt (offset_of a) (size_of p.head) ≡ b → (b && not (seen.is_held (option_map (λ r. strings_of m heap (address (number_of a) r)) (seen.cell_start p.head (offset_of a))))) ≡ (b && not (is_alive (cell_with p (offset_of a))))
  by_size p at true is = ap not (held_here m heap (number_of a) (offset_of a) p at (stands.each (number_of a) p at) (ltb-true (offset_of a) (size_of p.head) is))
  by_size p at false is = refl

  by_place : (x : Option Place) → place_of m a ≡ x → seen.may_close (seen_of m heap) a ≡ may_close m a
  by_place None at = ap (λ x. seen.may_close_in (seen_of m heap) a (option_map (λ (p : Place). p.head) x)) at ∙ sym (ap (tells may_close_in (offset_of a)) at)
  by_place (Some p) at =
      ap (λ x. seen.may_close_in (seen_of m heap) a (option_map (λ (p : Place). p.head) x)) at
      ∙ by_size p at (nat_lt (offset_of a) (size_of p.head)) refl
      ∙ sym (ap (tells may_close_in (offset_of a)) at)

-- ---- closing

not_and : (b c : Bool) → (c && not b) ≡ (if b then false else c)
not_and true true = refl
not_and true false = refl
not_and false true = refl
not_and false false = refl

pub closed_as_seen : (a len : ℕ) (m after : Places) (heap : List (List ℕ)) → Stands m → closed a len m ≡ Some after → SeesClosed a len (seen_of m heap) (seen_of after heap)
unfolding strings_of
closed_as_seen a len m after heap stands e = record {
  passes = each_alike (seen.may_close (seen_of m heap)) (may_close m) (λ q. may_close_seen m heap q stands) a len ∙ (cond_some (each_byte (may_close m) a len) (closes a len m) after e).0;
  new_is = same_seen (seen_of after heap) (with_closed a len (seen_of m heap))
      next
      (same_used m after next (λ n. ap size_by_head (close_keeps_heads m after a len n e)))
      (λ n. close_keeps_heads m after a len n e)
      (λ q. close_live m after a len q e ∙ not_and (is_among a len q) (is_live m q))
      (λ q. close_bytes m after a len q e)
      (λ q. ap (cell_state_of heap) (close_keeps_cells m after a len q e));
} where
  next : next_number after ≡ next_number m
  next = ap next_number (sym (is_closed_as m after a len e)) ∙ next_closes len a m

pub closed_none_as_seen : (a len : ℕ) (m : Places) (heap : List (List ℕ)) → Stands m → closed a len m ≡ None → each_byte (seen.may_close (seen_of m heap)) a len ≡ false
closed_none_as_seen a len m heap stands e = each_alike (seen.may_close (seen_of m heap)) (may_close m) (λ q. may_close_seen m heap q stands) a len ∙ by_result (each_byte (may_close m) a len) e where
  by_result : (b : Bool) → (if b then Some (closes a len m) else None) ≡ None → b ≡ false
  by_result true r = absurd (nothing_there (closes a len m) (sym r))
  by_result false r = refl
