use Rattle.std.proofs.Common.{◌≡◌, ◌≢◌, ℕ, zero, suc, ◌+◌, ◌/◌, ◌%◌, ◌^◌, ◌==◌, ◌<◌, ◌≤◌, Bool, true, false, ◌||◌, if◌then◌else◌, List, Option, Some, None, is_some, option_map, option_and_then, true≢false, refl, sym, ap, ◌∙◌, arith, ne_eqb}
use Rattle.std.proofs.lemmas.Bool.{eqb-true, eq-eqb}
use Rattle.std.proofs.lemmas.Option.{cond_some}
use Rattle.thread_system.specs.Memory.{Memory, next_address, read, write, with_byte}
use Rattle.places.specs.Memory.{Places, next_number, byte_at, is_among}
use Rattle.places.specs.Calls.{written, puts}
use Rattle.places.specs.Answers.{IsWidth}
use Rattle.places.specs.Place.{with_byte_in}
use Rattle.places.proofs.Seen.{write_bytes, write_keeps_live, write_keeps_cells, write_keeps_heads}
use Rattle.text_calls.specs.Strings.{cell_state_of, strings_of}
use Rattle.entry_replay.specs.Accesses.{stores_of, with_stores}
use Rattle.entry_replay.proofs.Pairs.{nothing_there}
use Rattle.entry_replay.proofs.Touched.{same_some}
use Rattle.run_calls.specs.Seen.{seen_of}
use Rattle.run_calls.proofs.Tied.{same_seen, size_by_head, same_used}
use Rattle.run_calls.proofs.Closing.{next_changed}

-- Values that are written, as they are seen.

-- stores at two addresses may change places
in_turn : {A : Type 0} (c d : Bool) (x y z : A) → (c ≡ true → d ≡ true → ⊥) → (if d then y else (if c then x else z)) ≡ (if c then x else (if d then y else z))
in_turn true true x y z one = absurd (one refl refl)
in_turn true false x y z one = refl
in_turn false d x y z one = refl

swapped : (m : Memory) (a b x y : ℕ) → a ≢ b → with_byte (with_byte m a x) b y ≡ with_byte (with_byte m b y) a x
swapped m a b x y other = λ i. λ q. in_turn (q == a) (q == b) (Some x) (Some y) (m q) (λ e f. other (sym (eqb-true q a e) ∙ eqb-true q b f)) i

-- a store before others at other addresses may come behind them
store_last : (m : Memory) (a x b width value : ℕ) → is_among b width a ≡ false → with_stores (stores_of b width value) (with_byte m a x) ≡ with_byte (with_stores (stores_of b width value) m) a x
store_last m a x b zero value none = refl
store_last m a x b (suc width) value none =
    let n = neither (a == b) (is_among (next_address b) width a) none in
    ap (with_stores (stores_of (next_address b) width (value / 256))) (swapped m a b x (value % 256) (λ e. true≢false (sym (same e) ∙ n.0)))
    ∙ store_last (with_byte m b (value % 256)) a x (next_address b) width (value / 256) n.1 where
      neither : (c d : Bool) → (c || d) ≡ false → (c ≡ false) × (d ≡ false)
      neither true d e = absurd (true≢false e)
      neither false d e = (refl, e)

      same : a ≡ b → (a == b) ≡ true
      same e = eq-eqb a b e

-- the addresses behind one don't come back to it, before they have gone round
away : (a j width : ℕ) → 0 < j → j + width ≤ 2 ^ 64 → is_among ((a + j) % 2 ^ 64) width a ≡ false
away a j zero some few = refl
away a j (suc width) some few =
    let ne : a ≢ (a + j) % 2 ^ 64 = λ e. omega (arith, e, some, few) in
    let next : next_address ((a + j) % 2 ^ 64) ≡ (a + (j + 1)) % 2 ^ 64 = omega arith in
    ap (λ b. b || is_among (next_address ((a + j) % 2 ^ 64)) width a) (ne_eqb a ((a + j) % 2 ^ 64) ne)
    ∙ ap (λ b. is_among b width a) next
    ∙ away a (j + 1) width (omega arith) (omega (arith, few))

stored_is : (m after : Memory) (a width value : ℕ) → width ≤ 2 ^ 64 → write m a width value ≡ Some after → after ≡ with_stores (stores_of a width value) m
stored_is m after a zero value few e = sym (same_some m after e)
stored_is m after a (suc width) value few e = by_byte (m a) (write m (next_address a) width (value / 256)) (λ rest s. stored_is m rest (next_address a) width (value / 256) (omega (arith, few)) s) refl e where
  by_rest : (x : Option Memory) → write m (next_address a) width (value / 256) ≡ x → ((rest : Memory) → write m (next_address a) width (value / 256) ≡ Some rest → rest ≡ with_stores (stores_of (next_address a) width (value / 256)) m) → option_map (λ rest. with_byte rest a (value % 256)) x ≡ Some after → after ≡ with_stores (stores_of a (suc width) value) m
  by_rest None is rest_is s = absurd (nothing_there after s)
  by_rest (Some rest) is rest_is s =
      sym (same_some (with_byte rest a (value % 256)) after s)
      ∙ ap (λ r. with_byte r a (value % 256)) (rest_is rest is)
      ∙ sym (store_last m a (value % 256) (next_address a) width (value / 256) (away a 1 width (omega arith) (omega (arith, few))))

  by_byte : (b : Option ℕ) (x : Option Memory) → ((rest : Memory) → write m (next_address a) width (value / 256) ≡ Some rest → rest ≡ with_stores (stores_of (next_address a) width (value / 256)) m) → write m (next_address a) width (value / 256) ≡ x → option_and_then (λ (c : ℕ). option_map (λ rest. with_byte rest a (value % 256)) x) b ≡ Some after → after ≡ with_stores (stores_of a (suc width) value) m
  by_byte None x rest_is is s = absurd (nothing_there after s)
  by_byte (Some c) x rest_is is s = by_rest x is rest_is s

next_puts : (a width value : ℕ) (m : Places) → next_number (puts a width value m) ≡ next_number m
next_puts a zero value m = refl
next_puts a (suc width) value m = next_changed (λ o. with_byte_in o (value % 256)) a (puts (next_address a) width (value / 256) m) ∙ next_puts (next_address a) width (value / 256) m

width_small : (width : ℕ) → IsWidth width → width ≤ 2 ^ 64
width_small width w = omega (arith, w)

pub written_as_seen : (a width value : ℕ) (m after : Places) (heap : List (List ℕ)) → IsWidth width → written a width value m ≡ Some after → seen_of after heap ≡ record (seen_of m heap) { bytes = with_stores (stores_of a width value) (byte_at m) }
unfolding strings_of
written_as_seen a width value m after heap w e = same_seen (seen_of after heap) (record (seen_of m heap) { bytes = with_stores (stores_of a width value) (byte_at m) })
    next
    (same_used m after next (λ n. ap size_by_head (write_keeps_heads m after a width value n e)))
    (λ n. write_keeps_heads m after a width value n e)
    (λ q. write_keeps_live m after a width value q e)
    (λ q i. bytes i q)
    (λ q. ap (cell_state_of heap) (write_keeps_cells m after a width value q e)) where
      parts : (is_some (read (byte_at m) a width) ≡ true) × (puts a width value m ≡ after)
      parts = cond_some (is_some (read (byte_at m) a width)) (puts a width value m) after e

      next : next_number after ≡ next_number m
      next = ap next_number (sym parts.1) ∙ next_puts a width value m

      bytes : byte_at after ≡ with_stores (stores_of a width value) (byte_at m)
      bytes = ap byte_at (sym parts.1) ∙ stored_is (byte_at m) (byte_at (puts a width value m)) a width value (width_small width w) (write_bytes width a value m parts.0)
