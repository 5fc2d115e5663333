-- One cell and its string change, and all others stay.
use Rattle.std.proofs.Common.{◌≡◌, ◌≢◌, ℕ, ◌<◌, Bool, true, false, cond, ◌⊎◌, inl, inr, eqb, List, length, set, Option, Some, None, is_some, refl, ap, sym, subst, ◌∙◌, arith, eq-eqb, ne_eqb}
use Rattle.std.proofs.lemmas.Bool.{false≢true, cases_eq}
use Rattle.fb_base.specs.declared.shape.Desc.{Desc}
use Rattle.places.specs.declared.kinds.Cell.{Cell}
use Rattle.places.specs.Place.{is_alive}
use Rattle.places.specs.Memory.{Places, cell_at}
use Rattle.str_heap.specs.Payloads.{bytes_of, IsLive, IsApart, Keeps, Stores, Assigns, Changes}
use Rattle.text_calls.specs.declared.outcome.Outcome.TheVariants.{Makes, Sets, Puts, Drops}
use Rattle.text_calls.specs.Strings.{CellState, no_cell, dead, holds, cell_state_of, strings_of, AreKept}
use Rattle.text_calls.specs.Outcomes.{with_cell_state, with_byte, IsAlive, Fits}
use Rattle.text_calls.specs.Answers.{KeepsRest, Leaves}
use Rattle.text_calls.specs.Carrying.{SetsOne}

-- The cell at an address is another one, with a live descriptor if it is alive, and the descriptors of all other alive
-- cells keep their bytes and aren't its own.
pub record Moves (m m' : Places) (heap heap' : List (List ℕ)) (a : ℕ) (cell : Cell) : Type 0 where
  pub kept : AreKept m heap
  pub here : cell_at m' a ≡ Some cell
  pub others : (q : ℕ) → q ≢ a → cell_at m' q ≡ cell_at m q
  pub fresh : cell.alive ≡ true → IsLive heap' cell.desc
  pub stay : (q : ℕ) (x : Cell) → q ≢ a → cell_at m q ≡ Some x → x.alive ≡ true → Keeps heap heap' x.desc × (cell.alive ≡ true → IsApart x.desc cell.desc)

same_cell : (m' : Places) (a q : ℕ) (cell x : Cell) → cell_at m' a ≡ Some cell → q ≡ a → cell_at m' q ≡ Some x → cell ≡ x
same_cell m' a q cell x here e is = let same : Some cell ≡ Some x = sym here ∙ ap (cell_at m') (sym e) ∙ is in cc

moved_live : (m m' : Places) (heap heap' : List (List ℕ)) (a : ℕ) (cell : Cell) → Moves m m' heap heap' a cell → (q : ℕ) (x : Cell) → cell_at m' q ≡ Some x → x.alive ≡ true → IsLive heap' x.desc
moved_live m m' heap heap' a cell v q x is alive = by_case (cases_eq q a) where
  by_case : (q ≡ a) ⊎ (q ≢ a) → IsLive heap' x.desc
  by_case (inl e) =
      let same = same_cell m' a q cell x v.here e is in
      subst (λ (c : Cell). IsLive heap' c.desc) same (v.fresh (ap (λ (c : Cell). c.alive) same ∙ alive))
  by_case (inr ne) = (v.stay q x ne (sym (v.others q ne) ∙ is) alive).0.live

moved_apart : (m m' : Places) (heap heap' : List (List ℕ)) (a : ℕ) (cell : Cell) → Moves m m' heap heap' a cell → (q r : ℕ) (x y : Cell) → q ≢ r → cell_at m' q ≡ Some x → cell_at m' r ≡ Some y → x.alive ≡ true → y.alive ≡ true → IsApart x.desc y.desc
moved_apart m m' heap heap' a cell v q r x y ne is is' alive alive' = by_case (cases_eq q a) (cases_eq r a) where
  -- the descriptor of the cell isn't another one's
  from_cell : (s : ℕ) (z : Cell) → s ≢ a → cell_at m' s ≡ Some z → z.alive ≡ true → cell.alive ≡ true → IsApart z.desc cell.desc
  from_cell s z other at here here' = (v.stay s z other (sym (v.others s other) ∙ at) here).1 here'

  by_case : (q ≡ a) ⊎ (q ≢ a) → (r ≡ a) ⊎ (r ≢ a) → IsApart x.desc y.desc
  by_case (inl e) (inl e') = absurd (ne (e ∙ sym e'))
  by_case (inl e) (inr other) =
      let same = same_cell m' a q cell x v.here e is in
      subst (λ (c : Cell). IsApart c.desc y.desc) same (λ some some' k. from_cell r y other is' alive' (ap (λ (c : Cell). c.alive) same ∙ alive) some' some (sym k))
  by_case (inr other) (inl e) =
      let same = same_cell m' a r cell y v.here e is' in
      subst (λ (c : Cell). IsApart x.desc c.desc) same (from_cell q x other is alive (ap (λ (c : Cell). c.alive) same ∙ alive'))
  by_case (inr other) (inr other') = v.kept.apart q r x y ne (sym (v.others q other) ∙ is) (sym (v.others r other') ∙ is') alive alive'

pub moved_kept : (m m' : Places) (heap heap' : List (List ℕ)) (a : ℕ) (cell : Cell) → Moves m m' heap heap' a cell → AreKept m' heap'
moved_kept m m' heap heap' a cell v = record {
  live = moved_live m m' heap heap' a cell v;
  apart = moved_apart m m' heap heap' a cell v;
}

pub moved_strings : (m m' : Places) (heap heap' : List (List ℕ)) (a : ℕ) (cell : Cell) → Moves m m' heap heap' a cell → (q : ℕ) → strings_of m' heap' q ≡ with_cell_state a (cell_state_of heap' (Some cell)) (strings_of m heap) q
unfolding strings_of
moved_strings m m' heap heap' a cell v q = by_case (cases_eq q a) where
  by_alive : q ≢ a → (x : Cell) → cell_at m q ≡ Some x → (b : Bool) → x.alive ≡ b → cond b (holds (bytes_of heap' x.desc)) dead ≡ cond b (holds (bytes_of heap x.desc)) dead
  by_alive ne x is true alive = ap holds (v.stay q x ne is alive).0.same
  by_alive ne x is false alive = refl

  by_cell : q ≢ a → (c : Option Cell) → cell_at m q ≡ c → cell_state_of heap' c ≡ cell_state_of heap c
  by_cell ne None is = refl
  by_cell ne (Some x) is = by_alive ne x is x.alive refl

  by_case : (q ≡ a) ⊎ (q ≢ a) → cell_state_of heap' (cell_at m' q) ≡ cond (eqb q a) (cell_state_of heap' (Some cell)) (cell_state_of heap (cell_at m q))
  by_case (inl e) =
      ap (λ k. cell_state_of heap' (cell_at m' k)) e ∙ ap (cell_state_of heap') v.here
      ∙ sym (ap (λ b. cond b (cell_state_of heap' (Some cell)) (cell_state_of heap (cell_at m q))) (eq-eqb q a e))
  by_case (inr ne) =
      ap (cell_state_of heap') (v.others q ne) ∙ by_cell ne (cell_at m q) refl
      ∙ sym (ap (λ b. cond b (cell_state_of heap' (Some cell)) (cell_state_of heap (cell_at m q))) (ne_eqb q a ne))

-- the strings where the cell's bytes are known
pub with_bytes : (a : ℕ) (s t : List ℕ) (strings : ℕ → CellState) (q : ℕ) → s ≡ t → with_cell_state a (holds s) strings q ≡ with_cell_state a (holds t) strings q
with_bytes a s t strings q e = ap (λ x. with_cell_state a (holds x) strings q) e

-- What is known of an alive cell.
pub alive_is : (m : Places) (heap : List (List ℕ)) (a : ℕ) → IsAlive (strings_of m heap a) → is_alive (cell_at m a) ≡ true
unfolding strings_of
alive_is m heap a is = by_cell (cell_at m a) is.1 where
  not_alive : dead ≡ holds is.0 → ⊥
  not_alive e = cc

  not_there : no_cell ≡ holds is.0 → ⊥
  not_there e = cc

  by_alive : (s : List ℕ) (b : Bool) → cond b (holds s) dead ≡ holds is.0 → b ≡ true
  by_alive s true e = refl
  by_alive s false e = absurd (not_alive e)

  by_cell : (c : Option Cell) → cell_state_of heap c ≡ holds is.0 → is_alive c ≡ true
  by_cell None e = absurd (not_there e)
  by_cell (Some x) e = by_alive (bytes_of heap x.desc) x.alive e

pub alive_text : (m : Places) (heap : List (List ℕ)) (a : ℕ) (cell : Cell) → cell_at m a ≡ Some cell → cell.alive ≡ true → strings_of m heap a ≡ holds (bytes_of heap cell.desc)
unfolding strings_of
alive_text m heap a cell is alive = ap (cell_state_of heap) is ∙ ap (λ b. cond b (holds (bytes_of heap cell.desc)) dead) alive

pub dead_there : (m : Places) (heap : List (List ℕ)) (a : ℕ) → strings_of m heap a ≡ dead → is_some (cell_at m a) ≡ true
unfolding strings_of
dead_there m heap a is = by_cell (cell_at m a) is where
  not_there : no_cell ≡ dead → ⊥
  not_there e = cc

  by_cell : (c : Option Cell) → cell_state_of heap c ≡ dead → is_some c ≡ true
  by_cell None e = absurd (not_there e)
  by_cell (Some x) e = refl

pub dead_not_alive : (m : Places) (heap : List (List ℕ)) (a : ℕ) → strings_of m heap a ≡ dead → (x : Cell) → cell_at m a ≡ Some x → x.alive ≡ true → ⊥
dead_not_alive m heap a is x at alive = let e : dead ≡ holds (bytes_of heap x.desc) = sym is ∙ alive_text m heap a x at alive in cc

pub there_is : (m : Places) (a : ℕ) (x : Cell) → cell_at m a ≡ Some x → is_some (cell_at m a) ≡ true
there_is m a x is = ap is_some is

-- the byte that is set is one of the string
pub put_index : (m : Places) (heap : List (List ℕ)) (a i byte : ℕ) (x : Cell) → AreKept m heap → cell_at m a ≡ Some x → x.alive ≡ true → Fits (strings_of m heap) (Puts a i byte) → i < x.desc.length
put_index m heap a i byte x kept is alive fits =
    let s : List ℕ = fits.0 in
    let same : holds s ≡ holds (bytes_of heap x.desc) = sym fits.1 ∙ alive_text m heap a x is alive in
    let bytes : s ≡ bytes_of heap x.desc = cc in
    let long : x.desc.length ≡ length (bytes_of heap x.desc) = (kept.live a x is alive).length in
    let long' : length s ≡ length (bytes_of heap x.desc) = ap length bytes in
    let below : i < length s = fits.2 in
    omega arith

-- a cell becomes alive
module _ (m m' : Places) (heap heap' : List (List ℕ)) (a : ℕ) (d : Desc) (bytes : List ℕ)
    (kept : AreKept m heap) (one : SetsOne m m' a (record { alive = true; desc = d })) (stored : Stores heap heap' d bytes)
    (keeps : (e : Desc) → IsLive heap e → Keeps heap heap' e × IsApart e d) where
  made : Moves m m' heap heap' a (record { alive = true; desc = d })
  made = record {
    kept = kept;
    here = one.here;
    others = one.others;
    fresh = λ alive. stored.live;
    stay = λ q x ne is alive. let k = keeps x.desc (kept.live q x is alive) in (k.0, λ also. k.1);
  }

  pub made_kept : AreKept m' heap'
  made_kept = moved_kept m m' heap heap' a (record { alive = true; desc = d }) made

  pub made_leaves : Leaves (Makes a bytes) m heap m' heap'
  made_leaves = record {
    strings = λ q. moved_strings m m' heap heap' a (record { alive = true; desc = d }) made q ∙ with_bytes a (bytes_of heap' d) bytes (strings_of m heap) q stored.holds;
    rest = one.rest;
  }

-- an alive cell has other bytes
module _ (m m' : Places) (heap heap' : List (List ℕ)) (a : ℕ) (old : Cell) (d : Desc) (bytes : List ℕ)
    (kept : AreKept m heap) (is : cell_at m a ≡ Some old) (was : old.alive ≡ true)
    (one : SetsOne m m' a (record { alive = true; desc = d })) (assigned : Assigns heap heap' old.desc d bytes)
    (keeps : (e : Desc) → IsLive heap e → IsApart e old.desc → Keeps heap heap' e × IsApart e d) where
  assigned_moves : Moves m m' heap heap' a (record { alive = true; desc = d })
  assigned_moves = record {
    kept = kept;
    here = one.here;
    others = one.others;
    fresh = λ alive. assigned.live;
    stay = λ q x ne there alive. let k = keeps x.desc (kept.live q x there alive) (kept.apart q a x old ne there is alive was) in (k.0, λ also. k.1);
  }

  pub set_kept : AreKept m' heap'
  set_kept = moved_kept m m' heap heap' a (record { alive = true; desc = d }) assigned_moves

  pub set_leaves : Leaves (Sets a bytes) m heap m' heap'
  set_leaves = record {
    strings = λ q. moved_strings m m' heap heap' a (record { alive = true; desc = d }) assigned_moves q ∙ with_bytes a (bytes_of heap' d) bytes (strings_of m heap) q assigned.holds;
    rest = one.rest;
  }

pub same_rest : (m : Places) → KeepsRest m m
same_rest m = record { bytes = λ q. refl; live = λ q. refl; heads = λ n. refl; next = refl }

-- a byte of an alive cell's string is another
module _ (m : Places) (heap heap' : List (List ℕ)) (a i byte : ℕ) (old : Cell)
    (kept : AreKept m heap) (is : cell_at m a ≡ Some old) (was : old.alive ≡ true)
    (changed : Changes heap heap' old.desc (set (bytes_of heap old.desc) i byte))
    (keeps : (e : Desc) → IsLive heap e → IsApart e old.desc → Keeps heap heap' e) where
  put_moves : Moves m m heap heap' a old
  put_moves = record {
    kept = kept;
    here = is;
    others = λ q ne. refl;
    fresh = λ alive. changed.live;
    stay = λ q x ne there alive.
        let apart = kept.apart q a x old ne there is alive was in
        (keeps x.desc (kept.live q x there alive) apart, λ also. apart);
  }

  pub put_kept : AreKept m heap'
  put_kept = moved_kept m m heap heap' a old put_moves

  state_is : cell_state_of heap' (Some old) ≡ with_byte i byte (strings_of m heap a)
  state_is =
      ap (λ b. cond b (holds (bytes_of heap' old.desc)) dead) was
      ∙ ap holds changed.holds
      ∙ sym (ap (with_byte i byte) (alive_text m heap a old is was))

  pub put_leaves : Leaves (Puts a i byte) m heap m heap'
  put_leaves = record {
    strings = λ q. moved_strings m m heap heap' a old put_moves q ∙ ap (λ x. with_cell_state a x (strings_of m heap) q) state_is;
    rest = same_rest m;
  }

-- a cell is no longer alive
module _ (m m' : Places) (heap heap' : List (List ℕ)) (a : ℕ) (old : Cell) (d : Desc)
    (kept : AreKept m heap) (is : cell_at m a ≡ Some old) (was : old.alive ≡ true)
    (one : SetsOne m m' a (record { alive = false; desc = d }))
    (keeps : (e : Desc) → IsLive heap e → IsApart e old.desc → Keeps heap heap' e) where
  dropped : Moves m m' heap heap' a (record { alive = false; desc = d })
  dropped = record {
    kept = kept;
    here = one.here;
    others = one.others;
    fresh = λ alive. absurd (false≢true alive);
    stay = λ q x ne there alive.
        (keeps x.desc (kept.live q x there alive) (kept.apart q a x old ne there is alive was), λ also. absurd (false≢true also));
  }

  pub drop_kept : AreKept m' heap'
  drop_kept = moved_kept m m' heap heap' a (record { alive = false; desc = d }) dropped

  pub drop_leaves : Leaves (Drops a) m heap m' heap'
  drop_leaves = record {
    strings = moved_strings m m' heap heap' a (record { alive = false; desc = d }) dropped;
    rest = one.rest;
  }
