-- No string of the heap is lost.
use Rattle.std.proofs.Common.{◌≡◌, ◌≢◌, ℕ, ◌<◌, ◌≤◌, true, false, ◌⊎◌, inl, inr, List, [], length, Some, refl, ap, sym, subst, ◌∙◌, arith}
use Rattle.std.proofs.lemmas.Bool.{cases_eq, cases_lt}
use Rattle.fb_base.specs.declared.shape.Desc.{Desc}
use Rattle.places.specs.declared.kinds.Cell.{Cell}
use Rattle.places.specs.Memory.{Places, cell_at}
use Rattle.str_heap.specs.Payloads.{bytes_at, IsElsewhere, Stores, Assigns, Changes, Releases}
use Rattle.text_calls.specs.Strings.{dead, strings_of, Uses, AllUsed}
use Rattle.text_calls.specs.Carrying.{SetsOne}
use Rattle.text_calls.proofs.Moves.{dead_not_alive}

-- whether a descriptor's string begins at a block
at_place : (d : Desc) (place : ℕ) → ((0 < d.length) × (d.place ≡ place)) ⊎ IsElsewhere d place
at_place d place = by_case (cases_lt 0 d.length) (cases_eq d.place place) where
  by_case : (0 < d.length) ⊎ (d.length ≤ 0) → (d.place ≡ place) ⊎ (d.place ≢ place) → ((0 < d.length) × (d.place ≡ place)) ⊎ IsElsewhere d place
  by_case (inl some) (inl e) = inl (some, e)
  by_case (inl some) (inr ne) = inr (λ some' e. ne (sym e))
  by_case (inr none) there = inr (λ some. absurd (omega arith))

-- the string that begins at a block is the cell's
abbrev pub IsOf : Cell → ℕ → Type 0
IsOf cell place = (cell.alive ≡ true) × (0 < cell.desc.length) × (cell.desc.place ≡ place)

-- a string began at a block, and wasn't that of the cell at an address
abbrev pub WasThere : Places → List (List ℕ) → ℕ → ℕ → Type 0
WasThere m heap a place = (0 < length (bytes_at heap place)) × ((x : Cell) → cell_at m a ≡ Some x → IsOf x place → ⊥)

-- each string is the cell's, or was there before
abbrev pub Comes : Places → List (List ℕ) → List (List ℕ) → ℕ → Cell → Type 0
Comes m heap heap' a cell = (place : ℕ) → 0 < length (bytes_at heap' place) → IsOf cell place ⊎ WasThere m heap a place

comes_used : (m m' : Places) (heap heap' : List (List ℕ)) (a : ℕ) (cell : Cell) → cell_at m' a ≡ Some cell → ((q : ℕ) → q ≢ a → cell_at m' q ≡ cell_at m q) → Comes m heap heap' a cell → AllUsed m heap → AllUsed m' heap'
comes_used m m' heap heap' a cell here others comes all place some = by_case (comes place some) where
  moved : WasThere m heap a place → (u : Uses m place) → (u.at ≡ a) ⊎ (u.at ≢ a) → Uses m' place
  moved w u (inl e) = absurd (w.1 u.cell (ap (cell_at m) (sym e) ∙ u.is) (u.alive, u.some, u.here))
  moved w u (inr ne) = record { at = u.at; cell = u.cell; is = others u.at ne ∙ u.is; alive = u.alive; some = u.some; here = u.here }

  by_case : IsOf cell place ⊎ WasThere m heap a place → Uses m' place
  by_case (inl w) = record { at = a; cell = cell; is = here; alive = w.0; some = w.1; here = w.2 }
  by_case (inr w) = let u = all place w.0 in moved w u (cases_eq u.at a)

-- a string begins where bytes are
no_bytes : (s : List ℕ) → s ≡ [] → 0 < length s → ⊥
no_bytes s e some = let z : length s ≡ 0 = ap length e in omega arith

same_cell : (m : Places) (a : ℕ) (x y : Cell) → cell_at m a ≡ Some x → cell_at m a ≡ Some y → x ≡ y
same_cell m a x y e f = let same : Some x ≡ Some y = sym e ∙ f in cc

made_comes : (m : Places) (heap heap' : List (List ℕ)) (a : ℕ) (d : Desc) (bytes : List ℕ) → Stores heap heap' d bytes → ((x : Cell) → cell_at m a ≡ Some x → x.alive ≡ true → ⊥) → Comes m heap heap' a (record { alive = true; desc = d })
made_comes m heap heap' a d bytes s none place some = by_case (at_place d place) where
  by_case : ((0 < d.length) × (d.place ≡ place)) ⊎ IsElsewhere d place → IsOf (record { alive = true; desc = d }) place ⊎ WasThere m heap a place
  by_case (inl w) = inl (refl, w.0, w.1)
  by_case (inr away) = inr (let P : List ℕ → Type 0 = λ s. 0 < length s in subst P (s.others place away) some, λ x is of. none x is of.0)

-- a cell whose string is no more, or is another one
gone_before : (m : Places) (heap heap' : List (List ℕ)) (a : ℕ) (old : Cell) (place : ℕ) → cell_at m a ≡ Some old → (0 < old.desc.length → bytes_at heap' old.desc.place ≡ []) → 0 < length (bytes_at heap' place) → (x : Cell) → cell_at m a ≡ Some x → IsOf x place → ⊥
gone_before m heap heap' a old place is gone some x is' of =
    let same = same_cell m a x old is' is in
    let long' : 0 < old.desc.length = subst (λ (c : Cell). 0 < c.desc.length) same of.1 in
    let here' : old.desc.place ≡ place = ap (λ (c : Cell). c.desc.place) (sym same) ∙ of.2 in
    no_bytes (bytes_at heap' place) (ap (bytes_at heap') (sym here') ∙ gone long') some

away_from : (heap heap' : List (List ℕ)) (old : Desc) (place : ℕ) → (0 < old.length → bytes_at heap' old.place ≡ []) → 0 < length (bytes_at heap' place) → IsElsewhere old place
away_from heap heap' old place gone some long e = no_bytes (bytes_at heap' place) (ap (bytes_at heap') e ∙ gone long) some

dropped_comes : (m : Places) (heap heap' : List (List ℕ)) (a : ℕ) (old : Cell) (d : Desc) → cell_at m a ≡ Some old → Releases heap heap' old.desc → Comes m heap heap' a (record { alive = false; desc = d })
dropped_comes m heap heap' a old d is r place some =
    inr (let P : List ℕ → Type 0 = λ s. 0 < length s in subst P (r.others place (away_from heap heap' old.desc place r.gone some)) some, gone_before m heap heap' a old place is r.gone some)

set_comes : (m : Places) (heap heap' : List (List ℕ)) (a : ℕ) (old : Cell) (d : Desc) (bytes : List ℕ) → cell_at m a ≡ Some old → Assigns heap heap' old.desc d bytes → Comes m heap heap' a (record { alive = true; desc = d })
set_comes m heap heap' a old d bytes is s place some = by_case (at_place d place) where
  by_case : ((0 < d.length) × (d.place ≡ place)) ⊎ IsElsewhere d place → IsOf (record { alive = true; desc = d }) place ⊎ WasThere m heap a place
  by_case (inl w) = inl (refl, w.0, w.1)
  by_case (inr away) =
      inr (let P : List ℕ → Type 0 = λ s. 0 < length s in subst P (s.others place (away_from heap heap' old.desc place s.gone some) away) some, gone_before m heap heap' a old place is s.gone some)

put_comes : (m : Places) (heap heap' : List (List ℕ)) (a : ℕ) (old : Cell) (bytes : List ℕ) → cell_at m a ≡ Some old → old.alive ≡ true → Changes heap heap' old.desc bytes → Comes m heap heap' a old
put_comes m heap heap' a old bytes is was s place some = by_case (at_place old.desc place) where
  by_case : ((0 < old.desc.length) × (old.desc.place ≡ place)) ⊎ IsElsewhere old.desc place → IsOf old place ⊎ WasThere m heap a place
  by_case (inl w) = inl (was, w.0, w.1)
  by_case (inr away) =
      inr (
        let P : List ℕ → Type 0 = λ s. 0 < length s in subst P (s.others place away) some,
        λ x is' of. let same : x ≡ old = same_cell m a x old is' is in
            away (subst (λ (c : Cell). 0 < c.desc.length) same of.1) (sym of.2 ∙ ap (λ (c : Cell). c.desc.place) same),
      )

-- no string is lost
pub made_used : (m m' : Places) (heap heap' : List (List ℕ)) (a : ℕ) (d : Desc) (bytes : List ℕ) → SetsOne m m' a (record { alive = true; desc = d }) → Stores heap heap' d bytes → strings_of m heap a ≡ dead → AllUsed m heap → AllUsed m' heap'
made_used m m' heap heap' a d bytes one stored is =
    comes_used m m' heap heap' a (record { alive = true; desc = d }) one.here one.others (made_comes m heap heap' a d bytes stored (dead_not_alive m heap a is))

pub set_used : (m m' : Places) (heap heap' : List (List ℕ)) (a : ℕ) (old : Cell) (d : Desc) (bytes : List ℕ) → cell_at m a ≡ Some old → SetsOne m m' a (record { alive = true; desc = d }) → Assigns heap heap' old.desc d bytes → AllUsed m heap → AllUsed m' heap'
set_used m m' heap heap' a old d bytes is one assigned =
    comes_used m m' heap heap' a (record { alive = true; desc = d }) one.here one.others (set_comes m heap heap' a old d bytes is assigned)

pub put_used : (m : Places) (heap heap' : List (List ℕ)) (a : ℕ) (old : Cell) (bytes : List ℕ) → cell_at m a ≡ Some old → old.alive ≡ true → Changes heap heap' old.desc bytes → AllUsed m heap → AllUsed m heap'
put_used m heap heap' a old bytes is was changed =
    comes_used m m heap heap' a old is (λ q ne. refl) (put_comes m heap heap' a old bytes is was changed)

pub drop_used : (m m' : Places) (heap heap' : List (List ℕ)) (a : ℕ) (old : Cell) (d : Desc) → cell_at m a ≡ Some old → SetsOne m m' a (record { alive = false; desc = d }) → Releases heap heap' old.desc → AllUsed m heap → AllUsed m' heap'
drop_used m m' heap heap' a old d is one released =
    comes_used m m' heap heap' a (record { alive = false; desc = d }) one.here one.others (dropped_comes m heap heap' a old d is released)
