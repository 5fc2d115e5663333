use Rattle.std.proofs.Common.{◌≡◌, ℕ, zero, suc, ◌+◌, ◌*◌, ◌==◌, Bool, true, false, if◌then◌else◌, List, [], ◌∷◌, ◌++◌, Option, Some, None, is_some, option_map, option_and_then, true≢false, refl, sym, ap, ◌∙◌, subst}
use Rattle.thread_system.specs.Memory.{Memory, next_address, read, with_byte}
use Rattle.entry_replay.specs.Accesses.{Access, Store, Verdict, Races, Misses, Finds, addresses, at_line, with_stores, untouched, raced_in, found, tried, tries}
use Rattle.entry_replay.specs.Laws.{Agrees}

-- The first touched byte of a list of accesses, and what it says of two memories.

pub raced_untouched : (l : List Access) → raced_in untouched l ≡ None
raced_untouched [] = refl
raced_untouched (x ∷ xs) = raced_untouched xs

abbrev pub or_else : {A : Type 0} → Option A → Option A → Option A
or_else None o = o
or_else (Some x) o = Some x

-- the first of two lists is in the one, or else in the other
pub raced_append : (touched : ℕ → Bool) (xs ys : List Access) → raced_in touched (xs ++ ys) ≡ or_else (raced_in touched xs) (raced_in touched ys)
raced_append touched [] ys = refl
raced_append touched (x ∷ xs) ys = elim (touched x.addr) as (λ b. (if b then Some x else raced_in touched (xs ++ ys)) ≡ or_else (if b then Some x else raced_in touched xs) (raced_in touched ys)) [ true ↦ refl | false ↦ raced_append touched xs ys ]

-- what is found nowhere isn't found here, nor further on
pub none_here : {A : Type 0} (b : Bool) (x : A) (o : Option A) → (if b then Some x else o) ≡ None → (b ≡ false) × (o ≡ None)
none_here true x o e = absurd (true≢false (ap is_some e))
none_here false x o e = (refl, e)

abbrev pub given : {A : Type 0} → A → Option A → A
given other None = other
given other (Some x) = x

pub same_some : {A : Type 0} (x y : A) → ◌≡◌ {A = Option A} (Some x) (Some y) → x ≡ y
same_some x y e = ap (given x) e

-- the first access to a touched byte is one
pub raced_touched : (touched : ℕ → Bool) (l : List Access) (x : Access) → raced_in touched l ≡ Some x → touched x.addr ≡ true
raced_touched touched [] x e = absurd (true≢false (sym (ap is_some e)))
raced_touched touched (y ∷ ys) x e = by_test (raced_touched touched ys x) (touched y.addr) refl e where
  by_test : (raced_in touched ys ≡ Some x → touched x.addr ≡ true) → (b : Bool) → touched y.addr ≡ b → (if b then Some y else raced_in touched ys) ≡ Some x → touched x.addr ≡ true
  by_test rest true is e' = subst (λ (z : Access). touched z.addr ≡ true) (same_some y x e') is
  by_test rest false is e' = rest e'

-- Where no accessed byte is touched, two memories that agree at all others are read alike.
pub read_agrees : (touched : ℕ → Bool) (base now : Memory) (a width line : ℕ) → Agrees touched base now → raced_in touched (at_line line (addresses a width)) ≡ None → read base a width ≡ read now a width
read_agrees touched base now a zero line agrees quiet = refl
read_agrees touched base now a (suc width) line agrees quiet =
    let here = none_here (touched a) (record { addr = a; line = line; looked = true }) (raced_in touched (at_line line (addresses (next_address a) width))) quiet in
    let more = read_agrees touched base now (next_address a) width line agrees here.1 in
    let one = agrees a here.0 in
    λ i. option_and_then (λ low. option_map (λ high. low + 256 * high) (more i)) (one i)

-- so an access comes to the same
pub tries_alike : (touched : ℕ → Bool) (base now : Memory) (a width line : ℕ) → Agrees touched base now → raced_in touched (at_line line (addresses a width)) ≡ None → tries touched now a width line ≡ tries untouched base a width line
tries_alike touched base now a width line agrees quiet =
    ap (λ o. tried o (read now a width)) quiet
    ∙ ap found (sym (read_agrees touched base now a width line agrees quiet))
    ∙ ap (λ o. tried o (read base a width)) (sym (raced_untouched (at_line line (addresses a width))))

-- where an accessed byte is touched, the access races
pub tries_races : (touched : ℕ → Bool) (now : Memory) (a width line : ℕ) (x : Access) → raced_in touched (at_line line (addresses a width)) ≡ Some x → tries touched now a width line ≡ Races x
tries_races touched now a width line x races = ap (λ o. tried o (read now a width)) races

-- Memories that agree still do so after the same stores.
pub stores_agree : (touched : ℕ → Bool) (w : List Store) (base now : Memory) → Agrees touched base now → Agrees touched (with_stores w base) (with_stores w now)
stores_agree touched [] base now agrees = agrees
stores_agree touched (x ∷ w) base now agrees = stores_agree touched w (with_byte base x.addr x.byte) (with_byte now x.addr x.byte) (λ q h. ap (λ o. if q == x.addr then Some x.byte else o) (agrees q h))

abbrev pub NoRace : Verdict → Type 0
NoRace (Races x) = ⊥
NoRace Misses = Unit {0}
NoRace (Finds value) = Unit {0}

found_no_race : (o : Option ℕ) → NoRace (found o)
found_no_race None = tt
found_no_race (Some value) = tt

-- where no byte is touched, no access races
pub never_races : (base : Memory) (a width line : ℕ) (x : Access) → tries untouched base a width line ≡ Races x → ⊥
never_races base a width line x e = subst NoRace (sym (ap (λ o. tried o (read base a width)) (raced_untouched (at_line line (addresses a width)))) ∙ e) (found_no_race (read base a width))

pub never_raced_in : (l : List Access) (x : Access) → raced_in untouched l ≡ Some x → ⊥
never_raced_in l x e = true≢false (sym (ap is_some e) ∙ ap is_some (raced_untouched l))
