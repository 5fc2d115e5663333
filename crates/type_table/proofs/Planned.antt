-- Each step of laying Types out keeps what stands, and where none is to be looked at all is known that can be.
use Rattle.std.proofs.Common.{◌≡◌, ℕ, zero, suc, ◌+◌, ◌<◌, ◌≤◌, Bool, true, false, ◌⊎◌, inl, inr, Option, Some, None, List, [], ◌∷◌, ◌++◌, map, length, get_or, slice_set, Vec, refl, sym, ◌∙◌, ap, subst, arith, length-append}
use Rattle.std.specs.Prelude.{slice_get, is_some}
use Rattle.std.specs.declared.alloc.Global.{Global}
use Rattle.std.proofs.lemmas.List.{length-map}
use Rattle.std.proofs.lemmas.Option.{slice_get_within}
use Rattle.fb_base.specs.declared.fault.Fault.{Fault}
use Rattle.fb_ast.specs.declared.ty.Ty.{Ty}
use Rattle.fb_ast.specs.declared.ty.Ty.TheVariants as t
use Rattle.type_table.specs.declared.layout.Measure.{Measure}
use Rattle.type_table.specs.declared.layout.Measure.TheVariants.{Waits, Big, Fits}
use Rattle.type_table.specs.declared.row.Field.{Field}
use Rattle.type_table.specs.declared.row.Row.{Row}
use Rattle.type_table.specs.Layouts.{measure_at, measure_before, put_fields, closed, type_measure, measures, known_of}
use Rattle.type_table.specs.Cycles.{HasField, here, later as later_field}
use Rattle.type_table.specs.Plans.{is_known, one, count, knows, waits_if, waits_for, or_next, first_waiting, Among, first, behind, waiters, Under, Watched, faulty, called, waits, Stands}
use Rattle.type_table.proofs.Counts.{Passes, count_le, fewer, at_most}
use Rattle.type_table.proofs.Stuck.{at_row, waits_stay, row_waits}
use Rattle.type_table.proofs.LaidOut.{waits_or, row_waiting}
use Rattle.type_table.proofs.Rounds.{row_same, later, longer}

-- lists of numbers
among_left : (xs ys : List ℕ) (n : ℕ) → Among xs n → Among (xs ++ ys) n
among_left _ ys n (first _ rest) = first n (rest ++ ys)
among_left _ ys n (behind other _ rest in_it) = behind other n (rest ++ ys) (among_left rest ys n in_it)

among_right : (xs ys : List ℕ) (n : ℕ) → Among ys n → Among (xs ++ ys) n
among_right [] ys n in_it = in_it
among_right (x ∷ xs) ys n in_it = behind x n (xs ++ ys) (among_right xs ys n in_it)

nowhere : (n : ℕ) → Among [] n → ⊥
nowhere n in_it = elim in_it [ ]

only : (i n : ℕ) → Among (i ∷ []) n → n ≡ i
only i _ (first _ _) = refl
only i n (behind _ _ _ in_it) = absurd (nowhere n in_it)

further : (x n : ℕ) (xs : List ℕ) (i : ℕ) → Among xs n ⊎ (n ≡ i) → Among (x ∷ xs) n ⊎ (n ≡ i)
further x n xs i (inl in_it) = inl (behind x n xs in_it)
further x n xs i (inr last) = inr last

among_either : (xs : List ℕ) (i n : ℕ) → Among (xs ++ i ∷ []) n → Among xs n ⊎ (n ≡ i)
among_either [] i n in_it = inr (only i n in_it)
among_either (x ∷ xs) i _ (first _ _) = inl (first x xs)
among_either (x ∷ xs) i n (behind _ _ _ in_it) = further x n xs i (among_either xs i n in_it)

-- what is known
known_if : (m : Measure) → (m ≡ Waits → ⊥) → is_known m ≡ true
known_if Waits goes = absurd (goes refl)
known_if Big goes = refl
known_if (Fits l) goes = refl

goes_if : (m : Measure) → is_known m ≡ true → m ≡ Waits → ⊥
goes_if Waits e w = absurd (cc)
goes_if Big e w = absurd (cc)
goes_if (Fits l) e w = absurd (cc)

passes : (known more : List Measure) → Under known more → Passes (knows known) (knows more)
passes known more under number e = ap is_known (under number (goes_if (measure_at known number) e)) ∙ e

-- one more Type, of which nothing is known
same_known : (known : List Measure) (number : ℕ) → measure_at (known ++ Waits ∷ []) number ≡ measure_at known number
same_known [] zero = refl
same_known [] (suc number) = refl
same_known (m ∷ known) zero = refl
same_known (m ∷ known) (suc number) = same_known known number

-- a Type of a longer list stands in the list, or is the last one
abbrev LastOr : List Row → Row → ℕ → Row → Type 0
LastOr rows last number row = (slice_get rows number ≡ Some row) ⊎ (number ≡ length rows)

next_or : (x : Row) (rows : List Row) (last : Row) (number : ℕ) (row : Row) → LastOr rows last number row → LastOr (x ∷ rows) last (suc number) row
next_or x rows last number row (inl is) = inl is
next_or x rows last number row (inr e) = inr (omega (arith, e))

last_or : (rows : List Row) (last : Row) (number : ℕ) (row : Row) → slice_get (rows ++ last ∷ []) number ≡ Some row → LastOr rows last number row
last_or [] last zero row is = inr refl
last_or [] last (suc number) row is = absurd (cc)
last_or (x ∷ rows) last zero row is = inl is
last_or (x ∷ rows) last (suc number) row is = next_or x rows last number row (last_or rows last number row is)

watched_more : (known : List Measure) (waiting : List (Vec ℕ Global)) (pending : List ℕ) (number : ℕ) (row : Row) → Watched known waiting [] number row
    → Watched (known ++ Waits ∷ []) waiting pending number row
watched_more known waiting pending number row (faulty fault is) = faulty fault is
watched_more known waiting pending number row (called in_it) = absurd (nowhere number in_it)
watched_more known waiting pending number row (waits part has e in_it) = waits part has (same_known known part ∙ e) in_it

pub one_more : (rows : List Row) (known : List Measure) (waiting : List (Vec ℕ Global)) (row : Row) → Stands rows known waiting []
    → Stands (rows ++ row ∷ []) (known ++ Waits ∷ []) waiting (length rows ∷ [])
one_more rows known waiting row s =
    let more : Under known (known ++ Waits ∷ []) = λ number goes. same_known known number in
    let fewer_first = count_le (knows known) (knows (known ++ Waits ∷ [])) (passes known (known ++ Waits ∷ []) more) (length rows) in
    let long : length (rows ++ row ∷ []) ≡ suc (length rows) = omega (arith, length-append rows (row ∷ [])) in
    let at : count (knows (known ++ Waits ∷ [])) (length (rows ++ row ∷ [])) ≡ count (knows (known ++ Waits ∷ [])) (suc (length rows)) = ap (count (knows (known ++ Waits ∷ []))) long in
    record {
      all = omega (arith, length-append known (Waits ∷ []), length-append rows (row ∷ []), s.all);
      sound = λ number goes.
          let old : measure_at known number ≡ Waits → ⊥ = λ e. goes (same_known known number ∙ e) in
          let now = s.sound number old in
          let here = longer rows (row ∷ []) (count (knows known) (length rows)) number (λ e. old (sym now ∙ e)) in
          let there = later (rows ++ row ∷ []) (count (knows known) (length rows)) (count (knows (known ++ Waits ∷ [])) (length (rows ++ row ∷ []))) (omega (arith, at, fewer_first)) number (λ e. old (sym now ∙ (sym here ∙ e))) in
          there ∙ (here ∙ (now ∙ sym (same_known known number)));
      watched = λ number other is e.
          elim (last_or rows row number other is) [
            | inl old ↦ watched_more known waiting (length rows ∷ []) number other (s.watched number other old (sym (same_known known number) ∙ e))
            | inr last ↦ called (subst (Among (length rows ∷ [])) (sym last) (first (length rows) []))
          ];
    }

-- a Type that was looked at
last_watched : (known : List Measure) (waiting : List (Vec ℕ Global)) (pending : List ℕ) (i number : ℕ) (row : Row) → Watched known waiting (pending ++ i ∷ []) number row
    → (number ≡ i → Watched known waiting pending number row) → Watched known waiting pending number row
last_watched known waiting pending i number row (faulty fault is) at = faulty fault is
last_watched known waiting pending i number row (called in_it) at =
    elim (among_either pending i number in_it) [
      | inl before ↦ called before
      | inr last ↦ at last
    ]
last_watched known waiting pending i number row (waits part has e in_it) at = waits part has e in_it

pub looked_at : (rows : List Row) (known : List Measure) (waiting : List (Vec ℕ Global)) (pending : List ℕ) (i : ℕ) → Stands rows known waiting (pending ++ i ∷ [])
    → ((row : Row) → slice_get rows i ≡ Some row → measure_at known i ≡ Waits → Watched known waiting pending i row) → Stands rows known waiting pending
looked_at rows known waiting pending i s own = record {
  all = s.all;
  sound = s.sound;
  watched = λ number row is e.
      last_watched known waiting pending i number row (s.watched number row is e)
      (λ last. subst (λ (x : ℕ). Watched known waiting pending x row) (sym last) (own row (subst (λ (x : ℕ). slice_get rows x ≡ Some row) last is) (subst (λ (x : ℕ). measure_at known x ≡ Waits) last e)));
}

-- more Types wait
abbrev pub Kept : List (Vec ℕ Global) → List (Vec ℕ Global) → Type 0
Kept waiting more = (q j : ℕ) → Among (waiters waiting q) j → Among (waiters more q) j

watched_kept : (known : List Measure) (waiting more : List (Vec ℕ Global)) (pending : List ℕ) (number : ℕ) (row : Row) → Kept waiting more
    → Watched known waiting pending number row → Watched known more pending number row
watched_kept known waiting more pending number row kept (faulty fault is) = faulty fault is
watched_kept known waiting more pending number row kept (called in_it) = called in_it
watched_kept known waiting more pending number row kept (waits part has e in_it) = waits part has e (kept part number in_it)

pub noted : (rows : List Row) (known : List Measure) (waiting more : List (Vec ℕ Global)) (pending : List ℕ) (i other : ℕ) (row : Row) → Stands rows known waiting (pending ++ i ∷ [])
    → Kept waiting more → Among (waiters more other) i → slice_get rows i ≡ Some row → HasField row.fields other → measure_at known other ≡ Waits → Stands rows known more pending
noted rows known waiting more pending i other row s kept among is has e =
    looked_at rows known more pending i
    (record { all = s.all; sound = s.sound; watched = λ number one there w. watched_kept known waiting more (pending ++ i ∷ []) number one kept (s.watched number one there w) })
    (λ one there w. let same : row ≡ one = cc in waits other (subst (λ (x : Row). HasField x.fields other) same has) e among)

-- what is known where one is set
abbrev SetAt : List Measure → ℕ → Measure → ℕ → Type 0
SetAt known i m j = ((j ≡ i) × (measure_at (slice_set known i m) j ≡ m)) ⊎ ((j ≡ i → ⊥) × (measure_at (slice_set known i m) j ≡ measure_at known j))

set_next : (x : Measure) (known : List Measure) (i : ℕ) (m : Measure) (j : ℕ) → SetAt known i m j → SetAt (x ∷ known) (suc i) m (suc j)
set_next x known i m j (inl at) = inl (omega (arith, at.0), at.1)
set_next x known i m j (inr at) = inr (λ e. at.0 (omega (arith, e)), at.1)

set_at : (known : List Measure) (i : ℕ) (m : Measure) (j : ℕ) → i < length known → SetAt known i m j
set_at [] i m j below = absurd (omega arith)
set_at (x ∷ known) zero m zero below = inl (refl, refl)
set_at (x ∷ known) zero m (suc j) below = inr (λ e. omega (arith, e), refl)
set_at (x ∷ known) (suc i) m zero below = inr (λ e. omega (arith, e), refl)
set_at (x ∷ known) (suc i) m (suc j) below = set_next x known i m j (set_at known i m j (omega arith))

set_length : (known : List Measure) (i : ℕ) (m : Measure) → length (slice_set known i m) ≡ length known
set_length [] i m = refl
set_length (x ∷ known) zero m = refl
set_length (x ∷ known) (suc i) m = ap suc (set_length known i m)

set_here : (known : List Measure) (i : ℕ) (m : Measure) → SetAt known i m i → measure_at (slice_set known i m) i ≡ m
set_here known i m (inl at) = at.1
set_here known i m (inr at) = absurd (at.0 refl)

set_under : (known : List Measure) (i : ℕ) (m : Measure) → i < length known → measure_at known i ≡ Waits → Under known (slice_set known i m)
set_under known i m below w j goes =
    elim (set_at known i m j below) [
      | inl at ↦ absurd (goes (ap (measure_at known) at.0 ∙ w))
      | inr at ↦ at.1
    ]

pub not_listed : (m : Measure) → is_known m ≡ false → m ≡ Waits
not_listed Waits e = refl
not_listed Big e = absurd (cc)
not_listed (Fits l) e = absurd (cc)

not_known : (m : Measure) → m ≡ Waits → is_known m ≡ false
not_known Waits e = refl
not_known Big e = absurd (cc)
not_known (Fits l) e = absurd (cc)

record Laying (rows : List Row) (known : List Measure) (waiting : List (Vec ℕ Global)) (pending : List ℕ) (i : ℕ) (row : Row) : Type 0 where
  stands : Stands rows known waiting (pending ++ i ∷ [])
  is : slice_get rows i ≡ Some row
  unknown : measure_at known i ≡ Waits
  goes : type_measure known row ≡ Waits → ⊥

below_of : (rows : List Row) (known : List Measure) (waiting : List (Vec ℕ Global)) (pending : List ℕ) (i : ℕ) (row : Row) → Laying rows known waiting pending i row → i < length known
below_of rows known waiting pending i row l = omega (arith, l.stands.all, slice_get_within rows i row l.is)

more_known : (rows : List Row) (known : List Measure) (waiting : List (Vec ℕ Global)) (pending : List ℕ) (i : ℕ) (row : Row) → Laying rows known waiting pending i row
    → count (knows known) (length rows) < count (knows (slice_set known i (type_measure known row))) (length rows)
more_known rows known waiting pending i row l =
    let m : Measure = type_measure known row in
    let below = below_of rows known waiting pending i row l in
    fewer (knows known) (knows (slice_set known i m)) (passes known (slice_set known i m) (set_under known i m below l.unknown)) i (length rows) (slice_get_within rows i row l.is)
    (not_known (measure_at known i) l.unknown) (ap is_known (set_here known i m (set_at known i m i below)) ∙ known_if m l.goes)

laid_sound : (rows : List Row) (known : List Measure) (waiting : List (Vec ℕ Global)) (pending : List ℕ) (i : ℕ) (row : Row) → Laying rows known waiting pending i row
    → Under (slice_set known i (type_measure known row)) (measures rows (count (knows (slice_set known i (type_measure known row))) (length rows)))
laid_sound rows known waiting pending i row l j goes =
    let m : Measure = type_measure known row in
    let c : ℕ = count (knows known) (length rows) in
    let d : ℕ = count (knows (slice_set known i m)) (length rows) in
    let up = more_known rows known waiting pending i row l in
    elim (set_at known i m j (below_of rows known waiting pending i row l)) [
      | inl at ↦
          let own : measure_at (measures rows (suc c)) i ≡ m = at_row (type_measure (measures rows c)) rows i row l.is ∙ row_same known (measures rows c) l.stands.sound row l.goes in
          let still = later rows (suc c) d (omega (arith, up)) i (λ e. l.goes (sym own ∙ e)) in
          ap (measure_at (measures rows d)) at.0 ∙ (still ∙ (own ∙ sym at.1))
      | inr at ↦
          let old : measure_at known j ≡ Waits → ⊥ = λ e. goes (at.1 ∙ e) in
          let own = l.stands.sound j old in
          later rows c d (omega (arith, up)) j (λ e. old (sym own ∙ e)) ∙ (own ∙ sym at.1)
    ]

-- those that waited for the Type that is laid out are to be looked at
laid_watched : (known : List Measure) (waiting : List (Vec ℕ Global)) (pending : List ℕ) (i : ℕ) (m : Measure) (number : ℕ) (row : Row) → i < length known → (number ≡ i → ⊥)
    → Watched known waiting (pending ++ i ∷ []) number row → Watched (slice_set known i m) waiting (pending ++ waiters waiting i) number row
laid_watched known waiting pending i m number row below other (faulty fault is) = faulty fault is
laid_watched known waiting pending i m number row below other (called in_it) =
    elim (among_either pending i number in_it) [
      | inl before ↦ called (among_left pending (waiters waiting i) number before)
      | inr last ↦ absurd (other last)
    ]
laid_watched known waiting pending i m number row below other (waits part has e in_it) =
    elim (set_at known i m part below) [
      | inl at ↦ called (among_right pending (waiters waiting i) number (subst (λ (x : ℕ). Among (waiters waiting x) number) at.0 in_it))
      | inr at ↦ waits part has (at.1 ∙ e) in_it
    ]

pub laid_out : (rows : List Row) (known : List Measure) (waiting : List (Vec ℕ Global)) (pending : List ℕ) (i : ℕ) (row : Row) → Stands rows known waiting (pending ++ i ∷ [])
    → slice_get rows i ≡ Some row → measure_at known i ≡ Waits → (type_measure known row ≡ Waits → ⊥)
    → Stands rows (slice_set known i (type_measure known row)) waiting (pending ++ waiters waiting i)
laid_out rows known waiting pending i row s is unknown goes =
    let l : Laying rows known waiting pending i row = record { stands = s; is = is; unknown = unknown; goes = goes } in
    let m : Measure = type_measure known row in
    record {
      all = set_length known i m ∙ s.all;
      sound = laid_sound rows known waiting pending i row l;
      watched = λ number other there e.
          elim (set_at known i m number (below_of rows known waiting pending i row l)) [
            | inl at ↦ absurd (goes (sym at.1 ∙ e))
            | inr at ↦ laid_watched known waiting pending i m number other (below_of rows known waiting pending i row l) at.0 (s.watched number other there (sym at.1 ∙ e))
          ];
    }

-- Where none is to be looked at, what waits waits for ever.
fault_waits : (known : List Measure) (own : Bool) (fault : Option Fault) (fields : List Field) (one : Fault) → fault ≡ Some one → closed (put_fields known (measure_before own fault) fields) ≡ Waits
fault_waits known own (Some fault) fields one is = ap closed (waits_stay known fields)
fault_waits known own None fields one is = absurd (cc)

closed_by : (known : List Measure) (waiting : List (Vec ℕ Global)) (number : ℕ) (row : Row) → Watched known waiting [] number row → type_measure known row ≡ Waits
closed_by known waiting number row (faulty fault is) = fault_waits known row.own row.fault row.fields fault is
closed_by known waiting number row (called in_it) = absurd (nowhere number in_it)
closed_by known waiting number row (waits part has e in_it) = row_waits known row part has e

row_there : (f : Row → Measure) (rows : List Row) (number : ℕ) → (get_or (map f rows) number Waits ≡ Waits → ⊥) → (row : Row) × (slice_get rows number ≡ Some row)
row_there f [] number goes = absurd (goes refl)
row_there f (row ∷ rows) zero goes = (row, refl)
row_there f (row ∷ rows) (suc number) goes = row_there f rows number goes

same_rounds : (rows : List Row) (a b number : ℕ) → (measure_at (measures rows a) number ≡ Waits → ⊥) → (measure_at (measures rows b) number ≡ Waits → ⊥)
    → measure_at (measures rows a) number ≡ measure_at (measures rows b) number
same_rounds rows a b number one two = sym (later rows a (a + b) (omega arith) number one) ∙ later rows b (a + b) (omega arith) number two

complete : (rows : List Row) (known : List Measure) (waiting : List (Vec ℕ Global)) → Stands rows known waiting [] → (n : ℕ) → Under (measures rows n) known
complete rows known waiting s zero number goes = absurd (goes refl)
complete rows known waiting s (suc n) number goes =
    let row = row_there (type_measure (measures rows n)) rows number goes in
    let at = at_row (type_measure (measures rows n)) rows number row.0 row.1 in
    let same = row_same (measures rows n) known (complete rows known waiting s n) row.0 (λ e. goes (at ∙ e)) in
    elim (waits_or (measure_at known number)) [
      | inl w ↦ absurd (goes (at ∙ (sym same ∙ closed_by known waiting number row.0 (s.watched number row.0 row.1 w))))
      | inr laid ↦
          let own = s.sound number laid in
          sym own ∙ same_rounds rows (count (knows known) (length rows)) (suc n) number (λ e. laid (sym own ∙ e)) goes
    ]

lists_same : (xs ys : List Measure) → length xs ≡ length ys → ((n : ℕ) → measure_at xs n ≡ measure_at ys n) → xs ≡ ys
lists_same [] [] e h = refl
lists_same [] (y ∷ ys) e h = absurd (omega (arith, e))
lists_same (x ∷ xs) [] e h = absurd (omega (arith, e))
lists_same (x ∷ xs) (y ∷ ys) e h = ap (λ (z : Measure). z ∷ xs) (h zero) ∙ ap (λ (z : List Measure). y ∷ z) (lists_same xs ys (omega (arith, e)) (λ n. h (suc n)))

known_length : (rows : List Row) → length (known_of rows) ≡ length rows
known_length [] = refl
known_length (row ∷ rows) = length-map (row ∷ rows) (type_measure (measures (row ∷ rows) (length rows)))

pub known_is : (rows : List Row) (known : List Measure) (waiting : List (Vec ℕ Global)) → Stands rows known waiting [] → known ≡ known_of rows
known_is rows known waiting s =
    lists_same known (known_of rows) (omega (arith, s.all, known_length rows))
    (λ number.
    elim (waits_or (measure_at known number)) [
      | inr laid ↦
          let own = s.sound number laid in
          sym (later rows (count (knows known) (length rows)) (length rows) (at_most (knows known) (length rows)) number (λ e. laid (sym own ∙ e)) ∙ own)
      | inl w ↦
          elim (waits_or (measure_at (known_of rows) number)) [
            | inl v ↦ w ∙ sym v
            | inr goes ↦ complete rows known waiting s (length rows) number goes
          ]
    ])

pub none_yet : (waiting : List (Vec ℕ Global)) → Stands [] [] waiting []
none_yet waiting = record {
  all = refl;
  sound = λ number goes. absurd (goes refl);
  watched = λ number row is e. absurd (cc);
}

-- one more waits for the Type of a number
pub note_kept : (waiting : List (Vec ℕ Global)) (i : ℕ) (v w : Vec ℕ Global) (n : ℕ) → slice_get waiting i ≡ Some v → w.items ≡ v.items ++ n ∷ [] → Kept waiting (slice_set waiting i w)
note_kept [] i v w n is e q j in_it = absurd (cc)
note_kept (x ∷ waiting) zero v w n is e zero j in_it =
    let same : x ≡ v = cc in
    subst (λ (y : List ℕ). Among y j) (sym e) (among_left v.items (n ∷ []) j (subst (λ (y : Vec ℕ Global). Among y.items j) same in_it))
note_kept (x ∷ waiting) zero v w n is e (suc q) j in_it = in_it
note_kept (x ∷ waiting) (suc i) v w n is e zero j in_it = in_it
note_kept (x ∷ waiting) (suc i) v w n is e (suc q) j in_it = note_kept waiting i v w n is e q j in_it

pub note_there : (waiting : List (Vec ℕ Global)) (i : ℕ) (v w : Vec ℕ Global) (n : ℕ) → slice_get waiting i ≡ Some v → w.items ≡ v.items ++ n ∷ [] → Among (waiters (slice_set waiting i w) i) n
note_there [] i v w n is e = absurd (cc)
note_there (x ∷ waiting) zero v w n is e = subst (λ (y : List ℕ). Among y n) (sym e) (among_right v.items (n ∷ []) n (first n []))
note_there (x ∷ waiting) (suc i) v w n is e = note_there waiting i v w n is e

-- the Type for which fields wait is in one of them
waits_is : (m : Measure) (number other : ℕ) → waits_if m number ≡ Some other → (number ≡ other) × (m ≡ Waits)
waits_is Waits number other e = let same : number ≡ other = cc in (same, refl)
waits_is Big number other e = absurd (cc)
waits_is (Fits l) number other e = absurd (cc)

waits_not : (m : Measure) (number : ℕ) → waits_if m number ≡ None → m ≡ Waits → ⊥
waits_not Waits number e w = absurd (cc)
waits_not Big number e w = absurd (cc)
waits_not (Fits l) number e w = absurd (cc)

abbrev pub WaitsAt : List Measure → List Field → ℕ → Type 0
WaitsAt known fields other = HasField fields other × (measure_at known other ≡ Waits)

type_waits_at : (known : List Measure) (field : Field) (fields : List Field) (other : ℕ) (ty : Ty) → field.ty ≡ ty → waits_for known ty ≡ Some other → WaitsAt known (field ∷ fields) other
type_waits_at known field fields other (t.Obj number) is e =
    let w = waits_is (measure_at known number) number other e in
    (here field fields other (is ∙ ap t.Obj w.0), subst (λ (x : ℕ). measure_at known x ≡ Waits) w.0 w.1)
type_waits_at known field fields other ty is e = absurd (cc)

next_waits_at : (known : List Measure) (field : Field) (fields : List Field) (other : ℕ) → WaitsAt known fields other → WaitsAt known (field ∷ fields) other
next_waits_at known field fields other w = (later_field field fields other w.0, w.1)

or_waits_at : (known : List Measure) (field : Field) (fields : List Field) (other : ℕ) (o : Option ℕ) → waits_for known field.ty ≡ o → or_next o (first_waiting known fields) ≡ Some other
    → (first_waiting known fields ≡ Some other → WaitsAt known fields other) → WaitsAt known (field ∷ fields) other
or_waits_at known field fields other (Some number) is e rest = type_waits_at known field fields other field.ty refl (is ∙ e)
or_waits_at known field fields other None is e rest = next_waits_at known field fields other (rest e)

pub waits_at : (known : List Measure) (fields : List Field) (other : ℕ) → first_waiting known fields ≡ Some other → WaitsAt known fields other
waits_at known [] other e = absurd (cc)
waits_at known (field ∷ fields) other e = or_waits_at known field fields other (waits_for known field.ty) refl e (waits_at known fields other)

-- where no field waits the Type is laid out
both_none : (o p : Option ℕ) → or_next o p ≡ None → (o ≡ None) × (p ≡ None)
both_none (Some number) p e = absurd (cc)
both_none None p e = (refl, e)

none_waits : (known : List Measure) (fields : List Field) (other : ℕ) → first_waiting known fields ≡ None → HasField fields other → measure_at known other ≡ Waits → ⊥
none_waits known _ other e (here field fields _ is) w =
    waits_not (measure_at known other) other (sym (ap (waits_for known) is) ∙ (both_none (waits_for known field.ty) (first_waiting known fields) e).0) w
none_waits known _ other e (later_field field fields _ has) w =
    none_waits known fields other (both_none (waits_for known field.ty) (first_waiting known fields) e).1 has w

pub laid_where : (known : List Measure) (row : Row) → row.fault ≡ None → first_waiting known row.fields ≡ None → type_measure known row ≡ Waits → ⊥
laid_where known row none e w =
    let waiting = row_waiting known row none w in
    none_waits known row.fields waiting.0 e waiting.1 waiting.2

pub got : {X : Type 0} (xs : List X) (i : ℕ) (x : X) → i < length xs → x ≡ get_or xs i x → slice_get xs i ≡ Some x
got [] i x below e = absurd (omega arith)
got (y ∷ xs) zero x below e = ap Some (sym e)
got (y ∷ xs) (suc i) x below e = got xs i x (omega arith) e

pub some_fault : (o : Option Fault) → is_some o ≡ true → (fault : Fault) × (o ≡ Some fault)
some_fault None e = absurd (cc)
some_fault (Some fault) e = (fault, refl)

pub no_fault : (o : Option Fault) → is_some o ≡ false → o ≡ None
no_fault None e = refl
no_fault (Some fault) e = absurd (cc)

-- what is looked at, and stays as it is
module _ (rows : List Row) (known : List Measure) (waiting : List (Vec ℕ Global)) (pending : List ℕ) (i : ℕ) (s : Stands rows known waiting (pending ++ i ∷ [])) where
  pub outside : length rows ≤ i → Stands rows known waiting pending
  outside far = looked_at rows known waiting pending i s (λ row is w. let near = slice_get_within rows i row is in absurd (omega arith))

  pub unlisted : length known ≤ i → Stands rows known waiting pending
  unlisted far = let all = s.all in outside (omega arith)

  pub already : is_known (measure_at known i) ≡ true → Stands rows known waiting pending
  already e = looked_at rows known waiting pending i s (λ row is w. absurd (goes_if (measure_at known i) e w))

  pub at_fault : (row : Row) → slice_get rows i ≡ Some row → is_some row.fault ≡ true → Stands rows known waiting pending
  at_fault row is e = looked_at rows known waiting pending i s (λ other there w. let same : row ≡ other = cc in let f = some_fault other.fault (subst (λ (x : Row). is_some x.fault ≡ true) same e) in faulty f.0 f.1)

-- lists that are these
pub stands_as : (rows all : List Row) (known more : List Measure) (waiting : List (Vec ℕ Global)) (begun : List ℕ) (row : Row) → all ≡ rows ++ row ∷ [] → more ≡ known ++ Waits ∷ []
    → begun ≡ length rows ∷ [] → Stands rows known waiting [] → Stands all more waiting begun
stands_as rows all known more waiting begun row a m b s =
    subst (λ (x : List Row). Stands x more waiting begun) (sym a)
    (subst (λ (x : List Measure). Stands (rows ++ row ∷ []) x waiting begun) (sym m)
    (subst (λ (x : List ℕ). Stands (rows ++ row ∷ []) (known ++ Waits ∷ []) waiting x) (sym b) (one_more rows known waiting row s)))
