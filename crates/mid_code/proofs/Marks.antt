use Rattle.std.proofs.Common.{◌≡◌, ℕ, zero, suc, ◌+◌, ◌<◌, ◌==◌, ◌⊎◌, inl, inr, Bool, true, false, ◌&&◌, ◌||◌, List, [], ◌∷◌, length, set, get_or, Option, Some, None, arith, refl, sym, ◌∙◌, ap, subst, unwrap_or, option_map, ◌++◌, slice_get, IsTrue, ◌↔◌}
use Rattle.std.proofs.lemmas.Option.{slice_get-get_or}
use Rattle.std.proofs.lemmas.List.{length-set}
use Rattle.std.proofs.lemmas.Bool.{eqb-true}
use Rattle.mid_code.specs.declared.reg.Reg.{Reg}
use Rattle.mid_code.specs.declared.op.MidOp.{MidOp}
use Rattle.mid_code.specs.declared.op.LinedOp.{LinedOp}
use Rattle.mid_code.specs.Operations.{MidCode, op_in, ops_of, code_of}
use Rattle.mid_code.specs.Flow.{Among, reads_of, writes_of, nexts_of, target_of, Live, reads_now, reads_later, IsSound, AreLawful}
use Rattle.mid_code.specs.Paths.{alone, Unwritten, begins, comes, marked, unmarked, is_new, with_marks, any_new, AreReached, IsClosedAt, Grows, IsBlank, IsExact, IsReadAt, IsWrittenFirst, AreWrittenFirst, IsBelow, HasTarget, TargetsExist, IsKept}

-- A mark more: what it does to the count.
count_new : (marks : List Bool) (j : ℕ) → is_new marks j ≡ true → suc (unmarked (set marks j true)) ≡ unmarked marks
count_new [] j new = absurd (let less : j < 0 = grind (arith, new) in omega arith)
count_new (true ∷ marks) zero new = absurd (grind (arith, new))
count_new (false ∷ marks) zero new = refl
count_new (true ∷ marks) (suc j) new = count_new marks j (grind (arith, new))
count_new (false ∷ marks) (suc j) new = ap suc (count_new marks j (grind (arith, new)))

-- a position that is marked, or that isn't there: nothing changes
count_old : (marks : List Bool) (j : ℕ) → is_new marks j ≡ false → set marks j true ≡ marks
count_old [] j old = refl
count_old (true ∷ marks) zero old = refl
count_old (false ∷ marks) zero old = absurd (grind (arith, old))
count_old (b ∷ marks) (suc j) old = ap (λ bs. b ∷ bs) (count_old marks j (grind (arith, old)))

mark_kept : (marks : List Bool) (j i : ℕ) → marked marks i ≡ true → marked (set marks j true) i ≡ true
mark_kept [] j i is = is
mark_kept (b ∷ marks) zero zero is = refl
mark_kept (b ∷ marks) zero (suc i) is = is
mark_kept (b ∷ marks) (suc j) zero is = is
mark_kept (b ∷ marks) (suc j) (suc i) is = mark_kept marks j i is

-- what is marked after one mark more
mark_only : (marks : List Bool) (j i : ℕ) → marked (set marks j true) i ≡ true → (i ≡ j) ⊎ (marked marks i ≡ true)
mark_only [] j i is = inr is
mark_only (b ∷ marks) zero zero is = inl refl
mark_only (b ∷ marks) zero (suc i) is = inr is
mark_only (b ∷ marks) (suc j) zero is = inr is
mark_only (b ∷ marks) (suc j) (suc i) is = by_rest (mark_only marks j i is)
  where
    by_rest : (i ≡ j) ⊎ (marked marks i ≡ true) → (suc i ≡ suc j) ⊎ (marked marks i ≡ true)
    by_rest (inl e) = inl (ap suc e)
    by_rest (inr h) = inr h

mark_there : (marks : List Bool) (j : ℕ) → j < length marks → marked (set marks j true) j ≡ true
mark_there [] j less = absurd (omega arith)
mark_there (b ∷ marks) zero less = refl
mark_there (b ∷ marks) (suc j) less = mark_there marks j (omega arith)

pub not_false : true ≡ false → ⊥
not_false e = cc

pub grows_none : (ops : List LinedOp) (r : Reg) (marks : List Bool) → Grows ops r marks marks false
grows_none ops r marks = record { long = refl; reached = λ h. h; first = λ h. h; most = omega arith; fewer = λ e. absurd (not_false (sym e)); same = λ e. refl }

grows_one : (ops : List LinedOp) (r : Reg) (marks : List Bool) (j : ℕ) → (AreReached ops r marks → Unwritten ops r j) → (new : Bool) → is_new marks j ≡ new → Grows ops r marks (set marks j true) new
grows_one ops r marks j path true is =
    record {
      long = length-set marks j true;
      reached = λ h i on. by_mark h i (mark_only marks j i on);
      first = λ h. mark_kept marks j 0 h;
      most = omega (arith, count_new marks j is);
      fewer = λ e. omega (arith, count_new marks j is);
      same = λ e. absurd (not_false e);
    }
  where
    by_mark : AreReached ops r marks → (i : ℕ) → (i ≡ j) ⊎ (marked marks i ≡ true) → Unwritten ops r i
    by_mark h i (inl e) = subst (λ n. Unwritten ops r n) (sym e) (path h)
    by_mark h i (inr on) = h i on
grows_one ops r marks j path false is = rw (count_old marks j is) (grows_none ops r marks)

pub grows_both : (ops : List LinedOp) (r : Reg) (a b c : List Bool) (x y : Bool) → Grows ops r a b x → Grows ops r b c y → Grows ops r a c (x || y)
grows_both ops r a b c true y f g =
    record { long = g.long ∙ f.long; reached = λ h. g.reached (f.reached h); first = λ h. g.first (f.first h); most = omega (arith, f.most, g.most); fewer = λ e. omega (arith, f.fewer refl, g.most); same = λ e. absurd (not_false e) }
grows_both ops r a b c false y f g =
    record { long = g.long ∙ f.long; reached = λ h. g.reached (f.reached h); first = λ h. g.first (f.first h); most = omega (arith, f.most, g.most); fewer = λ e. omega (arith, f.most, g.fewer e); same = λ e. g.same e ∙ f.same refl }

grows_list : (ops : List LinedOp) (r : Reg) (js : List ℕ) (marks : List Bool) → (AreReached ops r marks → (j : ℕ) → Among j js → Unwritten ops r j) → Grows ops r marks (with_marks js marks) (any_new js marks)
grows_list ops r [] marks path = grows_none ops r marks
grows_list ops r (j ∷ js) marks path =
    let one = grows_one ops r marks j (λ h. path h j (inl refl)) (is_new marks j) refl in
    grows_both ops r marks (set marks j true) (with_marks js (set marks j true)) (is_new marks j) (any_new js (set marks j true)) one
    (grows_list ops r js (set marks j true) (λ h i among. path_on i among h))
  where
    path_on : (i : ℕ) → Among i js → AreReached ops r (set marks j true) → Unwritten ops r i
    path_on i among h = path (λ k on. h k (mark_kept marks j k on)) i (inr among)

list_kept : (js : List ℕ) (marks : List Bool) (i : ℕ) → marked marks i ≡ true → marked (with_marks js marks) i ≡ true
list_kept [] marks i on = on
list_kept (j ∷ js) marks i on = list_kept js (set marks j true) i (mark_kept marks j i on)

list_all : (js : List ℕ) (marks : List Bool) (j : ℕ) → Among j js → j < length marks → marked (with_marks js marks) j ≡ true
list_all [] marks j none less = absurd none
list_all (i ∷ js) marks j (inl e) less = rw e (list_kept js (set marks i true) i (mark_there marks i (rw (← e) less)))
list_all (i ∷ js) marks j (inr among) less = list_all js (set marks i true) j among (omega (arith, length-set marks i true))

-- one position's nexts
pub some_same : (a b : MidOp) → Some a ≡ Some b → a ≡ b
some_same a b e = ap (λ o. unwrap_or o a) e

pub grows_nexts : (ops : List LinedOp) (r : Reg) (i : ℕ) (op : MidOp) (marks : List Bool) → op_in ops i ≡ Some op → marked marks i ≡ true → (writes_of op ≡ Some r → ⊥) → Grows ops r marks (with_marks (nexts_of i op) marks) (any_new (nexts_of i op) marks)
grows_nexts ops r i op marks is on other = grows_list ops r (nexts_of i op) marks (λ h j among. comes i j op is other among (h i on))

pub closed_nexts : (ops : List LinedOp) (r : Reg) (i : ℕ) (op : MidOp) (marks : List Bool) → op_in ops i ≡ Some op → with_marks (nexts_of i op) marks ≡ marks → IsClosedAt ops r marks i
closed_nexts ops r i op marks is same other j at on written among less =
    let e : other ≡ op = some_same other op (sym at ∙ is) in
    rw same at (list_all (nexts_of i op) marks j (subst (λ o. Among j (nexts_of i o)) e among) less)

pub inside_op : (ops : List LinedOp) (i : ℕ) (op : MidOp) → op_in ops i ≡ Some op → i < length ops
inside_op [] i op is = absurd (let e : None ≡ Some op = is in cc)
inside_op (o ∷ ops) zero op is = omega arith
inside_op (o ∷ ops) (suc i) op is = omega (arith, inside_op ops i op is)

-- a search that has come to its end has found all
pub all_found : (ops : List LinedOp) (r : Reg) (marks : List Bool) → length marks ≡ length ops → (0 < length ops → marked marks 0 ≡ true) → ((i : ℕ) → i < length ops → IsClosedAt ops r marks i) → (i : ℕ) → i < length ops → Unwritten ops r i → marked marks i ≡ true
all_found ops r marks long first closed _ less begins = first less
all_found ops r marks long first closed _ less (comes i j op is other among path) =
    let inside = inside_op ops i op is in
    closed i inside op j is (all_found ops r marks long first closed i inside path) other among (omega (arith, long))

-- a register that is live at the beginning is read at the end of some path on which it isn't written
pub live_path : (ops : List LinedOp) (r : Reg) (i : ℕ) → Live (alone ops) 0 i r → Unwritten ops r i → (j : ℕ) × (op : MidOp) × (op_in ops j ≡ Some op) × Among r (reads_of op) × Unwritten ops r j
live_path ops r i (reads_now _ _ op is among) path = (i, op, is, among, path)
live_path ops r i (reads_later _ j _ op is among other later) path = live_path ops r j later (comes i j op is other among path)

pub path_live : (ops : List LinedOp) (r : Reg) (i : ℕ) → Unwritten ops r i → Live (alone ops) 0 i r → Live (alone ops) 0 0 r
path_live ops r _ begins live = live
path_live ops r _ (comes i j op is other among path) live = path_live ops r i path (reads_later i j r op is among other live)

-- the operation at a position that there is
pub op_here : (ops : List LinedOp) (i : ℕ) (d : LinedOp) → i < length ops → op_in ops i ≡ Some (get_or ops i d).op
op_here ops i d less = ap (option_map (λ o. o.op)) (slice_get-get_or ops i d less)

-- a mark that is read
pub marked_here : (marks : List Bool) (i : ℕ) (x : Bool) → i < length marks → x ≡ get_or marks i x → x ≡ true → marked marks i ≡ true
marked_here [] i x less is on = absurd (omega arith)
marked_here (b ∷ marks) zero x less is on = sym is ∙ on
marked_here (b ∷ marks) (suc i) x less is on = marked_here marks i x (omega arith) is on

pub blank_more : (marks : List Bool) → ((i : ℕ) → marked marks i ≡ false) → (i : ℕ) → marked (marks ++ false ∷ []) i ≡ false
blank_more [] none zero = refl
blank_more [] none (suc i) = refl
blank_more (b ∷ marks) none zero = none zero
blank_more (b ∷ marks) none (suc i) = blank_more marks (λ k. none (suc k)) i

-- the first mark
abbrev pub Begun : List LinedOp → Reg → List Bool → Type 0
Begun ops r marks = (length marks ≡ length ops) × AreReached ops r marks × (0 < length ops → marked marks 0 ≡ true)

pub first_mark : (ops : List LinedOp) (r : Reg) (marks new : List Bool) → IsBlank ops marks → new ≡ set marks 0 true → Begun ops r new
first_mark ops r marks new blank is = rw is (length-set marks 0 true ∙ blank.long, reached, (λ less. mark_there marks 0 (rw blank.long less)))
  where
    by_mark : (i : ℕ) → (i ≡ 0) ⊎ (marked marks i ≡ true) → Unwritten ops r i
    by_mark i (inl e) = subst (λ n. Unwritten ops r n) (sym e) begins
    by_mark i (inr on) = absurd (not_false (sym on ∙ blank.none i))

    reached : AreReached ops r (set marks 0 true)
    reached i on = by_mark i (mark_only marks 0 i on)

-- one position more
pub spread_more : (ops : List LinedOp) (r : Reg) (a b d : List Bool) (x y : Bool) (i : ℕ) → Grows ops r a b x → (x ≡ false → (k : ℕ) → k < i → IsClosedAt ops r b k) → Grows ops r b d y → (y ≡ false → IsClosedAt ops r d i)
    → Grows ops r a d (x || y) × ((x || y) ≡ false → (k : ℕ) → k < i + 1 → IsClosedAt ops r d k)
spread_more ops r a b d true y i f closed g last = (grows_both ops r a b d true y f g, λ e. absurd (not_false e))
spread_more ops r a b d false true i f closed g last = (grows_both ops r a b d false true f g, λ e. absurd (not_false e))
spread_more ops r a b d false false i f closed g last = (grows_both ops r a b d false false f g, λ e k less. by_place k less (k == i) refl)
  where
    by_place : (k : ℕ) → k < i + 1 → (test : Bool) → (k == i) ≡ test → IsClosedAt ops r d k
    by_place k less true is = subst (λ n. IsClosedAt ops r d n) (sym (eqb-true k i is)) (last refl)
    by_place k less false is = let before : k < i = grind (arith, is) in subst (λ m. IsClosedAt ops r m k) (sym (g.same refl)) (closed refl k before)

-- what the search found says whether the register is written first
pub written_first : (ops : List LinedOp) (r : Reg) (marks : List Bool) → IsExact ops r marks → ((i : ℕ) → i < length ops → IsReadAt ops r marks i → ⊥) → IsWrittenFirst ops r
written_first ops r marks exact none live =
    let p = live_path ops r 0 live begins in
    let inside = inside_op ops p.0 p.1 p.2 in
    none p.0 inside (record { op = p.1; is = p.2; reads = p.3; on = exact.all p.0 inside p.4 })

pub read_first : (ops : List LinedOp) (r : Reg) (marks : List Bool) (i : ℕ) → IsExact ops r marks → IsReadAt ops r marks i → IsWrittenFirst ops r → ⊥
read_first ops r marks i exact at written = written (path_live ops r i (exact.sound i at.on) (reads_now i r at.op at.is at.reads))

pub read_here : (ops : List LinedOp) (r : Reg) (marks : List Bool) (i : ℕ) (d : LinedOp) → IsReadAt ops r marks i → i < length ops → Among r (reads_of (get_or ops i d).op)
read_here ops r marks i d at less =
    let e : (get_or ops i d).op ≡ at.op = some_same (get_or ops i d).op at.op (sym (op_here ops i d less) ∙ at.is) in
    subst (λ o. Among r (reads_of o)) (sym e) at.reads

-- what holds of each operation before a position and of the one there
pub each_more : (ops : List LinedOp) (n i : ℕ) (d : LinedOp) → ((k : ℕ) (op : MidOp) → k < i → op_in ops k ≡ Some op → HasTarget n op) → i < length ops → HasTarget n (get_or ops i d).op → (k : ℕ) (op : MidOp) → k < i + 1 → op_in ops k ≡ Some op → HasTarget n op
each_more ops n i d before less here k op at is = by_place (k == i) refl
  where
    by_place : (test : Bool) → (k == i) ≡ test → HasTarget n op
    by_place true e =
        let same : k ≡ i = eqb-true k i e in
        let one : (get_or ops i d).op ≡ op = some_same (get_or ops i d).op op (sym (op_here ops i d less) ∙ (ap (λ m. op_in ops m) (sym same) ∙ is)) in
        subst (λ o. HasTarget n o) one here
    by_place false e = let lower : k < i = grind (arith, e) in before k op lower is

pub found_below : (os : List LinedOp) (t : ℕ) → t < length os → (after : MidOp) × (op_in os t ≡ Some after)
found_below [] t less = absurd (omega arith)
found_below (o ∷ os) zero less = (o.op, refl)
found_below (o ∷ os) (suc t) less = found_below os t (omega arith)

-- a procedure is sound where its targets exist and its registers are written first
pub sound_of : (ops : List LinedOp) → TargetsExist ops → AreWrittenFirst ops → IsSound (alone ops) 0
sound_of ops targets first =
    record { written = first; targets = λ i t op is target. found_below ops t (let h : IsBelow (length ops) (Some t) = subst (λ x. IsBelow (length ops) x) target (targets i op is) in h) }

target_there : (ops : List LinedOp) (x : Option ℕ) → ((t : ℕ) → x ≡ Some t → (after : MidOp) × (op_in ops t ≡ Some after)) → IsBelow (length ops) x
target_there ops None found = tt
target_there ops (Some t) found = let f = found t refl in inside_op ops t f.0 f.1

pub targets_of : (ops : List LinedOp) → IsSound (alone ops) 0 → TargetsExist ops
targets_of ops sound i op is = target_there ops (target_of op) (λ t e. sound.targets i t op is e)

-- whether a procedure is sound depends on its operations alone
live_same : (m n : MidCode) (p q : ℕ) → ((i : ℕ) → m.op_at p i ≡ n.op_at q i) → (i : ℕ) (r : Reg) → Live m p i r → Live n q i r
live_same m n p q same i r (reads_now _ _ op is among) = reads_now i r op (sym (same i) ∙ is) among
live_same m n p q same i r (reads_later _ j _ op is among other later) = reads_later i j r op (sym (same i) ∙ is) among other (live_same m n p q same j r later)

sound_same : (m n : MidCode) (p q : ℕ) → ((i : ℕ) → m.op_at p i ≡ n.op_at q i) → IsSound m p → IsSound n q
sound_same m n p q same sound =
    record {
      written = λ r live. sound.written r (live_same n m q p (λ i. sym (same i)) 0 r live);
      targets = λ i t op is target. let f = sound.targets i t op (same i ∙ is) target in (f.0, sym (same t) ∙ f.1);
    }

ops_found : (procs : List (List LinedOp)) (p : ℕ) (ops : List LinedOp) → slice_get procs p ≡ Some ops → ops_of procs p ≡ ops
ops_found [] p ops is = absurd (let e : None ≡ Some ops = is in cc)
ops_found (first ∷ procs) zero ops is = ap (λ o. unwrap_or o first) is
ops_found (first ∷ procs) (suc p) ops is = ops_found procs p ops is

pub sound_alone : (procs : List (List LinedOp)) (p : ℕ) (ops : List LinedOp) → slice_get procs p ≡ Some ops → IsSound (code_of procs) p → IsSound (alone ops) 0
sound_alone procs p ops is sound = sound_same (code_of procs) (alone ops) p 0 (λ i. ap (λ os. op_in os i) (ops_found procs p ops is)) sound

pub sound_within : (procs : List (List LinedOp)) (p : ℕ) (ops : List LinedOp) → slice_get procs p ≡ Some ops → IsSound (alone ops) 0 → IsSound (code_of procs) p
sound_within procs p ops is sound = sound_same (alone ops) (code_of procs) 0 p (λ i. ap (λ os. op_in os i) (sym (ops_found procs p ops is))) sound

pub kept_of : (ops : List LinedOp) (targets written : Bool) → AreLawful 0 ops → IsTrue targets ↔ TargetsExist ops → IsTrue written ↔ AreWrittenFirst ops → IsKept ops (targets && written)
kept_of ops true true lawful t w = record { lawful = lawful; sound_is = ((λ e. sound_of ops (t.0 refl) (w.0 refl)), (λ sound. refl)) }
kept_of ops true false lawful t w = record { lawful = lawful; sound_is = ((λ e. absurd (not_false (sym e))), (λ sound. absurd (not_false (sym (w.1 sound.written))))) }
kept_of ops false written lawful t w = record { lawful = lawful; sound_is = ((λ e. absurd (not_false (sym e))), (λ sound. absurd (not_false (sym (t.1 (targets_of ops sound)))))) }
