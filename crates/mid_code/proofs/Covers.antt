use Rattle.std.proofs.Common.{◌≡◌, ℕ, zero, suc, ◌+◌, ◌<◌, ◌≤◌, ◌⊎◌, inl, inr, min, List, [], ◌∷◌, length, set, get_or, Option, Some, None, arith, sym, ◌∙◌, ap, subst, get_or-set_other, Bool, true, Result, Ok, Err, IfOk}
use Rattle.std.proofs.lemmas.Bool.{cases_lt, cases_eq}
use Rattle.std.proofs.lemmas.Grind.{get_or-set_at}
use Rattle.fb_base.specs.declared.memory.NoMemory.{NoMemory}
use Rattle.mid_code.specs.declared.reg.Reg.{Reg}
use Rattle.mid_code.specs.declared.op.MidOp.{MidOp}
use Rattle.mid_code.specs.declared.op.MidOp.TheVariants.{Const, Copy, Both, Divide, Runtime, Skip, Back, Unless}
use Rattle.mid_code.specs.declared.op.LinedOp.{LinedOp}
use Rattle.mid_code.specs.declared.search.FourReads.{FourReads}
use Rattle.mid_code.specs.Operations.{op_in}
use Rattle.mid_code.specs.Flow.{Among, in_front, reads_of, writes_of, nexts_of, target_of}
use Rattle.mid_code.specs.Paths.{Unwritten, begins, comes, AreWrittenFirst}
use Rattle.mid_code.specs.Covers.{NoneOver, Covers, AreNested, HasSources, HasEnds, AreAtMost, AreLess, EndBetween, HaveGaps, IsSettled, AreSettled, registers_of}
use Rattle.mid_code.proofs.Marks.{some_same, op_here, live_path}

-- ---- a register that is covered

-- where a thread goes on: behind the operation, or at its target
next_is : (i : ℕ) (op : MidOp) (j : ℕ) → Among j (nexts_of i op) → (j ≡ suc i) ⊎ (target_of op ≡ Some j)
next_is i (Const to value) j (inl e) = inl e
next_is i (Const to value) j (inr none) = absurd none
next_is i (Copy to from) j (inl e) = inl e
next_is i (Copy to from) j (inr none) = absurd none
next_is i (Both op to left right) j (inl e) = inl e
next_is i (Both op to left right) j (inr none) = absurd none
next_is i (Divide op to left right) j (inl e) = inl e
next_is i (Divide op to left right) j (inr none) = absurd none
next_is i (Runtime number a b c d to) j (inl e) = inl e
next_is i (Runtime number a b c d to) j (inr none) = absurd none
next_is i (Skip target) j (inl e) = inr (ap Some (sym e))
next_is i (Skip target) j (inr none) = absurd none
next_is i (Back target) j (inl e) = inr (ap Some (sym e))
next_is i (Back target) j (inr none) = absurd none
next_is i (Unless test target) j (inl e) = inr (ap Some (sym e))
next_is i (Unless test target) j (inr (inl e)) = inl e
next_is i (Unless test target) j (inr (inr none)) = absurd none

-- what covers a position covers the one from which a path comes there, unless it is that one
module _ (ops : List LinedOp) (nested : AreNested ops) (w i j : ℕ) (r : Reg) (op : MidOp) (c : Covers ops w j r) (is : op_in ops i ≡ Some op) (other : writes_of op ≡ Some r → ⊥) where
  here : w ≡ i → ⊥
  here e =
      let same : c.op ≡ op = some_same c.op op (sym c.is ∙ (ap (λ n. op_in ops n) e ∙ is)) in
      other (subst (λ o. writes_of o ≡ Some r) same c.writes)

  earlier : w < i → NoneOver ops w i → Covers ops w i r
  earlier less none = record { op = c.op; is = c.is; writes = c.writes; before = less; none = none }

  falls : j ≡ suc i → (w ≡ i) ⊎ (w ≡ i → ⊥) → Covers ops w i r
  falls e (inl same) = absurd (here same)
  falls e (inr not_here) = earlier (omega (arith, c.before, e, not_here)) (λ from to o at target a b within. c.none from to o at target a b (omega (arith, within, e)))

  jumps : target_of op ≡ Some j → (w ≡ i) ⊎ (w ≡ i → ⊥) → (w < i) ⊎ (i ≤ w) → Covers ops w i r
  jumps t (inl same) order = absurd (here same)
  jumps t (inr not_here) (inr above) = absurd (c.none i j op is t (omega (arith, above, not_here)) c.before (omega arith))
  jumps t (inr not_here) (inl less) = earlier less between
    where
      by_place : (from to : ℕ) (o : MidOp) → op_in ops from ≡ Some o → target_of o ≡ Some to → from < w → w < to → to ≤ i → (j < to) ⊎ (to ≤ j) → ⊥
      by_place from to o at target a b within (inr near) = c.none from to o at target a b near
      by_place from to o at target a b within (inl far) = nested i j op is t (omega (arith, far, within)) from to o at target (omega (arith, a, c.before)) far within

      between : NoneOver ops w i
      between from to o at target a b within = by_place from to o at target a b within (cases_lt j to)

  comes_from : (j ≡ suc i) ⊎ (target_of op ≡ Some j) → Covers ops w i r
  comes_from (inl e) = falls e (cases_eq w i)
  comes_from (inr t) = jumps t (cases_eq w i) (cases_lt w i)

pub covered : (ops : List LinedOp) → AreNested ops → (w : ℕ) (r : Reg) (j : ℕ) → Covers ops w j r → Unwritten ops r j → ⊥
covered ops nested w r _ c begins = absurd (let less : w < 0 = c.before in omega (arith, less))
covered ops nested w r _ c (comes i j op is other among path) = covered ops nested w r i (comes_from ops nested w i j r op c is other (next_is i op j among)) path

-- ---- where positions end

-- a number that is read
pub read_here : (xs : List ℕ) (i x : ℕ) → i < length xs → x ≡ get_or xs i x → x ≡ get_or xs i 0
read_here [] i x less is = absurd (omega (arith, less))
read_here (y ∷ ys) zero x less is = is
read_here (y ∷ ys) (suc i) x less is = read_here ys i x (omega (arith, less)) is

pub none_over : (ops : List LinedOp) (ends : List ℕ) (w i : ℕ) → AreAtMost (length ops) ends → HasEnds ops ends (length ops) → i < get_or ends w 0 → NoneOver ops w i
none_over ops ends w i most has still from to op is target a b within = by_place (cases_lt to (length ops))
  where
    by_place : (to < length ops) ⊎ (length ops ≤ to) → ⊥
    by_place (inl inside) = let e : get_or ends w 0 ≤ to = has from w to op is target inside a b in omega (arith, e, within, still)
    by_place (inr behind) = let e : get_or ends w 0 ≤ length ops = most w in omega (arith, e, within, still, behind)

pub sources_more : (ops : List LinedOp) (old new : List ℕ) (i : ℕ) (d : LinedOp) → i < length ops → HasSources ops old i → AreLess new old
    → ((to : ℕ) → target_of (get_or ops i d).op ≡ Some to → to < length ops → get_or new to 0 ≤ i) → HasSources ops new (i + 1)
sources_more ops old new i d inside before less there from to op below is target within = by_place (cases_eq from i)
  where
    by_place : (from ≡ i) ⊎ (from ≡ i → ⊥) → get_or new to 0 ≤ from
    by_place (inl e) =
        let same : op ≡ (get_or ops i d).op = some_same op (get_or ops i d).op (sym is ∙ (ap (λ n. op_in ops n) e ∙ op_here ops i d inside)) in
        let at : get_or new to 0 ≤ i = there to (subst (λ o. target_of o ≡ Some to) same target) within in
        omega (arith, at, e)
    by_place (inr not_here) =
        let old_one : get_or old to 0 ≤ from = before from to op (omega (arith, below, not_here)) is target within in
        omega (arith, old_one, less to)

pub nested_more : (ops : List LinedOp) (ends : List ℕ) (i : ℕ) (d : LinedOp) → i < length ops → AreAtMost (length ops) ends → HasEnds ops ends (length ops)
    → ((k to : ℕ) (op : MidOp) → k < i → op_in ops k ≡ Some op → target_of op ≡ Some to → to ≤ k → NoneOver ops to k)
    → ((to : ℕ) → target_of (get_or ops i d).op ≡ Some to → to ≤ i → i < get_or ends to 0)
    → (k to : ℕ) (op : MidOp) → k < i + 1 → op_in ops k ≡ Some op → target_of op ≡ Some to → to ≤ k → NoneOver ops to k
nested_more ops ends i d inside most has before there k to op below is target back = by_place (cases_eq k i)
  where
    by_place : (k ≡ i) ⊎ (k ≡ i → ⊥) → NoneOver ops to k
    by_place (inl e) =
        let same : op ≡ (get_or ops i d).op = some_same op (get_or ops i d).op (sym is ∙ (ap (λ n. op_in ops n) e ∙ op_here ops i d inside)) in
        let still : i < get_or ends to 0 = there to (subst (λ o. target_of o ≡ Some to) same target) (omega (arith, back, e)) in
        none_over ops ends to k most has (omega (arith, still, e))
    by_place (inr not_here) = before k to op (omega (arith, below, not_here)) is target back

pub ends_lower : (old now new gaps : List ℕ) (p low top : ℕ) → HaveGaps old gaps p → AreLess now old → AreLess new now → get_or new top 0 ≤ p → low ≡ top + 1 → low ≤ p → EndBetween now low p → (rest : ℕ) → rest ≡ min (get_or gaps top 0) top → EndBetween new rest p
ends_lower old now new gaps p low top have less more there is within before rest rest_is w from to = by_place (cases_lt w top) (cases_eq w top)
  where
    by_place : (w < top) ⊎ (top ≤ w) → (w ≡ top) ⊎ (w ≡ top → ⊥) → get_or new w 0 ≤ p
    by_place (inl under) any =
        let gap : get_or old w 0 ≤ top = have top (omega (arith, is, within)) w (omega (arith, under, from, rest_is)) under in
        omega (arith, gap, less w, more w, is, within)
    by_place (inr over) (inl e) = subst (λ n. get_or new n 0 ≤ p) (sym e) there
    by_place (inr over) (inr not_top) = let h : get_or now w 0 ≤ p = before w (omega (arith, over, not_top, is)) to in omega (arith, h, more w)

pub gaps_more : (old new gaps : List ℕ) (p low : ℕ) → p < length gaps → HaveGaps old gaps p → AreLess new old → EndBetween new low p → HaveGaps new (set gaps p low) (p + 1)
gaps_more old new gaps p low inside have less last s below = by_place (cases_eq s p)
  where
    by_place : (s ≡ p) ⊎ (s ≡ p → ⊥) → EndBetween new (get_or (set gaps p low) s 0) s
    by_place (inl e) =
        let at : get_or (set gaps p low) s 0 ≡ low = get_or-set_at gaps p s low 0 e inside in
        subst (λ n. EndBetween new n s) (sym at) (subst (λ n. EndBetween new low n) (sym e) last)
    by_place (inr not_here) =
        let at : get_or (set gaps p low) s 0 ≡ get_or gaps s 0 = get_or-set_other gaps p s low 0 not_here in
        subst (λ n. EndBetween new n s) (sym at) (λ w from to. let h : get_or old w 0 ≤ s = have s (omega (arith, below, not_here)) w from to in omega (arith, h, less w))

pub ends_more : (ops : List LinedOp) (old new sources : List ℕ) (p source : ℕ) → p < length ops → HasSources ops sources (length ops) → source ≡ get_or sources p 0 → HasEnds ops old p → AreLess new old
    → ((w : ℕ) → source < w → w < p → get_or new w 0 ≤ p) → ((from : ℕ) (op : MidOp) → op_in ops from ≡ Some op → from < length ops) → HasEnds ops new (p + 1)
ends_more ops old new sources p source inside has is before less far there from w to op at target below a b = by_place (cases_eq to p)
  where
    by_place : (to ≡ p) ⊎ (to ≡ p → ⊥) → get_or new w 0 ≤ to
    by_place (inl e) =
        let s : get_or sources to 0 ≤ from = has from to op (there from op at) at target (omega (arith, inside, e)) in
        let s' : get_or sources p 0 ≤ from = subst (λ n. get_or sources n 0 ≤ from) e s in
        let h : get_or new w 0 ≤ p = far w (omega (arith, is, s', a)) (omega (arith, b, e)) in
        omega (arith, h, e)
    by_place (inr not_here) = let h : get_or old w 0 ≤ to = before from w to op at target (omega (arith, below, not_here)) a b in omega (arith, h, less w)

-- ---- reads

among_front : (o : Option Reg) (rs : List Reg) (r : Reg) → Among r (in_front o rs) → (o ≡ Some r) ⊎ Among r rs
among_front None rs r among = inr among
among_front (Some q) rs r (inl e) = inl (ap Some (sym e))
among_front (Some q) rs r (inr among) = inr among

pub four_settled : (ops : List LinedOp) (i : ℕ) (op : MidOp) (four : FourReads) → op_in ops i ≡ Some op → registers_of four ≡ reads_of op
    → ((r : Reg) → (four.first ≡ Some r) ⊎ (four.second ≡ Some r) → IsSettled ops i r) → ((r : Reg) → (four.third ≡ Some r) ⊎ (four.fourth ≡ Some r) → IsSettled ops i r) → AreSettled ops i
four_settled ops i op four is reads front back other r at among =
    let same : other ≡ op = some_same other op (sym at ∙ is) in
    let in_four : Among r (registers_of four) = subst (λ rs. Among r rs) (sym reads) (subst (λ o. Among r (reads_of o)) same among) in
    first_of_four (among_front four.first (in_front four.second (in_front four.third (in_front four.fourth []))) r in_four)
  where
    fourth : (four.fourth ≡ Some r) ⊎ Among r [] → IsSettled ops i r
    fourth (inl e) = back r (inr e)
    fourth (inr none) = absurd none

    third : (four.third ≡ Some r) ⊎ Among r (in_front four.fourth []) → IsSettled ops i r
    third (inl e) = back r (inl e)
    third (inr more) = fourth (among_front four.fourth [] r more)

    second : (four.second ≡ Some r) ⊎ Among r (in_front four.third (in_front four.fourth [])) → IsSettled ops i r
    second (inl e) = front r (inr e)
    second (inr more) = third (among_front four.third (in_front four.fourth []) r more)

    first_of_four : (four.first ≡ Some r) ⊎ Among r (in_front four.second (in_front four.third (in_front four.fourth []))) → IsSettled ops i r
    first_of_four (inl e) = front r (inl e)
    first_of_four (inr more) = second (among_front four.second (in_front four.third (in_front four.fourth [])) r more)

pub settled_ok : (ops : List LinedOp) (i : ℕ) (op : MidOp) (four : FourReads) → op_in ops i ≡ Some op → registers_of four ≡ reads_of op
    → ((r : Reg) → (four.first ≡ Some r) ⊎ (four.second ≡ Some r) → IsSettled ops i r)
    → (result : Result Bool NoMemory) → IfOk result (λ b. b ≡ true → (r : Reg) → (four.third ≡ Some r) ⊎ (four.fourth ≡ Some r) → IsSettled ops i r) → IfOk result (λ b. b ≡ true → AreSettled ops i)
settled_ok ops i op four is reads front (Ok b) h = λ e. four_settled ops i op four is reads front (h e)
settled_ok ops i op four is reads front (Err e) h = tt

-- a register that is live at the beginning is read at the end of a path on which it isn't written
pub all_settled : (ops : List LinedOp) → ((i : ℕ) (op : MidOp) → op_in ops i ≡ Some op → AreSettled ops i) → AreWrittenFirst ops
all_settled ops settled r live =
    let p = live_path ops r 0 live begins in
    settled p.0 p.1 p.2 p.1 r p.2 p.3 p.4 live
