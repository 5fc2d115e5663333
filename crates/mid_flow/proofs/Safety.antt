use Rattle.std.proofs.Common.{◌≡◌, ℕ, suc, ◌⊎◌, inl, inr, Bool, true, false, if◌then◌else◌, List, [], ◌∷◌, Option, Some, None, refl, sym, ◌∙◌, ap, subst}
use Rattle.std.proofs.lemmas.Bool.{eqb-true}
use Rattle.mid_code.specs.declared.reg.Reg.{Reg}
use Rattle.mid_code.specs.declared.reg.Reg.TheVariants.{Temp, Var, Place}
use Rattle.mid_code.specs.declared.op.MidOp.{MidOp}
use Rattle.mid_code.specs.declared.op.MidOp.TheVariants.{Const, Copy, Both, Divide, Runtime, Skip, Back, Unless}
use Rattle.mid_code.specs.Registers.{is_same}
use Rattle.mid_code.specs.Operations.{MidCode}
use Rattle.mid_code.specs.Flow.{Among, reads_of, writes_of, nexts_of, Live, reads_now, reads_later}
use Rattle.mid_code.proofs.Marks.{some_same}
use Rattle.mid_flow.specs.Structure.{Code, Broken, Nothing, Then, When, Loop, LeaveUnless, Round, End, Open, After, Looping, Spot, spot, out_of, top_of}
use Rattle.mid_flow.specs.Laws.{IsStraight}
use Rattle.mid_flow.specs.Standing.{Here, Hops, at, hop, Lies, nothing_lies, then_lies, when_lies, loop_lies, leave_lies, round_lies, end_lies, BlocksLie, no_blocks, after_lies, looping_lies, Stands}
use Rattle.mid_flow.specs.Written.{Known, with_known, AreKnown, Begins, Inside, Nowhere, Block, Cycle, IsWritten}

abbrev pub Within : Known → Known → Type 0
Within known more = (r : Reg) → known r ≡ true → more r ≡ true

pub within_more : (to : Option Reg) (known : Known) → Within known (with_known to known)
within_more None known r is = is
within_more (Some to) known r is = rw is (by_test (is_same r to))
  where
    by_test : (test : Bool) → (if test then true else true) ≡ true
    by_test true = refl
    by_test false = refl

abbrev pub inside_of : List Open → Inside
inside_of [] = Nowhere
inside_of (After rest ∷ os) = Block
inside_of (Looping body rest ∷ os) = Cycle

-- what follows the open blocks reads what was known there, and that is known now
abbrev pub BlocksWritten : Known → List Open → Type 0
BlocksWritten known [] = Unit {0}
BlocksWritten known (After rest ∷ os) = (there : Known) × Within there known × IsWritten there (inside_of os) rest × BlocksWritten there os
BlocksWritten known (Looping body rest ∷ os) = (there : Known) × Within there known × (Begins body × IsWritten there Cycle body) × IsWritten there (inside_of os) rest × BlocksWritten there os

blocks_more : (known more : Known) (os : List Open) → Within known more → BlocksWritten known os → BlocksWritten more os
blocks_more known more [] w b = tt
blocks_more known more (After rest ∷ os) w b = (b.0, (λ r is. w r (b.1 r is)), b.2, b.3)
blocks_more known more (Looping body rest ∷ os) w b = (b.0, (λ r is. w r (b.1 r is)), b.2, b.3, b.4)

-- A thread that stands here reads no register that isn't known.
pub record Safe (m : MidCode) (p : ℕ) (known : Known) (k : ℕ) : Type 0 where
  pub code : Code
  pub open_blocks : List Open
  pub stands : Stands m p code open_blocks k
  pub written : IsWritten known (inside_of open_blocks) code
  pub blocks : BlocksWritten known open_blocks

-- the operation here reads what is known, and where it goes on it is so again
pub record Faces (m : MidCode) (p : ℕ) (known : Known) (k : ℕ) : Type 0 where
  pub op : MidOp
  pub is : m.op_at p k ≡ Some op
  pub reads : AreKnown known (reads_of op)
  pub nexts : (j : ℕ) → Among j (nexts_of k op) → (there : Known) × Within there (with_known (writes_of op) known) × Safe m p there j

-- what stands at a position, if anything does
abbrev pub Finds : MidCode → ℕ → Known → ℕ → Type 0
Finds m p known k = (m.op_at p k ≡ None) ⊎ Faces m p known k

same_known : (known : Known) → Within known known
same_known known r is = is

-- a jump ahead, in front of the same
over_jump : (m : MidCode) (p : ℕ) (known : Known) (k j line : ℕ) → Here (m.op_at p) (m.line_of p) k (Skip j) line → Safe m p known j → Finds m p known k
over_jump m p known k j line here safe =
    inr (record { op = Skip j; is = here.op_is; reads = tt; nexts = goes })
  where
    goes : (i : ℕ) → Among i (j ∷ []) → (there : Known) × Within there known × Safe m p there i
    goes i (inl e) = (known, same_known known, subst (λ n. Safe m p known n) (sym e) safe)
    goes i (inr none) = absurd none

straight_next : (k j : ℕ) (op : MidOp) → IsStraight op → Among j (nexts_of k op) → j ≡ suc k
straight_next k j (Const to value) straight (inl e) = e
straight_next k j (Const to value) straight (inr none) = absurd none
straight_next k j (Copy to from) straight (inl e) = e
straight_next k j (Copy to from) straight (inr none) = absurd none
straight_next k j (Both op to left right) straight (inl e) = e
straight_next k j (Both op to left right) straight (inr none) = absurd none
straight_next k j (Divide op to left right) straight (inl e) = e
straight_next k j (Divide op to left right) straight (inr none) = absurd none
straight_next k j (Runtime number a b c d to) straight (inl e) = e
straight_next k j (Runtime number a b c d to) straight (inr none) = absurd none
straight_next k j (Skip target) straight among = absurd straight
straight_next k j (Back target) straight among = absurd straight
straight_next k j (Unless test target) straight among = absurd straight

-- an operation that goes on to the next
then_faces : (m : MidCode) (p : ℕ) (known : Known) (k : ℕ) (ss : List Spot) (os : List Open) (op : MidOp) (line : ℕ) (rest : Code) → Lies (m.op_at p) (m.line_of p) ss (Then op line rest) k → BlocksLie (m.op_at p) (m.line_of p) os ss → IsWritten known (inside_of os) (Then op line rest) → BlocksWritten known os → Finds m p known k
then_faces m p known _ ss os op line rest (then_lies _ _ _ _ _ k0 (hop k j _ l here more) there lies) blocks w b =
    over_jump m p known k j l here (record { code = Then op line rest; open_blocks = os; stands = record { spots = ss; lies = then_lies ss op line rest j k0 more there lies; blocks = blocks }; written = w; blocks = b })
then_faces m p known _ ss os op line rest (then_lies _ _ _ _ _ _ (at k) there lies) blocks w b =
    let more = with_known (writes_of op) known in
    let safe : Safe m p more (suc k) = record { code = rest; open_blocks = os; stands = record { spots = ss; lies = lies; blocks = blocks }; written = w.2; blocks = blocks_more known more os (within_more (writes_of op) known) b } in
    inr (record { op = op; is = there.op_is; reads = w.1; nexts = λ j among. (more, same_known more, subst (λ n. Safe m p more n) (sym (straight_next k j op w.0 among)) safe) })

-- the two ways at a test
tests_face : (m : MidCode) (p : ℕ) (known there : Known) (k target line : ℕ) (test : Reg) → Here (m.op_at p) (m.line_of p) k (Unless test target) line → known test ≡ true → Within there known → Safe m p there target → Safe m p known (suc k) → Finds m p known k
tests_face m p known there k target line test here is w out inner =
    inr (record { op = Unless test target; is = here.op_is; reads = (is, tt); nexts = goes })
  where
    goes : (i : ℕ) → Among i (target ∷ suc k ∷ []) → (known2 : Known) × Within known2 known × Safe m p known2 i
    goes i (inl e) = (there, w, subst (λ n. Safe m p there n) (sym e) out)
    goes i (inr (inl e)) = (known, same_known known, subst (λ n. Safe m p known n) (sym e) inner)
    goes i (inr (inr none)) = absurd none

back_faces : (m : MidCode) (p : ℕ) (known there : Known) (k target line : ℕ) → Here (m.op_at p) (m.line_of p) k (Back target) line → Within there known → Safe m p there target → Finds m p known k
back_faces m p known there k target line here w safe =
    inr (record { op = Back target; is = here.op_is; reads = tt; nexts = goes })
  where
    goes : (i : ℕ) → Among i (target ∷ []) → (known2 : Known) × Within known2 known × Safe m p known2 i
    goes i (inl e) = (there, w, subst (λ n. Safe m p there n) (sym e) safe)
    goes i (inr none) = absurd none

-- what is found where fewer registers are known
known_more : (known more : Known) (rs : List Reg) → Within known more → AreKnown known rs → AreKnown more rs
known_more known more [] w h = tt
known_more known more (r ∷ rs) w h = (w r h.0, known_more known more rs w h.1)

with_more : (to : Option Reg) (known more : Known) → Within known more → Within (with_known to known) (with_known to more)
with_more None known more w r is = w r is
with_more (Some to) known more w r is = by_test (is_same r to) is
  where
    by_test : (test : Bool) → (if test then true else known r) ≡ true → (if test then true else more r) ≡ true
    by_test true e = refl
    by_test false e = w r e

finds_more : (m : MidCode) (p : ℕ) (known more : Known) (k : ℕ) → Within known more → Finds m p known k → Finds m p more k
finds_more m p known more k w (inl none) = inl none
finds_more m p known more k w (inr f) =
    inr (record { op = f.op; is = f.is; reads = known_more known more (reads_of f.op) w f.reads; nexts = λ j among. let n = f.nexts j among in (n.0, (λ r is. with_more (writes_of f.op) known more w r (n.1 r is)), n.2) })

-- the end of a block: what is found there is found here, or a jump comes first
end_faces : (m : MidCode) (p : ℕ) (known : Known) (k out : ℕ) → Hops (m.op_at p) (m.line_of p) k out → ((j : ℕ) → Hops (m.op_at p) (m.line_of p) j out → Safe m p known j) → Finds m p known out → Finds m p known k
end_faces m p known _ _ (at k) safe found = found
end_faces m p known _ out (hop k j _ line here more) safe found = over_jump m p known k j line here (safe j more)

-- Wherever a thread stands, an operation is found that reads what is known, or none.
faces : (m : MidCode) (p : ℕ) (os : List Open) (ss : List Spot) → BlocksLie (m.op_at p) (m.line_of p) os ss → (known : Known) (c : Code) (k : ℕ) → Lies (m.op_at p) (m.line_of p) ss c k → IsWritten known (inside_of os) c → BlocksWritten known os → Finds m p known k
faces m p os ss blocks known Broken k lies w b = elim lies [ ]
faces m p os ss blocks known Nothing k (nothing_lies _ _ none) w b = inl none
faces m p os ss blocks known (Then op line rest) k lies w b = then_faces m p known k ss os op line rest lies blocks w b
faces m p os ss blocks known (When test line body rest) k (when_lies _ _ _ _ _ _ k0 last top (hop _ j _ l here more) there inner after) w b =
    over_jump m p known k j l here (record { code = When test line body rest; open_blocks = os; stands = record { spots = ss; lies = when_lies ss test line body rest j k0 last top more there inner after; blocks = blocks }; written = w; blocks = b })
faces m p os ss blocks known (When test line body rest) k (when_lies _ _ _ _ _ _ _ last top (at _) there inner after) w b =
    tests_face m p known known k last line test there w.0 (same_known known)
    (record { code = rest; open_blocks = os; stands = record { spots = ss; lies = after; blocks = blocks }; written = w.2; blocks = b })
    (record { code = body; open_blocks = After rest ∷ os; stands = record { spots = spot last top ∷ ss; lies = inner; blocks = after_lies rest os (spot last top) ss after blocks }; written = w.1; blocks = (known, same_known known, w.2, b) })
faces m p os ss blocks known (Loop (Then op line body) rest) k (loop_lies _ _ _ _ k0 last (hop _ j _ l here more) inner after) w b =
    over_jump m p known k j l here (record { code = Loop (Then op line body) rest; open_blocks = os; stands = record { spots = ss; lies = loop_lies ss (Then op line body) rest j k0 last more inner after; blocks = blocks }; written = w; blocks = b })
faces m p os ss blocks known (Loop (Then op line body) rest) k (loop_lies _ _ _ _ _ last (at _) inner after) w b =
    then_faces m p known k (spot last k ∷ ss) (Looping (Then op line body) rest ∷ os) op line body inner (looping_lies (Then op line body) rest os (spot last k) ss after inner blocks) w.1 (known, same_known known, (w.0, w.1), w.2, b)
faces m p os ss blocks known (Loop body rest) k lies w b = absurd w.0
faces m p os ss blocks known (LeaveUnless test line rest) k (leave_lies _ _ _ _ _ k0 (hop _ j _ l here more) there inner) w b =
    over_jump m p known k j l here (record { code = LeaveUnless test line rest; open_blocks = os; stands = record { spots = ss; lies = leave_lies ss test line rest j k0 more there inner; blocks = blocks }; written = w; blocks = b })
faces m p _ _ (no_blocks ss) known (LeaveUnless test line rest) k (leave_lies _ _ _ _ _ _ (at _) there inner) w b = absurd w.0
faces m p _ _ (after_lies outer os s ss after blocks) known (LeaveUnless test line rest) k (leave_lies _ _ _ _ _ _ (at _) there inner) w b =
    tests_face m p known b.0 k s.out line test there w.1 b.1
    (record { code = outer; open_blocks = os; stands = record { spots = ss; lies = after; blocks = blocks }; written = b.2; blocks = b.3 })
    (record { code = rest; open_blocks = After outer ∷ os; stands = record { spots = s ∷ ss; lies = inner; blocks = after_lies outer os s ss after blocks }; written = w.2; blocks = b })
faces m p _ _ (looping_lies body outer os s ss after again blocks) known (LeaveUnless test line rest) k (leave_lies _ _ _ _ _ _ (at _) there inner) w b =
    tests_face m p known b.0 k s.out line test there w.1 b.1
    (record { code = outer; open_blocks = os; stands = record { spots = ss; lies = after; blocks = blocks }; written = b.3; blocks = b.4 })
    (record { code = rest; open_blocks = Looping body outer ∷ os; stands = record { spots = s ∷ ss; lies = inner; blocks = looping_lies body outer os s ss after again blocks }; written = w.2; blocks = b })
faces m p os ss blocks known (Round line) k (round_lies _ _ _ k0 (hop _ j _ l here more) there) w b =
    over_jump m p known k j l here (record { code = Round line; open_blocks = os; stands = record { spots = ss; lies = round_lies ss line j k0 more there; blocks = blocks }; written = w; blocks = b })
faces m p _ _ (no_blocks ss) known (Round line) k (round_lies _ _ _ _ (at _) there) w b = absurd w
faces m p _ _ (after_lies outer os s ss after blocks) known (Round line) k (round_lies _ _ _ _ (at _) there) w b = absurd w
faces m p _ _ (looping_lies body outer os s ss after again blocks) known (Round line) k (round_lies _ _ _ _ (at _) there) w b =
    back_faces m p known b.0 k s.top line there b.1
    (record { code = body; open_blocks = Looping body outer ∷ os; stands = record { spots = s ∷ ss; lies = again; blocks = looping_lies body outer os s ss after again blocks }; written = b.2.1; blocks = (b.0, same_known b.0, b.2, b.3, b.4) })
faces m p _ _ (no_blocks ss) known End k lies w b = absurd w
faces m p _ _ (after_lies outer os s ss after blocks) known End k (end_lies _ _ hops) w b =
    end_faces m p known k s.out hops
    (λ j more. record { code = End; open_blocks = After outer ∷ os; stands = record { spots = s ∷ ss; lies = end_lies (s ∷ ss) j more; blocks = after_lies outer os s ss after blocks }; written = w; blocks = b })
    (finds_more m p b.0 known s.out b.1 (faces m p os ss blocks b.0 outer s.out after b.2 b.3))
faces m p _ _ (looping_lies body outer os s ss after again blocks) known End k (end_lies _ _ hops) w b =
    end_faces m p known k s.out hops
    (λ j more. record { code = End; open_blocks = Looping body outer ∷ os; stands = record { spots = s ∷ ss; lies = end_lies (s ∷ ss) j more; blocks = looping_lies body outer os s ss after again blocks }; written = w; blocks = b })
    (finds_more m p b.0 known s.out b.1 (faces m p os ss blocks b.0 outer s.out after b.3 b.4))

among_known : (known : Known) (r : Reg) (rs : List Reg) → AreKnown known rs → Among r rs → known r ≡ true
among_known known r [] h none = absurd none
among_known known r (q ∷ rs) h (inl e) = rw e h.0
among_known known r (q ∷ rs) h (inr more) = among_known known r rs h.1 more

same_reg : (a b : Reg) → is_same a b ≡ true → a ≡ b
same_reg (Temp i) (Temp j) e = ap Temp (eqb-true i j e)
same_reg (Var i) (Var j) e = ap Var (eqb-true i j e)
same_reg (Place i) (Place j) e = ap Place (eqb-true i j e)
same_reg (Temp i) (Var j) e = cc
same_reg (Temp i) (Place j) e = cc
same_reg (Var i) (Temp j) e = cc
same_reg (Var i) (Place j) e = cc
same_reg (Place i) (Temp j) e = cc
same_reg (Place i) (Var j) e = cc

-- what is known behind an operation that doesn't write it was known before
not_written : (to : Option Reg) (known : Known) (r : Reg) → (to ≡ Some r → ⊥) → with_known to known r ≡ true → known r ≡ true
not_written None known r other is = is
not_written (Some to) known r other is = by_test (is_same r to) refl is
  where
    by_test : (test : Bool) → is_same r to ≡ test → (if test then true else known r) ≡ true → known r ≡ true
    by_test true e h = absurd (other (ap Some (sym (same_reg r to e))))
    by_test false e h = h

-- Where a thread is safe each live register is known.
pub live_known : (m : MidCode) (p i : ℕ) (r : Reg) → Live m p i r → (known : Known) → Safe m p known i → known r ≡ true
live_known m p i r (reads_now _ _ op is among) known safe = by_found (faces m p safe.open_blocks safe.stands.spots safe.stands.blocks known safe.code i safe.stands.lies safe.written safe.blocks)
  where
    by_found : Finds m p known i → known r ≡ true
    by_found (inl none) = let e : None ≡ Some op = sym none ∙ is in cc
    by_found (inr f) =
        let e : f.op ≡ op = some_same f.op op (sym f.is ∙ is) in
        among_known known r (reads_of op) (rw e at f.reads) among
live_known m p i r (reads_later _ j _ op is among other later) known safe = by_found (faces m p safe.open_blocks safe.stands.spots safe.stands.blocks known safe.code i safe.stands.lies safe.written safe.blocks) (λ there s. live_known m p j r later there s)
  where
    by_found : Finds m p known i → ((there : Known) → Safe m p there j → there r ≡ true) → known r ≡ true
    by_found (inl none) rest = let e : None ≡ Some op = sym none ∙ is in cc
    by_found (inr f) rest =
        let e : f.op ≡ op = some_same f.op op (sym f.is ∙ is) in
        let n = f.nexts j (rw e among) in
        not_written (writes_of f.op) known r (λ h. other (subst (λ o. writes_of o ≡ Some r) e h)) (n.1 r (rest n.0 n.2))
