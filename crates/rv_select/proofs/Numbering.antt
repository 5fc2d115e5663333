use Rattle.std.proofs.Common.{◌≡◌, ◌≢◌, ℕ, zero, suc, ◌<◌, ◌≤◌, ◌⊎◌, inl, inr, List, [], ◌∷◌, Option, Some, None, ap, sym, ◌∙◌, arith}
use Rattle.mid_code.specs.declared.reg.Reg.{Reg}
use Rattle.mid_code.specs.declared.reg.Reg.TheVariants as regs
use Rattle.mid_code.specs.declared.op.MidOp.{MidOp}
use Rattle.mid_code.specs.declared.op.MidOp.TheVariants.{Const, Copy, Both, Divide, Runtime, Skip, Back, Unless}
use Rattle.mid_code.specs.declared.op.LinedOp.{LinedOp}
use Rattle.mid_code.specs.Operations.{MidCode, op_in}
use Rattle.mid_code.specs.Flow.{Among, in_front, reads_of, writes_of, Live, reads_now, reads_later}
use Rattle.rv_select.specs.declared.slots.Slots.{Slots}
use Rattle.rv_select.specs.Places.{IsPlace, Apart}
use Rattle.rv_select.specs.Slots.{slot_of, last_slot, place_of, FitFrame, no_slots, with_slot, with_slot_if, with_op, with_ops, slots_of}

-- Each register of a procedure has a slot of its own.

-- a register has a slot
abbrev pub Within : Slots → Reg → Type 0
Within n (regs.Temp i) = i < n.temps
Within n (regs.Place i) = i < n.places
Within n (regs.Var i) = i < n.vars

record AtMost (n m : Slots) : Type 0 where
  temps : n.temps ≤ m.temps
  places : n.places ≤ m.places
  vars : n.vars ≤ m.vars

at_most_self : (n : Slots) → AtMost n n
at_most_self n = record { temps = omega arith; places = omega arith; vars = omega arith }

at_most_on : (a b c : Slots) → AtMost a b → AtMost b c → AtMost a c
at_most_on a b c x y = record { temps = omega (arith, x.temps, y.temps); places = omega (arith, x.places, y.places); vars = omega (arith, x.vars, y.vars) }

within_more : (n m : Slots) (r : Reg) → AtMost n m → Within n r → Within m r
within_more n m (regs.Temp i) x w = omega (arith, x.temps)
within_more n m (regs.Place i) x w = omega (arith, x.places)
within_more n m (regs.Var i) x w = omega (arith, x.vars)

more_with : (n : Slots) (r : Reg) → AtMost n (with_slot n r)
more_with n (regs.Temp i) = record { temps = omega arith; places = omega arith; vars = omega arith }
more_with n (regs.Place i) = record { temps = omega arith; places = omega arith; vars = omega arith }
more_with n (regs.Var i) = record { temps = omega arith; places = omega arith; vars = omega arith }

within_with : (n : Slots) (r : Reg) → Within (with_slot n r) r
within_with n (regs.Temp i) = omega arith
within_with n (regs.Place i) = omega arith
within_with n (regs.Var i) = omega arith

more_if : (n : Slots) (r : Option Reg) → AtMost n (with_slot_if n r)
more_if n None = at_most_self n
more_if n (Some r) = more_with n r

-- what an operation reads or writes
abbrev pub Used : MidOp → Reg → Type 0
Used op r = Among r (reads_of op) ⊎ (writes_of op ≡ Some r)

two_on : (n : Slots) (a b : Reg) → AtMost n (with_slot (with_slot n a) b)
two_on n a b = at_most_on n (with_slot n a) (with_slot (with_slot n a) b) (more_with n a) (more_with (with_slot n a) b)

more_op : (n : Slots) (op : MidOp) → AtMost n (with_op n op)
more_op n (Const d v) = more_with n d
more_op n (Copy d a) = two_on n a d
more_op n (Both op d a b) = at_most_on n _ _ (two_on n a b) (more_with (with_slot (with_slot n a) b) d)
more_op n (Divide op d a b) = at_most_on n _ _ (two_on n a b) (more_with (with_slot (with_slot n a) b) d)
more_op n (Runtime k a b c d to) =
    let n1 : Slots = with_slot_if n a in
    let n2 : Slots = with_slot_if n1 b in
    let n3 : Slots = with_slot_if n2 c in
    let n4 : Slots = with_slot_if n3 d in
    at_most_on n n1 _ (more_if n a) (at_most_on n1 n2 _ (more_if n1 b) (at_most_on n2 n3 _ (more_if n2 c) (at_most_on n3 n4 _ (more_if n3 d) (more_if n4 to))))
more_op n (Skip j) = at_most_self n
more_op n (Back j) = at_most_self n
more_op n (Unless a j) = more_with n a

within_at : (n : Slots) (a r : Reg) → r ≡ a → Within (with_slot n a) r
within_at n a r e = rw e (within_with n a)

within_then : (n : Slots) (a r : Reg) → Within n r → Within (with_slot n a) r
within_then n a r w = within_more n (with_slot n a) r (more_with n a) w

within_if : (n : Slots) (a : Option Reg) (r : Reg) → a ≡ Some r → Within (with_slot_if n a) r
within_if n None r e = cc
within_if n (Some q) r e = within_at n q r (cc)

within_then_if : (n : Slots) (a : Option Reg) (r : Reg) → Within n r → Within (with_slot_if n a) r
within_then_if n a r w = within_more n (with_slot_if n a) r (more_if n a) w

-- which of the four arguments it is
pub data OfFour (r : Reg) (a b c d : Option Reg) : Type 0 where
  first : a ≡ Some r → OfFour r a b c d
  second : b ≡ Some r → OfFour r a b c d
  third : c ≡ Some r → OfFour r a b c d
  fourth : d ≡ Some r → OfFour r a b c d

of_front : (r : Reg) (a : Option Reg) (rs : List Reg) → Among r (in_front a rs) → (a ≡ Some r) ⊎ Among r rs
of_front r None rs w = inr w
of_front r (Some q) rs (inl e) = inl (ap Some (sym e))
of_front r (Some q) rs (inr w) = inr w

of_last : (r : Reg) (a b c d : Option Reg) → (d ≡ Some r) ⊎ Among r [] → OfFour r a b c d
of_last r a b c d (inl e) = fourth e
of_last r a b c d (inr w) = absurd w

of_third : (r : Reg) (a b c d : Option Reg) → (c ≡ Some r) ⊎ Among r (in_front d []) → OfFour r a b c d
of_third r a b c d (inl e) = third e
of_third r a b c d (inr w) = of_last r a b c d (of_front r d [] w)

of_second : (r : Reg) (a b c d : Option Reg) → (b ≡ Some r) ⊎ Among r (in_front c (in_front d [])) → OfFour r a b c d
of_second r a b c d (inl e) = second e
of_second r a b c d (inr w) = of_third r a b c d (of_front r c (in_front d []) w)

of_first : (r : Reg) (a b c d : Option Reg) → (a ≡ Some r) ⊎ Among r (in_front b (in_front c (in_front d []))) → OfFour r a b c d
of_first r a b c d (inl e) = first e
of_first r a b c d (inr w) = of_second r a b c d (of_front r b (in_front c (in_front d [])) w)

call_within : (n : Slots) (a b c d to : Option Reg) (r : Reg) → OfFour r a b c d → Within (with_slot_if (with_slot_if (with_slot_if (with_slot_if (with_slot_if n a) b) c) d) to) r
call_within n a b c d to r (first e) = within_then_if _ to r (within_then_if _ d r (within_then_if _ c r (within_then_if _ b r (within_if n a r e))))
call_within n a b c d to r (second e) = within_then_if _ to r (within_then_if _ d r (within_then_if _ c r (within_if (with_slot_if n a) b r e)))
call_within n a b c d to r (third e) = within_then_if _ to r (within_then_if _ d r (within_if (with_slot_if (with_slot_if n a) b) c r e))
call_within n a b c d to r (fourth e) = within_then_if _ to r (within_if (with_slot_if (with_slot_if (with_slot_if n a) b) c) d r e)

some_one : (d r : Reg) → ◌≡◌ {A = Option Reg} (Some d) (Some r) → r ≡ d
some_one d r e = cc

used_within : (n : Slots) (op : MidOp) (r : Reg) → Used op r → Within (with_op n op) r
used_within n (Const d v) r (inl w) = absurd w
used_within n (Const d v) r (inr e) = within_at n d r (some_one d r e)
used_within n (Copy d a) r (inl (inl e)) = within_then (with_slot n a) d r (within_at n a r e)
used_within n (Copy d a) r (inl (inr w)) = absurd w
used_within n (Copy d a) r (inr e) = within_at (with_slot n a) d r (some_one d r e)
used_within n (Both op d a b) r (inl (inl e)) = within_then _ d r (within_then _ b r (within_at n a r e))
used_within n (Both op d a b) r (inl (inr (inl e))) = within_then _ d r (within_at (with_slot n a) b r e)
used_within n (Both op d a b) r (inl (inr (inr w))) = absurd w
used_within n (Both op d a b) r (inr e) = within_at (with_slot (with_slot n a) b) d r (some_one d r e)
used_within n (Divide op d a b) r (inl (inl e)) = within_then _ d r (within_then _ b r (within_at n a r e))
used_within n (Divide op d a b) r (inl (inr (inl e))) = within_then _ d r (within_at (with_slot n a) b r e)
used_within n (Divide op d a b) r (inl (inr (inr w))) = absurd w
used_within n (Divide op d a b) r (inr e) = within_at (with_slot (with_slot n a) b) d r (some_one d r e)
used_within n (Runtime k a b c d to) r (inl w) = call_within n a b c d to r (of_first r a b c d (of_front r a (in_front b (in_front c (in_front d []))) w))
used_within n (Runtime k a b c d to) r (inr e) = within_if (with_slot_if (with_slot_if (with_slot_if (with_slot_if n a) b) c) d) to r e
used_within n (Skip j) r (inl w) = absurd w
used_within n (Skip j) r (inr e) = cc
used_within n (Back j) r (inl w) = absurd w
used_within n (Back j) r (inr e) = cc
used_within n (Unless a j) r (inl (inl e)) = within_at n a r e
used_within n (Unless a j) r (inl (inr w)) = absurd w
used_within n (Unless a j) r (inr e) = cc

more_ops : (n : Slots) (ops : List LinedOp) → AtMost n (with_ops n ops)
more_ops n [] = at_most_self n
more_ops n (o ∷ ops) = at_most_on n (with_op n o.op) _ (more_op n o.op) (more_ops (with_op n o.op) ops)

ops_within : (n : Slots) (ops : List LinedOp) (i : ℕ) (op : MidOp) (r : Reg) → op_in ops i ≡ Some op → Used op r → Within (with_ops n ops) r
ops_within n [] i op r is used = cc
ops_within n (o ∷ ops) zero op r is used =
    let same : op ≡ o.op = cc in
    within_more (with_op n o.op) (with_ops (with_op n o.op) ops) r (more_ops (with_op n o.op) ops) (used_within n o.op r (rw same at used))
ops_within n (o ∷ ops) (suc i) op r is used = ops_within (with_op n o.op) ops i op r is used

-- what a procedure uses has a slot
pub has_slot : (ops : List LinedOp) (i : ℕ) (op : MidOp) (r : Reg) → op_in ops i ≡ Some op → Used op r → Within (slots_of ops) r
has_slot ops i op r is used = ops_within no_slots ops i op r is used

-- and so has what is live somewhere in it
pub live_has_slot : (m : MidCode) (p : ℕ) (ops : List LinedOp) → ((i : ℕ) → m.op_at p i ≡ op_in ops i) → (i : ℕ) (r : Reg) → Live m p i r → Within (slots_of ops) r
live_has_slot m p ops same i r (reads_now _ _ op is among) = has_slot ops i op r (sym (same i) ∙ is) (inl among)
live_has_slot m p ops same i r (reads_later _ j _ op is goes other later) = live_has_slot m p ops same j r later

-- Two registers that have slots have different ones.
slots_apart : (n : Slots) (a b : Reg) → Within n a → Within n b → (a ≡ b → ⊥) → slot_of n a ≢ slot_of n b
slots_apart n (regs.Temp i) (regs.Temp j) wa wb other = λ e. other (ap regs.Temp e)
slots_apart n (regs.Temp i) (regs.Place j) wa wb other = omega arith
slots_apart n (regs.Temp i) (regs.Var j) wa wb other = omega arith
slots_apart n (regs.Place i) (regs.Temp j) wa wb other = omega arith
slots_apart n (regs.Place i) (regs.Place j) wa wb other = λ e. other (ap regs.Place (omega arith))
slots_apart n (regs.Place i) (regs.Var j) wa wb other = omega arith
slots_apart n (regs.Var i) (regs.Temp j) wa wb other = omega arith
slots_apart n (regs.Var i) (regs.Place j) wa wb other = omega arith
slots_apart n (regs.Var i) (regs.Var j) wa wb other = λ e. other (ap regs.Var (omega arith))

slot_small : (n : Slots) (a : Reg) → FitFrame n → Within n a → slot_of n a ≤ last_slot
slot_small n (regs.Temp i) fit w = omega arith
slot_small n (regs.Place i) fit w = omega arith
slot_small n (regs.Var i) fit w = omega arith

pub places_apart : (n : Slots) (a b : Reg) → FitFrame n → Within n a → Within n b → (a ≡ b → ⊥) → Apart (place_of n a) (place_of n b)
places_apart n a b fit wa wb other =
    let sa : slot_of n a ≤ last_slot = slot_small n a fit wa in
    let sb : slot_of n b ≤ last_slot = slot_small n b fit wb in
    let apart : slot_of n a ≢ slot_of n b = slots_apart n a b wa wb other in
    λ e. apart (omega arith)

pub is_place : (n : Slots) (r : Reg) → IsPlace (place_of n r)
is_place n r = omega arith
