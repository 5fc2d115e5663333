use Rattle.std.proofs.Common.{◌≡◌, ℕ, zero, suc, ◌+◌, ◌<◌, ◌≤◌, List, [], ◌∷◌, length, Option, Some, None, option_and_then, arith, refl, subst}
use Rattle.mid_code.specs.declared.op.MidOp.{MidOp}
use Rattle.mid_code.specs.declared.op.MidOp.TheVariants.{Const, Copy, Both, Divide, Runtime, Skip, Back, Unless}
use Rattle.mid_code.specs.declared.op.LinedOp.{LinedOp}
use Rattle.mid_code.specs.Operations.{op_in}
use Rattle.mid_code.specs.Flow.{target_of}
use Rattle.mid_flow.specs.Structure.{Code, Broken, Nothing, Then, When, Loop, LeaveUnless, Round, End, Spot, spot, out_of, top_of}
use Rattle.mid_flow.specs.Flat.{flat, end_of}
use Rattle.mid_flow.specs.Laws.{IsStraight, IsWhole}
use Rattle.mid_flow.proofs.Lawful.{end_after}

-- an operation's target, if it has one, is below a number; and so are those of a list
abbrev pub IsBelow : ℕ → Option ℕ → Type 0
IsBelow n None = Unit {0}
IsBelow n (Some t) = t < n

abbrev pub TargetsBelow : ℕ → List LinedOp → Type 0
TargetsBelow n [] = Unit {0}
TargetsBelow n (o ∷ os) = IsBelow n (target_of o.op) × TargetsBelow n os

straight_below : (n : ℕ) (op : MidOp) → IsStraight op → IsBelow n (target_of op)
straight_below n (Const to value) straight = tt
straight_below n (Copy to from) straight = tt
straight_below n (Both op to left right) straight = tt
straight_below n (Divide op to left right) straight = tt
straight_below n (Runtime number a b c d to) straight = tt
straight_below n (Skip target) straight = absurd straight
straight_below n (Back target) straight = absurd straight
straight_below n (Unless test target) straight = absurd straight

pub flat_targets : (c : Code) (ss : List Spot) (k : ℕ) (more : List LinedOp) (n : ℕ) → IsWhole c → out_of ss < n → top_of ss < n → end_of c k < n → TargetsBelow n more → TargetsBelow n (flat c ss k more)
flat_targets Broken ss k more n whole out top end h = absurd whole
flat_targets Nothing ss k more n whole out top end h = absurd whole
flat_targets (Then op line rest) ss k more n whole out top end h = (straight_below n op whole.0, flat_targets rest ss (suc k) more n whole.1 out top end h)
flat_targets (When test line body rest) ss k more n whole out top end h =
    let last = end_of body (suc k) in
    let below : last < n = omega (arith, end_after rest last) in
    (below, flat_targets body (spot last 0 ∷ ss) (suc k) (flat rest ss last more) n whole.0 below (omega arith) below (flat_targets rest ss last more n whole.1 out top end h))
flat_targets (Loop body rest) ss k more n whole out top end h =
    let last = end_of body k in
    let below : last < n = omega (arith, end_after rest last) in
    flat_targets body (spot last k ∷ ss) k (flat rest ss last more) n whole.0 below (omega (arith, end_after body k)) below (flat_targets rest ss last more n whole.1 out top end h)
flat_targets (LeaveUnless test line rest) ss k more n whole out top end h = (out, flat_targets rest ss (suc k) more n whole out top end h)
flat_targets (Round line) ss k more n whole out top end h = (top, h)
flat_targets End ss k more n whole out top end h = h

-- how long flattened code is
pub flat_length : (c : Code) (ss : List Spot) (k : ℕ) (more : List LinedOp) → IsWhole c → k + length (flat c ss k more) ≡ end_of c k + length more
flat_length Broken ss k more whole = absurd whole
flat_length Nothing ss k more whole = absurd whole
flat_length (Then op line rest) ss k more whole = omega (arith, flat_length rest ss (suc k) more whole.1)
flat_length (When test line body rest) ss k more whole =
    let last = end_of body (suc k) in
    omega (arith, flat_length body (spot last 0 ∷ ss) (suc k) (flat rest ss last more) whole.0, flat_length rest ss last more whole.1)
flat_length (Loop body rest) ss k more whole =
    let last = end_of body k in
    omega (arith, flat_length body (spot last k ∷ ss) k (flat rest ss last more) whole.0, flat_length rest ss last more whole.1)
flat_length (LeaveUnless test line rest) ss k more whole = omega (arith, flat_length rest ss (suc k) more whole)
flat_length (Round line) ss k more whole = omega arith
flat_length End ss k more whole = refl

some_op : (a b : MidOp) → Some a ≡ Some b → (n : ℕ) → IsBelow n (target_of a) → IsBelow n (target_of b)
some_op a b e n h =
    let P : Option MidOp → Type 0 = λ o. IsBelow n (option_and_then target_of o) in
    subst P e h

pub target_below : (os : List LinedOp) (n i t : ℕ) (op : MidOp) → TargetsBelow n os → op_in os i ≡ Some op → target_of op ≡ Some t → t < n
target_below [] n i t op h is target = absurd (none_some op is)
  where
    none_some : (o : MidOp) → None ≡ Some o → ⊥
    none_some o e = cc
target_below (o ∷ os) n zero t op h is target =
    let P : Option ℕ → Type 0 = λ x. IsBelow n x in
    subst P target (some_op o.op op is n h.0)
target_below (o ∷ os) n (suc i) t op h is target = target_below os n i t op h.1 is target
