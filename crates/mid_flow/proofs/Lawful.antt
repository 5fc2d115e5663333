use Rattle.std.proofs.Common.{◌≡◌, ℕ, suc, ◌<◌, ◌≤◌, List, ◌∷◌, arith, refl}
use Rattle.mid_code.specs.declared.op.MidOp.{MidOp}
use Rattle.mid_code.specs.declared.op.MidOp.TheVariants.{Const, Copy, Both, Divide, Runtime, Skip, Back, Unless}
use Rattle.mid_code.specs.declared.op.LinedOp.{LinedOp}
use Rattle.mid_code.specs.Flow.{IsLawful, AreLawful}
use Rattle.mid_flow.specs.Structure.{Code, Broken, Nothing, Then, When, Loop, LeaveUnless, Round, End, Spot, spot, out_of, top_of}
use Rattle.mid_flow.specs.Flat.{flat, end_of}
use Rattle.mid_flow.specs.Laws.{IsStraight, IsWhole, FlatIsLawful}

-- code ends where it begins, or behind
pub end_after : (c : Code) (k : ℕ) → k ≤ end_of c k
end_after Broken k = omega arith
end_after Nothing k = omega arith
end_after (Then op line rest) k = omega (arith, end_after rest (suc k))
end_after (When test line body rest) k = omega (arith, end_after body (suc k), end_after rest (end_of body (suc k)))
end_after (Loop body rest) k = omega (arith, end_after body k, end_after rest (end_of body k))
end_after (LeaveUnless test line rest) k = omega (arith, end_after rest (suc k))
end_after (Round line) k = omega arith
end_after End k = omega arith

straight_lawful : (i : ℕ) (op : MidOp) → IsStraight op → IsLawful i op
straight_lawful i (Const to value) straight = tt
straight_lawful i (Copy to from) straight = tt
straight_lawful i (Both op to left right) straight = tt
straight_lawful i (Divide op to left right) straight = tt
straight_lawful i (Runtime number a b c d to) straight = straight
straight_lawful i (Skip target) straight = absurd straight
straight_lawful i (Back target) straight = absurd straight
straight_lawful i (Unless test target) straight = absurd straight

pub flat_lawful : FlatIsLawful
flat_lawful Broken ss k more whole out top h = absurd whole
flat_lawful Nothing ss k more whole out top h = absurd whole
flat_lawful (Then op line rest) ss k more whole out top h = (straight_lawful k op whole.0, flat_lawful rest ss (suc k) more whole.1 out (omega arith) h)
flat_lawful (When test line body rest) ss k more whole out top h =
    let last = end_of body (suc k) in
    let r = flat_lawful rest ss last more whole.1 out (omega (arith, end_after body (suc k))) h in
    (omega (arith, end_after body (suc k)), flat_lawful body (spot last 0 ∷ ss) (suc k) (flat rest ss last more) whole.0 refl (omega arith) r)
flat_lawful (Loop body rest) ss k more whole out top h =
    let last = end_of body k in
    let r = flat_lawful rest ss last more whole.1 out (omega (arith, end_after body k)) h in
    flat_lawful body (spot last k ∷ ss) k (flat rest ss last more) whole.0 refl (omega arith) r
flat_lawful (LeaveUnless test line rest) ss k more whole out top h =
    (omega (arith, out, end_after rest (suc k)), flat_lawful rest ss (suc k) more whole out (omega arith) h)
flat_lawful (Round line) ss k more whole out top h = (top, h)
flat_lawful End ss k more whole out top h = h
