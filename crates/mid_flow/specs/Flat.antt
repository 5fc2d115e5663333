-- Structured code as a flat list of operations with jumps.
use Rattle.std.specs.Prelude.{ℕ, suc, List, ◌∷◌}
use Rattle.mid_code.specs.declared.op.MidOp.{MidOp}
use Rattle.mid_code.specs.declared.op.MidOp.TheVariants.{Back, Unless}
use Rattle.mid_code.specs.declared.op.LinedOp.{LinedOp}
use Rattle.mid_flow.specs.Structure.{Code, Broken, Nothing, Then, When, Loop, LeaveUnless, Round, End, Spot, spot, out_of, top_of}

abbrev pub lined : MidOp → ℕ → LinedOp
lined op line = record { op = op; line = line }

-- where the code ends that begins at a position
abbrev pub end_of : Code → ℕ → ℕ
end_of Broken k = k
end_of Nothing k = k
end_of (Then op line rest) k = end_of rest (suc k)
end_of (When test line body rest) k = end_of rest (end_of body (suc k))
end_of (Loop body rest) k = end_of rest (end_of body k)
end_of (LeaveUnless test line rest) k = end_of rest (suc k)
end_of (Round line) k = suc k
end_of End k = k

-- The operations of code that begins at a position, in front of what follows it.
abbrev pub flat : Code → List Spot → ℕ → List LinedOp → List LinedOp
flat Broken ss k more = more
flat Nothing ss k more = more
flat (Then op line rest) ss k more = lined op line ∷ flat rest ss (suc k) more
flat (When test line body rest) ss k more = lined (Unless test (end_of body (suc k))) line ∷ flat body (spot (end_of body (suc k)) 0 ∷ ss) (suc k) (flat rest ss (end_of body (suc k)) more)
flat (Loop body rest) ss k more = flat body (spot (end_of body k) k ∷ ss) k (flat rest ss (end_of body k) more)
flat (LeaveUnless test line rest) ss k more = lined (Unless test (out_of ss)) line ∷ flat rest ss (suc k) more
flat (Round line) ss k more = lined (Back (top_of ss)) line ∷ more
flat End ss k more = more
